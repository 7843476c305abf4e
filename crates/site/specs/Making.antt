-- Making a site: over a store and a log that nothing has happened to.
use Rattle.std.specs.Prelude.{ℕ, Bool, cond, ◌&&◌, length, replicate, None, Ok, Err, Result, ◌==◌, nat_lt}
use Rattle.words.specs.Bits.{is_group, every}
use Rattle.store.specs.StoreModel.{StoreModel}
use Rattle.logs.specs.LogModel.{LogModel, last_version}
use Rattle.site.specs.declared.modes.Mode.TheVariants.{Whole}
use Rattle.site.specs.declared.site.making.NotMade.{NotMade}
use Rattle.site.specs.declared.site.Site.{Site}
use Rattle.site.specs.Modes.{refusal_number}
use Rattle.site.specs.Slots.{empty}
use Rattle.site.specs.SiteModel.{SiteModel, a_site, site_model}

-- Fresh: empty, with all numbers 0, and a log that is marked whole.
abbrev pub is_zero : ℕ → Bool
is_zero n = n == 0

abbrev pub is_fresh_store : StoreModel → Bool
is_fresh_store s = is_zero s.version && (is_zero (length s.sealed) && is_zero (length s.staged))

abbrev pub is_fresh_log : LogModel → Bool
is_fresh_log l = is_zero (last_version l) && (is_zero l.place && (is_zero l.tickets && (l.whole && every is_zero l.known)))

-- Whether a site of number i can be made over them.
abbrev pub can_make : ℕ → StoreModel → LogModel → Bool
can_make i s l = is_group (length l.known) && (nat_lt i (length l.known) && (is_fresh_store s && is_fresh_log l))

-- A site as it is made.
abbrev pub new_site : ℕ → StoreModel → LogModel → SiteModel
new_site i s l = a_site i (length l.known) s l Whole (replicate 8 empty) None

-- A site that was made, or the refusal with the store and the log handed back.
pub data Making (S L : Type 0) : Type 0 where
  made : SiteModel → Making S L
  handed_back : ℕ → S → L → Making S L

abbrev pub making : {S L : Type 0} → (S → StoreModel) → (L → LogModel) → Result (Site S L) (NotMade S L) → Making S L
making store_of log_of (Ok s) = made (site_model store_of log_of s)
making store_of log_of (Err e) = handed_back (refusal_number e.refusal) e.store e.log

abbrev pub made_of : {S L : Type 0} → (S → StoreModel) → (L → LogModel) → ℕ → S → L → Making S L
made_of store_of log_of i s l = cond (can_make i (store_of s) (log_of l)) (made (new_site i (store_of s) (log_of l))) (handed_back 20 s l)
