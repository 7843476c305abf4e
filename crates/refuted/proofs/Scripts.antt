-- Short plays at two fresh sites: their words, and what the law says of them.
use Rattle.std.proofs.Common.{◌≡◌, ℕ, true, List, [], ◌∷◌, ℤ, pos, Some, Option, refl, subst}
use Rattle.words.specs.declared.changes.Change.TheVariants.{Set}
use Rattle.words.specs.declared.changes.Write.{Write}
use Rattle.words.specs.Writes.{a_write}
use Rattle.words.specs.Messages.{an_edit, a_report, message_words}
use Rattle.account.specs.Account.{Committed}
use Rattle.account.specs.Scenes.{scene}
use Rattle.site.specs.declared.handles.Handle.{Handle}
use Rattle.site.specs.Handles.{a_handle}
use Rattle.site.specs.Calls.{own_or}
use Rattle.group.specs.Record.{Turn, snapshot, last_write}
use Rattle.group.specs.Law.{RecordRight, LogsRight, ReadsRight}
use Rattle.group.specs.Runs.{Acting, Law}
use Rattle.refuted.specs.Plays.{Kit, a_kit, Move, opening, played, all_supposed}
use Rattle.refuted.proofs.Playing.{play_runs}

-- One site's log has a cost for each entry alone, the other's for each write too.
abbrev pub two_kits : List Kit
two_kits = a_kit 8 8 1 0 ∷ (a_kit 8 40 3 2 ∷ [])

-- A write of a value to an item; the words of an edit of one write, by site, ticket, snapshot, item and value; of a report.
abbrev pub one_write : ℕ → ℕ → List Write
one_write x z = a_write x (Set (pos z)) ∷ []

abbrev pub edit_words : ℕ → ℕ → ℕ → ℕ → ℕ → List ℕ
edit_words i t s x z = message_words (an_edit i t s (one_write x z))

abbrev pub report_words : ℕ → ℕ → List ℕ
report_words i v = message_words (a_report i v)

-- The first draft of site 0.
abbrev pub first_draft : Handle
first_draft = a_handle 0 0 1

-- What the law says of a play.
pub by_law : {act : Acting} → Law act → (ms : List (List ℕ)) (xs : List Move) → all_supposed ms (played act (opening two_kits) xs).turns ≡ true →
    RecordRight 2 ms (played act (opening two_kits) xs).turns × LogsRight 2 ms (played act (opening two_kits) xs).sites
by_law {act} law ms xs e = law 2 ms _ _ (play_runs act ms two_kits xs refl e)

-- A read by the snapshot's number.
pub read_right : (cs : List Committed) (h : Handle) (x : ℕ) (o : Option ℤ) (ts : List Turn) (v : ℕ) → ReadsRight cs h x o ts → snapshot h ts ≡ Some v →
    o ≡ own_or (last_write h x ts) (scene cs v x)
read_right cs h x o ts v r e =
    let same : r.version ≡ v = cc r.begun in
    subst (λ (w : ℕ). o ≡ own_or (last_write h x ts) (scene cs w x)) same r.value
