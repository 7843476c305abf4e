-- Pages taken into a log, and what a site makes of it.
use Rattle.std.proofs.Common.{◌≡◌, ℕ, ◌<◌, ◌≤◌, Bool, true, false, cond, not, ◌&&◌, leb, List, [], ◌∷◌, length, is_some, IsErrAnd, Some, None, Ok, Err, Option, Result, sym, refl, ap, ◌∙◌, arith}
use Rattle.std.specs.List.{list_all, zip}
use Rattle.std.specs.Option.{ok_or}
use Rattle.words.specs.Pages.{PageValue, an_entry, a_closing, page_of}
use Rattle.logs.specs.LogModel.{LogModel, Entry, a_log, appended, held, mark_cleared, marks, can_copy, copied}
use Rattle.site.specs.declared.modes.Mode.{Mode}
use Rattle.site.specs.declared.modes.Mode.TheVariants.{Whole, Partial, Down}
use Rattle.site.specs.declared.refusals.Refusal.{Refusal}
use Rattle.site.specs.Modes.{Reply, given, refused, reply, refusal_number, admitted}
use Rattle.site.specs.CatchUp.{covers, follows, has_room_for, log_taken, page_entered, taking, fails}
use Rattle.site.specs.Slots.{all_empty}
use Rattle.site.specs.SiteModel.{SiteModel, with_log}
use Rattle.site.specs.Calls.{Answer, Declined, Take, is_down, told, by_table, called}

-- the numbers beside each other as pairs
abbrev pub pair_covered : ℕ × ℕ → Bool
pair_covered p = leb p.0 p.1

pub covers_pairs : (old new : List ℕ) → length old ≤ length new → list_all pair_covered (zip old new) ≡ covers old new
covers_pairs [] new h = refl
covers_pairs (k ∷ ks) [] h = absurd (omega arith)
covers_pairs (k ∷ ks) (j ∷ js) h = ap (λ b. leb k j && b) (covers_pairs ks js (omega arith))

pub covers_short : (old new : List ℕ) → length new < length old → covers old new ≡ false
covers_short [] new h = absurd (omega arith)
covers_short (k ∷ ks) [] h = refl
covers_short (k ∷ ks) (j ∷ js) h = ap (λ b. leb k j && b) (covers_short ks js (omega arith)) ∙ and_false (leb k j)
  where
    and_false : (b : Bool) → (b && false) ≡ false
    and_false true = refl
    and_false false = refl

-- a page into a log, by whether it follows and by whether there is room
abbrev Entered : Type 0
Entered = Reply (Unit {0}) × LogModel

module _ (l : LogModel) (p : PageValue) where
  abbrev by_tests : Bool → Bool → Entered
  by_tests f r = cond f (cond r (given tt, log_taken l p) (refused 13, l)) (refused 17, l)

  pub not_following : follows l p ≡ false → ◌≡◌ {A = Entered} (refused 17, l) (page_entered l p)
  not_following f = ap (λ b. by_tests b (has_room_for l p)) (sym f)

  pub without_room : follows l p ≡ true → has_room_for l p ≡ false → ◌≡◌ {A = Entered} (refused 13, l) (page_entered l p)
  without_room f r = ap (λ b. by_tests true b) (sym r) ∙ ap (λ b. by_tests b (has_room_for l p)) (sym f)

  pub following : follows l p ≡ true → has_room_for l p ≡ true → ◌≡◌ {A = Entered} (given tt, log_taken l p) (page_entered l p)
  following f r = ap (λ b. by_tests true b) (sym r) ∙ ap (λ b. by_tests b (has_room_for l p)) (sym f)

-- an entry that the log declines leaves it as it was
pub not_copied : (l : LogModel) (e : Entry) → can_copy l e ≡ false → copied l e ≡ l
not_copied l e h = ap (λ b. cond b (a_log (appended (held l) e) (mark_cleared (marks l))) l) h

-- only a site that is down declines by its mode, with 1
only_down : (k : Mode) (o : Option PageValue) (n : ℕ) → refused n ≡ admitted k (taking o) → (is_down k ≡ true) × (n ≡ 1)
only_down Whole None n h = absurd (let z : ◌≡◌ {A = ℕ} 0 1 = cc in omega arith)
only_down Whole (Some (an_entry x v t ws)) n h = absurd (let z : ◌≡◌ {A = ℕ} 0 1 = cc in omega arith)
only_down Whole (Some (a_closing v d ks)) n h = absurd (let z : ◌≡◌ {A = ℕ} 0 1 = cc in omega arith)
only_down Partial None n h = absurd (let z : ◌≡◌ {A = ℕ} 0 1 = cc in omega arith)
only_down Partial (Some (an_entry x v t ws)) n h = absurd (let z : ◌≡◌ {A = ℕ} 0 1 = cc in omega arith)
only_down Partial (Some (a_closing v d ks)) n h = absurd (let z : ◌≡◌ {A = ℕ} 0 1 = cc in omega arith)
only_down Down None n h = (refl, (cc))
only_down Down (Some (an_entry x v t ws)) n h = (refl, (cc))
only_down Down (Some (a_closing v d ks)) n h = (refl, (cc))

not_down : (k j : Mode) (o : Option PageValue) → given j ≡ admitted k (taking o) → is_down k ≡ false
not_down Whole j o h = refl
not_down Partial j o h = refl
not_down Down j None h = absurd (let z : ◌≡◌ {A = ℕ} 0 1 = cc in omega arith)
not_down Down j (Some (an_entry x v t ws)) h = absurd (let z : ◌≡◌ {A = ℕ} 0 1 = cc in omega arith)
not_down Down j (Some (a_closing v d ks)) h = absurd (let z : ◌≡◌ {A = ℕ} 0 1 = cc in omega arith)

-- what is there where its lack would be an error
pub some_from_ok : {A : Type 0} (o : Option A) (e : Refusal) (x : A) → ok_or o e ≡ Ok x → o ≡ Some x
some_from_ok None e x h = absurd (let z : ◌≡◌ {A = ℕ} 0 1 = cc in omega arith)
some_from_ok (Some y) e x h = let q : y ≡ x = cc in ap (λ z. Some z) q

-- an error that is handed on
pub handed_on : {A : Type 0} (f : A → Answer) (r : Result A Refusal) (e : Refusal) → IsErrAnd r (λ x. x ≡ e) → told f r ≡ Declined (refusal_number e)
handed_on f (Ok a) e h = absurd h
handed_on f (Err x) e h = ap (λ y. Declined (refusal_number y)) h

pub refused_as : {A B : Type 0} (f : A → B) (r : Result A Refusal) (e : Refusal) → IsErrAnd r (λ x. x ≡ e) → reply f r ≡ refused (refusal_number e)
refused_as f (Ok a) e h = absurd h
refused_as f (Err x) e h = ap (λ y. refused (refusal_number y)) h

module _ (m : SiteModel) (ws : List ℕ) where
  abbrev by_lines : Bool → Bool → Bool → Option PageValue → Answer × SiteModel
  by_lines down held nothing o =
      by_table (cond down (Some 1) (cond held (Some 15) (cond nothing (Some 16) (cond (fails (follows m.log) o) (Some 17)
      (cond (fails (has_room_for m.log) o) (Some 13) None))))) m (Take ws)

  pub take_down : (n : ℕ) (o : Option PageValue) → refused n ≡ admitted m.mode (taking o) → (Declined n, m) ≡ called m (Take ws)
  take_down n o h =
      let d = only_down m.mode o n h in
      ap (λ k. (Declined k, m)) d.1
      ∙ ap (λ b. by_lines b (not (all_empty m.slots)) (not (is_some (page_of m.sites ws))) (page_of m.sites ws)) (sym d.0)

  module _ (p : PageValue) (j : Mode) (there : page_of m.sites ws ≡ Some p) (up : given j ≡ admitted m.mode (taking (Some p))) (clear : all_empty m.slots ≡ true) where
    page_lines : by_lines false false false (Some p) ≡ called m (Take ws)
    page_lines =
        ap (λ o. by_lines false false (not (is_some o)) o) (sym there)
        ∙ ap (λ b. by_lines false (not b) (not (is_some (page_of m.sites ws))) (page_of m.sites ws)) (sym clear)
        ∙ ap (λ b. by_lines b (not (all_empty m.slots)) (not (is_some (page_of m.sites ws))) (page_of m.sites ws)) (sym (not_down m.mode j (Some p) up))

    declined_by : (f r : Bool) (n : ℕ) (l : LogModel) → ◌≡◌ {A = Entered} (refused n, l) (cond f (cond r (given tt, log_taken m.log p) (refused 13, m.log)) (refused 17, m.log)) →
        ◌≡◌ {A = Answer × SiteModel} (Declined n, with_log m l) (by_table (cond (not f) (Some 17) (cond (not r) (Some 13) None)) m (Take ws))
    declined_by false r n l h =
        let a : refused n ≡ refused 17 = ap (λ x. x.0) h in
        let q : n ≡ 17 = cc in
        ap (λ k. (Declined k, with_log m l)) q ∙ ap (λ x. (Declined 17, with_log m x)) (ap (λ x. x.1) h)
    declined_by true false n l h =
        let a : refused n ≡ refused 13 = ap (λ x. x.0) h in
        let q : n ≡ 13 = cc in
        ap (λ k. (Declined k, with_log m l)) q ∙ ap (λ x. (Declined 13, with_log m x)) (ap (λ x. x.1) h)
    declined_by true true n l h =
        let a : refused n ≡ given tt = ap (λ x. x.0) h in
        absurd (let z : ◌≡◌ {A = ℕ} 0 1 = cc in omega arith)

    pub take_declined : (n : ℕ) (l : LogModel) → ◌≡◌ {A = Entered} (refused n, l) (page_entered m.log p) → (Declined n, with_log m l) ≡ called m (Take ws)
    take_declined n l h = declined_by (follows m.log p) (has_room_for m.log p) n l h ∙ page_lines
