-- What a call that is carried out was not refused for, and that its deed is of its own site.
use Rattle.std.proofs.Common.{◌≡◌, ℕ, Bool, false, cond, not, eqb, List, [], ◌∷◌, is_some, Some, None, Option, sym, refl, ap, ◌∙◌, arith}
use Rattle.std.specs.List.{slice_get}
use Rattle.std.proofs.lemmas.Bool.Decides.{nat_tests}
use Rattle.account.specs.declared.decisions.Decision.{Decision}
use Rattle.site.specs.declared.handles.Handle.{Handle}
use Rattle.site.specs.Edits.{EditModel}
use Rattle.site.specs.Slots.{held_decision}
use Rattle.site.specs.SiteModel.{SiteModel}
use Rattle.site.specs.Calls.{Line, first, Call, Begin, Put, Post, Outcome, Step, Answer, Declined, drafted, edit_or, sent, outcome_of, stepped, table, answered, by_table, called}
use Rattle.group.specs.Record.{deed_of}
use Rattle.group.proofs.Turns.{OfSite}
use Rattle.group.proofs.Tables.{draft_slot}

-- whether the line of a number applies
abbrev pub applies : ℕ → List Line → Bool
applies k [] = false
applies k (l ∷ ls) = cond (eqb l.number k) l.applies (applies k ls)

pub passed : (ls : List Line) (k : ℕ) → first ls ≡ None → applies k ls ≡ false
passed [] k e = refl
passed (l ∷ ls) k e = let rest = passed ls k in grind arith

-- Answers of calls that are carried out.
abbrev pub Carried : Answer → Type 0
Carried (Declined n) = ⊥
Carried _ = Unit {0}

pub carried : (m : SiteModel) (c : Call) (a : Answer) → (called m c).0 ≡ a → Carried a → (first (table m c) ≡ None) × (answered m c ≡ a)
carried m c a e y = by_refusal (first (table m c)) refl e
  where
    by_refusal : (o : Option ℕ) → first (table m c) ≡ o → (by_table o m c).0 ≡ a → (first (table m c) ≡ None) × (answered m c ≡ a)
    by_refusal None f g = (f, g)
    by_refusal (Some n) f g = absurd (rw (← g) at y)

-- where something is not missing
pub some_of : {A : Type 0} (o : Option A) → not (is_some o) ≡ false → (a : A) × (o ≡ Some a)
some_of o h = grind arith

pub the_draft : (m : SiteModel) (c : Call) (h : Handle) → first (table m c) ≡ None → applies 6 (table m c) ≡ not (is_some (drafted m h)) →
    (e : EditModel) × (drafted m h ≡ Some e)
the_draft m c h f q = some_of (drafted m h) (sym q ∙ passed (table m c) 6 f)

draft_site : (m : SiteModel) (c : Call) (h : Handle) → first (table m c) ≡ None → applies 6 (table m c) ≡ not (is_some (drafted m h)) → h.site ≡ m.number
draft_site m c h f q = let d = the_draft m c h f q in ap (λ x. x.site) (draft_slot m h d.0 d.1).handle

-- the deed of a call is of the site where it was made
module _ (m : SiteModel) where
  post_site : (h : Handle) (room : ℕ) → h.site ≡ m.number → OfSite m.number (deed_of (sent m h (edit_or (drafted m h))) (Post h room))
  post_site h room e = grind (arith, nat_tests)

  outcome_site : (h : Handle) (o : Option Decision) → OfSite m.number (deed_of (outcome_of o) (Outcome h))
  outcome_site h o = grind arith

  step_site : (o : Option ℕ) → OfSite m.number (deed_of (stepped m o).0 Step)
  step_site o = grind arith

  carried_site : (c : Call) → first (table m c) ≡ None → OfSite m.number (deed_of (answered m c) c)
  carried_site Begin f = refl
  carried_site (Put h w) f = draft_site m (Put h w) h f refl
  carried_site (Post h room) f = post_site h room (draft_site m (Post h room) h f refl)
  carried_site (Outcome h) f = outcome_site h (held_decision (slice_get m.slots h.slot))
  carried_site Step f = step_site m.change
  carried_site _ f = tt

  pub deed_site : (c : Call) → OfSite m.number (deed_of (called m c).0 c)
  deed_site c = by_refusal (first (table m c)) refl
    where
      by_refusal : (o : Option ℕ) → first (table m c) ≡ o → OfSite m.number (deed_of (by_table o m c).0 c)
      by_refusal None f = carried_site c f
      by_refusal (Some n) f = tt
