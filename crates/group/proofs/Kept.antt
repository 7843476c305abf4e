-- A call, declined or carried out, leaves a sound site of the same number in the same group.
use Rattle.std.proofs.Common.{◌≡◌, ℕ, List, [], ◌∷◌, Some, None, Option, refl, arith}
use Rattle.std.specs.List.{slice_get, All, Contains}
use Rattle.std.proofs.lemmas.List.Elements.{All-nil, All-cons, All-contains}
use Rattle.words.specs.Pages.{PageValue, page_of}
use Rattle.site.specs.Slots.{held_decision}
use Rattle.site.specs.SiteModel.{SiteModel}
use Rattle.site.specs.Calls.{first, Call, Begin, Put, Post, GiveUp, Outcome, LetGo, Deliver, Step, Page, Take, Trim, Prune, Crash, Wake, Declined, Wrote, after_page, table, answered, left, by_table, called}
use Rattle.group.specs.Record.{Turn, a_turn}
use Rattle.group.specs.Law.{WritesRight, RecordRight}
use Rattle.group.specs.Runs.{Supposed}
use Rattle.group.proofs.SiteSound.{Sound, sound_quiet}
use Rattle.group.proofs.DraftCalls.{begin_kept, put_kept, post_kept, give_up_kept, let_go_kept, outcome_kept}
use Rattle.group.proofs.StepCalls.{step_kept}
use Rattle.group.proofs.LogCalls.{deliver_kept, take_kept, trim_kept, prune_kept, crash_kept, wake_kept}

-- every page of a right record was rightly written
abbrev RightPage : ℕ → List (List ℕ) → Turn → Type 0
RightPage n ms t = (v room : ℕ) (ws : List ℕ) → t.call ≡ Page v room → t.answer ≡ Wrote ws → WritesRight n ms ws

right_pages : (n : ℕ) (ms : List (List ℕ)) (ts : List Turn) → RecordRight n ms ts → All (RightPage n ms) ts
right_pages n ms [] r = All-nil (RightPage n ms)
right_pages n ms (t ∷ ts) r = All-cons (RightPage n ms) t ts r.0.pages (right_pages n ms ts r.1)

page_written : (n : ℕ) (ms : List (List ℕ)) (ts : List Turn) (i v room : ℕ) (ws : List ℕ) → RecordRight n ms ts → Contains ts (a_turn i (Page v room) (Wrote ws)) →
    WritesRight n ms ws
page_written n ms ts i v room ws r h = All-contains (RightPage n ms) ts (a_turn i (Page v room) (Wrote ws)) (right_pages n ms ts r) h v room ws refl refl

module _ {ms : List (List ℕ)} {ts : List Turn} {m : SiteModel} (s : Sound ms ts m) (r : RecordRight m.sites ms ts) where
  carried_kept : (c : Call) → first (table m c) ≡ None → Supposed ms ts (a_turn m.number c (answered m c)) →
      Sound ms (a_turn m.number c (answered m c) ∷ ts) (left m c)
  carried_kept Begin f g = begin_kept s f
  carried_kept (Put h w) f g = put_kept s h w f
  carried_kept (Post h room) f g = post_kept s h room f
  carried_kept (GiveUp h) f g = give_up_kept s h
  carried_kept (Outcome h) f g = outcome_kept s h (held_decision (slice_get m.slots h.slot))
  carried_kept (LetGo h) f g = let_go_kept s h
  carried_kept (Deliver p ws) f g = deliver_kept s p ws f (g.delivers p ws _ refl refl)
  carried_kept Step f g = step_kept s f
  carried_kept (Take ws) f g =
      let w = g.takes ws refl refl in take_kept s ws f (page_written m.sites ms ts w.0 w.1 w.2 ws r w.3)
  carried_kept Trim f g = trim_kept s
  carried_kept Prune f g = prune_kept s
  carried_kept Crash f g = crash_kept s
  carried_kept Wake f g = wake_kept s
  carried_kept c f g = sound_quiet s c (answered m c) refl

  pub kept : (c : Call) → Supposed ms ts (a_turn m.number c (called m c).0) → Sound ms (a_turn m.number c (called m c).0 ∷ ts) (called m c).1
  kept c g = by_refusal (first (table m c)) refl g
    where
      by_refusal : (o : Option ℕ) → first (table m c) ≡ o → Supposed ms ts (a_turn m.number c (by_table o m c).0) →
          Sound ms (a_turn m.number c (by_table o m c).0 ∷ ts) (by_table o m c).1
      by_refusal None f h = carried_kept c f h
      by_refusal (Some k) f h = sound_quiet s c (Declined k) refl

-- the number and the size of the group
module _ (m : SiteModel) where
  abbrev Placed : SiteModel → Type 0
  Placed after = (after.number ≡ m.number) × (after.sites ≡ m.sites)

  page_placed : (o : Option PageValue) → Placed (after_page m o)
  page_placed o = grind arith

  left_placed : (c : Call) → Placed (left m c)
  left_placed (GiveUp h) = grind arith
  left_placed (Outcome h) = grind arith
  left_placed (LetGo h) = grind arith
  left_placed Step = grind arith
  left_placed (Take ws) = page_placed (page_of m.sites ws)
  left_placed _ = (refl, refl)

  pub called_placed : (c : Call) → ((called m c).1.number ≡ m.number) × ((called m c).1.sites ≡ m.sites)
  called_placed c = let p = left_placed c in grind arith
