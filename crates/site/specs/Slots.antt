-- What the slots of a site hold.
use Rattle.std.specs.Prelude.{ℕ, suc, min, Bool, true, false, cond, ◌&&◌, List, [], ◌∷◌, map, Some, None, Option, ◌==◌}
use Rattle.std.specs.Borrow.{Bor}
use Rattle.std.specs.List.{slice_get}
use Rattle.std.specs.Option.{option_map}
use Rattle.account.specs.declared.decisions.Decision.{Decision}
use Rattle.site.specs.declared.edits.Edit.{Edit}
use Rattle.site.specs.declared.slots.Slot.{Slot}
use Rattle.site.specs.declared.slots.Slot.TheVariants.{Empty, Open, Posted, Decided}
use Rattle.site.specs.declared.slots.Slots.{Slots}
use Rattle.std.specs.Str.{bytes_eq}
use Rattle.site.specs.Edits.{EditModel, edit_model}
use Rattle.site.specs.Spelling.{own_words}

pub data SlotModel : Type 0 where
  empty : SlotModel
  opened : EditModel → SlotModel
  posted : EditModel → SlotModel
  decided : ℕ → Decision → SlotModel

abbrev pub slot_model : Slot → SlotModel
slot_model Empty = empty
slot_model (Open e) = opened (edit_model e)
slot_model (Posted e) = posted (edit_model e)
slot_model (Decided t d) = decided t d

abbrev pub slots_model : Slots → List SlotModel
slots_model s = map slot_model s.table

-- The lowest empty slot, if there is one.
abbrev pub empty_from : ℕ → List SlotModel → Option ℕ
empty_from i [] = None
empty_from i (empty ∷ ss) = Some i
empty_from i (opened e ∷ ss) = empty_from (suc i) ss
empty_from i (posted e ∷ ss) = empty_from (suc i) ss
empty_from i (decided t d ∷ ss) = empty_from (suc i) ss

abbrev pub lowest_empty : List SlotModel → Option ℕ
lowest_empty ss = empty_from 0 ss

-- Whether every slot is empty.
abbrev pub is_empty : SlotModel → Bool
is_empty empty = true
is_empty (opened e) = false
is_empty (posted e) = false
is_empty (decided t d) = false

abbrev pub all_empty : List SlotModel → Bool
all_empty [] = true
all_empty (s ∷ ss) = is_empty s && all_empty ss

-- The edit that a slot holds open under the ticket.
abbrev pub held_open : Option SlotModel → ℕ → Option EditModel
held_open None ticket = None
held_open (Some empty) ticket = None
held_open (Some (opened e)) ticket = cond (e.ticket == ticket) (Some e) None
held_open (Some (posted e)) ticket = None
held_open (Some (decided t d)) ticket = None

abbrev pub open_edit : List SlotModel → ℕ → ℕ → Option EditModel
open_edit ss slot ticket = held_open (slice_get ss slot) ticket

abbrev pub edit_of : Option (Bor Edit) → Option EditModel
edit_of r = option_map (λ e. edit_model e.now) r

-- Whether a slot holds a posted edit of the ticket, decided or not.
abbrev pub held_posted : Option SlotModel → ℕ → Bool
held_posted None ticket = false
held_posted (Some empty) ticket = false
held_posted (Some (opened e)) ticket = false
held_posted (Some (posted e)) ticket = e.ticket == ticket
held_posted (Some (decided t d)) ticket = t == ticket

abbrev pub has_posted : List SlotModel → ℕ → ℕ → Bool
has_posted ss slot ticket = held_posted (slice_get ss slot) ticket

-- The decision that a slot holds, if it was decided.
abbrev pub held_decision : Option SlotModel → Option Decision
held_decision None = None
held_decision (Some empty) = None
held_decision (Some (opened e)) = None
held_decision (Some (posted e)) = None
held_decision (Some (decided t d)) = Some d

-- The least of a version and the snapshots of open and posted slots.
abbrev pub least_needed : ℕ → List SlotModel → ℕ
least_needed v [] = v
least_needed v (empty ∷ ss) = least_needed v ss
least_needed v (opened e ∷ ss) = least_needed (min v e.snapshot) ss
least_needed v (posted e ∷ ss) = least_needed (min v e.snapshot) ss
least_needed v (decided t d ∷ ss) = least_needed v ss

-- A posted slot of site i whose edit's words are these gets the decision; every other slot is as it was.
abbrev pub settled : ℕ → List ℕ → Decision → SlotModel → SlotModel
settled i ws d empty = empty
settled i ws d (opened e) = opened e
settled i ws d (posted e) = cond (bytes_eq (own_words i e) ws) (decided e.ticket d) (posted e)
settled i ws d (decided t x) = decided t x

-- The ticket of a posted edit of site i whose words these are.
abbrev pub own_ticket : ℕ → List ℕ → Option SlotModel → Option ℕ
own_ticket i ws None = None
own_ticket i ws (Some empty) = None
own_ticket i ws (Some (opened e)) = None
own_ticket i ws (Some (posted e)) = cond (bytes_eq (own_words i e) ws) (Some e.ticket) None
own_ticket i ws (Some (decided t x)) = None
