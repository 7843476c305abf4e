-- An edit: its ticket, its snapshot, and its writes by rising item, one to an item.
use Rattle.std.specs.Prelude.{ℕ, Bool, true, false, cond, List, [], ◌∷◌, length, Some, None, Option, ◌==◌, nat_le, nat_lt}
use Rattle.few.specs.Lists.{few_items}
use Rattle.words.specs.declared.changes.Change.{Change}
use Rattle.words.specs.declared.changes.Write.{Write}
use Rattle.site.specs.declared.edits.Edit.{Edit}

pub record EditModel : Type 0 where
  pub ticket : ℕ
  pub snapshot : ℕ
  pub writes : List Write

abbrev pub an_edit_of : ℕ → ℕ → List Write → EditModel
an_edit_of t s l = record { ticket = t; snapshot = s; writes = l }

abbrev pub edit_model : Edit → EditModel
edit_model e = an_edit_of e.ticket e.snapshot (few_items e.writes)

-- The edit's own change of an item, if it has one.
abbrev pub own_change : List Write → ℕ → Option Change
own_change [] x = None
own_change (w ∷ l) x = cond (w.item == x) (Some w.change) (own_change l x)

-- The writes with one set or replaced, by rising item.
abbrev pub with_write : List Write → Write → List Write
with_write [] w = w ∷ []
with_write (x ∷ l) w =
    cond (x.item == w.item) (w ∷ l) (cond (nat_lt w.item x.item) (w ∷ (x ∷ l)) (x ∷ with_write l w))

-- The edit with one write set or replaced: at most 16 items, and as it was where this would be the seventeenth.
abbrev pub rewritten : EditModel → Write → EditModel
rewritten e w = an_edit_of e.ticket e.snapshot (with_write e.writes w)

abbrev pub has_room : EditModel → Write → Bool
has_room e w = nat_le (length (with_write e.writes w)) 16

abbrev pub put_write : EditModel → Write → Bool × EditModel
put_write e w = cond (has_room e w) (true, rewritten e w) (false, e)
