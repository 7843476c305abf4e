-- Scenes: what commits leave of each item, applied one after another to the empty scene.
use Rattle.std.specs.Prelude.{ℕ, suc, cond, List, [], ◌∷◌, take, ℤ, Some, None, Option, ◌==◌}
use Rattle.std.specs.Option.{option_map}
use Rattle.words.specs.declared.changes.Change.{Change}
use Rattle.words.specs.declared.changes.Change.TheVariants.{Set, Remove}
use Rattle.words.specs.declared.changes.Write.{Write}
use Rattle.account.specs.declared.scenes.Placed.{Placed}
use Rattle.account.specs.Account.{Committed}

-- An item's value, and the version that set it.
abbrev pub a_place : ℤ → ℕ → Placed
a_place z v = record { value = z; version = v }

-- What a change of a version makes of an item.
abbrev pub placed_by : ℕ → Change → Option Placed
placed_by v (Set z) = Some (a_place z v)
placed_by v Remove = None

-- What a version's writes make of item x, which was o before.
abbrev pub written : ℕ → List Write → ℕ → Option Placed → Option Placed
written v [] x o = o
written v (w ∷ l) x o = written v l x (cond (w.item == x) (placed_by v w.change) o)

-- What the commits above version v make of item x, which was o at version v.
abbrev pub applied : ℕ → List Committed → ℕ → Option Placed → Option Placed
applied v [] x o = o
applied v (c ∷ cs) x o = applied (suc v) cs x (written (suc v) c.writes x o)

-- What the commits leave of item x, and the value alone in scene v, that of the first v commits.
abbrev pub placed : List Committed → ℕ → Option Placed
placed cs x = applied 0 cs x None

abbrev pub scene : List Committed → ℕ → ℕ → Option ℤ
scene cs v x = option_map (λ p. p.value) (placed (take v cs) x)
