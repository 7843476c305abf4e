-- Scenes one commit on, by values alone.
use Rattle.std.proofs.Common.{◌≡◌, ℕ, zero, suc, Bool, cond, eqb, List, [], ◌∷◌, take, ℤ, Some, None, Option, refl, ap, ◌∙◌, arith}
use Rattle.std.specs.Option.{option_map}
use Rattle.std.specs.List.{slice_get}
use Rattle.words.specs.declared.changes.Change.{Change}
use Rattle.words.specs.declared.changes.Write.{Write}
use Rattle.account.specs.declared.scenes.Placed.{Placed}
use Rattle.account.specs.Account.{Committed}
use Rattle.account.specs.Scenes.{placed_by, written, applied, scene}
use Rattle.store.specs.StoreModel.{value_of}
use Rattle.store.specs.Laws.{rewritten}

abbrev value_at : Option Placed → Option ℤ
value_at o = option_map (λ p. p.value) o

one_value : (v : ℕ) (b : Bool) (c : Change) (o : Option Placed) → value_at (cond b (placed_by v c) o) ≡ cond b (value_of c) (value_at o)
one_value v b c o = grind arith

written_value : (v : ℕ) (l : List Write) (x : ℕ) (o : Option Placed) → value_at (written v l x o) ≡ rewritten x l (value_at o)
written_value v [] x o = refl
written_value v (w ∷ l) x o = written_value v l x _ ∙ ap (rewritten x l) (one_value v (eqb w.item x) w.change o)

applied_value : (u v : ℕ) (cs : List Committed) (c : Committed) (x : ℕ) (o : Option Placed) → slice_get cs v ≡ Some c →
    value_at (applied u (take (suc v) cs) x o) ≡ rewritten x c.writes (value_at (applied u (take v cs) x o))
applied_value u v [] c x o e = cc
applied_value u zero (d ∷ cs) c x o e = let q : d ≡ c = cc in written_value (suc u) d.writes x o ∙ ap (λ y. rewritten x y.writes (value_at o)) q
applied_value u (suc v) (d ∷ cs) c x o e = applied_value (suc u) v cs c x _ e

pub scene_more : (cs : List Committed) (v : ℕ) (c : Committed) (x : ℕ) → slice_get cs v ≡ Some c → scene cs (suc v) x ≡ rewritten x c.writes (scene cs v x)
scene_more cs v c x e = applied_value 0 v cs c x None e
