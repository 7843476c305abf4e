-- A list of writes put into a store as one version.
use Rattle.std.specs.Prelude.{Bool, cond, List, ◌++◌, length, nat_le}
use Rattle.words.specs.declared.changes.Write.{Write}
use Rattle.store.specs.StoreModel.{StoreModel, space, with_staged, dropped, sealed_up}

-- Whether there is space for the writes.
abbrev pub do_fit : StoreModel → List Write → Bool
do_fit m ws = nat_le (length ws) (space m)

-- The writes are staged behind what was staged and sealed with it, or all that is staged is dropped.
abbrev pub put_in : StoreModel → List Write → StoreModel
put_in m ws = cond (do_fit m ws) (sealed_up (with_staged m (m.staged ++ ws))) (dropped m)
