-- What each call of a store answers and leaves.
use Rattle.std.specs.Prelude.{cond, Ok, Err}
use Rattle.words.specs.Writes.{a_write}
use Rattle.store.specs.declared.api.NoSpace.{NoSpace}
use Rattle.store.specs.StoreModel.{StoreModel, has_space, read_at, staged_on, sealed_up, dropped, pruned_to}
use Rattle.replay.specs.declared.calls.Call.{Call}
use Rattle.replay.specs.declared.calls.Call.TheVariants.{Read, Stage, Seal, DropStaged, Prune}
use Rattle.replay.specs.declared.calls.Answer.{Answer}
use Rattle.replay.specs.declared.calls.Answer.TheVariants.{Value, Staged, Done}

abbrev pub no_space : NoSpace
no_space = record {}

abbrev pub answer_of : StoreModel → Call → Answer
answer_of m (Read i s) = Value (read_at m i s)
answer_of m (Stage i x) = Staged (cond (has_space m) (Ok tt) (Err no_space))
answer_of m Seal = Done
answer_of m DropStaged = Done
answer_of m (Prune h) = Done

abbrev pub after_call : StoreModel → Call → StoreModel
after_call m (Read i s) = m
after_call m (Stage i x) = staged_on m (a_write i x)
after_call m Seal = sealed_up m
after_call m DropStaged = dropped m
after_call m (Prune h) = pruned_to h m
