use Rattle.std.proofs.Common.{sym, ◌∙◌}
use Rattle.store.specs.StoreModel.{matches}
use Rattle.store.proofs.ChainsChanges.{none_read, value_read, same_found}
use Rattle.store.proofs.chains.ops.ChainsStore.read.Goals as goal

pub returns-in_err-slot : goal.returns-in_err-slot
returns-in_err-slot c =
    let p = matches c.args.item c.args.at in
    let same = same_found c.args.self.now c.sealed.result p c.sealed.ensures.records c.sealed.ensures.slots c.sealed.ensures.count in
    c.from_residual.ensures ∙ none_read c.args.self.now p (sym c.in_err-slot.was ∙ c.find_behind.ensures ∙ same)

pub returns : goal.returns
returns c =
    let p = matches c.args.item c.args.at in
    let same = same_found c.args.self.now c.sealed.result p c.sealed.ensures.records c.sealed.ensures.slots c.sealed.ensures.count in
    c.value.ensures
    ∙ value_read c.args.self.now p c.in_ok-slot.slot (sym c.in_ok-slot.was ∙ c.find_behind.ensures ∙ same) c.index.result.now c.index.ensures
