use Rattle.std.proofs.Common.{◌≡◌, ◌-◌, take, sym, ap, ◌∙◌}
use Rattle.store.specs.RowChanges.{front_part}
use Rattle.store.specs.StoreModel.{matches, latest, value_in}
use Rattle.store.proofs.Places.{latest_found}
use Rattle.store.proofs.journal.ops.JournalStore.read.Goals.{After-latest}
use Rattle.store.proofs.journal.ops.JournalStore.read.Goals as goal

found : (c : After-latest) → c.latest.result ≡ latest (matches c.args.item c.args.at) (take c.args.self.now.tally.sealed c.args.self.now.records.items)
found c =
    let j = c.args.self.now in
    let p = matches c.args.item c.args.at in
    c.latest.ensures ∙ latest_found p (take (j.tally.sealed - 0) c.as_slice.result.now) ∙ ap (latest p) (front_part j.records.items c.as_slice.result.now j.tally.sealed c.as_slice.ensures.value)

pub returns-in_err-latest : goal.returns-in_err-latest
returns-in_err-latest c = c.from_residual.ensures ∙ ap value_in (sym c.in_err-latest.was ∙ found (goal.at.returns-in_err-latest c).After-latest)

pub returns : goal.returns
returns c = c.value.ensures ∙ ap value_in (sym c.in_ok-latest.was ∙ found (goal.at.returns c).After-latest)
