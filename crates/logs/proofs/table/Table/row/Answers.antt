use Rattle.std.proofs.Common.{sym, arith}
use Rattle.logs.specs.HolderBounds.{table_last}
use Rattle.logs.proofs.Tables.{table_row}
use Rattle.logs.proofs.table.Table.row.Goals as goal

pub returns : goal.returns
returns c =
    let t = c.args.self.now in
    sym (table_row t c.args.version _ c.at.result.now (omega arith) (omega (arith, table_last t)) c.at.ensures)
