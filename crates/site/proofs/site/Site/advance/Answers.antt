use Rattle.std.proofs.Common.{sym, arith}
use Rattle.site.proofs.LogFacts.{write_index}
use Rattle.site.proofs.site.Site.advance.Goals as goal

pub overflow_add-self : goal.overflow_add-self
overflow_add-self g c =
    let k = write_index (g.L.Log.model c.args.self.now.log) _ c.args.done c.in-Some.write (g.met.L.Log.bounded c.args.self.now.log)
    (sym c.in-Some.ensures) in
    omega arith
