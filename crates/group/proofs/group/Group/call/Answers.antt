use Rattle.std.proofs.Common.{length, arith}
use Rattle.site.specs.Spoken.{asked, heard}
use Rattle.group.proofs.GroupCalls.{one_call, one_goes_on}
use Rattle.group.proofs.group.Group.call.Goals as goal

pub returns-clause-answered : goal.returns-clause-answered
returns-clause-answered g c =
    one_call g.C.Calls.model c.args.self.now.sites.items c.args.site c.in_ok-site.site.now (omega (arith, c.in_ok-site.ensures.item)) c.in_ok-site.ensures.value
    (asked c.args.request c.args.words.now (length c.args.out.now)) c.call.new.self (heard c.call.result c.call.new.out) c.call.ensures.answered

pub returns-clause-lawful : goal.returns-clause-lawful
returns-clause-lawful g c =
    one_goes_on g.C.Calls.model c.args.self.now.sites.items c.args.site c.in_ok-site.site.now (omega (arith, c.in_ok-site.ensures.item)) c.in_ok-site.ensures.value
    (asked c.args.request c.args.words.now (length c.args.out.now)) c.call.new.self (heard c.call.result c.call.new.out) c.call.ensures.answered
