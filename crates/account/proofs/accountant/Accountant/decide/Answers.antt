use Rattle.std.proofs.Common.{◌+◌, ◌<◌, Ok, sym, ap, ◌∙◌, arith}
use Rattle.words.specs.Messages.{an_edit, a_report, message_of, message_value}
use Rattle.account.specs.declared.decisions.Decision.TheVariants.{Void, Noted}
use Rattle.account.specs.Books.{books, some_books}
use Rattle.account.proofs.Entries.{lawful_from, entered_as, void_entered, report_own, found_as}
use Rattle.account.proofs.accountant.Accountant.decide.Goals as goal

pub note-requires : goal.note-requires
note-requires c =
    let report = a_report c.in-Some-Report.site c.in-Some-Report.version in
    let e = found_as c.read_message.result _ c.in-Some-Report.field-0 report c.read_message.ensures.message c.in-Some-Report.is (ap message_value c.in-Some-Report.field-0-is) in
    record {
      room = omega (arith, c.args.self.now.limit);
      own = report_own c.args.self.now.sites c.in-Some-Report.site c.in-Some-Report.version ((c.read_message.ensures.exact report).0 (c.read_message.ensures.message ∙ sym e)).1;
    }

pub returns-in-None : goal.returns-in-None
returns-in-None c =
    let a = c.args.self.now in
    let room : a.places < 268435455 = omega (arith, a.limit) in
    let after = some_books a.sites (a.places + 1) (books a).account in
    let e = entered_as (books a) after _ (message_of a.sites c.args.words.now) (Ok Void) c.in-None.ensures.message
    (void_entered a.sites a.places (books a).account room) in
    record { entered = e; lawful = lawful_from (books a) after c.args.words.now (Ok Void) e }

pub returns-in-Some-Report : goal.returns-in-Some-Report
returns-in-Some-Report c =
    let a = c.args.self.now in
    let e = entered_as (books a) (books c.note.new.self) _ (message_of a.sites c.args.words.now) (Ok Noted)
    (found_as c.read_message.result _ c.in-Some-Report.field-0 _ c.read_message.ensures.message c.in-Some-Report.is (ap message_value c.in-Some-Report.field-0-is))
    c.note.ensures in
    record { entered = e; lawful = lawful_from (books a) (books c.note.new.self) c.args.words.now (Ok Noted) e }

pub returns-in_ok-writes-in-Some-Edit : goal.returns-in_ok-writes-in-Some-Edit
returns-in_ok-writes-in-Some-Edit c =
    let a = c.args.self.now in
    let edit = ap message_value c.in-Some-Edit.field-0-is
    ∙ ap (an_edit c.in-Some-Edit.site c.in-Some-Edit.ticket c.in-Some-Edit.snapshot) (sym c.in_ok-writes-in-Some-Edit.ensures) in
    let e = entered_as (books a) (books c.enter.new.self) _ (message_of a.sites c.args.words.now) c.enter.result
    (found_as c.read_message.result _ c.in-Some-Edit.field-0 _ c.read_message.ensures.message c.in-Some-Edit.is edit)
    c.enter.ensures in
    record { entered = e; lawful = lawful_from (books a) (books c.enter.new.self) c.args.words.now c.enter.result e }
