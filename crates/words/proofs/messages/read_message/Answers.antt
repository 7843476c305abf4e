use Rattle.std.proofs.Common.{◌≡◌, None, Option, rules}
use Rattle.std.specs.Option.{option_map}
use Rattle.words.specs.Messages.{MessageValue, message_of, message_value}
use Rattle.words.proofs.MessageSpelling.{message_spelling}
use Rattle.words.proofs.messages.read_message.Goals as goal

pub returns-in-Some-Edit-clause-exact : goal.returns-in-Some-Edit-clause-exact
returns-in-Some-Edit-clause-exact c =
    let e : option_map message_value c.read_edit.result ≡ message_of c.args.sites c.args.words.now = search rules in
    rw e (message_spelling c.args.sites c.args.words.now)

pub returns-in-Some-Report-clause-exact : goal.returns-in-Some-Report-clause-exact
returns-in-Some-Report-clause-exact c =
    let e : option_map message_value c.read_report.result ≡ message_of c.args.sites c.args.words.now = search rules in
    rw e (message_spelling c.args.sites c.args.words.now)

pub returns-in_default-word_kind-clause-exact : goal.returns-in_default-word_kind-clause-exact
returns-in_default-word_kind-clause-exact c =
    let e : ◌≡◌ {A = Option MessageValue} None (message_of c.args.sites c.args.words.now) = search rules in
    rw e (message_spelling c.args.sites c.args.words.now)
