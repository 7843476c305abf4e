use Rattle.std.proofs.Common.{◌≡◌, None, Option, rules}
use Rattle.std.specs.Option.{option_map}
use Rattle.words.specs.Pages.{PageValue, page_of, page_value}
use Rattle.words.proofs.PageSpelling.{page_spelling}
use Rattle.words.proofs.pages.read_page.Goals as goal

pub returns-in-Some-Entry-clause-exact : goal.returns-in-Some-Entry-clause-exact
returns-in-Some-Entry-clause-exact c =
    let e : option_map page_value c.read_entry.result ≡ page_of c.args.sites c.args.words.now = search rules in
    rw e (page_spelling c.args.sites c.args.words.now)

pub returns-in-Some-Closing-clause-exact : goal.returns-in-Some-Closing-clause-exact
returns-in-Some-Closing-clause-exact c =
    let e : option_map page_value c.read_closing.result ≡ page_of c.args.sites c.args.words.now = search rules in
    rw e (page_spelling c.args.sites c.args.words.now)

pub returns-in_default-word_kind-clause-exact : goal.returns-in_default-word_kind-clause-exact
returns-in_default-word_kind-clause-exact c =
    let e : ◌≡◌ {A = Option PageValue} None (page_of c.args.sites c.args.words.now) = search rules in
    rw e (page_spelling c.args.sites c.args.words.now)
