use Rattle.std.proofs.Common.{◌≡◌, ap, ◌∙◌, rules}
use Rattle.std.specs.Option.{option_map}
use Rattle.std.specs.Str.{bytes_eq}
use Rattle.std.proofs.lemmas.Iterator.{YieldsList-from_slice}
use Rattle.std.proofs.lemmas.Iterator.Search.{find_from_yields_List}
use Rattle.script.proofs.TableLaws.{named_found}
use Rattle.script.proofs.verbs.find_named.Goals as goal

pub returns : goal.returns
returns g c =
    let table = c.args.table.now in
    let word = c.args.word.now in
    let found = find_from_yields_List (λ row. bytes_eq word row.0.now) c.find.new.self _ c.find.result c.find.ensures.ran (YieldsList-from_slice table cc) (λ x b q k. search rules) in
    let row : c.map.result ≡ option_map (λ r. r.1) (option_map (λ r. r.now) c.find.result) = search rules in
    row ∙ ap (option_map (λ r. r.1)) found ∙ named_found word table
