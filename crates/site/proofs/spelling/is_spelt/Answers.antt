use Rattle.std.proofs.Common.{◌-◌, take, replicate, sym, ap, ◌∙◌, arith}
use Rattle.std.specs.Str.{bytes_eq}
use Rattle.std.proofs.lemmas.Slice.Eq.{slice_eq-Decides, bytes_eq-Decides}
use Rattle.std.proofs.lemmas.Bool.Decides.{same_from_decides, Decides-eqb}
use Rattle.site.specs.Modes.{refusal_number, reply}
use Rattle.site.specs.Edits.{edit_model}
use Rattle.site.specs.Spelling.{own_words}
use Rattle.site.proofs.Spelt.{own_short, not_refused}
use Rattle.site.proofs.spelling.is_spelt.Goals as goal

pub returns-in_default : goal.returns-in_default
returns-in_default c =
    absurd (not_refused (refusal_number c.in_default.field-0) (own_words c.args.home.number (edit_model c.args.edit.now)) (replicate 35 0) _ (own_short c.args.home.number c.args.edit.now)
    (ap (λ r. (reply (λ n. n) r, c.spell_edit.new.out)) (sym c.in_default.is) ∙ c.spell_edit.ensures.put))

pub returns : goal.returns
returns c =
    let ws = c.args.words.now in
    let decides = slice_eq-Decides Decides-eqb (take (c.in-Ok.count - 0) c.spell_edit.new.out) ws c.eq.result c.eq.ensures in
    same_from_decides _ _ decides (bytes_eq-Decides _ _) ∙ ap (λ n. bytes_eq (take n c.spell_edit.new.out) ws) (omega arith) ∙ ap (λ l. bytes_eq l ws) (c.spell_edit.ensures.front c.in-Ok.count c.in-Ok.is)
