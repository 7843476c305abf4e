use Rattle.std.proofs.Common.{length, refl, sym, ap, ◌∙◌, arith}
use Rattle.logs.specs.LogModel.{entry_of}
use Rattle.logs.specs.HolderBounds.{length_page}
use Rattle.logs.proofs.Spelt.{page_spelt, page_there}
use Rattle.logs.proofs.page.push_page.Goals as goal

pub unwrap-length-requires : goal.unwrap-length-requires
unwrap-length-requires c =
    let e = page_spelt c.args.version (entry_of c.args.entry) c.requires.version c.requires.loggable c.spell_entry.result c.spell_entry.ensures.answer in
    rw e refl

pub extend-requires : goal.extend-requires
extend-requires c =
    let e = page_spelt c.args.version (entry_of c.args.entry) c.requires.version c.requires.loggable c.spell_entry.result c.spell_entry.ensures.answer in
    let p = page_there c.args.version (entry_of c.args.entry) c.requires.version c.requires.loggable _ _ (sym c.unwrap-length.ensures ∙ e) c.spell_entry.ensures.after in
    omega (arith, ap length p, length_page c.args.version (entry_of c.args.entry), c.requires.room)
