use Rattle.std.proofs.Common.{◌-◌, min, refl, ap, ◌∙◌, arith}
use Rattle.logs.specs.HolderBounds.{pages_last}
use Rattle.logs.specs.Rings.{ring_room}
use Rattle.logs.proofs.Laid.{words_fewer, kept_high, kept_near, kept_laid, kept_begun, kept_sound, kept_held}
use Rattle.logs.proofs.pages.ops.PagesHolder.trim.Goals as goal

pub words_of-length-requires : goal.words_of-length-requires
words_of-length-requires c = omega (arith, pages_last c.args.self.now, c.last.ensures)

pub remove_front-requires : goal.remove_front-requires
remove_front-requires c =
    let p = c.args.self.now in
    omega (arith, c.words_of-length.ensures, words_fewer p (c.min-bound.result - p.floor))

pub remove_front-requires-then-bound-self : goal.remove_front-requires-then-bound-self
remove_front-requires-then-bound-self c = omega (arith, pages_last c.args.self.now, c.last.ensures)

pub overflow_add-self : goal.overflow_add-self
overflow_add-self c =
    let p = c.args.self.now in
    omega (
      arith,
      p.near,
      p.high,
      p.small,
      c.words_of-length.ensures,
      words_fewer p (c.min-bound.result - p.floor),
      ring_room p.words,
    )

pub invariant_of-self : goal.invariant_of-self
invariant_of-self c =
    let p = c.args.self.now in
    let v = c.args.version in
    let bound = c.min-bound.ensures ∙ ap (min v) c.last.ensures in
    let above = c.if-bound-self.true in
    let gone = c.words_of-length.ensures in
    let words = c.remove_front.new.self in
    let starts = c.remove_front-then-bound-self.new.self in
    let ws = c.remove_front.ensures.items in
    let ss = c.remove_front-then-bound-self.ensures.items in
    let size = c.remove_front.ensures.size in
    record {
      small = omega (arith, size, p.small);
      indexed = omega (arith, size, c.remove_front-then-bound-self.ensures.size, p.indexed);
      high = kept_high p v _ _ _ bound above refl gone words starts ws ss size;
      near = kept_near p v _ _ _ bound above refl gone words starts ws ss size;
      laid = kept_laid p v _ _ _ bound above refl gone words starts ws ss size;
      begun = kept_begun p v _ _ _ bound above refl gone words starts ws ss size;
      sound = kept_sound p v _ _ _ bound above refl gone words starts ws ss size;
    }

pub returns-then-bound-self : goal.returns-then-bound-self
returns-then-bound-self c =
    let bound = c.min-bound.ensures ∙ ap (min c.args.version) c.last.ensures in
    kept_held c.args.self.now c.args.version _ _ _ bound c.if-bound-self.true refl c.words_of-length.ensures
    c.remove_front.new.self c.remove_front-then-bound-self.new.self c.remove_front.ensures.items
    c.remove_front-then-bound-self.ensures.items c.remove_front.ensures.size
