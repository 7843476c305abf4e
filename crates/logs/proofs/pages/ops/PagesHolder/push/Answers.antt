use Rattle.std.proofs.Common.{◌+◌, ap, arith}
use Rattle.logs.specs.LogModel.{entry_of}
use Rattle.logs.proofs.Laid.{room_left, starts_left, version_left, is_loggable, grown_high, grown_laid, grown_begun, grown_sound, grown_held}
use Rattle.logs.proofs.pages.ops.PagesHolder.push.Goals as goal

pub push-requires : goal.push-requires
push-requires c =
    starts_left c.args.self.now (entry_of c.args.entry)
    c.requires

pub push_page-requires : goal.push_page-requires
push_page-requires c =
    let p = c.args.self.now in
    let e = entry_of c.args.entry in
    record {
      room = room_left p e c.requires;
      version = omega (arith, version_left p e c.requires, c.last-version.ensures);
      loggable = is_loggable p e c.requires;
    }

pub invariant_of-self : goal.invariant_of-self
invariant_of-self c =
    let p = c.args.self.now in
    let e = entry_of c.args.entry in
    let v = ap (λ n. n + 1) c.last-version.ensures in
    let s = ap (λ n. p.removed + n) c.len.ensures.value in
    let words = c.push_page.new.words in
    let starts = c.push.new.self in
    let ws = c.push_page.ensures.items in
    let ss = c.push.ensures.items in
    let size = c.push_page.ensures.size in
    record {
      small = omega (arith, size, p.small);
      indexed = omega (arith, size, c.push.ensures.size, p.indexed);
      high = grown_high p e c.requires _ _ v s words starts ws ss size;
      near = p.near;
      laid = grown_laid p e c.requires _ _ v s words starts ws ss size;
      begun = grown_begun p e c.requires _ _ v s words starts ws ss size;
      sound = grown_sound p e c.requires _ _ v s words starts ws ss size;
    }

pub returns : goal.returns
returns c =
    let p = c.args.self.now in
    let e = entry_of c.args.entry in
    let v = ap (λ n. n + 1) c.last-version.ensures in
    let s = ap (λ n. p.removed + n) c.len.ensures.value in
    grown_held p e c.requires _ _ v s c.push_page.new.words c.push.new.self c.push_page.ensures.items c.push.ensures.items c.push_page.ensures.size
