use Rattle.std.proofs.Common.{rules, map}
use Rattle.few.specs.Gathered.{gathered_front}
use Rattle.words.specs.Bits.{load_of}
use Rattle.site.proofs.gather.gather_known.Goals as goal

pub returns : goal.returns
returns c = gathered_front _ 8 (map load_of c.args.words.now) (λ i r h p. search rules) c.gather.ensures
