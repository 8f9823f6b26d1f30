use Rattle.algebra.specs.Digits.{pack}
use Rattle.algebra.proofs.Marks.{folded_weight}
use Rattle.marks.proofs.mark.Mark.weight.Goals as goal

pub returns : goal.returns
unfolding pack
returns c = folded_weight 32 c.args.self.number
