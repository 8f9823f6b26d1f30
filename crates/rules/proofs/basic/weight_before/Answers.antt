use Rattle.std.proofs.Common.{ap, ◌∙◌, arith}
use Rattle.algebra.specs.Marks.{weight}
use Rattle.algebra.proofs.Rankings.{same_first, weight_cost_fitting}
use Rattle.rules.proofs.basic.weight_before.Goals as goal

pub returns : goal.returns
returns c =
    c.is_first.ensures
    ∙ same_first _ _ _ _ _ _ _ _
    (c.weight.ensures ∙ ap (weight 32) c.low.ensures ∙ weight_cost_fitting c.args.n c.args.u (omega arith))
    (c.weight-2.ensures ∙ ap (weight 32) c.low-2.ensures ∙ weight_cost_fitting c.args.n c.args.v (omega arith))
    c.low.ensures c.low-2.ensures
