use Rattle.std.proofs.Common.{length, ap, ◌∙◌, arith}
use Rattle.checkfile.specs.Contents.{rule_costs}
use Rattle.checkfile.proofs.Puts.{dear_costs_long}
use Rattle.checkfile.proofs.writing.costs_length.Goals as goal

pub returns-in-Cost-clause-value : goal.returns-in-Cost-clause-value
returns-in-Cost-clause-value c = omega (arith, c.places.ensures, ap length (ap rule_costs c.in-Cost.is) ∙ dear_costs_long c.in-Cost.rule.measure)
