-- What a rule that is made of what a file names has from it.
use Rattle.std.specs.Prelude.{◌≡◌, ◌*◌, map, take}
use Rattle.std.specs.List.{range_with_len}
use Rattle.rules.specs.declared.cost.Costs.{Costs}
use Rattle.rules.specs.declared.measure.Measured.{Measured}
use Rattle.checkfile.specs.declared.lent.LentCosts.{LentCosts}
use Rattle.checkfile.specs.declared.lent.LentRule.{LentRule}
use Rattle.checkfile.specs.declared.lent.LentRule.TheVariants as lent
use Rattle.checkfile.specs.declared.rule.FileRule.{FileRule}
use Rattle.checkfile.specs.declared.rule.FileRule.TheVariants.{Plain, Weight, Cost}
use Rattle.checkfile.specs.Tests.{pair}

-- the costs of a rule are those that stand in the file
pub record CostsAre (costs : LentCosts) (rule : Measured Costs) : Type 0 where
  pub places : rule.measure.places.n ≡ costs.places.n
  pub items : take costs.places.n rule.measure.costs ≡ map (λ k. pair costs.bytes.now (2 * k)) (range_with_len 0 costs.places.n)

abbrev pub MadeOf : LentRule → FileRule → Type 0
MadeOf (lent.Plain places) (Plain rule) = rule.measure.places ≡ places
MadeOf (lent.Weight places) (Weight rule) = rule.measure.places ≡ places
MadeOf (lent.Cost costs) (Cost rule) = CostsAre costs rule
MadeOf _ _ = ⊥
