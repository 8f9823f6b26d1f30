-- What the rule that a file names means, by its kind.
use Rattle.std.specs.Prelude.{ℕ, false}
use Rattle.algebra.specs.Rankings.{MarkRanking, plain, by_weight, by_cost}
use Rattle.checkfile.specs.declared.kind.Kind.{Kind}
use Rattle.checkfile.specs.declared.kind.Kind.TheVariants.{Plain, Weight, Cost}
use Rattle.checkfile.specs.declared.rule.FileRule.{FileRule}
use Rattle.checkfile.specs.Rules.{kind_of_rule, places_of, cost_of_place}

abbrev pub ranked : Kind → ℕ → (ℕ → ℕ) → MarkRanking
ranked Plain n cost = plain n
ranked Weight n cost = by_weight n
ranked Cost n cost = by_cost n false cost

abbrev pub ranks_of : FileRule → MarkRanking
ranks_of rule = ranked (kind_of_rule rule) (places_of rule) (cost_of_place rule)
