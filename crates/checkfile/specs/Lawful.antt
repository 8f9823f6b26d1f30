-- The rule that a file names keeps the laws of rules.
use Rattle.algebra.specs.Rankings.{Ranks}
use Rattle.algebra.proofs.Rankings.{plain_ranks, weight_ranks, cost_ranks}
use Rattle.std.specs.Prelude.{ℕ, ◌≤◌}
use Rattle.checkfile.specs.declared.kind.Kind.{Kind}
use Rattle.checkfile.specs.declared.kind.Kind.TheVariants.{Plain, Weight, Cost}
use Rattle.checkfile.specs.declared.rule.FileRule.{FileRule}
use Rattle.checkfile.specs.declared.rule.FileRule.TheVariants as rules
use Rattle.checkfile.specs.Rules.{kind_of_rule, places_of, cost_of_place}
use Rattle.checkfile.specs.Ranks.{ranked, ranks_of}

pub ranked_ranks : (kind : Kind) (n : ℕ) (cost : ℕ → ℕ) → 1 ≤ n → n ≤ 24 → Ranks (ranked kind n cost)
ranked_ranks Plain n cost = plain_ranks n
ranked_ranks Weight n cost = weight_ranks n
ranked_ranks Cost n cost = cost_ranks n cost

pub places_fit : (rule : FileRule) → (1 ≤ places_of rule) × (places_of rule ≤ 24)
places_fit (rules.Plain rule) = rule.measure.places.size
places_fit (rules.Weight rule) = rule.measure.places.size
places_fit (rules.Cost rule) = rule.measure.places.size

pub file_ranks : (rule : FileRule) → Ranks (ranks_of rule)
file_ranks rule = let fit = places_fit rule in ranked_ranks (kind_of_rule rule) (places_of rule) (cost_of_place rule) fit.0 fit.1
