-- What the rule that a file names has.
use Rattle.std.specs.Prelude.{ℕ, List, [], take, slice_index}
use Rattle.checkfile.specs.declared.kind.Kind.{Kind}
use Rattle.checkfile.specs.declared.kind.Kind.TheVariants as kinds
use Rattle.checkfile.specs.declared.rule.FileRule.{FileRule}
use Rattle.checkfile.specs.declared.rule.FileRule.TheVariants.{Plain, Weight, Cost}

abbrev pub kind_of_rule : FileRule → Kind
kind_of_rule (Plain rule) = kinds.Plain
kind_of_rule (Weight rule) = kinds.Weight
kind_of_rule (Cost rule) = kinds.Cost

abbrev pub places_of : FileRule → ℕ
places_of (Plain rule) = rule.measure.places.n
places_of (Weight rule) = rule.measure.places.n
places_of (Cost rule) = rule.measure.places.n

-- the cost of a place from 0, and 0 where there is none
abbrev pub cost_of_place : FileRule → ℕ → ℕ
cost_of_place (Plain rule) i = 0
cost_of_place (Weight rule) i = 0
cost_of_place (Cost rule) i = slice_index rule.measure.costs i

-- the costs of its places, none unless it is by cost
abbrev pub costs_of : FileRule → List ℕ
costs_of (Plain rule) = []
costs_of (Weight rule) = []
costs_of (Cost rule) = take rule.measure.places.n rule.measure.costs
