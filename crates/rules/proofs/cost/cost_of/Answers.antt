use Rattle.std.proofs.Common.{ℕ, get_or, arith}
use Rattle.std.proofs.lemmas.List.{get_or-take, length-take}
use Rattle.algebra.specs.Digits.{total}
use Rattle.algebra.proofs.Rankings.{cost_more, cost_same}
use Rattle.rules.proofs.cost.cost_of.Goals as goal

pub loop-place-init : goal.loop-place-init
unfolding total
loop-place-init c = omega arith

pub loop-place-preserved : goal.loop-place-preserved
loop-place-preserved c =
    let cost : ℕ → ℕ = λ i. get_or c.args.costs.now i 0 in
    let some = cost_more c.loop-place.place cost c.args.mark.number in
    let none = cost_same c.loop-place.place cost c.args.mark.number in
    let same = get_or-take c.min.result c.args.costs.now c.loop-place.place 0 (omega (arith, length-take c.min.result c.args.costs.now)) in
    grind (arith, some, none, same, c.type_inv.costs c.loop-place.place)
