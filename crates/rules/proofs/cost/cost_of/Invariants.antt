use Rattle.std.proofs.Common.{◌≡◌, ◌*◌, ◌≤◌, get_or}
use Rattle.algebra.specs.Rankings.{cost_of}
use Rattle.rules.proofs.cost.cost_of.Given as goal

abbrev pub invariant-loop-place : goal.invariant-loop-place
invariant-loop-place l = (l.sum ≡ cost_of l.place (λ i. get_or l.costs i 0) l.mark.number) × (l.sum ≤ 65535 * l.place)
