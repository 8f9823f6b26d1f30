use Rattle.std.proofs.Common.{◌≡◌, ℕ, ◌≤◌}
use Rattle.algebra.specs.Digits.{digit}
use Rattle.table.proofs.growing.height.Given as goal

abbrev pub invariant-loop-place : goal.invariant-loop-place
invariant-loop-place l = (j : ℕ) → l.place ≤ j → digit l.mark.number j ≡ 0
