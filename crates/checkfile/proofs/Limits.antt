-- What the limits of a check table come to.
use Rattle.std.proofs.Common.{ℕ, ◌-◌, ◌*◌, ◌<◌, ◌≤◌, ◌⊎◌, inl, inr, mul-le-mul_left, mul-one, arith}
use native.Mathlib.Nat.{pow-le-pow_left, pow-le-pow_right}
use Rattle.std.proofs.lemmas.Nat.{mul-le}
use Rattle.std.proofs.lemmas.Bool.{cases_lt}
use Rattle.checkfile.specs.Tests.{Limits}

module _ (q n r : ℕ) (limits : Limits q n r) where
  pub most_places : n ≤ 24
  most_places =
      let factor : 1 ≤ q - 1 = omega (arith, limits.least_q) in
      omega (arith, mul-le-mul_left n factor, mul-one n, limits.most_n)

  pub most_rows : r ≤ 8
  most_rows = go (cases_lt r 9)
    where
      go : (r < 9) ⊎ (9 ≤ r) → r ≤ 8
      go (inl h) = omega arith
      go (inr h) = absurd (omega (arith, limits.most_r, pow-le-pow_left limits.least_q r, pow-le-pow_right {n = 2} (omega arith) {i = 9} {j = r} h))

  pub most_checks : n * r ≤ 192
  most_checks = mul-le n r 24 8 most_places most_rows
