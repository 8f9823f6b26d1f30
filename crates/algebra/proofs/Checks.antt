-- Check values are symbols, and a check number of 0 says that each of them is 0.
use Rattle.std.proofs.Common.{◌≡◌, ℕ, zero, suc, ◌+◌, ◌^◌, ◌<◌, ◌≤◌, ap, add-one, arith}
use native.Mathlib.Nat.{pow-le-pow_left, pow-le-pow_right}
use Rattle.algebra.specs.Checks.{Checks, sum_of, check_value, check_number}
use Rattle.algebra.specs.Digits.{digit}
use Rattle.algebra.specs.Symbols.{Symbols, Lawful}
use Rattle.algebra.proofs.Digits.{pack_zeros, zeros_packed}

pub sum_of_more : (S : Symbols) (n : ℕ) (f : ℕ → ℕ) → sum_of S (n + 1) f ≡ S.sum (sum_of S n f) (f n)
sum_of_more S n f = ap (λ k. sum_of S k f) (add-one n)

sum_of_symbol : (S : Symbols) → Lawful S → (n : ℕ) (f : ℕ → ℕ) → sum_of S n f < S.q
sum_of_symbol S lawful zero f = omega (arith, lawful.least)
sum_of_symbol S lawful (suc n) f = lawful.sum_symbol (sum_of S n f) (f n)

module _ (S : Symbols) (lawful : Lawful S) (C : Checks) (y : ℕ) where
  pub value_symbol : (j : ℕ) → check_value S C y j < S.q
  value_symbol j = sum_of_symbol S lawful C.n (λ i. S.product (digit y i) (C.check i j))

  pub values_of_word : check_number S C y ≡ 0 → (j : ℕ) → j < C.r → check_value S C y j ≡ 0
  values_of_word = zeros_packed S.q C.r (check_value S C y) (omega (arith, lawful.least))

  pub word_of_values : ((j : ℕ) → j < C.r → check_value S C y j ≡ 0) → check_number S C y ≡ 0
  word_of_values = pack_zeros S.q C.r (check_value S C y)

-- eight digits below four stay below 4 ^ 8
pub power_fits : (q n : ℕ) → q ≤ 4 → n ≤ 8 → q ^ n ≤ 65536
power_fits q n h k = omega (arith, pow-le-pow_left h n, pow-le-pow_right {n = 4} (omega arith) {i = n} {j = 8} k)
