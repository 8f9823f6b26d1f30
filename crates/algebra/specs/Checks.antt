-- Check tables by their meaning, and the check values of a mark.
use Rattle.std.specs.Prelude.{ℕ, zero, suc}
use Rattle.algebra.specs.Digits.{pack, digit}
use Rattle.algebra.specs.Symbols.{Symbols}

-- n places with r check symbols each: `check i j` is check symbol j of place i
pub record Checks : Type 0 where
  pub n : ℕ
  pub r : ℕ
  pub check : ℕ → ℕ → ℕ

-- f 0 + f 1 + .. + f (n - 1), added in the alphabet
abbrev pub sum_of : Symbols → ℕ → (ℕ → ℕ) → ℕ
sum_of S zero f = 0
sum_of S (suc n) f = S.sum (sum_of S n f) (f n)

abbrev pub check_value : Symbols → Checks → ℕ → ℕ → ℕ
check_value S C y j = sum_of S C.n (λ i. S.product (digit y i) (C.check i j))

abbrev pub check_number : Symbols → Checks → ℕ → ℕ
check_number S C y = pack S.q C.r (check_value S C y)
