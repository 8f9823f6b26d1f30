-- Numbers by their digits, the lowest first. Definitions count places from 0; whatever a person sees counts them from 1.
use Rattle.std.specs.Prelude.{ℕ, zero, suc, ◌+◌, ◌*◌, ◌/◌, ◌%◌, ◌^◌}

-- f 0 + b * f 1 + b * b * f 2 + .., with n digits
unfoldable pub pack : ℕ → ℕ → (ℕ → ℕ) → ℕ
pack b zero f = 0
pack b (suc n) f = f 0 + b * pack b n (λ i. f (suc i))

-- the digit of u at place i, two bits wide
abbrev pub digit : ℕ → ℕ → ℕ
digit u i = u / 4 ^ i % 4

-- f 0 + f 1 + .. + f (n - 1)
unfoldable pub total : ℕ → (ℕ → ℕ) → ℕ
total zero f = 0
total (suc n) f = f 0 + total n (λ i. f (suc i))
