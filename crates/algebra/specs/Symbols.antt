-- An alphabet by its meaning: a count and plain functions. Its symbols are the numbers below the count.
use Rattle.std.specs.Prelude.{◌≡◌, ℕ, zero, suc, ◌+◌, ◌-◌, ◌*◌, ◌%◌, ◌<◌, ◌≤◌, cond, ◌&&◌, List, [], ◌∷◌, bit_xor, nat_lt, slice_index}

pub record Symbols : Type 0 where
  pub q : ℕ
  pub sum : ℕ → ℕ → ℕ
  pub opposite : ℕ → ℕ
  pub product : ℕ → ℕ → ℕ

-- The laws of every alphabet.
pub record Lawful (S : Symbols) : Type 0 where
  pub least : 2 ≤ S.q
  pub most : S.q ≤ 4
  pub sum_symbol : (s t : ℕ) → S.sum s t < S.q
  pub opposite_symbol : (s : ℕ) → S.opposite s < S.q
  pub product_symbol : (s h : ℕ) → S.product s h < S.q
  pub commutes : (s t : ℕ) → S.sum s t ≡ S.sum t s
  pub associates : (s t u : ℕ) → s < S.q → t < S.q → u < S.q → S.sum (S.sum s t) u ≡ S.sum s (S.sum t u)
  pub zero_adds_nothing : (s : ℕ) → s < S.q → S.sum 0 s ≡ s
  pub opposite_cancels : (s : ℕ) → s < S.q → S.sum s (S.opposite s) ≡ 0
  pub distributes : (s t h : ℕ) → s < S.q → t < S.q → h < S.q → S.product (S.sum s t) h ≡ S.sum (S.product s h) (S.product t h)
  pub sum_at_most : (s t : ℕ) → S.sum s t ≤ s + t
  -- given a number that is no symbol, each operation answers 0
  pub sum_outside_left : (s t : ℕ) → S.q ≤ s → S.sum s t ≡ 0
  pub sum_outside_right : (s t : ℕ) → S.q ≤ t → S.sum s t ≡ 0
  pub opposite_outside : (s : ℕ) → S.q ≤ s → S.opposite s ≡ 0
  pub product_outside_left : (s h : ℕ) → S.q ≤ s → S.product s h ≡ 0
  pub product_outside_right : (s h : ℕ) → S.q ≤ h → S.product s h ≡ 0

-- The alphabet of q symbols with these operations on symbols, and 0 for every other number.
abbrev pub alphabet : ℕ → (ℕ → ℕ → ℕ) → (ℕ → ℕ) → (ℕ → ℕ → ℕ) → Symbols
alphabet q sum opposite product = record {
  q = q;
  sum = λ s t. cond (nat_lt s q && nat_lt t q) (sum s t) 0;
  opposite = λ s. cond (nat_lt s q) (opposite s) 0;
  product = λ s h. cond (nat_lt s q && nat_lt h q) (product s h) 0;
}

-- the integers modulo q
abbrev pub modulo : ℕ → Symbols
modulo q = alphabet q (λ s t. (s + t) % q) (λ s. (q - s) % q) (λ s h. s * h % q)

abbrev pub bits : Symbols
bits = modulo 2

abbrev pub thirds : Symbols
thirds = modulo 3

-- The field of four elements: 1 is the unit, and 2 and 3 are the two roots of x * x = x + 1.
abbrev pub row_of_two : List ℕ
row_of_two = 0 ∷ 2 ∷ 3 ∷ 1 ∷ []

abbrev pub row_of_three : List ℕ
row_of_three = 0 ∷ 3 ∷ 1 ∷ 2 ∷ []

abbrev pub times4 : ℕ → ℕ → ℕ
times4 zero h = 0
times4 (suc zero) h = h
times4 (suc (suc zero)) h = slice_index row_of_two h
times4 (suc (suc (suc s))) h = slice_index row_of_three h

abbrev pub quads : Symbols
quads = alphabet 4 bit_xor (λ s. s) times4
