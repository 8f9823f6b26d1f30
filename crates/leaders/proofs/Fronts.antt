-- The first digits of a mark, grown one by one.
use Rattle.std.proofs.Common.{◌≡◌, ℕ, suc, ◌<◌, ◌≤◌, ◌⊎◌, sym, ap, ◌∙◌, inl, inr, ⊎_elim, zero-mul, add-one, arith}
use native.Mathlib.Nat.{pow-le-pow_right}
use Rattle.std.proofs.lemmas.Bool.{cases_lt}
use Rattle.algebra.specs.Digits.{pack, digit}
use Rattle.algebra.specs.Marks.{Mark, put, nonzero, weight}
use Rattle.algebra.specs.Rankings.{filled}
use Rattle.algebra.specs.Symbols.{Symbols, Lawful}
use Rattle.algebra.proofs.Digits.{digit_past, digit_symbol, pack_below, pack_digit, pack_more, total_extended, total_same}
use Rattle.algebra.proofs.Marks.{put_next}
use Rattle.algebra.proofs.Rankings.{nonzero_zero}
use Rattle.leaders.proofs.Adding.{packed_mark}

-- the first k digits of u
abbrev pub front : ℕ → ℕ → ℕ
front u k = pack 4 k (digit u)

front_in : (u k i : ℕ) → i < k → digit (front u k) i ≡ digit u i
front_in u k = pack_digit k (digit u) (λ j _. digit_symbol u j)

front_past : (u k i : ℕ) → k ≤ i → digit (front u k) i ≡ 0
front_past u k i = digit_past k (front u k) i (pack_below 4 k (digit u) (λ j _. digit_symbol u j))

-- it has 0 or the digit of u
pub front_digit : (u k i : ℕ) → (digit (front u k) i ≡ 0) ⊎ (digit (front u k) i ≡ digit u i)
front_digit u k i = ⊎_elim (λ h. inr (front_in u k i h)) (λ h. inl (front_past u k i h)) (cases_lt i k)

pub front_weight : (n u k : ℕ) → k ≤ n → weight n (front u k) ≡ weight k u
front_weight n u k h =
    total_extended k n (λ i. nonzero (digit (front u k) i)) (λ i l _. nonzero_zero (digit (front u k) i) (front_past u k i l)) h
    ∙ total_same k _ _ (λ i l. ap nonzero (front_in u k i l))

-- the next digit, where it is 0
pub front_same : (u k : ℕ) → digit u k ≡ 0 → front u (suc k) ≡ front u k
front_same u k e =
    ap (front u) (sym (add-one k)) ∙ pack_more 4 k (digit u) ∙ grind (arith, zero-mul)

-- and any, as it is added
module _ (S : Symbols) (lawful : Lawful S) (n u k : ℕ) (mark : Mark S n u) where
  pub front_mark : k ≤ n → Mark S n (front u k)
  front_mark h =
      let m : Mark S k (front u k) = packed_mark S lawful k (digit u) mark.symbols in
      record { short = omega (arith, m.short, pow-le-pow_right {n = 4} (omega arith) h); symbols = m.symbols }

  pub front_more : k < n → filled S n (front u k) k (digit u k) ≡ front u (suc k)
  front_more h =
      ap (put n (front u k) k) (ap (λ d. S.sum d (digit u k)) (front_past u k k (omega arith)) ∙ lawful.zero_adds_nothing (digit u k) (mark.symbols k))
      ∙ put_next n k (digit u) h (λ j _. digit_symbol u j) ∙ ap (front u) (add-one k)
