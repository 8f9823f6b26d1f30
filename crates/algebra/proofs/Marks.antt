-- What the packed forms of a mark come to: the bytes and back, one symbol set, and the weight by a count of ones.
use Rattle.std.proofs.Common.{◌≡◌, ℕ, zero, suc, ◌+◌, ◌-◌, ◌*◌, ◌/◌, ◌%◌, ◌^◌, ◌<◌, ◌≤◌, Bool, true, false, cond, eqb, List, length, get_or, sym, refl, ap, ◌∙◌, ap₂, ⊎_elim, add_comm, zero-mul, arith, lit<}
use native.Mathlib.Nat.{pow-succ', pow-le-pow_right}
use lib.Bits.{bit_and, bit_or, and_block, or_block, and_mask, and_zero_r, or_lt, or_mod}
use lib.Count.{ones, ones_in, ones_cat}
use Rattle.std.proofs.lemmas.List.FromFn.{length-map-range_with_len, get_or-map-range_with_len, fill_by_all}
use Rattle.std.proofs.lemmas.Bool.{cases_lt, cond-false, cond_both, ne_eqb}
use Rattle.std.proofs.lemmas.Bool.Decides.{nat_tests}
use Rattle.algebra.specs.Digits.{pack, digit, total}
use Rattle.algebra.specs.Marks.{Mark, number_of, bytes_of, put, weight, nonzero}
use Rattle.algebra.specs.Symbols.{Symbols, Lawful}
use Rattle.algebra.proofs.Digits.{eqb_suc, digit_first, digit_rest, digit_symbol, place_up, digit_past, digit_joined_first, digit_joined_rest, same_digits, pack_below, pack_digit, pack_same, pack_digits, pack_more, total_same}

-- a mark by its digits: those past the last place are 0 anyway
pub mark_by_digits : (S : Symbols) → Lawful S → (n u : ℕ) → u < 4 ^ n → ((i : ℕ) → i < n → digit u i < S.q) → Mark S n u
mark_by_digits S lawful n u short each = record {
  short = short;
  symbols = λ i. ⊎_elim (each i) (λ past. omega (arith, digit_past n u i short past, lawful.least)) (cases_lt i n);
}

-- bytes that spell symbols come back from the number
pub bytes_back : (n : ℕ) (bytes : List ℕ) → length bytes ≡ n → ((i : ℕ) → i < n → get_or bytes i 0 < 4) → bytes_of n (number_of bytes) ≡ bytes
bytes_back n bytes long small =
    sym (fill_by_all (digit (number_of bytes)) bytes n 0 long (λ k h. sym (each k h)))
  where
    each : (k : ℕ) → k < n → digit (number_of bytes) k ≡ get_or bytes k 0
    each k h = pack_digit (length bytes) (λ i. get_or bytes i 0) (λ i l. small i (omega arith)) k (omega arith)

-- the number comes back from its bytes
pub number_back : (n u : ℕ) → u < 4 ^ n → number_of (bytes_of n u) ≡ u
number_back n u h =
    ap (λ k. pack 4 k (λ i. get_or (bytes_of n u) i 0)) (length-map-range_with_len (digit u) 0 n)
    ∙ pack_same 4 n (λ i. get_or (bytes_of n u) i 0) (digit u) (λ i k. get_or-map-range_with_len (digit u) 0 n i i 0 k (omega arith))
    ∙ pack_digits n u h

-- 2 ^ (2 * i), as a shift by two bits a place has it
pub two_bits : (i : ℕ) → 2 ^ (2 * i) ≡ 4 ^ i
two_bits zero = refl
two_bits (suc i) =
    let e : 2 * suc i ≡ suc (suc (2 * i)) = omega arith in
    ap (λ k. 2 ^ k) e ∙ omega (arith, pow-succ' 2 (suc (2 * i)), pow-succ' 2 (2 * i), pow-succ' 4 i, two_bits i)

share_rest : (u i : ℕ) → digit u (suc i) * 4 ^ suc i ≡ 4 * (digit (u / 4) i * 4 ^ i)
share_rest u i = ap (λ d. d * 4 ^ suc i) (digit_rest u i) ∙ place_up 4 (digit (u / 4) i) i

-- one digit taken out and another put in its place
pub digit_fits : (u i : ℕ) → digit u i * 4 ^ i ≤ u
digit_fits u zero = omega (arith, digit_first u)
digit_fits u (suc i) = omega (arith, share_rest u i, digit_fits (u / 4) i)

abbrev changed : ℕ → ℕ → ℕ → ℕ
changed u i a = u - digit u i * 4 ^ i + a * 4 ^ i

changed_first : (u a : ℕ) → changed u 0 a ≡ a + 4 * (u / 4)
changed_first u a = omega (arith, digit_first u)

changed_rest : (u i a : ℕ) → changed u (suc i) a ≡ u % 4 + 4 * changed (u / 4) i a
changed_rest u i a = omega (arith, share_rest u i, place_up 4 a i, digit_fits (u / 4) i)

pub changed_fits : (n u i a : ℕ) → a < 4 → i < n → u < 4 ^ n → u - digit u i * 4 ^ i + a * 4 ^ i < 4 ^ n
changed_fits zero u i a h k l = absurd (omega arith)
changed_fits (suc n) u zero a h k l = omega (arith, changed_first u a, pow-succ' 4 n)
changed_fits (suc n) u (suc i) a h k l =
    omega (arith, changed_rest u i a, pow-succ' 4 n, changed_fits n (u / 4) i a h (omega arith) (omega (arith, pow-succ' 4 n)))

pub changed_digit : (u i a : ℕ) → a < 4 → (j : ℕ) → digit (u - digit u i * 4 ^ i + a * 4 ^ i) j ≡ cond (eqb j i) a (digit u j)
changed_digit u zero a h zero = ap (λ w. digit w 0) (changed_first u a) ∙ digit_joined_first a (u / 4) h
changed_digit u zero a h (suc j) = grind (arith, nat_tests, changed_first, digit_joined_rest, digit_rest)
changed_digit u (suc i) a h zero = grind (arith, nat_tests, changed_rest, digit_joined_first, digit_first)
changed_digit u (suc i) a h (suc j) =
    ap (λ w. digit w (suc j)) (changed_rest u i a) ∙ digit_joined_rest (u % 4) (changed (u / 4) i a) j (omega arith)
    ∙ changed_digit (u / 4) i a h j
    ∙ ap₂ (λ t d. cond t a d) (sym (eqb_suc j i)) (sym (digit_rest u j))

-- the bound of `put`, and its digits
put_symbol : (u i a : ℕ) → a < 4 → (j : ℕ) → cond (eqb j i) a (digit u j) < 4
put_symbol u i a h j = cond_both (eqb j i) a (digit u j) (λ x. x < 4) (λ _. h) (λ _. digit_symbol u j)

pub put_below : (n u i a : ℕ) → a < 4 → put n u i a < 4 ^ n
put_below n u i a h = pack_below 4 n (λ j. cond (eqb j i) a (digit u j)) (λ j _. put_symbol u i a h j)

pub put_digit : (n u i a : ℕ) → a < 4 → (j : ℕ) → j < n → digit (put n u i a) j ≡ cond (eqb j i) a (digit u j)
put_digit n u i a h = pack_digit n (λ j. cond (eqb j i) a (digit u j)) (λ j _. put_symbol u i a h j)

-- what is changed in place is what `put` says
pub changed_put : (n u i a : ℕ) → a < 4 → i < n → u < 4 ^ n → u - digit u i * 4 ^ i + a * 4 ^ i ≡ put n u i a
changed_put n u i a h k l =
    same_digits n (changed u i a) (put n u i a) (changed_fits n u i a h k l) (put_below n u i a h)
    (λ j m. changed_digit u i a h j ∙ sym (put_digit n u i a h j m))

-- a place past the last one is none
pub put_past : (n u i a : ℕ) → u < 4 ^ n → n ≤ i → put n u i a ≡ u
put_past n u i a h k =
    pack_same 4 n (λ j. cond (eqb j i) a (digit u j)) (digit u) (λ j l. cond-false (eqb j i) a (digit u j) (ne_eqb j i (omega arith)))
    ∙ pack_digits n u h

-- a number is packed by putting one digit after the other
pub put_next : (n i : ℕ) (f : ℕ → ℕ) → i < n → ((j : ℕ) → j < i + 1 → f j < 4) → put n (pack 4 i f) i (f i) ≡ pack 4 (i + 1) f
put_next n i f h small =
    let packed : pack 4 i f < 4 ^ i = pack_below 4 i f (λ j k. small j (omega arith)) in
    let short : pack 4 i f < 4 ^ n = omega (arith, pow-le-pow_right {n = 4} (omega arith) {i = i} {j = n} (omega arith)) in
    let blank : digit (pack 4 i f) i ≡ 0 = digit_past i (pack 4 i f) i packed (omega arith) in
    grind (arith, changed_put n (pack 4 i f) i (f i) (small i (omega arith)) h short, pack_more 4 i f, zero-mul)

-- one bit for each of n places
abbrev lows : ℕ → ℕ
lows n = pack 4 n (λ _. 1)

fold_digit : (d : ℕ) → d < 4 → bit_or (d % 2) (d / 2) ≡ nonzero d
fold_digit zero h = refl
fold_digit (suc zero) h = refl
fold_digit (suc (suc zero)) h = refl
fold_digit (suc (suc (suc zero))) h = refl
fold_digit (suc (suc (suc (suc d)))) h = absurd (omega arith)

folded_first : (u : ℕ) → bit_and (bit_or (u % 4) (u / 2 % 4)) 1 ≡ nonzero (u % 4)
folded_first u =
    let low : u / 2 % 4 % 2 ≡ u % 4 / 2 = omega arith in
    and_mask (bit_or (u % 4) (u / 2 % 4)) 1 ∙ or_mod (u % 4) (u / 2 % 4) 1
    ∙ ap (λ x. bit_or (u % 4 % 2) x) low ∙ fold_digit (u % 4) (omega arith)

ones_bit : (b : Bool) → ones (cond b 0 1) ≡ cond b 0 1
unfolding ones ones_in
ones_bit true = refl
ones_bit false = refl

-- each place's two bits folded into the lower one, and the ones counted
pub folded_weight : (n u : ℕ) → ones (bit_and (bit_or u (u / 2)) (lows n)) ≡ weight n u
unfolding pack total ones
folded_weight zero u = ap ones (and_zero_r (bit_or u (u / 2)))
folded_weight (suc n) u =
    let w : ℕ = u / 4 in
    let split : u ≡ w * 2 ^ 2 + u % 4 = omega arith in
    let split_half : u / 2 ≡ w / 2 * 2 ^ 2 + u / 2 % 4 = omega arith in
    let merged : bit_or u (u / 2) ≡ bit_or w (w / 2) * 2 ^ 2 + bit_or (u % 4) (u / 2 % 4) =
    ap₂ bit_or split split_half ∙ or_block 2 w (w / 2) (u % 4) (u / 2 % 4) (omega arith) (omega arith)
    in
    let mask : lows (suc n) ≡ lows n * 2 ^ 2 + 1 = omega arith in
    let masked : bit_and (bit_or u (u / 2)) (lows (suc n)) ≡ bit_and (bit_or w (w / 2)) (lows n) * 2 ^ 2 + nonzero (u % 4) =
    ap₂ bit_and merged mask
    ∙ and_block 2 (bit_or w (w / 2)) (lows n) (bit_or (u % 4) (u / 2 % 4)) 1 (or_lt 2 (u % 4) (u / 2 % 4) (omega arith) (omega arith)) (omega arith)
    ∙ ap (λ x. bit_and (bit_or w (w / 2)) (lows n) * 2 ^ 2 + x) (folded_first u)
    in
    ap ones masked ∙ ones_cat 2 (bit_and (bit_or w (w / 2)) (lows n)) (nonzero (u % 4)) (bit_below (eqb (u % 4) 0))
    ∙ ap₂ (λ x y. x + y) (folded_weight n w) (ones_bit (eqb (u % 4) 0))
    ∙ ap₂ (λ x y. x + nonzero y) (total_same n (λ i. nonzero (digit w i)) (λ i. nonzero (digit u (suc i))) (λ i _. ap nonzero (sym (digit_rest u i)))) (sym (digit_first u))
    ∙ add_comm (total n (λ i. nonzero (digit u (suc i)))) (nonzero (digit u 0))
  where
    bit_below : (b : Bool) → cond b 0 1 < 2 ^ 2
    bit_below true = lit< tt
    bit_below false = lit< tt
