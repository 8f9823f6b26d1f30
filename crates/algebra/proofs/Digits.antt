-- The laws of digits: a packed number has the digits it was packed from, and numbers with the same digits are equal.
use Rattle.std.proofs.Common.{◌≡◌, ℕ, zero, suc, ◌+◌, ◌*◌, ◌/◌, ◌%◌, ◌^◌, ◌<◌, ◌≤◌, cond, eqb, sym, refl, ap, ◌∙◌, ap₂, suc-le-suc, zero-le, mul_assoc, mul_comm, mul-le-mul_left, mul-zero, mul-one, mul-add, add-one, arith}
use native.Mathlib.Nat.{pow-zero, pow-succ', pow-le-pow_right, div-div-eq-div-mul}
use Rattle.std.proofs.lemmas.Nat.{mod-mul-add}
use Rattle.std.proofs.lemmas.Bool.{cond-false, ne_eqb}
use Rattle.std.proofs.lemmas.Bool.Decides.{nat_tests}
use Rattle.std.proofs.lemmas.Grind.{common_steps}
use Rattle.std.proofs.Math.Nat.{eq_of_mul-eq-mul_left}
use Rattle.algebra.specs.Digits.{pack, digit, total}

pub eqb_suc : (j i : ℕ) → eqb (suc j) (suc i) ≡ eqb j i
eqb_suc j i = grind (arith, nat_tests)

pub digit_first : (u : ℕ) → digit u 0 ≡ u % 4
digit_first u = omega arith

over_next : (u i : ℕ) → u / 4 ^ suc i ≡ u / 4 / 4 ^ i
over_next u i = ap (λ b. u / b) (pow-succ' 4 i) ∙ sym (div-div-eq-div-mul u 4 (4 ^ i))

pub digit_rest : (u i : ℕ) → digit u (suc i) ≡ digit (u / 4) i
digit_rest u i = ap (λ d. d % 4) (over_next u i)

pub digit_symbol : (u i : ℕ) → digit u i < 4
digit_symbol u i = omega arith

-- one place up, a digit counts b times as much
pub place_up : (b d n : ℕ) → d * b ^ suc n ≡ b * (d * b ^ n)
place_up b d n = ap (λ x. d * x) (pow-succ' b n) ∙ sym (mul_assoc d b (b ^ n)) ∙ ap (λ x. x * b ^ n) (mul_comm d b) ∙ mul_assoc b d (b ^ n)

-- a digit of 4 * w + d, with d the first
pub digit_joined_first : (d w : ℕ) → d < 4 → digit (d + 4 * w) 0 ≡ d
digit_joined_first d w h = digit_first (d + 4 * w) ∙ omega arith

pub digit_joined_rest : (d w i : ℕ) → d < 4 → digit (d + 4 * w) (suc i) ≡ digit w i
digit_joined_rest d w i h =
    grind (arith, digit_rest)

pub digit_past : (n u i : ℕ) → u < 4 ^ n → n ≤ i → digit u i ≡ 0
digit_past zero u zero h k = omega arith
digit_past zero u (suc i) h k =
    digit_rest u i ∙ digit_past zero (u / 4) i (omega arith) (zero-le)
digit_past (suc n) u zero h k = absurd (omega arith)
digit_past (suc n) u (suc i) h k =
    digit_rest u i ∙ digit_past n (u / 4) i (omega (arith, pow-succ' 4 n)) (omega arith)

pub zero_digit : (i : ℕ) → digit 0 i ≡ 0
zero_digit i = digit_past 0 0 i (omega arith) zero-le

pub same_digits : (n u v : ℕ) → u < 4 ^ n → v < 4 ^ n → ((i : ℕ) → i < n → digit u i ≡ digit v i) → u ≡ v
same_digits zero u v hu hv e = omega arith
same_digits (suc n) u v hu hv e =
    let first : u % 4 ≡ v % 4 = sym (digit_first u) ∙ e 0 (omega arith) ∙ digit_first v in
    let rest : u / 4 ≡ v / 4 =
    same_digits n (u / 4) (v / 4) (omega (arith, pow-succ' 4 n)) (omega (arith, pow-succ' 4 n))
    (λ i h. sym (digit_rest u i) ∙ e (suc i) (omega arith) ∙ digit_rest v i)
    in omega arith

pub pack_below : (b n : ℕ) (f : ℕ → ℕ) → ((i : ℕ) → i < n → f i < b) → pack b n f < b ^ n
unfolding pack
pack_below b zero f h = omega (arith, pow-zero b)
pack_below b (suc n) f h =
    let rest = pack_below b n (λ i. f (suc i)) (λ i k. h (suc i) (omega arith)) in
    let first = h 0 (omega arith) in
    let more : b * suc (pack b n (λ i. f (suc i))) ≤ b * b ^ n = mul-le-mul_left b rest in
    let split : b * suc (pack b n (λ i. f (suc i))) ≡ b * pack b n (λ i. f (suc i)) + b = omega (arith, mul-add b (pack b n (λ i. f (suc i))) 1) in
    omega (arith, pow-succ' b n)

pub pack_digit : (n : ℕ) (f : ℕ → ℕ) → ((i : ℕ) → i < n → f i < 4) → (i : ℕ) → i < n → digit (pack 4 n f) i ≡ f i
unfolding pack
pack_digit zero f h i k = absurd (omega arith)
pack_digit (suc n) f h zero k = digit_joined_first (f 0) (pack 4 n (λ j. f (suc j))) (h 0 (omega arith))
pack_digit (suc n) f h (suc i) k =
    digit_joined_rest (f 0) (pack 4 n (λ j. f (suc j))) i (h 0 (omega arith))
    ∙ pack_digit n (λ j. f (suc j)) (λ j l. h (suc j) (omega arith)) i (omega arith)

pub pack_same : (b n : ℕ) (f g : ℕ → ℕ) → ((i : ℕ) → i < n → f i ≡ g i) → pack b n f ≡ pack b n g
unfolding pack
pack_same b zero f g e = refl
pack_same b (suc n) f g e =
    ap₂ (λ x y. x + b * y) (e 0 (omega arith)) (pack_same b n (λ i. f (suc i)) (λ i. g (suc i)) (λ i h. e (suc i) (omega arith)))

-- a number is packed from its own digits
pub pack_digits : (n u : ℕ) → u < 4 ^ n → pack 4 n (digit u) ≡ u
pack_digits n u h =
    same_digits n (pack 4 n (digit u)) u (pack_below 4 n (digit u) (λ i _. digit_symbol u i)) h
    (pack_digit n (digit u) (λ i _. digit_symbol u i))

pack_top : (b n : ℕ) (f : ℕ → ℕ) → pack b (suc n) f ≡ pack b n f + f n * b ^ n
unfolding pack
pack_top b zero f = omega (arith, mul-zero b, ap (λ x. f 0 * x) (pow-zero b), mul-one (f 0))
pack_top b (suc n) f =
    ap (λ x. f 0 + b * x) (pack_top b n (λ i. f (suc i)))
    ∙ omega (arith, mul-add b (pack b n (λ i. f (suc i))) (f (suc n) * b ^ n), place_up b (f (suc n)) n)

pub pack_none : (b : ℕ) (f : ℕ → ℕ) → pack b 0 f ≡ 0
unfolding pack
pack_none b f = refl

-- the digits of a number below place n, and what they leave
low_digits : (n u : ℕ) → u ≡ u / 4 ^ n * 4 ^ n + pack 4 n (digit u)
unfolding pack
low_digits zero u = omega arith
low_digits (suc n) u =
    let w : ℕ = u / 4 in
    let rest : pack 4 n (λ i. digit u (suc i)) ≡ pack 4 n (digit w) = pack_same 4 n (λ i. digit u (suc i)) (digit w) (λ i _. digit_rest u i) in
    let high : u / 4 ^ suc n * 4 ^ suc n ≡ 4 * (w / 4 ^ n * 4 ^ n) = ap (λ x. x * 4 ^ suc n) (over_next u n) ∙ place_up 4 (w / 4 ^ n) n in
    omega (arith, low_digits n w, digit_first u)

pub mod_digits : (n u : ℕ) → u % 4 ^ n ≡ pack 4 n (digit u)
mod_digits n u =
    ap (λ x. x % 4 ^ n) (low_digits n u)
    ∙ mod-mul-add (u / 4 ^ n) (4 ^ n) (pack 4 n (digit u)) (pack_below 4 n (digit u) (λ i _. digit_symbol u i))

pub mod_below : (n u : ℕ) → u % 4 ^ n < 4 ^ n
mod_below n u = omega (arith, pow-le-pow_right {n = 4} (omega arith) {i = 0} {j = n} zero-le)

pub mod_digit : (n u i : ℕ) → i < n → digit (u % 4 ^ n) i ≡ digit u i
mod_digit n u i h = ap (λ x. digit x i) (mod_digits n u) ∙ pack_digit n (digit u) (λ j _. digit_symbol u j) i h

-- one digit more, at the top
pub pack_more : (b n : ℕ) (f : ℕ → ℕ) → pack b (n + 1) f ≡ pack b n f + f n * b ^ n
pack_more b n f = ap (λ k. pack b k f) (add-one n) ∙ pack_top b n f

-- no digits more than 64 bits hold
pub pack_fits : (n : ℕ) (f : ℕ → ℕ) → n ≤ 32 → ((i : ℕ) → i < n → f i < 4) → pack 4 n f < 2 ^ 64
pack_fits n f h small = omega (arith, pack_below 4 n f small, pow-le-pow_right {n = 4} (omega arith) h)

-- a number packed from zeros alone is 0, and no other is
pub pack_zeros : (b n : ℕ) (f : ℕ → ℕ) → ((i : ℕ) → i < n → f i ≡ 0) → pack b n f ≡ 0
unfolding pack
pack_zeros b zero f h = refl
pack_zeros b (suc n) f h =
    let rest = pack_zeros b n (λ i. f (suc i)) (λ i k. h (suc i) (omega arith)) in
    let times : b * pack b n (λ i. f (suc i)) ≡ 0 = ap (λ x. b * x) rest ∙ mul-zero b in
    omega (arith, h 0 (omega arith))

pub zeros_packed : (b n : ℕ) (f : ℕ → ℕ) → 0 < b → pack b n f ≡ 0 → (i : ℕ) → i < n → f i ≡ 0
unfolding pack
zeros_packed b zero f p e i h = absurd (omega arith)
zeros_packed b (suc n) f p e zero h = omega arith
zeros_packed b (suc n) f p e (suc i) h =
    zeros_packed b n (λ j. f (suc j)) p (eq_of_mul-eq-mul_left b p _ 0 (omega (arith, mul-zero b))) i (omega arith)

pub total_top : (n : ℕ) (f : ℕ → ℕ) → total (suc n) f ≡ total n f + f n
unfolding total
total_top zero f = omega arith
total_top (suc n) f = omega (arith, total_top n (λ i. f (suc i)))

pub total_more : (n : ℕ) (f : ℕ → ℕ) → total (n + 1) f ≡ total n f + f n
total_more n f = ap (λ k. total k f) (add-one n) ∙ total_top n f

pub total_same : (n : ℕ) (f g : ℕ → ℕ) → ((i : ℕ) → i < n → f i ≡ g i) → total n f ≡ total n g
unfolding total
total_same zero f g e = refl
total_same (suc n) f g e =
    ap₂ (λ x y. x + y) (e 0 (omega arith)) (total_same n (λ i. f (suc i)) (λ i. g (suc i)) (λ i h. e (suc i) (omega arith)))

-- each term is at most the total
pub total_term : (n : ℕ) (f : ℕ → ℕ) (i : ℕ) → i < n → f i ≤ total n f
unfolding total
total_term zero f i h = absurd (omega arith)
total_term (suc n) f zero h = omega arith
total_term (suc n) f (suc i) h = omega (arith, total_term n (λ j. f (suc j)) i (omega arith))

-- a total after one term is changed
pub total_changed : (n i : ℕ) (g : ℕ → ℕ → ℕ) (d : ℕ → ℕ) (b : ℕ) → i < n
    → total n (λ j. g j (cond (eqb j i) b (d j))) + g i (d i) ≡ total n (λ j. g j (d j)) + g i b
unfolding total
total_changed zero i g d b h = absurd (omega arith)
total_changed (suc n) zero g d b h =
    grind (arith, common_steps)
total_changed (suc n) (suc i) g d b h =
    let here : g 0 (cond (eqb 0 (suc i)) b (d 0)) ≡ g 0 (d 0) = ap (g 0) (cond-false (eqb 0 (suc i)) b (d 0) (ne_eqb 0 (suc i) (omega arith))) in
    let rest : total n (λ j. g (suc j) (cond (eqb (suc j) (suc i)) b (d (suc j)))) ≡ total n (λ j. g (suc j) (cond (eqb j i) b (d (suc j)))) =
    total_same n _ _ (λ j _. ap (λ t. g (suc j) (cond t b (d (suc j)))) (eqb_suc j i))
    in omega (arith, total_changed n i (λ j. g (suc j)) (λ j. d (suc j)) b (omega arith))

pub total_zeros : (n : ℕ) (f : ℕ → ℕ) → ((i : ℕ) → i < n → f i ≡ 0) → total n f ≡ 0
unfolding total
total_zeros zero f h = refl
total_zeros (suc n) f h = omega (arith, h 0 (omega arith), total_zeros n (λ i. f (suc i)) (λ i k. h (suc i) (omega arith)))

-- terms that are 0 add nothing
pub total_extended : (n m : ℕ) (f : ℕ → ℕ) → ((i : ℕ) → n ≤ i → i < m → f i ≡ 0) → n ≤ m → total m f ≡ total n f
unfolding total
total_extended zero m f h k = total_zeros m f (λ i l. h i zero-le l)
total_extended (suc n) zero f h k = absurd (omega arith)
total_extended (suc n) (suc m) f h k = omega (arith, total_extended n m (λ i. f (suc i)) (λ i l s. h (suc i) (suc-le-suc l) (suc-le-suc s)) (omega arith))
