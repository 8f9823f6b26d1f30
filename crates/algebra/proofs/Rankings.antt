-- "Smaller sum over the places, then smaller number" is a lawful ranking, whatever each place counts within `Counts`: plain, weight
-- and cost are.
use Rattle.std.proofs.Common.{◌≡◌, ℕ, ◌+◌, ◌*◌, ◌%◌, ◌^◌, ◌<◌, ◌≤◌, min, Bool, true, false, ◌⊎◌, sym, ap, ◌∙◌, subst, inl, inr, ⊎_elim, zero-le, mul-le-mul_right, mod-eq_of_lt, add-mul, one-mul, mul-zero, zero-mul, mul-one, arith}
use native.Mathlib.Nat.{pow-le-pow_right}
use Rattle.std.proofs.lemmas.Bool.{cases_lt, true≢false}
use Rattle.std.proofs.lemmas.Bool.Decides.{nat_tests}
use Rattle.algebra.specs.Digits.{digit, total}
use Rattle.algebra.specs.Marks.{Mark, put, nonzero, weight}
use Rattle.algebra.specs.Rankings.{MarkRanking, Ranks, Counts, filled, first, measure, by_measure, cost_share, cost_of, by_cost, plain, by_weight}
use Rattle.algebra.specs.Symbols.{Symbols, Lawful}
use Rattle.algebra.proofs.Digits.{digit_past, mod_below, mod_digit, total_changed, total_extended, total_more, total_same, total_zeros}
use Rattle.algebra.proofs.Marks.{digit_fits, changed_put, put_below, put_digit}

-- the order of pairs
pub first_tells : (a b u v : ℕ) → first a b u v ≡ true → (a < b) ⊎ ((a ≡ b) × (u < v))
first_tells a b u v h = grind (arith, nat_tests)

pub first_holds : (a b u v : ℕ) → (a < b) ⊎ ((a ≡ b) × (u < v)) → first a b u v ≡ true
first_holds a b u v h = grind (arith, nat_tests)

pub same_first : (a a' b b' u u' v v' : ℕ) → a ≡ a' → b ≡ b' → u ≡ u' → v ≡ v' → first a b u v ≡ first a' b' u' v'
same_first a a' b b' u u' v v' p q r s = cc

-- at most as much in front, and less behind
first_at_most : (a b u v : ℕ) → a ≤ b → u < v → first a b u v ≡ true
first_at_most a b u v h k = grind (arith, nat_tests)

first_one_way : (a b u v : ℕ) → first a b u v ≡ true → first b a v u ≡ false
first_one_way a b u v h = grind (arith, nat_tests)

first_some_way : (a b u v : ℕ) → first a b u v ≡ false → first b a v u ≡ false → u ≡ v
first_some_way a b u v h k = grind (arith, nat_tests)

first_transitive : (a b c u v w : ℕ) → first a b u v ≡ true → first b c v w ≡ true → first a c u w ≡ true
first_transitive a b c u v w h k = grind (arith, nat_tests)

-- 0 weighs nothing, and every other symbol 1
pub nonzero_zero : (a : ℕ) → a ≡ 0 → nonzero a ≡ 0
nonzero_zero a h = grind (arith, nat_tests)

pub nonzero_one : (a : ℕ) → 0 < a → nonzero a ≡ 1
nonzero_one a h = grind (arith, nat_tests)

-- what a put symbol does to a mark's number: at most the symbol's share more than without the old one
module _ (n u i b : ℕ) (short : u < 4 ^ n) (inside : i < n) (symbol : b < 4) where
  pub put_number : put n u i b + digit u i * 4 ^ i ≡ u + b * 4 ^ i
  put_number = omega (arith, changed_put n u i b symbol inside short, digit_fits u i)

  -- and to a sum over its places
  pub put_total : (g : ℕ → ℕ → ℕ) → total n (λ j. g j (digit (put n u i b) j)) + g i (digit u i) ≡ total n (λ j. g j (digit u j)) + g i b
  put_total g =
      ap (λ x. x + g i (digit u i)) (total_same n _ _ (λ j h. ap (g j) (put_digit n u i b symbol j h)))
      ∙ total_changed n i g (digit u) b inside

-- a symbol put where 0 was makes the number larger
pub put_more : (n u i a : ℕ) → u < 4 ^ n → i < n → digit u i ≡ 0 → 0 < a → a < 4 → u < put n u i a
put_more n u i a h k e p l =
    let more : 1 * 4 ^ i ≤ a * 4 ^ i = mul-le-mul_right (4 ^ i) p in
    grind (arith, put_number n u i a h k l, pow-le-pow_right {n = 4} (omega arith) {i = 0} {j = i} zero-le, one-mul, zero-mul)

-- Filling a place of a mark with a symbol that is not 0, in any lawful alphabet.
module _ (n : ℕ) (S : Symbols) (lawful : Lawful S) (i a : ℕ) (inside : i < n) (some : 0 < a) (symbol : a < S.q) where
  sum_below : (u : ℕ) → S.sum (digit u i) a < 4
  sum_below u = omega (arith, lawful.sum_symbol (digit u i) a, lawful.most)

  pub filled_below : (u : ℕ) → filled S n u i a < 4 ^ n
  filled_below u = put_below n u i (S.sum (digit u i) a) (sum_below u)

  -- the number grows by at most the symbol's share
  pub filled_number : (u : ℕ) → u < 4 ^ n → filled S n u i a ≤ u + a * 4 ^ i
  filled_number u h = grind (arith, put_number, sum_below, mul-le-mul_right, add-mul)

  -- and by exactly that where the place was 0
  pub filled_blank : (v : ℕ) → digit v i ≡ 0 → S.sum (digit v i) a ≡ a
  filled_blank v blank = ap (λ x. S.sum x a) blank ∙ lawful.zero_adds_nothing a symbol

  pub filled_blank_number : (v : ℕ) → v < 4 ^ n → digit v i ≡ 0 → filled S n v i a ≡ v + a * 4 ^ i
  filled_blank_number v h blank = grind (arith, put_number, sum_below, filled_blank, zero-mul)

module _ (n : ℕ) (weighs : Bool) (share : ℕ → ℕ → ℕ) (least : 1 ≤ n) (most : n ≤ 24) (counts : Counts n share)
    (weight_is : weighs ≡ true → (u : ℕ) → measure n share u ≡ weight n u) where
  abbrev R : MarkRanking
  R = by_measure n weighs share

  measure_mod : (u : ℕ) → measure n share (u % 4 ^ n) ≡ measure n share u
  measure_mod u = total_same n _ _ (λ i h. ap (share i) (mod_digit n u i h))

  measure_put : (u i b : ℕ) → u < 4 ^ n → i < n → b < 4 → measure n share (put n u i b) + share i (digit u i) ≡ measure n share u + share i b
  measure_put u i b h k l = put_total n u i b h k l share

  none : (u i : ℕ) → i < n → digit u i ≡ 0 → share i (digit u i) ≡ 0
  none u i k e = ap (share i) e ∙ counts.nothing i k

  by_pair : (u v : ℕ) → u < 4 ^ n → v < 4 ^ n → (measure n share u < measure n share v) ⊎ ((measure n share u ≡ measure n share v) × (u < v)) → R.before u v ≡ true
  by_pair u v h k (inl l) = first_holds _ _ _ _ (inl l)
  by_pair u v h k (inr l) = first_holds _ _ _ _ (inr (l.0, omega (arith, mod-eq_of_lt h, mod-eq_of_lt k, l.1)))

  at_most : (u v : ℕ) → u < 4 ^ n → v < 4 ^ n → measure n share u ≤ measure n share v → u < v → R.before u v ≡ true
  at_most u v h k l m = first_at_most _ _ _ _ l (omega (arith, mod-eq_of_lt h, mod-eq_of_lt k))

  zero_first : (u i a : ℕ) → u < 4 ^ n → i < n → digit u i ≡ 0 → 0 < a → a < 4 → R.before u (put n u i a) ≡ true
  zero_first u i a h k e p l = at_most u (put n u i a) h (put_below n u i a l) (omega (arith, measure_put u i a h k l, none u i k e)) (put_more n u i a h k e p l)

  -- filling a place adds at most the symbol's share, and exactly that where it was 0
  module _ (S : Symbols) (lawful : Lawful S) (i a : ℕ) (inside : i < n) (some : 0 < a) (symbol : a < S.q) where
    filled_measure : (u : ℕ) → u < 4 ^ n → measure n share (filled S n u i a) ≤ measure n share u + share i a
    filled_measure u h = grind (arith, measure_put, sum_below)

    filled_blank_measure : (v : ℕ) → v < 4 ^ n → digit v i ≡ 0 → measure n share (filled S n v i a) ≡ measure n share v + share i a
    filled_blank_measure v h blank = grind (arith, measure_put, sum_below, filled_blank, none)

  filling_keeps : (S : Symbols) → Lawful S → (u v i a : ℕ) → Mark S n u → Mark S n v → R.before u v ≡ true
      → i < n → digit v i ≡ 0 → 0 < a → a < S.q → R.before (filled S n u i a) (filled S n v i a) ≡ true
  filling_keeps S lawful u v i a mu mv before inside blank some symbol = go (first_tells _ _ _ _ before)
    where
      more_u : measure n share (filled S n u i a) ≤ measure n share u + share i a
      more_u = filled_measure S lawful i a inside some symbol u mu.short

      more_v : measure n share (filled S n v i a) ≡ measure n share v + share i a
      more_v = filled_blank_measure S lawful i a inside some symbol v mv.short blank

      go : (measure n share u < measure n share v) ⊎ ((measure n share u ≡ measure n share v) × (u % 4 ^ n < v % 4 ^ n)) → R.before (filled S n u i a) (filled S n v i a) ≡ true
      go (inl h) = grind (arith, by_pair, filled_below, more_u, more_v)
      go (inr h) =
          at_most _ _ (filled_below n S lawful i a inside some symbol u) (filled_below n S lawful i a inside some symbol v) (omega (arith, more_u, more_v, h.0))
          (omega (arith, filled_number n S lawful i a inside some symbol u mu.short, filled_blank_number n S lawful i a inside some symbol v mv.short blank, h.1, mod-eq_of_lt mu.short, mod-eq_of_lt mv.short))

  pub by_measure_ranks : Ranks (by_measure n weighs share)
  by_measure_ranks = record {
    least = least;
    most = most;
    reads_its_places = λ u v. sym (same_first _ _ _ _ _ _ _ _ (measure_mod u) (measure_mod v) (mod-eq_of_lt (mod_below n u)) (mod-eq_of_lt (mod_below n v)));
    never_both = λ u v h. first_one_way (measure n share u) (measure n share v) (u % 4 ^ n) (v % 4 ^ n) h;
    some_way = λ u v h k l m. sym (mod-eq_of_lt h) ∙ first_some_way (measure n share u) (measure n share v) (u % 4 ^ n) (v % 4 ^ n) l m ∙ mod-eq_of_lt k;
    transitive = λ u v w h k. first_transitive (measure n share u) (measure n share v) (measure n share w) (u % 4 ^ n) (v % 4 ^ n) (w % 4 ^ n) h k;
    zero_first = zero_first;
    filling_keeps = filling_keeps;
    lighter_first = λ w u v h k l. by_pair u v h k (inl (omega (arith, weight_is w u, weight_is w v)));
  }

-- whatever the costs
nonzero_at_most : (s a t : ℕ) → t ≤ s + a → nonzero t ≤ nonzero s + nonzero a
nonzero_at_most s a t h = grind (arith, nat_tests)

pub cost_counts : (n : ℕ) (cost : ℕ → ℕ) → Counts n (cost_share cost)
cost_counts n cost = record {
  nothing = λ i _. zero-mul (cost i);
  at_most = λ i s a t _ h. subst (λ x. nonzero t * cost i ≤ x) (add-mul (nonzero s) (nonzero a) (cost i)) (mul-le-mul_right (cost i) (nonzero_at_most s a t h));
}

pub cost_ranks : (n : ℕ) (cost : ℕ → ℕ) → 1 ≤ n → n ≤ 24 → Ranks (by_cost n false cost)
cost_ranks n cost least most = by_measure_ranks n false (cost_share cost) least most (cost_counts n cost) (λ h. absurd (true≢false (sym h)))

pub plain_ranks : (n : ℕ) → 1 ≤ n → n ≤ 24 → Ranks (plain n)
plain_ranks n least most = cost_ranks n (λ _. 0) least most

-- costs of 1 sum to the weight
pub ones_weigh : (n u : ℕ) → cost_of n (λ _. 1) u ≡ weight n u
ones_weigh n u = total_same n _ _ (λ i _. mul-one (nonzero (digit u i)))

pub weight_ranks : (n : ℕ) → 1 ≤ n → n ≤ 24 → Ranks (by_weight n)
weight_ranks n least most = by_measure_ranks n true (cost_share (λ _. 1)) least most (cost_counts n (λ _. 1)) (λ _. ones_weigh n)

-- the sums that the rules plain and weight compare
pub free_cost : (n u : ℕ) → cost_of n (λ _. 0) u ≡ 0
free_cost n u = total_zeros n _ (λ i _. mul-zero (nonzero (digit u i)))

pub weight_cost : (n u : ℕ) → n ≤ 32 → weight 32 (u % 4 ^ n) ≡ cost_of n (λ _. 1) u
weight_cost n u h =
    total_extended n 32 _ (λ i k _. nonzero_zero (digit (u % 4 ^ n) i) (digit_past n (u % 4 ^ n) i (mod_below n u) k)) h
    ∙ total_same n _ _ (λ i k. ap nonzero (mod_digit n u i k)) ∙ sym (ones_weigh n u)

-- the sum that the rule weight compares, of a number of 64 bits, however many places count
pub weight_cost_fitting : (n u : ℕ) → u < 4 ^ 32 → weight 32 (u % 4 ^ n) ≡ cost_of n (λ _. 1) u
weight_cost_fitting n u h = ⊎_elim (λ k. weight_cost n u (omega arith)) past (cases_lt n 32)
  where
    past : 32 ≤ n → weight 32 (u % 4 ^ n) ≡ cost_of n (λ _. 1) u
    past k =
        ap (weight 32) (mod-eq_of_lt (omega (arith, pow-le-pow_right {n = 4} (omega arith) k)))
        ∙ sym (total_extended 32 n _ (λ i l _. nonzero_zero (digit u i) (digit_past 32 u i h l)) k) ∙ sym (ones_weigh n u)

-- a number of 64 bits has no place past the 32nd
pub cost_fitting : (n : ℕ) (cost : ℕ → ℕ) (u : ℕ) → u < 4 ^ 32 → cost_of n cost u ≡ cost_of (min n 32) cost u
cost_fitting n cost u h =
    total_extended (min n 32) n _
    (λ i k l. ap (λ x. x * cost i) (nonzero_zero (digit u i) (digit_past 32 u i h (omega arith))) ∙ zero-mul (cost i))
    (omega arith)

-- a sum of costs, one place more: the cost counts where the symbol is not 0
pub cost_more : (n : ℕ) (cost : ℕ → ℕ) (u : ℕ) → 0 < digit u n → cost_of (n + 1) cost u ≡ cost_of n cost u + cost n
cost_more n cost u h = grind (arith, total_more, nonzero_one, one-mul)

pub cost_same : (n : ℕ) (cost : ℕ → ℕ) (u : ℕ) → digit u n ≡ 0 → cost_of (n + 1) cost u ≡ cost_of n cost u
cost_same n cost u h = grind (arith, total_more, nonzero_zero, zero-mul)
