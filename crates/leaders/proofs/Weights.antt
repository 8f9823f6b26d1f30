-- Weights: of a part of a mark, of a difference, and the least in a list.
use Rattle.std.proofs.Common.{◌≡◌, ℕ, zero, suc, ◌+◌, ◌-◌, ◌/◌, ◌^◌, ◌<◌, ◌≤◌, cond, eqb, ◌⊎◌, List, [], ◌∷◌, refl, ap, inl, inr, ⊎_elim, arith}
use Rattle.std.specs.List.{ContainsAt as Has}
use Rattle.std.proofs.lemmas.Bool.{cases_lt}
use Rattle.std.proofs.lemmas.Bool.Decides.{nat_tests}
use Rattle.algebra.specs.Digits.{digit, total}
use Rattle.algebra.specs.Marks.{Mark, minus, nonzero, weight}
use Rattle.algebra.specs.Symbols.{Symbols, Lawful}
use Rattle.algebra.proofs.Digits.{total_term, total_top}
use Rattle.algebra.proofs.Rankings.{nonzero_one}
use Rattle.leaders.specs.Heads.{least_weight, limit_of}
use Rattle.leaders.specs.Leaders.{differing}
use Rattle.leaders.proofs.Adding.{differing_weight}
use Rattle.leaders.proofs.Growth.{Top, top_of}
use Rattle.leaders.proofs.Ranked.{has_here, has_there, has_cases}

total_sum : (n : ℕ) (f g h : ℕ → ℕ) → ((i : ℕ) → i < n → f i + g i ≡ h i) → total n f + total n g ≡ total n h
unfolding total
total_sum zero f g h e = refl
total_sum (suc n) f g h e =
    omega (arith, e 0 (omega arith), total_sum n (λ i. f (suc i)) (λ i. g (suc i)) (λ i. h (suc i)) (λ i l. e (suc i) (omega arith)))

total_most : (n : ℕ) (f g h : ℕ → ℕ) → ((i : ℕ) → i < n → f i ≤ g i + h i) → total n f ≤ total n g + total n h
unfolding total
total_most zero f g h e = omega arith
total_most (suc n) f g h e =
    omega (arith, e 0 (omega arith), total_most n (λ i. f (suc i)) (λ i. g (suc i)) (λ i. h (suc i)) (λ i l. e (suc i) (omega arith)))

-- a mark weighs as much as one that sits in it and what they differ by
pub sits_weight : (n u w : ℕ) → ((i : ℕ) → i < n → (digit u i ≡ 0) ⊎ (digit u i ≡ digit w i)) → weight n u + differing n u w ≡ weight n w
sits_weight n u w sits = total_sum n _ _ _ (λ i l. grind (arith, nat_tests, sits i l))

pub minus_weight : (S : Symbols) → Lawful S → (n u v : ℕ) → Mark S n u → Mark S n v → weight n (minus S n u v) ≤ weight n u + weight n v
minus_weight S lawful n u v mu mv =
    omega (arith, differing_weight S lawful n u v mu mv, total_most n (λ i. cond (eqb (digit u i) (digit v i)) 0 1) (λ i. nonzero (digit u i)) (λ i. nonzero (digit v i)) (λ i _. grind (arith, nat_tests)))

-- only 0 weighs nothing
pub weight_some : (n u : ℕ) → u < 4 ^ n → (u ≡ 0 → ⊥) → 0 < weight n u
weight_some n u h some = ⊎_elim (λ e. absurd (some e)) at (top_of n u h)
  where
    at : Top n u → 0 < weight n u
    at top = omega (arith, total_term n (λ i. nonzero (digit u i)) top.place top.inside, nonzero_one (digit u top.place) top.some)

-- the first places of a mark have any weight up to its own
pub weight_reaches : (n u k : ℕ) → k ≤ weight n u → (m : ℕ) × (m ≤ n) × (weight m u ≡ k)
unfolding total
weight_reaches zero u k h = (0, omega arith, omega arith)
weight_reaches (suc n) u k h = go (cases_lt k (weight (suc n) u)) (weight_reaches n u k)
  where
    light : nonzero (digit u n) ≤ 1
    light = grind (arith, nat_tests)

    go : (k < weight (suc n) u) ⊎ (weight (suc n) u ≤ k) → (k ≤ weight n u → (m : ℕ) × (m ≤ n) × (weight m u ≡ k)) → (m : ℕ) × (m ≤ suc n) × (weight m u ≡ k)
    go (inl l) fewer = let found = fewer (omega (arith, total_top n (λ i. nonzero (digit u i)), light)) in (found.0, omega (arith, found.1), found.2)
    go (inr l) fewer = (suc n, omega arith, omega arith)

-- the least weight of a list is that of one of it
pub record Least (n : ℕ) (us : List ℕ) (d : ℕ) : Type 0 where
  pub one : ℕ
  pub here : Has us one
  pub is : weight n one ≡ d
  pub most : (u : ℕ) → Has us u → d ≤ weight n u

least_weight_lem : (n c : ℕ) (cs : List ℕ) → Least n (c ∷ cs) (least_weight n c cs)
least_weight_lem n c [] = record {
  one = c;
  here = has_here c [];
  is = refl;
  most = λ u h. ⊎_elim (λ e. omega (arith, ap (weight n) e)) (λ k. absurd (omega (arith, k.1))) (has_cases c [] u h);
}
least_weight_lem n c (b ∷ cs) = go (least_weight_lem n b cs) (cases_lt (weight n c) (least_weight n b cs))
  where
    most : Least n (b ∷ cs) (least_weight n b cs) → (u : ℕ) → Has (c ∷ b ∷ cs) u → least_weight n c (b ∷ cs) ≤ weight n u
    most rest u h =
        ⊎_elim (λ e. omega (arith, ap (weight n) e)) (λ k. omega (arith, rest.most u k)) (has_cases c (b ∷ cs) u h)

    go : Least n (b ∷ cs) (least_weight n b cs) → (weight n c < least_weight n b cs) ⊎ (least_weight n b cs ≤ weight n c) → Least n (c ∷ b ∷ cs) (least_weight n c (b ∷ cs))
    go rest (inl l) = record { one = c; here = has_here c (b ∷ cs); is = omega arith; most = most rest }
    go rest (inr l) = record { one = rest.one; here = has_there c (b ∷ cs) rest.one rest.here; is = omega arith; most = most rest }

pub least_of : (n : ℕ) (us : List ℕ) (u : ℕ) → Has us u → (d : ℕ) × Least n us d × (limit_of n us ≡ (d - 1) / 2)
least_of n [] u h = absurd (omega (arith, h.1))
least_of n (c ∷ cs) u h = (least_weight n c cs, least_weight_lem n c cs, refl)
