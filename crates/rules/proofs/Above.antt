-- The first number above a limit, and lists with none.
use Rattle.std.proofs.Common.{◌≡◌, ℕ, zero, suc, ◌+◌, ◌<◌, ◌≤◌, ltb, leb, eqb, List, [], ◌∷◌, length, get_or, take, drop, None, refl, ap, ◌∙◌, sym, arith}
use Rattle.std.proofs.lemmas.List.{at_drop_more, at_drop_all}
use Rattle.std.proofs.lemmas.Bool.Decides.{nat_tests}
use Rattle.std.specs.List.{position, position_or_len, list_all}
use Rattle.algebra.specs.Digits.{total}
use Rattle.algebra.proofs.Digits.{total_zeros}

-- the index of the first number above a limit, or the length where there is none
abbrev pub first_above : ℕ → List ℕ → ℕ
first_above limit = position_or_len (ltb limit)

at_head : (limit x : ℕ) (xs : List ℕ) → limit < x → first_above limit (x ∷ xs) ≡ 0
at_head limit x xs h = grind (arith, nat_tests)

past_head : (limit x : ℕ) (xs : List ℕ) → x ≤ limit → first_above limit (x ∷ xs) ≡ suc (first_above limit xs)
past_head limit x xs h = grind (arith, nat_tests)

pub above_here : (limit : ℕ) (xs : List ℕ) (i : ℕ) → i < length xs → limit < get_or xs i 0 → first_above limit (drop i xs) ≡ 0
above_here limit xs i h k = at_drop_more (first_above limit) xs i 0 h ∙ at_head limit (get_or xs i 0) (drop (i + 1) xs) k

pub above_later : (limit : ℕ) (xs : List ℕ) (i : ℕ) → i < length xs → get_or xs i 0 ≤ limit → first_above limit (drop i xs) ≡ suc (first_above limit (drop (i + 1) xs))
above_later limit xs i h k = at_drop_more (first_above limit) xs i 0 h ∙ past_head limit (get_or xs i 0) (drop (i + 1) xs) k

-- a search goes one number on, or ends
pub ruleset first_above_laws = (above_here, above_later, at_drop_all)

none_before : (limit : ℕ) (xs : List ℕ) → length xs ≤ first_above limit xs → (k : ℕ) → get_or xs k 0 ≤ limit
none_before limit [] h k = omega arith
none_before limit (x ∷ xs) h zero = grind (arith, nat_tests)
none_before limit (x ∷ xs) h (suc k) = grind (arith, nat_tests, none_before limit xs)

pub none_above : (limit : ℕ) (xs : List ℕ) → position (ltb limit) xs ≡ None → (k : ℕ) → get_or xs k 0 ≤ limit
none_above limit xs h k = none_before limit xs (grind (arith, nat_tests)) k

-- none is above 0 where they sum to 0
pub no_total : (n : ℕ) (xs : List ℕ) → list_all (λ x. leb x 0) (take n xs) ≡ eqb (total n (λ i. get_or xs i 0)) 0
unfolding total
no_total zero xs = refl
no_total (suc n) [] = sym (ap (λ t. eqb (0 + t) 0) (total_zeros n _ (λ i _. refl)))
no_total (suc n) (x ∷ xs) = grind (arith, nat_tests, no_total n xs)
