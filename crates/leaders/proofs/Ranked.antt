-- Lists of marks: the first in rank, ranking order, places in a list, all marks, and the pigeonhole.
use Rattle.std.proofs.Common.{◌≡◌, ℕ, zero, suc, ◌+◌, ◌*◌, ◌/◌, ◌%◌, ◌^◌, ◌<◌, ◌≤◌, Bool, true, false, cond, eqb, ◌⊎◌, List, [], ◌∷◌, ◌++◌, map, length, get_or, filter, sym, refl, ap, ◌∙◌, subst, inl, inr, ⊎_elim, arith}
use native.Mathlib.Nat.{pow-succ'}
use Rattle.std.specs.List.{range_with_len, ContainsAt as Has, flat_map, AllByRecursion}
use Rattle.std.specs.List.Sorted.{IsPermutation}
use Rattle.std.specs.List.{list_any, position_or_len}
use Rattle.std.proofs.lemmas.List.{get_or_default, get_or-map, length-map}
use Rattle.std.proofs.lemmas.List.Folds.{Any-from_list_any}
use Rattle.std.proofs.lemmas.List.Kept.{AllPairs-filter}
use Rattle.std.proofs.lemmas.List.Recursion.{is_position_or_len}
use Rattle.std.proofs.lemmas.List.Sorted.{IsPermutation-cons, IsPermutation-middle, IsPermutation-refl, IsPermutation-trans}
use Rattle.std.proofs.lemmas.List.Sums.{fails_before_first, passes_at_first, position_or_len_is}
use Rattle.std.proofs.lemmas.Map.Keys.{IsDistinct-from_apart}
use Rattle.std.proofs.lemmas.Map.Steps.{length-le_from_distinct_below}
use Rattle.std.proofs.lemmas.List.FromFn.{get_or-map-range_with_len, length-map-range_with_len}
use Rattle.std.proofs.ByRecursion.{All-append, All-from_get_or, All-get_or, all-has, all_has_itself, all_kept_by, all_shuffled, All-weaker, has_append_left, has_append_right, kept_by_passes}
use Rattle.std.proofs.lemmas.Bool.{cases_Bool, cases_lt, cond_both, cond-false, cond-true, eq-eqb, eqb-true, ne_eqb, true≢false}
use Rattle.algebra.specs.Digits.{digit}
use Rattle.algebra.proofs.Digits.{digit_first, digit_joined_first, digit_joined_rest, digit_rest, zero_digit}
use Rattle.leaders.specs.Leaders.{all_marks, first_ranked, insert, ranked, index_of}

-- induction by all smaller numbers
by_smaller_under : (P : ℕ → Type 0) → ((w : ℕ) → ((v : ℕ) → v < w → P v) → P w) → (m w : ℕ) → w < m → P w
by_smaller_under P step zero w h = absurd (omega arith)
by_smaller_under P step (suc m) w h = step w (λ v l. by_smaller_under P step m v (omega arith))

pub by_smaller : (P : ℕ → Type 0) → ((w : ℕ) → ((v : ℕ) → v < w → P v) → P w) → (w : ℕ) → P w
by_smaller P step w = by_smaller_under P step (suc w) w (omega arith)

-- no number stands in the list twice
abbrev pub Distinct : List ℕ → Type 0
Distinct us = (i j : ℕ) → i < j → j < length us → get_or us i 0 ≡ get_or us j 0 → ⊥

-- what a list with one more in front has
pub has_here : (u : ℕ) (us : List ℕ) → Has (u ∷ us) u
has_here u us = (0, omega arith, λ _. refl)

pub has_there : (v : ℕ) (us : List ℕ) (u : ℕ) → Has us u → Has (v ∷ us) u
has_there v us u h = let in' = h.1 in (suc h.0, omega arith, λ d. h.2 d)

pub has_cases : (v : ℕ) (us : List ℕ) (u : ℕ) → Has (v ∷ us) u → (v ≡ u) ⊎ Has us u
has_cases v us u h = at h.0 h.1 h.2
  where
    at : (k : ℕ) → k < length (v ∷ us) → ((d : ℕ) → get_or (v ∷ us) k d ≡ u) → (v ≡ u) ⊎ Has us u
    at zero in' is = inl (is 0)
    at (suc k) in' is = inr (k, omega arith, is)

pub has_none : (us : List ℕ) → ((u : ℕ) → Has us u → ⊥) → length us ≡ 0
has_none [] none = refl
has_none (u ∷ us) none = absurd (none u (has_here u us))

has_more : (v : ℕ) (us ws : List ℕ) (u : ℕ) → (Has us u → Has ws u) → Has (v ∷ us) u → Has (v ∷ ws) u
has_more v us ws u more h =
    elim (has_cases v us u h) [ inl e ↦ subst (Has (v ∷ ws)) e (has_here v ws) | inr k ↦ has_there v ws u (more k) ]

-- what holds of every element, by membership
pub all_from_has : (P : ℕ → Type 0) (us : List ℕ) → ((u : ℕ) → Has us u → P u) → AllByRecursion P us
all_from_has P us h = All-weaker (Has us) P h us (all_has_itself us)

-- R holds of each number of the list and each that stands later: Distinct and ranking order, for inductions
abbrev Pairs : (ℕ → ℕ → Type 0) → List ℕ → Type 0
Pairs R [] = Unit {0}
Pairs R (u ∷ us) = AllByRecursion (R u) us × Pairs R us

abbrev Other : ℕ → ℕ → Type 0
Other u v = u ≡ v → ⊥

module _ (R : ℕ → ℕ → Type 0) where
  pairs_at : (us : List ℕ) → Pairs R us → (i j : ℕ) → i < j → j < length us → R (get_or us i 0) (get_or us j 0)
  pairs_at [] h i j lt in' = absurd (omega arith)
  pairs_at (u ∷ us) h zero zero lt in' = absurd (omega arith)
  pairs_at (u ∷ us) h zero (suc j) lt in' = All-get_or (R u) us j 0 (omega arith) h.0
  pairs_at (u ∷ us) h (suc i) zero lt in' = absurd (omega arith)
  pairs_at (u ∷ us) h (suc i) (suc j) lt in' = pairs_at us h.1 i j (omega arith) (omega arith)

  pairs_from : (us : List ℕ) → ((i j : ℕ) → i < j → j < length us → R (get_or us i 0) (get_or us j 0)) → Pairs R us
  pairs_from [] h = tt
  pairs_from (u ∷ us) h =
      (All-from_get_or (R u) us 0 (λ j in'. h 0 (suc j) (omega arith) (omega arith)), pairs_from us (λ i j lt in'. h (suc i) (suc j) (omega arith) (omega arith)))

  pairs_append : (us ws : List ℕ) → Pairs R us → Pairs R ws → AllByRecursion (λ u. AllByRecursion (R u) ws) us → Pairs R (us ++ ws)
  pairs_append [] ws h k across = k
  pairs_append (u ∷ us) ws h k across = (All-append (R u) us ws h.0 across.0, pairs_append us ws h.1 k across.1)

-- in ranking order a list has what it had
insert_shuffled : (before : ℕ → ℕ → Bool) (u : ℕ) (vs : List ℕ) → IsPermutation (u ∷ vs) (insert before u vs)
insert_shuffled before u [] = IsPermutation-refl _
insert_shuffled before u (v ∷ vs) =
    cond_both (before u v) (u ∷ v ∷ vs) (v ∷ insert before u vs) (IsPermutation (u ∷ v ∷ vs)) (λ _. IsPermutation-refl _)
    (λ _. IsPermutation-trans _ _ _ (IsPermutation-middle (u ∷ []) v vs) (IsPermutation-cons v _ _ (insert_shuffled before u vs)))

pub ranked_shuffled : (before : ℕ → ℕ → Bool) (us : List ℕ) → IsPermutation us (ranked before us)
ranked_shuffled before [] = IsPermutation-refl _
ranked_shuffled before (u ∷ us) =
    IsPermutation-trans _ _ _ (IsPermutation-cons u _ _ (ranked_shuffled before us)) (insert_shuffled before u (ranked before us))

-- a total order of the numbers of which P holds
pub record Order (before : ℕ → ℕ → Bool) (P : ℕ → Type 0) : Type 0 where
  pub some_way : (u v : ℕ) → P u → P v → before u v ≡ false → before v u ≡ false → u ≡ v
  pub transitive : (u v w : ℕ) → before u v ≡ true → before v w ≡ true → before u w ≡ true

module _ (before : ℕ → ℕ → Bool) (P : ℕ → Type 0) (order : Order before P) where
  pub first_ranked_has : (u : ℕ) (us : List ℕ) → Has (u ∷ us) (first_ranked before u us)
  first_ranked_has u [] = has_here u []
  first_ranked_has u (v ∷ us) =
      let w : ℕ = cond (before v u) v u in
      let x : ℕ = first_ranked before w us in
      cond_both (before v u) v u (λ w'. Has (w' ∷ us) x → Has (u ∷ v ∷ us) x)
      (λ _. has_there u (v ∷ us) x) (λ _. has_more u us (v ∷ us) x (has_there v us x)) (first_ranked_has w us)

  abbrev pub Before : ℕ → ℕ → Type 0
  Before u v = before u v ≡ true

  abbrev pub Upto : ℕ → ℕ → Type 0
  Upto u v = (u ≡ v) ⊎ Before u v

  pub upto_trans : (u v w : ℕ) → Upto u v → Upto v w → Upto u w
  upto_trans u v w (inl e) k = subst (λ x. Upto x w) (sym e) k
  upto_trans u v w (inr h) (inl e) = subst (Upto u) e (inr h)
  upto_trans u v w (inr h) (inr k) = inr (order.transitive u v w h k)

  not_after : (u v : ℕ) → P u → P v → before v u ≡ false → Upto u v
  not_after u v pu pv h = elim (cases_Bool (before u v)) [ inl k ↦ inr k | inr k ↦ inl (order.some_way u v pu pv k h) ]

  pub first_ranked_first : (u : ℕ) (us : List ℕ) → AllByRecursion P (u ∷ us) → (v : ℕ) → Has (u ∷ us) v → (first_ranked before u us ≡ v) ⊎ (before (first_ranked before u us) v ≡ true)
  first_ranked_first u [] all v h = elim (has_cases u [] v h) [ inl e ↦ inl e | inr k ↦ absurd (omega (arith, k.1)) ]
  first_ranked_first u (w ∷ us) all v h =
      let x : ℕ = cond (before w u) w u in
      let px : P x = cond_both (before w u) w u P (λ _. all.1.0) (λ _. all.0) in
      let first : ℕ = first_ranked before x us in
      let least : (y : ℕ) → Has (x ∷ us) y → Upto first y = first_ranked_first x us (px, all.1.1) in
      let above : (y : ℕ) → Upto x y → Upto first y = λ y. upto_trans first x y (least x (has_here x us)) in
      let xu : Upto x u = cond_both (before w u) w u (λ y. Upto y u) (λ e. inr e) (λ _. inl refl) in
      let xw : Upto x w = cond_both (before w u) w u (λ y. Upto y w) (λ _. inl refl) (not_after u w all.0 all.1.0) in
      elim (has_cases u (w ∷ us) v h) [
        | inl e ↦ subst (Upto first) e (above u xu)
        | inr k ↦ elim (has_cases w us v k) [
          | inl e ↦ subst (Upto first) e (above w xw)
          | inr l ↦ least v (has_there x us v l)
        ]
      ]

  insert_order : (u : ℕ) (vs : List ℕ) → AllByRecursion P (u ∷ vs) → AllByRecursion (Other u) vs → Pairs Before vs → Pairs Before (insert before u vs)
  insert_order u [] all other h = (tt, tt)
  insert_order u (v ∷ vs) all other h =
      let rest = insert_order u vs (all.0, all.1.1) other.1 h.1 in
      cond_both (before u v) (u ∷ v ∷ vs) (v ∷ insert before u vs) (Pairs Before)
      (λ e. ((e, All-weaker (Before v) (Before u) (λ w. order.transitive u v w e) vs h.0), h))
      (λ e. (all_shuffled (Before v) (u ∷ vs) (insert before u vs) (insert_shuffled before u vs) (front e, h.0), rest))
    where
      front : before u v ≡ false → Before v u
      front e = elim (not_after v u all.1.0 all.0 e) [ inl same ↦ absurd (other.0 (sym same)) | inr k ↦ k ]

  ranked_pairs : (us : List ℕ) → AllByRecursion P us → Pairs Other us → Pairs Before (ranked before us)
  ranked_pairs [] all other = tt
  ranked_pairs (u ∷ us) all other =
      insert_order u (ranked before us) (all.0, all_shuffled P us (ranked before us) (ranked_shuffled before us) all.1)
      (all_shuffled (Other u) us (ranked before us) (ranked_shuffled before us) other.0) (ranked_pairs us all.1 other.1)

  pub ranked_order : (us : List ℕ) → AllByRecursion P us → Distinct us → (i j : ℕ) → i < j → j < length (ranked before us) → before (get_or (ranked before us) i 0) (get_or (ranked before us) j 0) ≡ true
  ranked_order us all distinct = pairs_at Before (ranked before us) (ranked_pairs us all (pairs_from Other us distinct))

-- where a number stands
index_of_lem : (u : ℕ) (us : List ℕ) → index_of u us ≡ position_or_len (λ v. eqb v u) us
index_of_lem u = is_position_or_len (index_of u) (λ v. eqb v u) refl (λ v us. ap (cond (eqb v u) 0) (omega arith))

pub index_of_below : (us : List ℕ) (u : ℕ) → Has us u → index_of u us < length us
index_of_below us u (k, within, is) = ⊎_elim (λ h. h) (λ past. absurd (true≢false (sym (eq-eqb (get_or us k 0) u (is 0)) ∙ missed past))) (cases_lt (index_of u us) (length us))
  where
    missed : length us ≤ index_of u us → eqb (get_or us k 0) u ≡ false
    missed past = fails_before_first (λ v. eqb v u) us k 0 (omega (arith, index_of_lem u us))

pub get_or_index_of : (us : List ℕ) (u : ℕ) → Has us u → get_or us (index_of u us) 0 ≡ u
get_or_index_of us u h =
    ap (λ i. get_or us i 0) (index_of_lem u us)
    ∙ eqb-true _ u (passes_at_first (λ v. eqb v u) us 0 (omega (arith, index_of_lem u us, index_of_below us u h)))

pub index_of_get_or : (us : List ℕ) → Distinct us → (i : ℕ) → i < length us → index_of (get_or us i 0) us ≡ i
index_of_get_or us distinct i h =
    index_of_lem (get_or us i 0) us
    ∙ position_or_len_is (λ v. eqb v (get_or us i 0)) us i 0 (omega arith) (λ k lt. ne_eqb _ _ (distinct k i lt h)) (λ _. eq-eqb _ _ refl)

-- what a test keeps of a list
pub kept_has : (p : ℕ → Bool) (us : List ℕ) (u : ℕ) → Has us u → p u ≡ true → Has (filter p us) u
kept_has p [] u h t = h
kept_has p (v ∷ us) u h t =
    cond_both (p v) (v ∷ filter p us) (filter p us) (λ l. Has l u)
    (λ _. has_more v us (filter p us) u (λ k. kept_has p us u k t) h)
    (λ e. elim (has_cases v us u h) [ inl k ↦ absurd (true≢false (sym t ∙ ap p (sym k) ∙ e)) | inr k ↦ kept_has p us u k t ])

pub has_kept : (p : ℕ → Bool) (us : List ℕ) (u : ℕ) → Has (filter p us) u → Has us u × (p u ≡ true)
has_kept p us u h =
    (all-has (Has us) (filter p us) u (all_kept_by p (Has us) us (all_has_itself us)) h, all-has (λ v. p v ≡ true) (filter p us) u (kept_by_passes p us) h)

pub kept_first : (p : ℕ → Bool) (us : List ℕ) (k : ℕ) → k < length us → ((j : ℕ) → j < k → p (get_or us j 0) ≡ false) → p (get_or us k 0) ≡ true → get_or (filter p us) 0 0 ≡ get_or us k 0
kept_first p [] k h none here = absurd (omega arith)
kept_first p (u ∷ us) zero h none here = ap (λ l. get_or l 0 0) (cond-true (p u) (u ∷ filter p us) (filter p us) here)
kept_first p (u ∷ us) (suc k) h none here =
    ap (λ l. get_or l 0 0) (cond-false (p u) (u ∷ filter p us) (filter p us) (none 0 (omega arith)))
    ∙ kept_first p us k (omega arith) (λ j l. none (suc j) (omega arith)) here

pub kept_distinct : (p : ℕ → Bool) (us : List ℕ) → Distinct us → Distinct (filter p us)
kept_distinct p us distinct i j lt h =
    AllPairs-filter Other p us (λ k l d m in' e. distinct k l m in' (get_or_default us k 0 d (omega arith) ∙ e ∙ get_or_default us l d 0 in')) i j 0 lt h

-- the marks that have a symbol in front of u
abbrev row : ℕ → ℕ → List ℕ
row q u = map (λ a. a + 4 * u) (range_with_len 0 q)

row_at : (q u a d : ℕ) → a < q → get_or (row q u) a d ≡ a + 4 * u
row_at q u a d h = get_or-map-range_with_len (λ b. b + 4 * u) 0 q a a d h (omega arith)

row_length : (q u : ℕ) → length (row q u) ≡ q
row_length q u = length-map-range_with_len (λ a. a + 4 * u) 0 q

row_has : (q u a : ℕ) → a < q → Has (row q u) (a + 4 * u)
row_has q u a h = (a, omega (arith, row_length q u), λ d. row_at q u a d h)

row_all : (P : ℕ → Type 0) (q u : ℕ) → ((a : ℕ) → a < q → P (a + 4 * u)) → AllByRecursion P (row q u)
row_all P q u h =
    All-from_get_or P (row q u) 0 (λ a in'. let lt : a < q = omega (arith, row_length q u) in subst P (sym (row_at q u a 0 lt)) (h a lt))

joined_has : (f : ℕ → List ℕ) (us : List ℕ) (u v : ℕ) → Has us u → Has (f u) v → Has (flat_map f us) v
joined_has f [] u v h k = absurd (omega (arith, h.1))
joined_has f (w ∷ us) u v h k =
    elim (has_cases w us u h) [
      | inl e ↦ has_append_left (f w) (flat_map f us) v (subst (λ x. Has (f x) v) (sym e) k)
      | inr l ↦ has_append_right (f w) (flat_map f us) v (joined_has f us u v l k)
    ]

joined_all : (P : ℕ → Type 0) (f : ℕ → List ℕ) (us : List ℕ) → AllByRecursion (λ u. AllByRecursion P (f u)) us → AllByRecursion P (flat_map f us)
joined_all P f [] h = tt
joined_all P f (u ∷ us) h = All-append P (f u) (flat_map f us) h.0 (joined_all P f us h.1)

-- an induction over all marks
marks_all : (P : ℕ → ℕ → Type 0) (q : ℕ) → P 0 0 → ((n u a : ℕ) → a < q → P n u → P (suc n) (a + 4 * u)) → (n : ℕ) → AllByRecursion (P n) (all_marks q n)
unfolding all_marks
marks_all P q none more zero = (none, tt)
marks_all P q none more (suc n) =
    joined_all (P (suc n)) (row q) (all_marks q n)
    (All-weaker (P n) (λ u. AllByRecursion (P (suc n)) (row q u)) (λ u h. row_all (P (suc n)) q u (λ a lt. more n u a lt h)) (all_marks q n) (marks_all P q none more n))

pub all_marks_has : (q n u : ℕ) → q ≤ 4 → u < 4 ^ n → ((i : ℕ) → digit u i < q) → Has (all_marks q n) u
unfolding all_marks
all_marks_has q zero u low short symbols = (0, omega arith, λ _. omega arith)
all_marks_has q (suc n) u low short symbols =
    let w : ℕ = u / 4 in
    let rest : Has (all_marks q n) w =
    all_marks_has q n w low (omega (arith, pow-succ' 4 n)) (λ i. subst (λ d. d < q) (digit_rest u i) (symbols (suc i)))
    in
    let first : u % 4 < q = subst (λ d. d < q) (digit_first u) (symbols 0) in
    let split : u % 4 + 4 * w ≡ u = omega arith in
    joined_has (row q) (all_marks q n) w u rest (subst (Has (row q w)) split (row_has q w (u % 4) first))

pub all_marks_short : (q n u : ℕ) → q ≤ 4 → Has (all_marks q n) u → u < 4 ^ n
all_marks_short q n u low =
    all-has (λ v. v < 4 ^ n) (all_marks q n) u
    (marks_all (λ m v. v < 4 ^ m) q (omega arith) (λ m v a lt h. omega (arith, pow-succ' 4 m)) n)

pub all_marks_symbols : (q n u : ℕ) → 0 < q → q ≤ 4 → Has (all_marks q n) u → (i : ℕ) → digit u i < q
all_marks_symbols q n u some low = all-has Small (all_marks q n) u (marks_all (λ _. Small) q none (λ _. more) n)
  where
    Small : ℕ → Type 0
    Small v = (i : ℕ) → digit v i < q

    none : Small 0
    none i = subst (λ d. d < q) (sym (zero_digit i)) some

    more : (v a : ℕ) → a < q → Small v → Small (a + 4 * v)
    more v a lt h zero = subst (λ d. d < q) (sym (digit_joined_first a v (omega arith))) lt
    more v a lt h (suc i) = subst (λ d. d < q) (sym (digit_joined_rest a v i (omega arith))) (h i)

-- all marks stand in the order of numbers
row_rises : (q u : ℕ) → Pairs ◌<◌ (row q u)
row_rises q u =
    pairs_from ◌<◌ (row q u) (λ i j lt in'. let below : j < q = omega (arith, row_length q u) in omega (arith, row_at q u i 0 (omega arith), row_at q u j 0 below))

rows_rise : (q : ℕ) → q ≤ 4 → (us : List ℕ) → Pairs ◌<◌ us → Pairs ◌<◌ (flat_map (row q) us)
rows_rise q low [] h = tt
rows_rise q low (u ∷ us) h =
    pairs_append ◌<◌ (row q u) (flat_map (row q) us) (row_rises q u) (rows_rise q low us h.1)
    (row_all (λ v. AllByRecursion (λ w. v < w) (flat_map (row q) us)) q u
    (λ a lt. joined_all (λ w. a + 4 * u < w) (row q) us
    (All-weaker (λ v. u < v) (λ v. AllByRecursion (λ w. a + 4 * u < w) (row q v)) (λ v above. row_all (λ w. a + 4 * u < w) q v (λ b _. omega arith)) us h.0)))

marks_rise : (q n : ℕ) → q ≤ 4 → Pairs ◌<◌ (all_marks q n)
unfolding all_marks
marks_rise q zero low = (tt, tt)
marks_rise q (suc n) low = rows_rise q low (all_marks q n) (marks_rise q n low)

pub all_marks_distinct : (q n : ℕ) → q ≤ 4 → Distinct (all_marks q n)
all_marks_distinct q n low i j lt in' e = omega (arith, pairs_at ◌<◌ (all_marks q n) (marks_rise q n low) i j lt in')

-- numbers that f keeps apart, all below a bound, are no more than the bound
pub pigeonhole : (f : ℕ → ℕ) (bound : ℕ) (us : List ℕ) → ((i j : ℕ) → i < j → j < length us → f (get_or us i 0) ≡ f (get_or us j 0) → ⊥) → ((i : ℕ) → i < length us → f (get_or us i 0) < bound) → length us ≤ bound
pigeonhole f bound us apart low =
    omega (arith, length-map us f, length-le_from_distinct_below (map f us) bound (IsDistinct-from_apart eqb (map f us) distinct) below)
  where
    distinct : (i j d : ℕ) → i < j → j < length (map f us) → eqb (get_or (map f us) i d) (get_or (map f us) j d) ≡ false
    distinct i j d lt h =
        let k : j < length us = omega (arith, length-map us f) in
        ne_eqb _ _ (λ e. apart i j lt k (sym (get_or-map f us i 0 d (omega arith)) ∙ e ∙ get_or-map f us j 0 d k))

    below : (v : ℕ) → list_any (eqb v) (map f us) ≡ true → v < bound
    below v h =
        let (k, u, lt, is, e) = Any-from_list_any (eqb v) (map f us) h in
        let l : k < length us = omega (arith, length-map us f) in
        omega (arith, eqb-true v u e, is, get_or-map f us k 0 u l, low k l)
