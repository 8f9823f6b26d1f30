-- Mirror and erased over any lawful ranking are lawful rankings, by the laws of the one below and nothing else of it.
use Rattle.std.proofs.Common.{◌≡◌, ℕ, zero, suc, ◌-◌, ◌%◌, ◌^◌, ◌<◌, true, false, cond, ◌&&◌, ◌||◌, eqb, ltb, ◌⊎◌, sym, refl, ap, ◌∙◌, subst, ap₂, inl, inr, mod-eq_of_lt, arith}
use Rattle.std.proofs.lemmas.Bool.{or_parts, and_parts, eqb-true, cond-true, cases_Bool, both_ways, false_from_ne_true}
use Rattle.std.proofs.lemmas.Bool.Decides.{nat_tests}
use Rattle.algebra.specs.Digits.{digit, total}
use Rattle.algebra.specs.Marks.{Mark, put, nonzero, weight}
use Rattle.algebra.specs.Rankings.{MarkRanking, Ranks, filled, mirrored, mirror, wiped, erased}
use Rattle.algebra.specs.Symbols.{Symbols, Lawful}
use Rattle.algebra.proofs.Digits.{digit_symbol, same_digits, pack_below, pack_digit, pack_same, mod_below, mod_digit, total_top, total_same, total_term}
use Rattle.algebra.proofs.Marks.{mark_by_digits, put_below, put_digit}
use Rattle.algebra.proofs.Rankings.{filled_below, filled_number, filled_blank_number, put_more}

-- a sum in reverse
total_reversed : (n : ℕ) (f : ℕ → ℕ) → total n (λ i. f (n - 1 - i)) ≡ total n f
unfolding total
total_reversed zero f = refl
total_reversed (suc n) f =
    let first : f (suc n - 1 - 0) ≡ f n = ap f (omega arith) in
    let rest : total n (λ i. f (suc n - 1 - suc i)) ≡ total n (λ i. f (n - 1 - i)) = total_same n _ _ (λ i _. ap f (omega arith)) in
    omega (arith, total_reversed n f, total_top n f)

-- a mark turned end for end
module _ (n : ℕ) where
  turned_below : (u : ℕ) → mirrored n u < 4 ^ n
  turned_below u = pack_below 4 n (λ i. digit u (n - 1 - i)) (λ i _. digit_symbol u (n - 1 - i))

  turned_digit : (u i : ℕ) → i < n → digit (mirrored n u) i ≡ digit u (n - 1 - i)
  turned_digit u = pack_digit n (λ i. digit u (n - 1 - i)) (λ i _. digit_symbol u (n - 1 - i))

  turned_twice : (u : ℕ) → u < 4 ^ n → mirrored n (mirrored n u) ≡ u
  turned_twice u h =
      same_digits n _ u (turned_below (mirrored n u)) h
      (λ i k. turned_digit (mirrored n u) i k ∙ turned_digit u (n - 1 - i) (omega arith) ∙ ap (digit u) (omega arith))

  turned_mod : (u : ℕ) → mirrored n (u % 4 ^ n) ≡ mirrored n u
  turned_mod u = pack_same 4 n _ _ (λ i h. mod_digit n u (n - 1 - i) (omega arith))

  turned_mark : (S : Symbols) → Lawful S → (u : ℕ) → Mark S n u → Mark S n (mirrored n u)
  turned_mark S lawful u m = mark_by_digits S lawful n (mirrored n u) (turned_below u) (λ i h. omega (arith, turned_digit u i h, m.symbols (n - 1 - i)))

  turned_put : (u i b : ℕ) → i < n → b < 4 → mirrored n (put n u i b) ≡ put n (mirrored n u) (n - 1 - i) b
  turned_put u i b h k =
      same_digits n _ _ (turned_below (put n u i b)) (put_below n (mirrored n u) (n - 1 - i) b k)
      (λ j l.
      turned_digit (put n u i b) j l ∙ put_digit n u i b k (n - 1 - j) (omega arith)
      ∙ ap₂ (λ t d. cond t b d) (same_place j l) (sym (turned_digit u j l))
      ∙ sym (put_digit n (mirrored n u) (n - 1 - i) b k j l))
    where
      same_place : (j : ℕ) → j < n → eqb (n - 1 - j) i ≡ eqb j (n - 1 - i)
      same_place j l = grind (arith, nat_tests)

  turned_filled : (S : Symbols) → Lawful S → (u i a : ℕ) → i < n → mirrored n (filled S n u i a) ≡ filled S n (mirrored n u) (n - 1 - i) a
  turned_filled S lawful u i a h = grind (arith, turned_put, turned_digit)

  turned_weight : (u : ℕ) → weight n (mirrored n u) ≡ weight n u
  turned_weight u = total_same n _ _ (λ i h. ap nonzero (turned_digit u i h)) ∙ total_reversed n (λ i. nonzero (digit u i))

pub mirror_ranks : (R : MarkRanking) → Ranks R → Ranks (mirror R)
mirror_ranks R ranks = record {
  least = ranks.least;
  most = ranks.most;
  reads_its_places = λ u v. sym (ap₂ R.before (turned_mod R.n u) (turned_mod R.n v));
  never_both = λ u v h. ranks.never_both _ _ h;
  some_way = λ u v h k l m.
      sym (turned_twice R.n u h) ∙ ap (mirrored R.n) (ranks.some_way _ _ (turned_below R.n u) (turned_below R.n v) l m) ∙ turned_twice R.n v k;
  transitive = λ u v w h k. ranks.transitive _ _ _ h k;
  zero_first = λ u i a h k e p l.
      ap (R.before (mirrored R.n u)) (turned_put R.n u i a k l)
      ∙ ranks.zero_first (mirrored R.n u) (R.n - 1 - i) a (turned_below R.n u) (omega arith) (back u i k ∙ e) p l;
  filling_keeps = λ S lawful u v i a mu mv before inside blank some symbol.
      ap₂ R.before (turned_filled R.n S lawful u i a inside) (turned_filled R.n S lawful v i a inside)
      ∙ ranks.filling_keeps S lawful (mirrored R.n u) (mirrored R.n v) (R.n - 1 - i) a (turned_mark R.n S lawful u mu) (turned_mark R.n S lawful v mv) before
      (omega arith) (back v i inside ∙ blank) some symbol;
  lighter_first = λ w u v h k l.
      ranks.lighter_first w _ _ (turned_below R.n u) (turned_below R.n v) (omega (arith, turned_weight R.n u, turned_weight R.n v));
}
  where
    back : (u i : ℕ) → i < R.n → digit (mirrored R.n u) (R.n - 1 - i) ≡ digit u i
    back u i h = turned_digit R.n u (R.n - 1 - i) (omega arith) ∙ ap (digit u) (omega arith)

-- a mark with its erased places blanked
module _ (n : ℕ) (gone : ℕ → ℕ) where
  abbrev left : ℕ → ℕ → ℕ
  left u i = cond (eqb (gone i) 0) (digit u i) 0

  left_symbol : (u i : ℕ) → left u i < 4
  left_symbol u i = grind (arith, nat_tests, digit_symbol)

  wiped_below : (u : ℕ) → wiped n gone u < 4 ^ n
  wiped_below u = pack_below 4 n (left u) (λ i _. left_symbol u i)

  wiped_digit : (u i : ℕ) → i < n → digit (wiped n gone u) i ≡ left u i
  wiped_digit u = pack_digit n (left u) (λ i _. left_symbol u i)

  wiped_mod : (u : ℕ) → wiped n gone (u % 4 ^ n) ≡ wiped n gone u
  wiped_mod u = pack_same 4 n _ _ (λ i h. ap (λ d. cond (eqb (gone i) 0) d 0) (mod_digit n u i h))

  wiped_mark : (S : Symbols) → Lawful S → (u : ℕ) → Mark S n u → Mark S n (wiped n gone u)
  wiped_mark S lawful u m =
      mark_by_digits S lawful n (wiped n gone u) (wiped_below u) (λ i h. grind (arith, nat_tests, wiped_digit u i h, m.symbols i, lawful.least))

  -- a place that is kept
  module _ (i : ℕ) (inside : i < n) (kept : eqb (gone i) 0 ≡ true) where
    kept_digit : (u : ℕ) → digit (wiped n gone u) i ≡ digit u i
    kept_digit u = wiped_digit u i inside ∙ cond-true (eqb (gone i) 0) (digit u i) 0 kept

    kept_put : (u b : ℕ) → b < 4 → wiped n gone (put n u i b) ≡ put n (wiped n gone u) i b
    kept_put u b k =
        same_digits n _ _ (wiped_below (put n u i b)) (put_below n (wiped n gone u) i b k)
        (λ j l.
        wiped_digit (put n u i b) j l ∙ ap (λ d. cond (eqb (gone j) 0) d 0) (put_digit n u i b k j l)
        ∙ same j
        ∙ ap (λ d. cond (eqb j i) b d) (sym (wiped_digit u j l))
        ∙ sym (put_digit n (wiped n gone u) i b k j l))
      where
        same : (j : ℕ) → cond (eqb (gone j) 0) (cond (eqb j i) b (digit u j)) 0 ≡ cond (eqb j i) b (left u j)
        same j = grind (arith, nat_tests)

    kept_filled : (S : Symbols) → Lawful S → (u a : ℕ) → wiped n gone (filled S n u i a) ≡ filled S n (wiped n gone u) i a
    kept_filled S lawful u a = grind (arith, kept_put, kept_digit)

  -- a place that is erased
  gone_put : (i : ℕ) → eqb (gone i) 0 ≡ false → (u b : ℕ) → b < 4 → wiped n gone (put n u i b) ≡ wiped n gone u
  gone_put i lost u b k =
      same_digits n _ _ (wiped_below (put n u i b)) (wiped_below u)
      (λ j l.
      wiped_digit (put n u i b) j l ∙ ap (λ d. cond (eqb (gone j) 0) d 0) (put_digit n u i b k j l)
      ∙ same j ∙ sym (wiped_digit u j l))
    where
      same : (j : ℕ) → cond (eqb (gone j) 0) (cond (eqb j i) b (digit u j)) 0 ≡ left u j
      same j = grind (arith, nat_tests)

  -- where nothing is erased
  whole : total n gone ≡ 0 → (u : ℕ) → u < 4 ^ n → wiped n gone u ≡ u
  whole none u h =
      same_digits n _ u (wiped_below u) h
      (λ i k. grind (arith, nat_tests, wiped_digit u i k, total_term n gone i k))

module _ (gone : ℕ → ℕ) (R : MarkRanking) (ranks : Ranks R) where
  abbrev w : ℕ → ℕ
  w = wiped R.n gone

  abbrev E : MarkRanking
  E = erased gone R

  irreflexive : (u : ℕ) → R.before u u ≡ true → ⊥
  irreflexive u h = both_ways (R.before u u) (ranks.never_both u u h) h

  -- why one mark ranks before another: the rule below says so, or it cannot tell them apart and the number is smaller
  abbrev Why : ℕ → ℕ → Type 0
  Why u v = (R.before (w u) (w v) ≡ true) ⊎ ((w u ≡ w v) × (u % 4 ^ R.n < v % 4 ^ R.n))

  why : (u v : ℕ) → E.before u v ≡ true → Why u v
  why u v h = grind (arith, nat_tests)

  so : (u v : ℕ) → Why u v → E.before u v ≡ true
  so u v h = grind (arith, nat_tests)

  one_way : (u v : ℕ) → Why u v → Why v u → ⊥
  one_way u v (inl h) (inl k) = both_ways (R.before (w v) (w u)) (ranks.never_both _ _ h) k
  one_way u v (inl h) (inr k) = irreflexive (w u) (subst (λ x. R.before (w u) x ≡ true) k.0 h)
  one_way u v (inr h) (inl k) = irreflexive (w v) (subst (λ x. R.before (w v) x ≡ true) h.0 k)
  one_way u v (inr h) (inr k) = omega (arith, h.1, k.1)

  through : (u v x : ℕ) → Why u v → Why v x → Why u x
  through u v x (inl h) (inl k) = inl (ranks.transitive _ _ _ h k)
  through u v x (inl h) (inr k) = inl (subst (λ y. R.before (w u) y ≡ true) k.0 h)
  through u v x (inr h) (inl k) = inl (subst (λ y. R.before y (w x) ≡ true) (sym h.0) k)
  through u v x (inr h) (inr k) = inr (h.0 ∙ k.0, omega (arith, h.1, k.1))

  some_way : (u v : ℕ) → u < 4 ^ R.n → v < 4 ^ R.n → E.before u v ≡ false → E.before v u ≡ false → u ≡ v
  some_way u v h k l m =
      let same : w u ≡ w v = ranks.some_way _ _ (wiped_below R.n gone u) (wiped_below R.n gone v) (or_parts _ _ l).0 (or_parts _ _ m).0 in
      grind (arith, nat_tests, mod-eq_of_lt h, mod-eq_of_lt k)

  smaller : (u v : ℕ) → u < 4 ^ R.n → v < 4 ^ R.n → w u ≡ w v → u < v → E.before u v ≡ true
  smaller u v h k e l = so u v (inr (e, omega (arith, mod-eq_of_lt h, mod-eq_of_lt k)))

  zero_first : (u i a : ℕ) → u < 4 ^ R.n → i < R.n → digit u i ≡ 0 → 0 < a → a < 4 → E.before u (put R.n u i a) ≡ true
  zero_first u i a h k e p l = go (cases_Bool (eqb (gone i) 0))
    where
      go : (eqb (gone i) 0 ≡ true) ⊎ (eqb (gone i) 0 ≡ false) → E.before u (put R.n u i a) ≡ true
      go (inl kept) = grind (arith, so, kept_put, wiped_below, kept_digit)
      go (inr lost) = smaller _ _ h (put_below R.n u i a l) (sym (gone_put R.n gone i lost u a l)) (put_more R.n u i a h k e p l)

  filling_keeps : (S : Symbols) → Lawful S → (u v i a : ℕ) → Mark S R.n u → Mark S R.n v → E.before u v ≡ true
      → i < R.n → digit v i ≡ 0 → 0 < a → a < S.q → E.before (filled S R.n u i a) (filled S R.n v i a) ≡ true
  filling_keeps S lawful u v i a mu mv before inside blank some symbol = go (why u v before) (cases_Bool (eqb (gone i) 0))
    where
      short_u : filled S R.n u i a < 4 ^ R.n
      short_u = filled_below R.n S lawful i a inside some symbol u

      short_v : filled S R.n v i a < 4 ^ R.n
      short_v = filled_below R.n S lawful i a inside some symbol v

      -- the smaller number stays the smaller
      less : u % 4 ^ R.n < v % 4 ^ R.n → filled S R.n u i a < filled S R.n v i a
      less h = grind (arith, filled_number, filled_blank_number, mod-eq_of_lt)

      lost_same : eqb (gone i) 0 ≡ false → (x : ℕ) → w (filled S R.n x i a) ≡ w x
      lost_same lost x = gone_put R.n gone i lost x (S.sum (digit x i) a) (omega (arith, lawful.sum_symbol (digit x i) a, lawful.most))

      go : Why u v → (eqb (gone i) 0 ≡ true) ⊎ (eqb (gone i) 0 ≡ false) → E.before (filled S R.n u i a) (filled S R.n v i a) ≡ true
      go (inl h) (inl kept) =
          so _ _ (inl (ap₂ R.before (kept_filled R.n gone i inside kept S lawful u a) (kept_filled R.n gone i inside kept S lawful v a)
          ∙ ranks.filling_keeps S lawful (w u) (w v) i a (wiped_mark R.n gone S lawful u mu) (wiped_mark R.n gone S lawful v mv) h inside
          (kept_digit R.n gone i inside kept v ∙ blank) some symbol))
      go (inl h) (inr lost) = so _ _ (inl (ap₂ R.before (lost_same lost u) (lost_same lost v) ∙ h))
      go (inr h) (inl kept) = grind (arith, smaller, short_u, short_v, kept_filled, less)
      go (inr h) (inr lost) = smaller _ _ short_u short_v (lost_same lost u ∙ h.0 ∙ sym (lost_same lost v)) (less h.1)

  pub erased_ranks : Ranks (erased gone R)
  erased_ranks = record {
    least = ranks.least;
    most = ranks.most;
    reads_its_places = λ u v. sym (same_before (wiped_mod R.n gone u) (wiped_mod R.n gone v) (mod-eq_of_lt (mod_below R.n u)) (mod-eq_of_lt (mod_below R.n v)));
    never_both = λ u v h. false_from_ne_true (E.before v u) (λ k. one_way u v (why u v h) (why v u k));
    some_way = some_way;
    transitive = λ u v x h k. so u x (through u v x (why u v h) (why v x k));
    zero_first = zero_first;
    filling_keeps = filling_keeps;
    lighter_first = λ b u v h k l.
        let p = and_parts R.by_weight (eqb (total R.n gone) 0) b in
        let none = eqb-true (total R.n gone) 0 p.1 in
        so u v (inl (ap₂ R.before (whole R.n gone none u h) (whole R.n gone none v k) ∙ ranks.lighter_first p.0 u v h k l));
  }
    where
      same_before : {a a' b b' x x' y y' : ℕ} → a ≡ a' → b ≡ b' → x ≡ x' → y ≡ y' → (R.before a b || (eqb a b && ltb x y)) ≡ (R.before a' b' || (eqb a' b' && ltb x' y'))
      same_before e f g h = cc
