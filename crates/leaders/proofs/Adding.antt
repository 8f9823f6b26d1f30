-- Marks as a group, and check numbers of sums and differences.
use Rattle.std.proofs.Common.{◌≡◌, ℕ, zero, suc, ◌/◌, ◌%◌, ◌^◌, ◌<◌, ◌≤◌, cond, eqb, sym, refl, ap, ◌∙◌, subst, ap₂, mod-eq_of_lt, arith}
use native.Mathlib.Nat.{add-mul-div_left, add-mul-mod_self_left, div-eq_of_lt}
use Rattle.std.proofs.lemmas.Bool.{cond_both}
use Rattle.std.proofs.lemmas.Bool.Decides.{nat_tests}
use Rattle.algebra.specs.Checks.{Checks, check_value, check_number}
use Rattle.algebra.specs.Digits.{pack, digit}
use Rattle.algebra.specs.Marks.{Mark, put, blank, plus, minus, nonzero, weight}
use Rattle.algebra.specs.Rankings.{filled}
use Rattle.algebra.specs.Symbols.{Symbols, Lawful}
use Rattle.algebra.proofs.Checks.{value_symbol, values_of_word, word_of_values}
use Rattle.algebra.proofs.Digits.{zero_digit, pack_below, pack_digit, pack_digits, pack_same, pack_zeros, total_same}
use Rattle.algebra.proofs.Marks.{mark_by_digits, put_digit}
use Rattle.leaders.specs.Leaders.{differing}

-- numbers packed of digits below their base are equal only where the digits are
pack_apart : (b n : ℕ) (f g : ℕ → ℕ) → 0 < b → ((i : ℕ) → f i < b) → ((i : ℕ) → g i < b) → pack b n f ≡ pack b n g → (i : ℕ) → i < n → f i ≡ g i
unfolding pack
pack_apart b zero f g p hf hg e i k = absurd (omega arith)
pack_apart b (suc n) f g p hf hg e zero k = sym (low f hf) ∙ ap (λ x. x % b) e ∙ low g hg
  where
    low : (h : ℕ → ℕ) → ((i : ℕ) → h i < b) → pack b (suc n) h % b ≡ h 0
    low h small = add-mul-mod_self_left (h 0) b (pack b n (λ i. h (suc i))) ∙ mod-eq_of_lt (small 0)
pack_apart b (suc n) f g p hf hg e (suc i) k =
    pack_apart b n (λ j. f (suc j)) (λ j. g (suc j)) p (λ j. hf (suc j)) (λ j. hg (suc j)) (sym (high f hf) ∙ ap (λ x. x / b) e ∙ high g hg) i (omega arith)
  where
    high : (h : ℕ → ℕ) → ((i : ℕ) → h i < b) → pack b (suc n) h / b ≡ pack b n (λ i. h (suc i))
    high h small = add-mul-div_left (h 0) (pack b n (λ i. h (suc i))) p ∙ omega (arith, div-eq_of_lt (small 0))

module _ (S : Symbols) (lawful : Lawful S) where
  -- the laws of symbols that those of marks come from
  pub zero_symbol : 0 < S.q
  zero_symbol = omega (arith, lawful.least)

  nothing_added : (s : ℕ) → s < S.q → S.sum s 0 ≡ s
  nothing_added s h = lawful.commutes s 0 ∙ lawful.zero_adds_nothing s h

  added_taken : (s t : ℕ) → s < S.q → t < S.q → S.sum (S.sum s t) (S.opposite t) ≡ s
  added_taken s t h k =
      lawful.associates s t (S.opposite t) h k (lawful.opposite_symbol t) ∙ ap (S.sum s) (lawful.opposite_cancels t k) ∙ nothing_added s h

  taken_added : (s t : ℕ) → s < S.q → t < S.q → S.sum (S.sum s (S.opposite t)) t ≡ s
  taken_added s t h k =
      lawful.associates s (S.opposite t) t h (lawful.opposite_symbol t) k
      ∙ ap (S.sum s) (lawful.commutes (S.opposite t) t ∙ lawful.opposite_cancels t k) ∙ nothing_added s h

  -- s is t + (s - t)
  taken_twice : (s t : ℕ) → s < S.q → t < S.q → S.sum s (S.opposite (S.sum s (S.opposite t))) ≡ t
  taken_twice s t h k =
      let d : ℕ = S.sum s (S.opposite t) in
      ap (λ x. S.sum x (S.opposite d)) (sym (taken_added s t h k) ∙ lawful.commutes d t) ∙ added_taken t d k (lawful.sum_symbol s (S.opposite t))

  -- symbols are equal where their difference is 0
  differs : (s t : ℕ) → s < S.q → t < S.q → cond (eqb s t) 0 1 ≡ nonzero (S.sum s (S.opposite t))
  differs s t h k = grind (arith, nat_tests, none, same)
    where
      none : s ≡ t → S.sum s (S.opposite t) ≡ 0
      none e = ap (λ x. S.sum x (S.opposite t)) e ∙ lawful.opposite_cancels t k

      same : S.sum s (S.opposite t) ≡ 0 → s ≡ t
      same e = sym (taken_added s t h k) ∙ ap (λ x. S.sum x t) e ∙ lawful.zero_adds_nothing t k

  -- the middle two of four trade places
  exchanged : (s t u v : ℕ) → s < S.q → t < S.q → u < S.q → v < S.q → S.sum (S.sum s t) (S.sum u v) ≡ S.sum (S.sum s u) (S.sum t v)
  exchanged s t u v hs ht hu hv =
      lawful.associates s t (S.sum u v) hs ht (lawful.sum_symbol u v)
      ∙ ap (S.sum s) (sym (lawful.associates t u v ht hu hv) ∙ ap (λ x. S.sum x v) (lawful.commutes t u) ∙ lawful.associates u t v hu ht hv)
      ∙ sym (lawful.associates s u (S.sum t v) hs hu (lawful.sum_symbol t v))

  -- what is packed of symbols has them as its digits, and is a mark
  module _ (n : ℕ) (f : ℕ → ℕ) (small : (i : ℕ) → f i < S.q) where
    below_four : (i : ℕ) → i < n → f i < 4
    below_four i _ = omega (arith, small i, lawful.most)

    packed_digit : (i : ℕ) → i < n → digit (pack 4 n f) i ≡ f i
    packed_digit = pack_digit n f below_four

    pub packed_mark : Mark S n (pack 4 n f)
    packed_mark = mark_by_digits S lawful n (pack 4 n f) (pack_below 4 n f below_four) (λ i h. omega (arith, packed_digit i h, small i))

  pub plus_digit : (n u v i : ℕ) → i < n → digit (plus S n u v) i ≡ S.sum (digit u i) (digit v i)
  plus_digit n u v = packed_digit n _ (λ i. lawful.sum_symbol (digit u i) (digit v i))

  pub minus_digit : (n u v i : ℕ) → i < n → digit (minus S n u v) i ≡ S.sum (digit u i) (S.opposite (digit v i))
  minus_digit n u v = packed_digit n _ (λ i. lawful.sum_symbol (digit u i) (S.opposite (digit v i)))

  -- what is packed of a mark's digits is that mark
  packed_as : (n u : ℕ) (f : ℕ → ℕ) → Mark S n u → ((i : ℕ) → i < n → f i ≡ digit u i) → pack 4 n f ≡ u
  packed_as n u f mark e = pack_same 4 n f (digit u) e ∙ pack_digits n u mark.short

  -- the number 0, and results of the operations, are marks
  pub zero_mark : (n : ℕ) → Mark S n 0
  zero_mark n = subst (Mark S n) (pack_zeros 4 n (λ _. 0) (λ _ _. refl)) (packed_mark n (λ _. 0) (λ _. zero_symbol))

  pub put_mark : (n u i a : ℕ) → Mark S n u → a < S.q → Mark S n (put n u i a)
  put_mark n u i a mark h = packed_mark n _ (λ j. cond_both (eqb j i) a (digit u j) (λ x. x < S.q) (λ _. h) (λ _. mark.symbols j))

  pub blank_mark : (n u i : ℕ) → Mark S n u → Mark S n (blank n u i)
  blank_mark n u i mark = put_mark n u i 0 mark zero_symbol

  pub plus_mark : (n u v : ℕ) → Mark S n (plus S n u v)
  plus_mark n u v = packed_mark n _ (λ i. lawful.sum_symbol (digit u i) (digit v i))

  pub minus_mark : (n u v : ℕ) → Mark S n (minus S n u v)
  minus_mark n u v = packed_mark n _ (λ i. lawful.sum_symbol (digit u i) (S.opposite (digit v i)))

  -- the group laws
  pub minus_minus : (n u v : ℕ) → Mark S n u → Mark S n v → minus S n u (minus S n u v) ≡ v
  minus_minus n u v mu mv =
      packed_as n v _ mv (λ i h. ap (λ x. S.sum (digit u i) (S.opposite x)) (minus_digit n u v i h) ∙ taken_twice (digit u i) (digit v i) (mu.symbols i) (mv.symbols i))

  pub minus_plus : (n u v : ℕ) → Mark S n u → Mark S n v → plus S n (minus S n u v) v ≡ u
  minus_plus n u v mu mv =
      packed_as n u _ mu (λ i h. ap (λ x. S.sum x (digit v i)) (minus_digit n u v i h) ∙ taken_added (digit u i) (digit v i) (mu.symbols i) (mv.symbols i))

  pub plus_minus : (n u v : ℕ) → Mark S n u → Mark S n v → minus S n (plus S n u v) v ≡ u
  plus_minus n u v mu mv =
      packed_as n u _ mu (λ i h. ap (λ x. S.sum x (S.opposite (digit v i))) (plus_digit n u v i h) ∙ added_taken (digit u i) (digit v i) (mu.symbols i) (mv.symbols i))

  pub plus_commutes : (n u v : ℕ) → plus S n u v ≡ plus S n v u
  plus_commutes n u v = pack_same 4 n _ _ (λ i _. lawful.commutes (digit u i) (digit v i))

  pub plus_none : (n u c : ℕ) → Mark S n u → ((i : ℕ) → i < n → digit c i ≡ 0) → plus S n u c ≡ u
  plus_none n u c mark none = packed_as n u _ mark (λ i h. ap (S.sum (digit u i)) (none i h) ∙ nothing_added (digit u i) (mark.symbols i))

  pub minus_itself : (n u : ℕ) → Mark S n u → minus S n u u ≡ 0
  minus_itself n u mark = pack_zeros 4 n _ (λ i _. lawful.opposite_cancels (digit u i) (mark.symbols i))

  pub minus_apart : (n u v : ℕ) → Mark S n u → Mark S n v → minus S n u v ≡ 0 → u ≡ v
  minus_apart n u v mu mv e =
      sym (minus_plus n u v mu mv) ∙ ap (λ c. plus S n c v) e ∙ plus_commutes n 0 v ∙ plus_none n v 0 mv (λ i _. zero_digit i)

  -- marks differ at as many places as their difference weighs
  pub differing_weight : (n u v : ℕ) → Mark S n u → Mark S n v → differing n u v ≡ weight n (minus S n u v)
  differing_weight n u v mu mv = total_same n _ _ (λ i h. differs (digit u i) (digit v i) (mu.symbols i) (mv.symbols i) ∙ ap nonzero (sym (minus_digit n u v i h)))

  -- a put symbol changes the digit at its place alone, and only that mark has these digits
  put_here : (n u i a : ℕ) → a < S.q → i < n → digit (put n u i a) i ≡ a
  put_here n u i a h k = grind (arith, nat_tests, put_digit, lawful.most)

  put_there : (n u i a : ℕ) → a < S.q → (j : ℕ) → j < n → (j ≡ i → ⊥) → digit (put n u i a) j ≡ digit u j
  put_there n u i a h j k other = grind (arith, nat_tests, put_digit, lawful.most)

  put_as : (n u i a v : ℕ) → Mark S n v → digit v i ≡ a → ((j : ℕ) → j < n → (j ≡ i → ⊥) → digit v j ≡ digit u j) → put n u i a ≡ v
  put_as n u i a v mark here there = packed_as n v _ mark (λ j k. grind (arith, nat_tests, there j k))

  -- to add a symbol at a place is to add the mark that has it there and 0 elsewhere
  filled_plus : (n u i a : ℕ) → Mark S n u → i < n → a < S.q → filled S n u i a ≡ plus S n u (put n 0 i a)
  filled_plus n u i a mark k h =
      put_as n u i (S.sum (digit u i) a) (plus S n u (put n 0 i a)) (plus_mark n u (put n 0 i a)) (grind (arith, plus_digit, put_here))
      (λ j l other.
      plus_digit n u (put n 0 i a) j l ∙ ap (S.sum (digit u j)) (put_there n 0 i a h j l other ∙ zero_digit j)
      ∙ nothing_added (digit u j) (mark.symbols j))

  -- check numbers
  module _ (C : Checks) (checked : (i j : ℕ) → C.check i j < S.q) where
    pub check_below : (u : ℕ) → check_number S C u < S.q ^ C.r
    check_below u = pack_below S.q C.r (check_value S C u) (λ j _. value_symbol S lawful C u j)

    -- the first k places alone, for the induction on places
    abbrev up_to : ℕ → Checks
    up_to k = record { n = k; r = C.r; check = C.check }

    plus_value_up_to : (k u v : ℕ) → k ≤ C.n → Mark S C.n u → Mark S C.n v → (j : ℕ)
        → check_value S (up_to k) (plus S C.n u v) j ≡ S.sum (check_value S (up_to k) u j) (check_value S (up_to k) v j)
    plus_value_up_to zero u v h mu mv j = sym (lawful.zero_adds_nothing 0 zero_symbol)
    plus_value_up_to (suc k) u v h mu mv j =
        ap₂ S.sum (plus_value_up_to k u v (omega arith) mu mv j)
        (ap (λ d. S.product d (C.check k j)) (plus_digit C.n u v k h) ∙ lawful.distributes (digit u k) (digit v k) (C.check k j) (mu.symbols k) (mv.symbols k) (checked k j))
        ∙ exchanged _ _ _ _ (value_symbol S lawful (up_to k) u j) (value_symbol S lawful (up_to k) v j) (lawful.product_symbol _ _) (lawful.product_symbol _ _)

    pub plus_value : (u v : ℕ) → Mark S C.n u → Mark S C.n v → (j : ℕ) → check_value S C (plus S C.n u v) j ≡ S.sum (check_value S C u j) (check_value S C v j)
    plus_value u v = plus_value_up_to C.n u v (omega arith)

    -- equal check numbers, equal check values
    pub same_values : (u v : ℕ) → check_number S C u ≡ check_number S C v → (j : ℕ) → j < C.r → check_value S C u j ≡ check_value S C v j
    same_values u v = pack_apart S.q C.r (check_value S C u) (check_value S C v) zero_symbol (value_symbol S lawful C u) (value_symbol S lawful C v)

    -- adding one mark to two of one coset leaves them in one coset
    pub plus_same : (u v w : ℕ) → Mark S C.n u → Mark S C.n v → Mark S C.n w → check_number S C u ≡ check_number S C v → check_number S C (plus S C.n u w) ≡ check_number S C (plus S C.n v w)
    plus_same u v w mu mv mw e =
        pack_same S.q C.r _ _ (λ j h. plus_value u w mu mw j ∙ ap (λ x. S.sum x (check_value S C w j)) (same_values u v e j h) ∙ sym (plus_value v w mv mw j))

    -- so does adding a symbol at a place
    pub filled_same : (u v i a : ℕ) → Mark S C.n u → Mark S C.n v → i < C.n → a < S.q → check_number S C u ≡ check_number S C v → check_number S C (filled S C.n u i a) ≡ check_number S C (filled S C.n v i a)
    filled_same u v i a mu mv k h e =
        ap (check_number S C) (filled_plus C.n u i a mu k h)
        ∙ plus_same u v (put C.n 0 i a) mu mv (put_mark C.n 0 i a (zero_mark C.n) h) e
        ∙ ap (check_number S C) (sym (filled_plus C.n v i a mv k h))

    -- u is (u - v) + v
    minus_value : (u v : ℕ) → Mark S C.n u → Mark S C.n v → (j : ℕ) → S.sum (check_value S C (minus S C.n u v) j) (check_value S C v j) ≡ check_value S C u j
    minus_value u v mu mv j =
        sym (plus_value (minus S C.n u v) v (minus_mark C.n u v) mv j) ∙ ap (λ w. check_value S C w j) (minus_plus C.n u v mu mv)

    -- marks of one coset differ by a code word
    pub minus_word : (u v : ℕ) → Mark S C.n u → Mark S C.n v → check_number S C u ≡ check_number S C v → check_number S C (minus S C.n u v) ≡ 0
    minus_word u v mu mv e = word_of_values S lawful C (minus S C.n u v) none
      where
        none : (j : ℕ) → j < C.r → check_value S C (minus S C.n u v) j ≡ 0
        none j h =
            sym (added_taken _ _ (value_symbol S lawful C (minus S C.n u v) j) (value_symbol S lawful C v j))
            ∙ ap (λ x. S.sum x (S.opposite (check_value S C v j))) (minus_value u v mu mv j ∙ same_values u v e j h)
            ∙ lawful.opposite_cancels (check_value S C v j) (value_symbol S lawful C v j)

    -- a code word taken away leaves the coset
    pub minus_same : (u c : ℕ) → Mark S C.n u → Mark S C.n c → check_number S C c ≡ 0 → check_number S C (minus S C.n u c) ≡ check_number S C u
    minus_same u c mu mc e = pack_same S.q C.r _ _ same
      where
        same : (j : ℕ) → j < C.r → check_value S C (minus S C.n u c) j ≡ check_value S C u j
        same j h =
            sym (nothing_added _ (value_symbol S lawful C (minus S C.n u c) j))
            ∙ ap (S.sum (check_value S C (minus S C.n u c) j)) (sym (values_of_word S lawful C c e j h))
            ∙ minus_value u c mu mc j

  -- a blanked place has 0, the others keep their symbols, and with its symbol put or added again it is the mark it was
  pub blank_here : (n u i : ℕ) → i < n → digit (blank n u i) i ≡ 0
  blank_here n u i = put_here n u i 0 zero_symbol

  pub blank_there : (n u i j : ℕ) → j < n → (j ≡ i → ⊥) → digit (blank n u i) j ≡ digit u j
  blank_there n u i = put_there n u i 0 zero_symbol

  pub blank_again : (n u i : ℕ) → Mark S n u → i < n → put n (blank n u i) i (digit u i) ≡ u
  blank_again n u i mark k = put_as n (blank n u i) i (digit u i) u mark refl (λ j l other. sym (blank_there n u i j l other))

  pub blank_filled : (n u i : ℕ) → Mark S n u → i < n → filled S n (blank n u i) i (digit u i) ≡ u
  blank_filled n u i mark k =
      ap (put n (blank n u i) i) (grind (arith, blank_here, lawful.zero_adds_nothing (digit u i) (mark.symbols i))) ∙ blank_again n u i mark k

  -- a mark is added by adding it with a place blanked, and then that place's symbol
  pub plus_blank : (n u c i : ℕ) → Mark S n u → i < n → filled S n (plus S n u (blank n c i)) i (digit c i) ≡ plus S n u c
  plus_blank n u c i mark k =
      let kept = nothing_added (digit u i) (mark.symbols i) in
      put_as n (plus S n u (blank n c i)) i _ (plus S n u c) (plus_mark n u c) (grind (arith, plus_digit, blank_here))
      (λ j l other. grind (arith, plus_digit, blank_there))
