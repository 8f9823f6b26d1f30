-- A coset's leader, and the list of all leaders in ranking order.
use Rattle.std.proofs.Common.{◌≡◌, ℕ, zero, suc, ◌^◌, ◌<◌, ◌≤◌, Bool, true, eqb, ◌⊎◌, List, ◌∷◌, length, get_or, filter, sym, refl, ap, ◌∙◌, subst, inl, inr, ⊎_elim, arith}
use Rattle.std.specs.List.{ContainsAt as Has}
use Rattle.std.proofs.ByRecursion.{has_get_or, has_shuffled}
use Rattle.std.proofs.lemmas.List.Sorted.{IsPermutation-sym}
use Rattle.std.proofs.lemmas.Bool.{cases_lt, cases_order, eqb-true, eq-eqb, true≢false}
use Rattle.algebra.specs.Digits.{digit}
use Rattle.algebra.specs.Marks.{put, blank, weight}
use Rattle.algebra.specs.Rankings.{filled}
use Rattle.algebra.specs.Symbols.{Symbols}
use Rattle.leaders.specs.Leaders.{ranked, index_of, check_of, marks, coset, leader_of, is_leader, leaders, coset_count, leader_number}
use Rattle.leaders.specs.Schemes.{Scheme, MarkOf, Proper}
use Rattle.leaders.proofs.Adding.{zero_symbol, zero_mark, put_mark, blank_mark, check_below, filled_same, blank_here, blank_again, blank_filled}
use Rattle.leaders.proofs.Ranked.{Order, Distinct, all_from_has, first_ranked_has, first_ranked_first, ranked_shuffled, ranked_order, index_of_below, get_or_index_of, index_of_get_or, kept_has, has_kept, kept_distinct, all_marks_has, all_marks_short, all_marks_symbols, all_marks_distinct, pigeonhole}

module _ (T : Scheme) (proper : Proper T) where
  abbrev S : Symbols
  S = T.symbols

  abbrev n : ℕ
  n = T.checks.n

  abbrev before : ℕ → ℕ → Bool
  before = T.ranking.before

  -- the laws of ranking, at the table's length
  pub order : Order before (λ u. u < 4 ^ n)
  order = record { some_way = rw proper.same_length at proper.ranks.some_way; transitive = proper.ranks.transitive }

  pub zero_first : (u i a : ℕ) → u < 4 ^ n → i < n → digit u i ≡ 0 → 0 < a → a < 4 → before u (put n u i a) ≡ true
  zero_first = rw proper.same_length at proper.ranks.zero_first

  pub filling_keeps : (u v i a : ℕ) → MarkOf T u → MarkOf T v → before u v ≡ true → i < n → digit v i ≡ 0 → 0 < a → a < S.q → before (filled S n u i a) (filled S n v i a) ≡ true
  filling_keeps = rw proper.same_length at (proper.ranks.filling_keeps S proper.alphabet)

  -- no mark ranks before itself, and no two before each other
  pub never_itself : (u : ℕ) → before u u ≡ true → ⊥
  never_itself u h = true≢false (sym h ∙ proper.ranks.never_both u u h)

  pub never_two : (u v : ℕ) → before u v ≡ true → before v u ≡ true → ⊥
  never_two u v h k = true≢false (sym k ∙ proper.ranks.never_both u v h)

  -- under a ranking by weight, none is heavier than one that ranks after it
  lighter_first : T.ranking.by_weight ≡ true → (u v : ℕ) → u < 4 ^ n → v < 4 ^ n → weight n u < weight n v → before u v ≡ true
  lighter_first = rw proper.same_length at proper.ranks.lighter_first

  pub no_heavier : T.ranking.by_weight ≡ true → (u v : ℕ) → MarkOf T u → MarkOf T v → before u v ≡ true → weight n u ≤ weight n v
  no_heavier weighs u v mu mv h =
      ⊎_elim (λ l. absurd (never_two u v h (lighter_first weighs v u mv.short mu.short l))) (λ l. l) (cases_lt (weight n v) (weight n u))

  pub mark_listed : (u : ℕ) → MarkOf T u → Has (marks T) u
  unfolding marks
  mark_listed u mark = all_marks_has S.q n u proper.alphabet.most mark.short mark.symbols

  pub listed_mark : (u : ℕ) → Has (marks T) u → MarkOf T u
  unfolding marks
  listed_mark u h = record {
    short = all_marks_short S.q n u proper.alphabet.most h;
    symbols = all_marks_symbols S.q n u (zero_symbol S proper.alphabet) proper.alphabet.most h;
  }

  pub coset_has : (s u : ℕ) → MarkOf T u → check_of T u ≡ s → Has (coset T s) u
  unfolding coset
  coset_has s u mark e = kept_has (λ v. eqb (check_of T v) s) (marks T) u (mark_listed u mark) (eq-eqb (check_of T u) s e)

  pub has_coset : (s u : ℕ) → Has (coset T s) u → MarkOf T u × (check_of T u ≡ s)
  unfolding coset
  has_coset s u h = let k = has_kept (λ v. eqb (check_of T v) s) (marks T) u h in (listed_mark u k.0, eqb-true (check_of T u) s k.1)

  -- u and its coset, as leader_of takes them
  among : (u v : ℕ) → MarkOf T u → Has (u ∷ coset T (check_of T u)) v → MarkOf T v × (check_of T v ≡ check_of T u)
  among u v mark (zero, h, k) = let e : u ≡ v = k 0 in (subst (MarkOf T) e mark, ap (check_of T) (sym e))
  among u v mark (suc i, h, k) = has_coset (check_of T u) v (i, omega arith, k)

  amongst : (u v : ℕ) → MarkOf T v → check_of T v ≡ check_of T u → Has (u ∷ coset T (check_of T u)) v
  amongst u v mark e = let k = coset_has (check_of T u) v mark e in (suc k.0, omega (arith, k.1), k.2)

  module _ (u : ℕ) (mark : MarkOf T u) where
    led : MarkOf T (leader_of T u) × (check_of T (leader_of T u) ≡ check_of T u)
    unfolding leader_of
    led = among u (leader_of T u) mark (first_ranked_has before (λ v. v < 4 ^ n) order u (coset T (check_of T u)))

    pub leader_mark : MarkOf T (leader_of T u)
    leader_mark = led.0

    pub leader_check : check_of T (leader_of T u) ≡ check_of T u
    leader_check = led.1

    pub leader_first : (v : ℕ) → MarkOf T v → check_of T v ≡ check_of T u → (leader_of T u ≡ v) ⊎ (before (leader_of T u) v ≡ true)
    unfolding leader_of
    leader_first v other e =
        first_ranked_first before (λ w. w < 4 ^ n) order u (coset T (check_of T u))
        (all_from_has (λ w. w < 4 ^ n) (u ∷ coset T (check_of T u)) (λ w h. (among u w mark h).0.short))
        v (amongst u v other e)

  -- a coset has one leader
  pub leader_same : (u v : ℕ) → MarkOf T u → MarkOf T v → check_of T u ≡ check_of T v → leader_of T u ≡ leader_of T v
  leader_same u v mu mv e =
      ⊎_elim (λ p. p)
      (λ p. ⊎_elim (λ k. sym k) (λ k. absurd (never_two (leader_of T u) (leader_of T v) p k)) (leader_first v mv (leader_of T u) (leader_mark u mu) (leader_check u mu ∙ e)))
      (leader_first u mu (leader_of T v) (leader_mark v mv) (leader_check v mv ∙ sym e))

  pub leader_again : (u : ℕ) → MarkOf T u → leader_of T (leader_of T u) ≡ leader_of T u
  leader_again u mark = leader_same (leader_of T u) u (leader_mark u mark) mark (leader_check u mark)

  -- the marks that pass a test, in ranking order: they, and nothing else
  module _ (test : ℕ → Bool) where
    abbrev pub passing : List ℕ
    passing = ranked before (filter test (marks T))

    pub passing_has : (u : ℕ) → MarkOf T u → test u ≡ true → Has passing u
    passing_has u mark e =
        has_shuffled (filter test (marks T)) passing u (ranked_shuffled before _) (kept_has test (marks T) u (mark_listed u mark) e)

    pub has_passing : (u : ℕ) → Has passing u → MarkOf T u × (test u ≡ true)
    has_passing u h =
        let k = has_kept test (marks T) u (has_shuffled passing _ u (IsPermutation-sym _ _ (ranked_shuffled before _)) h) in
        (listed_mark u k.0, k.1)

    pub passing_order : (i j : ℕ) → i < j → j < length passing → before (get_or passing i 0) (get_or passing j 0) ≡ true
    unfolding marks
    passing_order =
        ranked_order before (λ v. v < 4 ^ n) order (filter test (marks T))
        (all_from_has (λ w. w < 4 ^ n) (filter test (marks T)) (λ w h. (listed_mark w (has_kept test (marks T) w h).0).short))
        (kept_distinct test (marks T) (all_marks_distinct S.q n proper.alphabet.most))

    pub passing_distinct : Distinct passing
    passing_distinct i j h k e =
        never_itself (get_or passing j 0) (subst (λ u. before u (get_or passing j 0) ≡ true) e (passing_order i j h k))

    -- they stand in the list as they rank
    pub passing_before : (i j : ℕ) → i < length passing → before (get_or passing i 0) (get_or passing j 0) ≡ true → i < j
    passing_before i j hi h = go (cases_order i j)
      where
        go : (i ≡ j) ⊎ ((i < j) ⊎ (j < i)) → i < j
        go (inl e) = absurd (never_itself (get_or passing j 0) (subst (λ k. before (get_or passing k 0) (get_or passing j 0) ≡ true) e h))
        go (inr (inl l)) = l
        go (inr (inr l)) = absurd (never_two (get_or passing i 0) (get_or passing j 0) h (passing_order j i l hi))

  pub leads : (u : ℕ) → MarkOf T u → leader_of T u ≡ u → Has (leaders T) u
  unfolding leaders is_leader
  leads u mark e = passing_has (is_leader T) u mark (eq-eqb (leader_of T u) u e)

  pub has_leads : (u : ℕ) → Has (leaders T) u → MarkOf T u × (leader_of T u ≡ u)
  unfolding leaders is_leader
  has_leads u h = let k = has_passing (is_leader T) u h in (k.0, eqb-true (leader_of T u) u k.1)

  pub leaders_order : (i j : ℕ) → i < j → j < coset_count T → before (get_or (leaders T) i 0) (get_or (leaders T) j 0) ≡ true
  unfolding leaders coset_count
  leaders_order = passing_order (is_leader T)

  pub leaders_before : (i j : ℕ) → i < coset_count T → before (get_or (leaders T) i 0) (get_or (leaders T) j 0) ≡ true → i < j
  unfolding leaders coset_count
  leaders_before = passing_before (is_leader T)

  pub leaders_distinct : Distinct (leaders T)
  unfolding leaders
  leaders_distinct = passing_distinct (is_leader T)

  module _ (i : ℕ) (inside : i < coset_count T) where
    at_leads : MarkOf T (get_or (leaders T) i 0) × (leader_of T (get_or (leaders T) i 0) ≡ get_or (leaders T) i 0)
    unfolding coset_count
    at_leads = has_leads (get_or (leaders T) i 0) (has_get_or (leaders T) i 0 inside)

    pub at_mark : MarkOf T (get_or (leaders T) i 0)
    at_mark = at_leads.0

    pub at_leader : leader_of T (get_or (leaders T) i 0) ≡ get_or (leaders T) i 0
    at_leader = at_leads.1

    pub number_at : leader_number T (get_or (leaders T) i 0) ≡ suc i
    unfolding leader_number coset_count
    number_at = ap suc (ap (λ u. index_of u (leaders T)) at_leader ∙ index_of_get_or (leaders T) leaders_distinct i inside)

  module _ (u : ℕ) (mark : MarkOf T u) where
    listed : Has (leaders T) (leader_of T u)
    listed = leads (leader_of T u) (leader_mark u mark) (leader_again u mark)

    -- where the leader of u's coset stands
    pub leader_place : (i : ℕ) × (i < coset_count T) × (leader_number T u ≡ suc i) × (get_or (leaders T) i 0 ≡ leader_of T u)
    unfolding leader_number coset_count
    leader_place =
        (index_of (leader_of T u) (leaders T), index_of_below (leaders T) (leader_of T u) listed, refl, get_or_index_of (leaders T) (leader_of T u) listed)

    pub number_least : 1 ≤ leader_number T u
    unfolding leader_number
    number_least = omega arith

    pub number_most : leader_number T u ≤ coset_count T
    number_most = let (i, inside, number, place) = leader_place in omega arith

    pub leader_at : (i : ℕ) → leader_number T u ≡ suc i → get_or (leaders T) i 0 ≡ leader_of T u
    leader_at i e =
        let (j, inside, number, place) = leader_place in
        let same : i ≡ j = omega arith in
        ap (λ k. get_or (leaders T) k 0) same ∙ place

  pub number_same : (u v : ℕ) → MarkOf T u → MarkOf T v → check_of T u ≡ check_of T v → leader_number T u ≡ leader_number T v
  unfolding leader_number
  number_same u v mu mv e = ap (λ w. suc (index_of w (leaders T))) (leader_same u v mu mv e)

  pub same_number : (u v : ℕ) → MarkOf T u → MarkOf T v → leader_number T u ≡ leader_number T v → check_of T u ≡ check_of T v
  same_number u v mu mv e =
      let (i, inside, number, place) = leader_place u mu in
      sym (leader_check u mu) ∙ ap (check_of T) (sym place ∙ leader_at v mv i (sym e ∙ number)) ∙ leader_check v mv

  -- at most one leader for each check number
  pub few_leaders : coset_count T ≤ S.q ^ T.checks.r
  unfolding coset_count
  few_leaders =
      pigeonhole (check_of T) (S.q ^ T.checks.r) (leaders T)
      (λ i j h k e. leaders_distinct i j h k (apart i j h k e))
      (λ i h. check_below S proper.alphabet T.checks proper.check_symbols (get_or (leaders T) i 0))
    where
      apart : (i j : ℕ) → i < j → j < length (leaders T) → check_of T (get_or (leaders T) i 0) ≡ check_of T (get_or (leaders T) j 0) → get_or (leaders T) i 0 ≡ get_or (leaders T) j 0
      apart i j h k e =
          sym (at_leader i (omega arith)) ∙ leader_same (get_or (leaders T) i 0) (get_or (leaders T) j 0) (at_mark i (omega arith)) (at_mark j k) e ∙ at_leader j k

  -- there is a coset, that of 0
  pub some_coset : 0 < coset_count T
  some_coset = let zeros = zero_mark S proper.alphabet n in omega (arith, number_least 0 zeros, number_most 0 zeros)

  -- blanking a nonzero place of a leader gives a leader that ranks before it
  module _ (u i : ℕ) (mark : MarkOf T u) (leader : leader_of T u ≡ u) (inside : i < n) (some : 0 < digit u i) where
    abbrev w : ℕ
    w = blank n u i

    w_mark : MarkOf T w
    w_mark = blank_mark S proper.alphabet n u i mark

    whole : filled S n w i (digit u i) ≡ u
    whole = blank_filled S proper.alphabet n u i mark inside

    pub blanked : digit w i ≡ 0
    blanked = blank_here S proper.alphabet n u i inside

    pub blank_put : put n w i (digit u i) ≡ u
    blank_put = blank_again S proper.alphabet n u i mark inside

    pub blank_before : before w u ≡ true
    blank_before =
        subst (λ v. before w v ≡ true) blank_put (zero_first w i (digit u i) w_mark.short inside blanked some (omega (arith, mark.symbols i, proper.alphabet.most)))

    -- the leader of its coset, filled as u is: it would rank before u in u's coset
    module _ (h : before (leader_of T w) w ≡ true) where
      abbrev v : ℕ
      v = filled S n (leader_of T w) i (digit u i)

      v_mark : MarkOf T v
      v_mark = put_mark S proper.alphabet n (leader_of T w) i _ (leader_mark w w_mark) (proper.alphabet.sum_symbol _ _)

      v_before : before v u ≡ true
      v_before =
          subst (λ x. before v x ≡ true) whole
          (filling_keeps (leader_of T w) w i (digit u i) (leader_mark w w_mark) w_mark h inside blanked some (mark.symbols i))

      v_check : check_of T v ≡ check_of T u
      v_check =
          filled_same S proper.alphabet T.checks proper.check_symbols (leader_of T w) w i (digit u i) (leader_mark w w_mark) w_mark inside (mark.symbols i) (leader_check w w_mark)
          ∙ ap (check_of T) whole

      never : ⊥
      never = ⊎_elim (λ e. never_itself u (subst (λ x. before x u ≡ true) (sym e ∙ leader) v_before)) (λ k. never_two v u v_before (subst (λ x. before x v ≡ true) leader k)) (leader_first u mark v v_mark v_check)

    pub blank_leads : leader_of T w ≡ w
    blank_leads = ⊎_elim (λ e. e) (λ h. absurd (never h)) (leader_first w w_mark w w_mark refl)
