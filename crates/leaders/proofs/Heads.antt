-- Heads: what their list holds, each as a leader with one more symbol, and one sits in every mark that is no leader.
use Rattle.std.proofs.Common.{◌≡◌, ℕ, zero, suc, ◌^◌, ◌<◌, Bool, true, false, ◌⊎◌, length, get_or, Decides, sym, refl, ap, ◌∙◌, subst, inl, inr, ⊎_elim, arith}
use borrow.Author.Count.{below_more, below_none}
use Rattle.std.specs.List.{ContainsAt as Has}
use Rattle.std.proofs.lemmas.Bool.{cases_eq, true≢false}
use Rattle.std.proofs.lemmas.Bool.Decides.{Decides-and, Decides-below_and, Decides-eqb, Decides-not, Decides-or}
use Rattle.algebra.specs.Digits.{digit}
use Rattle.algebra.specs.Marks.{put, blank}
use Rattle.algebra.proofs.Marks.{put_below}
use Rattle.algebra.proofs.Rankings.{put_more}
use Rattle.leaders.specs.Growth.{Sprout}
use Rattle.leaders.specs.Heads.{everywhere, is_head, heads, sits, sitting, Head, Sits}
use Rattle.leaders.specs.Leaders.{leader_of, is_leader, leaders, coset_count}
use Rattle.leaders.specs.Schemes.{Scheme, MarkOf, Proper}
use Rattle.leaders.proofs.Adding.{blank_mark, blank_here, blank_there, blank_again}
use Rattle.leaders.proofs.Growth.{Top, no_digits, top_of, top_blanked, first_leader}
use Rattle.leaders.proofs.Leaders.{leads, at_leader, some_coset, passing_has, has_passing, passing_order, passing_distinct}
use Rattle.leaders.proofs.Ranked.{Distinct, by_smaller, has_none, kept_has, has_kept, kept_first}

-- a test at each of n places
everywhere_decides : (test : ℕ → Bool) (P : ℕ → Type 0) → ((i : ℕ) → Decides (test i) (P i)) → (n : ℕ) → Decides (everywhere n test) ((i : ℕ) → i < n → P i)
everywhere_decides test P each = Decides-below_and test P (λ n. everywhere n test) each refl (λ _. refl)

-- the first of n places that is one way, where those below it are the other
pub record First (P Q : ℕ → Type 0) (n : ℕ) : Type 0 where
  pub place : ℕ
  pub inside : place < n
  pub is : Q place
  pub below : (j : ℕ) → j < place → P j

first_place : (P Q : ℕ → Type 0) → ((i : ℕ) → P i ⊎ Q i) → (n : ℕ) → ((i : ℕ) → i < n → P i) ⊎ First P Q n
first_place P Q either zero = inl (below_none P)
first_place P Q either (suc n) = go (first_place P Q either n) (either n)
  where
    go : ((i : ℕ) → i < n → P i) ⊎ First P Q n → P n ⊎ Q n → ((i : ℕ) → i < suc n → P i) ⊎ First P Q (suc n)
    go (inl all) (inl p) = inl (λ i h. below_more P n all p i (omega arith))
    go (inl all) (inr q) = inr (record { place = n; inside = omega arith; is = q; below = all })
    go (inr f) k = inr (record { place = f.place; inside = omega arith; is = f.is; below = f.below })

-- the lowest nonzero place
abbrev pub Bottom : ℕ → ℕ → Type 0
Bottom n u = First (λ i. digit u i ≡ 0) (λ i. 0 < digit u i) n

pub bottom_of : (n u : ℕ) → u < 4 ^ n → (u ≡ 0) ⊎ Bottom n u
bottom_of n u h =
    ⊎_elim (λ none. inl (no_digits n u h none)) (λ bottom. inr bottom)
    (first_place (λ i. digit u i ≡ 0) (λ i. 0 < digit u i) (λ i. ⊎_elim (λ e. inl e) (λ e. inr (omega arith)) (cases_eq (digit u i) 0)) n)

module _ (T : Scheme) (proper : Proper T) where
  abbrev n : ℕ
  n = T.checks.n

  -- what the tests say
  pub sits_decides : (h w : ℕ) → Decides (sits T h w) (Sits T h w)
  unfolding sits
  sits_decides h w =
      everywhere_decides _ _ (λ i. Decides-or _ _ (Decides-eqb (digit h i) 0) (Decides-eqb (digit h i) (digit w i))) n

  head_test : (u : ℕ) → Decides (is_head T u) ((leader_of T u ≡ u → ⊥) × ((i : ℕ) → i < n → (digit u i ≡ 0) ⊎ (leader_of T (blank n u i) ≡ blank n u i)))
  unfolding is_head is_leader
  head_test u =
      Decides-and _ _ (Decides-not _ (Decides-eqb (leader_of T u) u))
      (everywhere_decides _ _ (λ i. Decides-or _ _ (Decides-eqb (digit u i) 0) (Decides-eqb (leader_of T (blank n u i)) (blank n u i))) n)

  -- the heads, and nothing else, each before the next
  pub heads_has : (u : ℕ) → Head T u → Has (heads T) u
  unfolding heads
  heads_has u head =
      passing_has T proper (is_head T) u head.mark
      ((head_test u).1 (head.misled, λ i h. ⊎_elim (λ e. inl e) (λ e. inr (head.blanks i h (omega arith))) (cases_eq (digit u i) 0)))

  pub has_heads : (u : ℕ) → Has (heads T) u → Head T u
  unfolding heads
  has_heads u h = record {
    mark = listed.0;
    misled = tested.0;
    blanks = λ i inside some. ⊎_elim (λ e. absurd (omega arith)) (λ e. e) (tested.1 i inside);
  }
    where
      listed : MarkOf T u × (is_head T u ≡ true)
      listed = has_passing T proper (is_head T) u h

      tested : (leader_of T u ≡ u → ⊥) × ((i : ℕ) → i < n → (digit u i ≡ 0) ⊎ (leader_of T (blank n u i) ≡ blank n u i))
      tested = (head_test u).0 listed.1

  pub heads_order : (i j : ℕ) → i < j → j < length (heads T) → T.ranking.before (get_or (heads T) i 0) (get_or (heads T) j 0) ≡ true
  unfolding heads
  heads_order = passing_order T proper (is_head T)

  pub heads_distinct : Distinct (heads T)
  unfolding heads
  heads_distinct = passing_distinct T proper (is_head T)

  -- the heads that sit in a mark
  pub sitting_has : (h w : ℕ) → Head T h → Sits T h w → Has (sitting T w) h
  unfolding sitting
  sitting_has h w head seat = kept_has (λ g. sits T g w) (heads T) h (heads_has h head) ((sits_decides h w).1 seat)

  pub has_sitting : (h w : ℕ) → Has (sitting T w) h → Head T h × Sits T h w
  unfolding sitting
  has_sitting h w k = let p = has_kept (λ g. sits T g w) (heads T) h k in (has_heads h p.0, (sits_decides h w).0 p.1)

  -- the first of them, and none, by the places in the list of heads
  pub sitting_first : (w k : ℕ) → k < length (heads T) → ((j : ℕ) → j < k → sits T (get_or (heads T) j 0) w ≡ false) → sits T (get_or (heads T) k 0) w ≡ true → get_or (sitting T w) 0 0 ≡ get_or (heads T) k 0
  unfolding sitting
  sitting_first w = kept_first (λ h. sits T h w) (heads T)

  pub sitting_none : (w : ℕ) → ((j : ℕ) → j < length (heads T) → sits T (get_or (heads T) j 0) w ≡ false) → length (sitting T w) ≡ 0
  unfolding sitting
  sitting_none w none = has_none (sitting T w) never
    where
      never : (h : ℕ) → Has (sitting T w) h → ⊥
      never h k =
          let ((j, l, e), seated) = has_kept (λ g. sits T g w) (heads T) h k in
          true≢false (sym seated ∙ ap (λ g. sits T g w) (sym (e 0)) ∙ none j l)

  -- 0 leads, so it is no head
  pub zero_leads : leader_of T 0 ≡ 0
  zero_leads = subst (λ u. leader_of T u ≡ u) (first_leader T proper) (at_leader T proper 0 (some_coset T proper))

  pub head_some : (u : ℕ) → Head T u → u ≡ 0 → ⊥
  head_some u head e = head.misled (subst (λ v. leader_of T v ≡ v) (sym e) zero_leads)

  -- A head is a leader with one more symbol, at any of its nonzero places.
  module _ (h : ℕ) (head : Head T h) where
    module _ (i : ℕ) (inside : i < n) (some : 0 < digit h i) where
      pub head_leader : Has (leaders T) (blank n h i)
      head_leader =
          leads T proper (blank n h i) (blank_mark T.symbols proper.alphabet n h i head.mark) (head.blanks i inside some)

      pub head_free : digit (blank n h i) i ≡ 0
      head_free = blank_here T.symbols proper.alphabet n h i inside

      pub head_put : put n (blank n h i) i (digit h i) ≡ h
      head_put = blank_again T.symbols proper.alphabet n h i head.mark inside

    -- the lowest of them, and the highest
    pub head_bottom : Bottom n h
    head_bottom = ⊎_elim (λ e. absurd (head_some h head e)) (λ bottom. bottom) (bottom_of n h head.mark.short)

    pub head_top : Top n h
    head_top = ⊎_elim (λ e. absurd (head_some h head e)) (λ top. top) (top_of n h head.mark.short)

    -- so it is a sprout of a leader
    pub head_sprouts : (j : ℕ) × (j < coset_count T) × Sprout T (get_or (leaders T) j 0) h
    unfolding coset_count
    head_sprouts = (
      listed.0,
      listed.1,
      record {
        place = i;
        symbol = digit h i;
        inside = head_top.inside;
        above = λ j k. ap (λ x. digit x j) here ∙ top_blanked n h head_top j k;
        some = head_top.some;
        below = head.mark.symbols i;
        is = sym (ap (λ x. put n x i (digit h i)) here ∙ head_put i head_top.inside head_top.some);
      },
    )
      where
        i : ℕ
        i = head_top.place

        listed : Has (leaders T) (blank n h i)
        listed = head_leader i head_top.inside head_top.some

        here : get_or (leaders T) listed.0 0 ≡ blank n h i
        here = listed.2 0

  -- a mark with a nonzero place blanked is a smaller number
  pub blank_less : (w i : ℕ) → MarkOf T w → i < n → 0 < digit w i → blank n w i < w
  blank_less w i mark inside some =
      subst (λ v. blank n w i < v) (blank_again T.symbols proper.alphabet n w i mark inside)
      (put_more n (blank n w i) i (digit w i) (put_below n w i 0 (omega arith)) inside (blank_here T.symbols proper.alphabet n w i inside) some (omega (arith, mark.symbols i, proper.alphabet.most)))

  -- and sits in it
  pub blank_sits : (w i : ℕ) → i < n → Sits T (blank n w i) w
  blank_sits w i inside j h =
      ⊎_elim (λ e. inl (ap (digit (blank n w i)) e ∙ blank_here T.symbols proper.alphabet n w i inside))
      (λ e. inr (blank_there T.symbols proper.alphabet n w i j h e)) (cases_eq j i)

  sits_through : (u v w : ℕ) → Sits T u v → Sits T v w → Sits T u w
  sits_through u v w h k i inside = ⊎_elim (λ e. inl e) (λ e. ⊎_elim (λ q. inl (e ∙ q)) (λ q. inr (e ∙ q)) (k i inside)) (h i inside)

  -- A head sits in every mark that is no leader: blank nonzero places for as long as no leader results.
  pub record Seat (w : ℕ) : Type 0 where
    pub head : ℕ
    pub is : Head T head
    pub sits : Sits T head w

  abbrev Settled : ℕ → Type 0
  Settled w = (leader_of T w ≡ w) ⊎ Seat w

  module _ (w : ℕ) (mark : MarkOf T w) where
    abbrev Leads : ℕ → Type 0
    Leads i = 0 < digit w i → leader_of T (blank n w i) ≡ blank n w i

    abbrev Misleads : ℕ → Type 0
    Misleads i = (0 < digit w i) × (leader_of T (blank n w i) ≡ blank n w i → ⊥)

    either : (i : ℕ) → Leads i ⊎ Misleads i
    either i =
        ⊎_elim (λ e. inl (λ some. absurd (omega arith)))
        (λ e. ⊎_elim (λ k. inl (λ _. k)) (λ k. inr (omega arith, k)) (cases_eq (leader_of T (blank n w i)) (blank n w i))) (cases_eq (digit w i) 0)

    settle : ((v : ℕ) → v < w → MarkOf T v → Settled v) → Settled w
    settle smaller = go (cases_eq (leader_of T w) w) (first_place Leads Misleads either n)
      where
        down : (f : First Leads Misleads n) → Settled (blank n w f.place) → Settled w
        down f (inl e) = absurd (f.is.1 e)
        down f (inr seat) =
            let i : ℕ = f.place in
            inr (record { head = seat.head; is = seat.is; sits = sits_through seat.head (blank n w i) w seat.sits (blank_sits w i f.inside) })

        go : (leader_of T w ≡ w) ⊎ (leader_of T w ≡ w → ⊥) → ((i : ℕ) → i < n → Leads i) ⊎ First Leads Misleads n → Settled w
        go (inl e) k = inl e
        go (inr e) (inl k) = inr (record { head = w; is = record { mark = mark; misled = e; blanks = k }; sits = λ i _. inr refl })
        go (inr e) (inr f) =
            let i : ℕ = f.place in
            down f (smaller (blank n w i) (blank_less w i mark f.inside f.is.0) (blank_mark T.symbols proper.alphabet n w i mark))

  pub seat_of : (w : ℕ) → MarkOf T w → (leader_of T w ≡ w) ⊎ Seat w
  seat_of = by_smaller (λ w. MarkOf T w → Settled w) (λ w smaller mark. settle w mark smaller)

  pub no_head_leads : (w : ℕ) → MarkOf T w → length (sitting T w) ≡ 0 → leader_of T w ≡ w
  no_head_leads w mark none = ⊎_elim (λ e. e) (λ seat. absurd (omega (arith, (sitting_has seat.head w seat.is seat.sits).1))) (seat_of w mark)
