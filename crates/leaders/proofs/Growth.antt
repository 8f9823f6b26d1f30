-- Growth: the first waiting mark of an unsettled coset is the next leader, and where none waits all are settled.
use Rattle.std.proofs.Common.{◌≡◌, ℕ, zero, suc, ◌+◌, ◌^◌, ◌<◌, ◌≤◌, Bool, true, false, ◌⊎◌, List, ◌∷◌, length, get_or, sym, refl, ap, ◌∙◌, subst, inl, inr, ⊎_elim, arith}
use native.Mathlib.Nat.{pow-le-pow_right}
use Rattle.std.specs.List.Sorted.{IsPermutation}
use Rattle.std.specs.List.{ContainsAt as Has, AllByRecursion}
use Rattle.std.proofs.ByRecursion.{all-has, all_shuffled, has_shuffled}
use Rattle.std.proofs.lemmas.Bool.{cases_eq, cases_lt, true≢false}
use Rattle.std.proofs.lemmas.Bool.Decides.{nat_tests}
use Rattle.algebra.specs.Digits.{digit}
use Rattle.algebra.specs.Marks.{put, blank}
use Rattle.algebra.proofs.Digits.{digit_past, same_digits, zero_digit}
use Rattle.algebra.proofs.Marks.{put_below, put_digit}
use Rattle.leaders.specs.Growth.{Sprout, Waiting}
use Rattle.leaders.specs.Leaders.{leaders, coset_count, leader_number, leader_of}
use Rattle.leaders.specs.Schemes.{Scheme, MarkOf, Proper}
use Rattle.leaders.proofs.Adding.{blank_mark}
use Rattle.leaders.proofs.Ranked.{has_cases, has_there, upto_trans}
use Rattle.leaders.proofs.Leaders.{order, never_itself, leader_first, at_mark, at_leader, number_at, number_least, number_most, leader_place, leaders_order, leaders_before, some_coset, blank_put, blank_leads, blank_before}

-- a number whose n digits are 0 is 0
pub no_digits : (n u : ℕ) → u < 4 ^ n → ((i : ℕ) → i < n → digit u i ≡ 0) → u ≡ 0
no_digits n u h none =
    same_digits n u 0 h (omega (arith, pow-le-pow_right {n = 4} (omega arith) {i = 0} {j = n} (omega arith)))
    (λ i k. none i k ∙ sym (zero_digit i))

-- the highest nonzero place of a number with n digits, if there is one
pub record Top (n u : ℕ) : Type 0 where
  pub place : ℕ
  pub inside : place < n
  pub some : 0 < digit u place
  pub above : (j : ℕ) → place < j → digit u j ≡ 0

top_below : (n u m : ℕ) → m ≤ n → ((j : ℕ) → m ≤ j → digit u j ≡ 0) → ((j : ℕ) → digit u j ≡ 0) ⊎ Top n u
top_below n u zero h none = inl (λ j. none j (omega arith))
top_below n u (suc m) h none =
    ⊎_elim
    (λ e. top_below n u m (omega arith) (λ j k. ⊎_elim (λ p. subst (λ x. digit u x ≡ 0) p e) (λ p. none j (omega arith)) (cases_eq m j)))
    (λ e. inr (record { place = m; inside = h; some = omega arith; above = none })) (cases_eq (digit u m) 0)

pub top_of : (n u : ℕ) → u < 4 ^ n → (u ≡ 0) ⊎ Top n u
top_of n u h =
    ⊎_elim (λ none. inl (no_digits n u h (λ i _. none i))) (λ top. inr top) (top_below n u n (omega arith) (λ j k. digit_past n u j h k))

-- blanking it leaves nothing from there on
pub top_blanked : (n u : ℕ) (top : Top n u) (j : ℕ) → top.place ≤ j → digit (blank n u top.place) j ≡ 0
top_blanked n u top j h =
    ⊎_elim (λ l. grind (arith, nat_tests, put_digit n u top.place 0 (omega arith) j l, top.above j))
    (digit_past n (blank n u top.place) j (put_below n u top.place 0 (omega arith))) (cases_lt j n)

module _ (T : Scheme) (proper : Proper T) where
  abbrev n : ℕ
  n = T.checks.n

  abbrev before : ℕ → ℕ → Bool
  before = T.ranking.before

  abbrev at : ℕ → ℕ
  at i = get_or (leaders T) i 0

  -- every leader but 0 is a sprout of an earlier one: of itself with its highest nonzero place blanked
  pub record Parent (k : ℕ) : Type 0 where
    pub index : ℕ
    pub earlier : index < k
    pub sprout : Sprout T (at index) (at k)

  module _ (k : ℕ) (inside : k < coset_count T) where
    abbrev u : ℕ
    u = at k

    mark : MarkOf T u
    mark = at_mark T proper k inside

    module _ (top : Top n u) where
      abbrev w : ℕ
      w = blank n u top.place

      w_mark : MarkOf T w
      w_mark = blank_mark T.symbols proper.alphabet n u top.place mark

      w_leads : leader_of T w ≡ w
      w_leads = blank_leads T proper u top.place mark (at_leader T proper k inside) top.inside top.some

      parent_of : Parent k
      parent_of =
          let (j, within, number, place) = leader_place T proper w w_mark in
          let here : at j ≡ w = place ∙ w_leads in
          record {
            index = j;
            earlier = leaders_before T proper j k within (subst (λ x. before x u ≡ true) (sym here) (blank_before T proper u top.place mark (at_leader T proper k inside) top.inside top.some));
            sprout = record {
              place = top.place;
              symbol = digit u top.place;
              inside = top.inside;
              above = λ i h. ap (λ x. digit x i) here ∙ top_blanked n u top i h;
              some = top.some;
              below = mark.symbols top.place;
              is = sym (blank_put T proper u top.place mark (at_leader T proper k inside) top.inside top.some) ∙ ap (λ x. put n x top.place (digit u top.place)) (sym here);
            };
          }

    pub parent : (at k ≡ 0) ⊎ Parent k
    parent = ⊎_elim (λ e. inl e) (λ top. inr (parent_of top)) (top_of n u mark.short)

  -- the first leader is 0, and no other is
  pub first_leader : at 0 ≡ 0
  first_leader = ⊎_elim (λ e. e) (λ p. absurd (omega (arith, p.earlier))) (parent 0 (some_coset T proper))

  zero_first_only : (k : ℕ) → k < coset_count T → at k ≡ 0 → k ≡ 0
  zero_first_only zero h e = refl
  zero_first_only (suc k) h e =
      absurd (never_itself T proper 0 (subst (λ x. before x 0 ≡ true) first_leader (subst (λ x. before (at 0) x ≡ true) e (leaders_order T proper 0 (suc k) (omega arith) h))))

  -- the next leader waits
  next_waits : (k : ℕ) (items : List ℕ) → Waiting T k k items → k < coset_count T → Has items (at k)
  next_waits k items waiting h = go (parent k h)
    where
      settled : (leader_number T (at k) ≤ k) ⊎ Has items (at k) → Has items (at k)
      settled (inl l) = absurd (omega (arith, number_at T proper k h))
      settled (inr l) = l

      go : (at k ≡ 0) ⊎ Parent k → Has items (at k)
      go (inl e) = subst (Has items) (sym e) (waiting.start (zero_first_only k h e))
      go (inr p) = settled (waiting.sprouts p.index (at k) p.earlier p.sprout)

  -- The first waiting mark, where its coset is not settled, is the next leader.
  pub next_leader : (k : ℕ) (items : List ℕ) (u : ℕ) → Waiting T k k items → Has items u → ((v : ℕ) → Has items v → before v u ≡ false) → k < leader_number T u → at k ≡ u
  next_leader k items u waiting here first unsettled =
      ⊎_elim (λ e. e) (λ h. absurd (not_before h)) (upto_trans before (λ v. v < 4 ^ n) (order T proper) (at k) (leader_of T u) u placed led)
    where
      mark_u : MarkOf T u
      mark_u = all-has (MarkOf T) items u waiting.marks here

      within : k < coset_count T
      within = omega (arith, number_most T proper u mark_u)

      not_before : before (at k) u ≡ true → ⊥
      not_before h = true≢false (sym h ∙ first (at k) (next_waits k items waiting within))

      led : (leader_of T u ≡ u) ⊎ (before (leader_of T u) u ≡ true)
      led = leader_first T proper u mark_u u mark_u refl

      placed : (at k ≡ leader_of T u) ⊎ (before (at k) (leader_of T u) ≡ true)
      placed =
          let (j, inside, number, place) = leader_place T proper u mark_u in
          subst (λ v. (at k ≡ v) ⊎ (before (at k) v ≡ true)) place
          (⊎_elim (λ e. inl (ap at e)) (λ e. inr (leaders_order T proper k j (omega arith) inside)) (cases_eq k j))

  -- Where none waits, every coset is settled.
  pub none_waits : (k : ℕ) (items : List ℕ) → Waiting T k k items → length items ≡ 0 → k ≤ coset_count T → k ≡ coset_count T
  none_waits k items waiting e h =
      ⊎_elim (λ l. absurd (omega (arith, (next_waits k items waiting l).1))) (λ l. omega arith) (cases_lt k (coset_count T))

  -- what becomes of those that wait: one is taken whose coset is settled now; one is put; a leader's sprouts are all put
  pub waiting_taken : (k k' m : ℕ) (items rest : List ℕ) (u : ℕ) → Waiting T k m items → IsPermutation items (u ∷ rest) → k ≤ k' → leader_number T u ≤ k' → Waiting T k' m rest
  waiting_taken k k' m items rest u waiting same h l = record {
    marks = all.1;
    start = λ e. absurd (omega (arith, number_least T proper u all.0));
    sprouts = λ j v p s. ⊎_elim (λ a. inl (omega arith)) (λ a. go v (has_cases u rest v (has_shuffled items (u ∷ rest) v same a))) (waiting.sprouts j v p s);
  }
    where
      all : AllByRecursion (MarkOf T) (u ∷ rest)
      all = all_shuffled (MarkOf T) items (u ∷ rest) same waiting.marks

      go : (v : ℕ) → (u ≡ v) ⊎ Has rest v → (leader_number T v ≤ k') ⊎ Has rest v
      go v (inl e) = inl (subst (λ x. leader_number T x ≤ k') e l)
      go v (inr a) = inr a

  pub waiting_put : (k m : ℕ) (items more : List ℕ) (v : ℕ) → Waiting T k m items → MarkOf T v → IsPermutation (v ∷ items) more → Waiting T k m more
  waiting_put k m items more v waiting mark-v same = record {
    marks = all_shuffled (MarkOf T) (v ∷ items) more same (mark-v, waiting.marks);
    start = λ e. keep 0 (waiting.start e);
    sprouts = λ j w p s. ⊎_elim (λ a. inl a) (λ a. inr (keep w a)) (waiting.sprouts j w p s);
  }
    where
      keep : (w : ℕ) → Has items w → Has more w
      keep w a = has_shuffled (v ∷ items) more w same (has_there v items w a)

  pub waiting_more : (k m : ℕ) (items : List ℕ) → Waiting T k m items → ((v : ℕ) → Sprout T (at m) v → Has items v) → Waiting T k (m + 1) items
  waiting_more k m items waiting here = record {
    marks = waiting.marks;
    start = waiting.start;
    sprouts = λ j v p s. ⊎_elim (λ e. inr (here v (subst (λ i. Sprout T (at i) v) e s))) (λ e. waiting.sprouts j v (omega arith) s) (cases_eq j m);
  }
