-- A turn keeps the coset and makes a mark that ranks before, so no head sits in a leader.
use Rattle.std.proofs.Common.{◌≡◌, ℕ, ◌<◌, true, ◌⊎◌, length, sym, refl, ap, ◌∙◌, subst, ap₂, inl, inr, ⊎_elim, arith}
use Rattle.algebra.specs.Digits.{digit}
use Rattle.algebra.specs.Marks.{blank, plus, minus}
use Rattle.algebra.specs.Symbols.{Symbols}
use Rattle.algebra.proofs.Digits.{zero_digit}
use Rattle.leaders.specs.Heads.{sitting, turn, Head, Sits}
use Rattle.leaders.specs.Leaders.{check_of, leader_of}
use Rattle.leaders.specs.Schemes.{Scheme, MarkOf, Proper}
use Rattle.leaders.proofs.Adding.{zero_symbol, blank_mark, plus_mark, minus_mark, plus_digit, minus_digit, plus_commutes, plus_none, plus_blank, minus_plus, plus_same, blank_here}
use Rattle.leaders.proofs.Growth.{top_of}
use Rattle.leaders.proofs.Heads.{has_sitting, blank_less, blank_sits}
use Rattle.leaders.proofs.Leaders.{filling_keeps, never_itself, never_two, leader_mark, leader_check, leader_first, leader_same}
use Rattle.leaders.proofs.Ranked.{by_smaller, has_none}

module _ (T : Scheme) (proper : Proper T) where
  abbrev S : Symbols
  S = T.symbols

  abbrev n : ℕ
  n = T.checks.n

  -- A mark added to two keeps their order, where it is 0 at each nonzero place of the later: its symbols are added one by one.
  module _ (u v : ℕ) (mu : MarkOf T u) (mv : MarkOf T v) (h : T.ranking.before u v ≡ true) where
    abbrev Apart : ℕ → Type 0
    Apart c = (i : ℕ) → i < n → (digit v i ≡ 0) ⊎ (digit c i ≡ 0)

    abbrev Keeps : ℕ → Type 0
    Keeps c = Apart c → T.ranking.before (plus S n u c) (plus S n v c) ≡ true

    keeps_zero : Keeps 0
    keeps_zero apart = ap₂ T.ranking.before (plus_none S proper.alphabet n u 0 mu (λ i _. zero_digit i)) (plus_none S proper.alphabet n v 0 mv (λ i _. zero_digit i)) ∙ h

    keeps_more : (c i : ℕ) → MarkOf T c → i < n → 0 < digit c i → Keeps (blank n c i) → Keeps c
    keeps_more c i mark inside some keeps apart =
        ap₂ T.ranking.before (sym (plus_blank S proper.alphabet n u c i mu inside)) (sym (plus_blank S proper.alphabet n v c i mv inside))
        ∙ filling_keeps T proper (plus S n u b) (plus S n v b) i (digit c i) (plus_mark S proper.alphabet n u b) (plus_mark S proper.alphabet n v b) (keeps b_apart) inside free some (mark.symbols i)
      where
        b : ℕ
        b = blank n c i

        b_apart : Apart b
        b_apart j l = ⊎_elim (λ e. inr e) (λ e. ⊎_elim (λ k. inl k) (λ k. inr (e ∙ k)) (apart j l)) (blank_sits T proper c i inside j l)

        free : digit (plus S n v b) i ≡ 0
        free =
            plus_digit S proper.alphabet n v b i inside
            ∙ ap₂ S.sum (⊎_elim (λ k. k) (λ k. absurd (omega arith)) (apart i inside)) (blank_here S proper.alphabet n c i inside)
            ∙ proper.alphabet.zero_adds_nothing 0 (zero_symbol S proper.alphabet)

    keeps : (c : ℕ) → ((b : ℕ) → b < c → MarkOf T b → Keeps b) → MarkOf T c → Keeps c
    keeps c smaller mark =
        ⊎_elim (λ e. subst Keeps (sym e) keeps_zero)
        (λ top.
        let i : ℕ = top.place in
        keeps_more c i mark top.inside top.some
        (smaller (blank n c i) (blank_less T proper c i mark top.inside top.some) (blank_mark S proper.alphabet n c i mark)))
        (top_of n c mark.short)

    pub adding_keeps : (c : ℕ) → MarkOf T c → ((i : ℕ) → i < n → (digit v i ≡ 0) ⊎ (digit c i ≡ 0)) → T.ranking.before (plus S n u c) (plus S n v c) ≡ true
    adding_keeps = by_smaller (λ c. MarkOf T c → Keeps c) keeps

  -- a head's tail ranks before it
  pub tail_before : (h : ℕ) → Head T h → T.ranking.before (leader_of T h) h ≡ true
  tail_before h head = ⊎_elim (λ e. absurd (head.misled e)) (λ k. k) (leader_first T proper h head.mark h head.mark refl)

  module _ (h w : ℕ) (head : Head T h) (mark : MarkOf T w) where
    abbrev c : ℕ
    c = minus S n w h

    tail : MarkOf T (leader_of T h)
    tail = leader_mark T proper h head.mark

    whole : plus S n h c ≡ w
    whole = plus_commutes S proper.alphabet n h c ∙ minus_plus S proper.alphabet n w h mark head.mark

    turned : plus S n (leader_of T h) c ≡ turn T h w
    unfolding turn
    turned = plus_commutes S proper.alphabet n (leader_of T h) c

    pub turn_mark : MarkOf T (turn T h w)
    turn_mark = subst (MarkOf T) turned (plus_mark S proper.alphabet n (leader_of T h) c)

    pub turn_check : check_of T (turn T h w) ≡ check_of T w
    turn_check =
        ap (check_of T) (sym turned)
        ∙ plus_same S proper.alphabet T.checks proper.check_symbols (leader_of T h) h c tail head.mark (minus_mark S proper.alphabet n w h) (leader_check T proper h head.mark)
        ∙ ap (check_of T) whole

    pub turn_leader : leader_of T (turn T h w) ≡ leader_of T w
    turn_leader = leader_same T proper (turn T h w) w turn_mark mark turn_check

    pub turn_before : Sits T h w → T.ranking.before (turn T h w) w ≡ true
    turn_before sits =
        ap₂ T.ranking.before (sym turned) (sym whole)
        ∙ adding_keeps (leader_of T h) h tail head.mark (tail_before h head) c (minus_mark S proper.alphabet n w h) apart
      where
        apart : (i : ℕ) → i < n → (digit h i ≡ 0) ⊎ (digit c i ≡ 0)
        apart i l =
            ⊎_elim (λ e. inl e)
            (λ e. inr (minus_digit S proper.alphabet n w h i l ∙ ap (λ x. S.sum x (S.opposite (digit h i))) (sym e) ∙ proper.alphabet.opposite_cancels (digit h i) (head.mark.symbols i)))
            (sits i l)

    -- so no head sits in a leader
    pub leader_bare : leader_of T w ≡ w → Sits T h w → ⊥
    leader_bare e sits =
        ⊎_elim (λ k. never_itself T proper w (subst (λ x. T.ranking.before x w ≡ true) (sym k ∙ e) (turn_before sits)))
        (λ k. never_two T proper (turn T h w) w (turn_before sits) (subst (λ x. T.ranking.before x (turn T h w) ≡ true) e k))
        (leader_first T proper w mark (turn T h w) turn_mark turn_check)

  pub leader_alone : (w : ℕ) → MarkOf T w → leader_of T w ≡ w → length (sitting T w) ≡ 0
  leader_alone w mark e = has_none (sitting T w) (λ h k. let p = has_sitting T proper h w k in leader_bare h w p.0 mark e p.1)
