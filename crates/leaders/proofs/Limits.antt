-- The limit: there are heads just where there are code words, and under a ranking by weight the first head weighs one more than the limit.
use Rattle.std.proofs.Common.{◌≡◌, ℕ, zero, suc, ◌+◌, ◌-◌, ◌*◌, ◌/◌, ◌<◌, ◌≤◌, true, ◌⊎◌, length, get_or, Decides, sym, refl, ap, ◌∙◌, subst, inl, inr, ⊎_elim, arith}
use Rattle.std.specs.List.{ContainsAt as Has}
use Rattle.std.proofs.ByRecursion.{has_get_or}
use Rattle.std.proofs.lemmas.List.{nil_from_length}
use Rattle.std.proofs.lemmas.Bool.Decides.{Decides-and, Decides-eqb, Decides-not}
use Rattle.algebra.specs.Marks.{minus, weight}
use Rattle.algebra.specs.Symbols.{Symbols}
use Rattle.leaders.specs.Heads.{limit_of, heads, is_word, words, limit, Head, Word}
use Rattle.leaders.specs.Leaders.{check_of, marks, leader_of}
use Rattle.leaders.specs.Schemes.{Scheme, MarkOf, Proper}
use Rattle.leaders.proofs.Adding.{zero_mark, minus_mark, minus_minus, minus_itself, minus_apart, differing_weight, minus_word, minus_same}
use Rattle.leaders.proofs.Fronts.{front, front_digit, front_weight, front_mark}
use Rattle.leaders.proofs.Heads.{heads_has, has_heads, heads_order, zero_leads, Seat, seat_of}
use Rattle.leaders.proofs.Leaders.{no_heavier, mark_listed, listed_mark, leader_mark, leader_check, leader_same}
use Rattle.leaders.proofs.Ranked.{has_none, kept_has, has_kept}
use Rattle.leaders.proofs.Turns.{tail_before}
use Rattle.leaders.proofs.Weights.{sits_weight, minus_weight, weight_some, weight_reaches, Least, least_of}

module _ (T : Scheme) (proper : Proper T) where
  abbrev S : Symbols
  S = T.symbols

  abbrev n : ℕ
  n = T.checks.n

  -- the nonzero code words, and nothing else
  word_test : (c : ℕ) → Decides (is_word T c) ((c ≡ 0 → ⊥) × (check_of T c ≡ 0))
  word_test c = Decides-and _ _ (Decides-not _ (Decides-eqb c 0)) (Decides-eqb (check_of T c) 0)

  pub words_has : (c : ℕ) → Word T c → Has (words T) c
  unfolding words
  words_has c word = kept_has (is_word T) (marks T) c (mark_listed T proper c word.mark) ((word_test c).1 (word.some, word.check))

  pub has_words : (c : ℕ) → Has (words T) c → Word T c
  unfolding words
  has_words c h =
      let k = has_kept (is_word T) (marks T) c h in
      let tested = (word_test c).0 k.1 in
      record { mark = listed_mark T proper c k.0; some = tested.0; check = tested.1 }

  -- a head and its tail differ by a word
  pub head_word : (h : ℕ) → Head T h → Word T (minus S n h (leader_of T h))
  head_word h head = record {
    mark = minus_mark S proper.alphabet n h (leader_of T h);
    some = λ e. head.misled (sym (minus_apart S proper.alphabet n h (leader_of T h) head.mark tail e));
    check = minus_word S proper.alphabet T.checks proper.check_symbols h (leader_of T h) head.mark tail (sym (leader_check T proper h head.mark));
  }
    where
      tail : MarkOf T (leader_of T h)
      tail = leader_mark T proper h head.mark

  -- a word lies in the coset of 0, so it is no leader and a head sits in it
  zero_check : check_of T 0 ≡ 0
  zero_check =
      let zeros = zero_mark S proper.alphabet n in
      ap (check_of T) (sym (minus_itself S proper.alphabet n 0 zeros)) ∙ minus_word S proper.alphabet T.checks proper.check_symbols 0 0 zeros zeros refl

  word_misled : (c : ℕ) → Word T c → leader_of T c ≡ c → ⊥
  word_misled c word e =
      word.some (sym e ∙ leader_same T proper c 0 word.mark (zero_mark S proper.alphabet n) (word.check ∙ sym zero_check) ∙ zero_leads T proper)

  pub word_seat : (c : ℕ) → Word T c → Seat T proper c
  word_seat c word = ⊎_elim (λ e. absurd (word_misled c word e)) (λ seat. seat) (seat_of T proper c word.mark)

  -- so there are heads just where there are words
  pub no_words : length (words T) ≡ 0 → length (heads T) ≡ 0
  no_words none =
      has_none (heads T) (λ h k. let head = has_heads T proper h k in omega (arith, (words_has (minus S n h (leader_of T h)) (head_word h head)).1))

  pub no_heads : length (heads T) ≡ 0 → length (words T) ≡ 0
  no_heads none =
      has_none (words T) (λ c k. let seat = word_seat c (has_words c k) in omega (arith, (heads_has T proper seat.head seat.is).1))

  -- of a mark and that mark less a word, one is no leader: they lie in one coset
  word_splits : (c u : ℕ) → Word T c → MarkOf T u → Seat T proper u ⊎ Seat T proper (minus S n u c)
  word_splits c u word mark = go (seat_of T proper u mark) (seat_of T proper v (minus_mark S proper.alphabet n u c))
    where
      v : ℕ
      v = minus S n u c

      coset : check_of T v ≡ check_of T u
      coset = minus_same S proper.alphabet T.checks proper.check_symbols u c mark word.mark word.check

      apart : u ≡ v → ⊥
      apart e = word.some (sym (minus_minus S proper.alphabet n u c mark word.mark) ∙ ap (minus S n u) (sym e) ∙ minus_itself S proper.alphabet n u mark)

      go : (leader_of T u ≡ u) ⊎ Seat T proper u → (leader_of T v ≡ v) ⊎ Seat T proper v → Seat T proper u ⊎ Seat T proper v
      go (inl e) (inl k) = absurd (apart (sym e ∙ sym (leader_same T proper v u (minus_mark S proper.alphabet n u c) mark coset) ∙ k))
      go (inl e) (inr seat) = inr seat
      go (inr seat) k = inl seat

  seat_weight : (w : ℕ) (seat : Seat T proper w) → weight n seat.head ≤ weight n w
  seat_weight w seat = omega (arith, sits_weight n seat.head w seat.sits)

  module _ (d : ℕ) (least : Least n (words T) d) where
    abbrev c : ℕ
    c = least.one

    word : Word T c
    word = has_words c least.here

    least_some : 0 < d
    least_some = omega (arith, weight_some n c word.mark.short word.some, least.is)

    -- so a head weighs at most half of what the word c does, rounded up: take the first places of c that weigh this
    light_head : (h : ℕ) × Head T h × (weight n h ≤ (d + 1) / 2)
    light_head = go (weight_reaches n c ((d + 1) / 2) (omega (arith, least.is, least_some)))
      where
        go : (m : ℕ) × (m ≤ n) × (weight m c ≡ (d + 1) / 2) → (h : ℕ) × Head T h × (weight n h ≤ (d + 1) / 2)
        go (m, inside, e) =
            ⊎_elim (λ seat. (seat.head, seat.is, omega (arith, seat_weight u seat, u_weight)))
            (λ seat. (seat.head, seat.is, omega (arith, seat_weight v seat, v_weight))) (word_splits c u word u_mark)
          where
            u : ℕ
            u = front c m

            v : ℕ
            v = minus S n u c

            u_mark : MarkOf T u
            u_mark = front_mark S proper.alphabet n c m word.mark inside

            u_weight : weight n u ≡ (d + 1) / 2
            u_weight = front_weight n c m inside ∙ e

            v_weight : weight n v ≤ (d + 1) / 2
            v_weight = omega (arith, sits_weight n u c (λ i _. front_digit c m i), differing_weight S proper.alphabet n u c u_mark word.mark, u_weight, least.is)

  -- the limit by the least weight of the words
  pub no_limit : length (words T) ≡ 0 → limit T ≡ n
  unfolding limit
  no_limit none = ap (limit_of n) (nil_from_length (words T) none)

  limit_least : (c : ℕ) → Word T c → (d : ℕ) × Least n (words T) d × (limit T ≡ (d - 1) / 2)
  unfolding limit
  limit_least c word = least_of n (words T) c (words_has c word)

  -- no word weighs less than one more than twice the limit
  pub word_weight : (c : ℕ) → Word T c → 2 * limit T < weight n c
  word_weight c word = let (d, least, e) = limit_least c word in omega (arith, least.most c (words_has c word), least_some d least)

  module _ (weighs : T.ranking.by_weight ≡ true) where
    -- a head weighs more than the limit: with its tail, which is no heavier, as much as a word
    pub head_over : (h : ℕ) → Head T h → limit T < weight n h
    head_over h head =
        let (d, least, e) = limit_least (minus S n h tail) (head_word h head) in
        omega (
          arith,
          least_some d least,
          least.most (minus S n h tail) (words_has (minus S n h tail) (head_word h head)),
          minus_weight S proper.alphabet n h tail head.mark tail_mark,
          no_heavier T proper weighs tail h tail_mark head.mark (tail_before T proper h head),
        )
      where
        tail : ℕ
        tail = leader_of T h

        tail_mark : MarkOf T tail
        tail_mark = leader_mark T proper h head.mark

    -- so marks up to the limit lead
    pub limit_leads : (w : ℕ) → MarkOf T w → weight n w ≤ limit T → leader_of T w ≡ w
    limit_leads w mark h =
        ⊎_elim (λ e. e) (λ seat. absurd (omega (arith, head_over seat.head seat.is, seat_weight w seat))) (seat_of T proper w mark)

    -- the first head is a lightest one, and weighs one more than the limit
    module _ (some : 0 < length (heads T)) where
      abbrev first : ℕ
      first = get_or (heads T) 0 0

      first_head : Head T first
      first_head = has_heads T proper first (has_get_or (heads T) 0 0 some)

      pub first_lightest : (h : ℕ) → Has (heads T) h → weight n (get_or (heads T) 0 0) ≤ weight n h
      first_lightest h (zero, l, e) = omega (arith, ap (weight n) (e 0))
      first_lightest h (suc k, l, e) =
          no_heavier T proper weighs first h first_head.mark (has_heads T proper h (suc k, l, e)).mark
          (subst (λ x. T.ranking.before first x ≡ true) (e 0) (heads_order T proper 0 (suc k) (omega arith) l))

      pub limit_head : weight n (get_or (heads T) 0 0) ≡ limit T + 1
      limit_head =
          let (d, least, e) = limit_least (minus S n first (leader_of T first)) (head_word first first_head) in
          let (h, head, light) = light_head d least in
          omega (arith, head_over first first_head, first_lightest h (heads_has T proper h head), least_some d least)
