-- An item rises or sinks in a heap one exchange at a time, and no item of a heap ranks before its first one.
use Rattle.std.proofs.Common.{◌≡◌, ℕ, zero, suc, ◌+◌, ◌*◌, ◌/◌, ◌<◌, ◌≤◌, Bool, true, false, List, [], ◌∷◌, ◌++◌, length, get_or, take, sym, refl, ap, ◌∙◌, ⊎_elim, arith}
use Rattle.std.specs.Cmp.{IsStrictWeakOrder}
use Rattle.std.specs.List.{AllByRecursion, SwappedAt}
use Rattle.std.proofs.ByRecursion.{All-from_get_or}
use Rattle.std.proofs.lemmas.List.{length_push, length-take-le, get_or_append_left, get_or-take}
use Rattle.std.proofs.lemmas.Bool.{cases_eq}
use Rattle.queue.specs.Order.{Heaped, parent}
use Rattle.queue.specs.Sifting.{Rising, Sinking, FirstChild}

cases : {P : Type 0} (a b : ℕ) → (a ≡ b → P) → ((a ≡ b → ⊥) → P) → P
cases a b same apart = ⊎_elim same apart (cases_eq a b)

module _ {T : Type 0} (before : T → T → Bool) where
  -- one item more, at the end
  pub rise_begins : (xs : List T) (item : T) (at : ℕ) → at ≡ length xs → Heaped before xs → Rising before (xs ++ item ∷ []) at
  rise_begins xs item at e h = record {
    under = λ k d p l n.
        let inside : k < length xs = omega (arith, length_push xs item) in
        rw (get_or_append_left xs _ d k inside, get_or_append_left xs _ d (parent k) (omega arith)) (h.under k d p inside);
    children = λ k d a p l u. absurd (omega (arith, length_push xs item));
  }

  -- the last item in the place of the first
  pub sink_begins : (xs ys : List T) (last : ℕ) → last + 1 ≡ length xs → length ys ≡ length xs → SwappedAt xs ys 0 last → Heaped before xs → Sinking before (take last ys) 0
  sink_begins xs ys last e long swap h =
      let size : length (take last ys) ≡ last = length-take-le last ys (omega arith) in
      let same : (k : ℕ) (d : T) → 0 < k → k < last → get_or (take last ys) k d ≡ get_or xs k d = λ k d p l. get_or-take last ys k d l ∙ swap.2 k d (omega arith) (omega arith) in
      record {
        under = λ k d p l n. rw (same k d p (omega arith), same (parent k) d (omega arith) (omega arith)) (h.under k d p (omega arith));
        children = λ k d a p l u. absurd (omega arith);
      }

  pub rise_rest : (xs : List T) (at : ℕ) → ((d : T) → before (get_or xs at d) (get_or xs (parent at) d) ≡ false) → Rising before xs at → Heaped before xs
  rise_rest xs at t h = record {
    under = λ k d p l. cases k at (λ q. rw q (t d)) (h.under k d p l);
  }

  module _ (o : IsStrictWeakOrder before) where
    -- nothing ranks before itself
    itself : (x : T) → before x x ≡ false
    itself x = go (before x x) refl
      where
        go : (b : Bool) → before x x ≡ b → before x x ≡ false
        go true t = o.one_way x x t
        go false t = t

    pub left_child : (xs : List T) (at : ℕ) → at < length xs / 2 → (2 * at + 1 + 1 < length xs → (d : T) → before (get_or xs (2 * at + 1 + 1) d) (get_or xs (2 * at + 1) d) ≡ false) → FirstChild before xs at (2 * at + 1)
    left_child xs at p t = record {
      low = omega arith;
      high = omega arith;
      of = omega arith;
      first = λ k d z l u. cases k (2 * at + 1) (λ q. rw q (itself _))
          (λ n. let q : k ≡ 2 * at + 1 + 1 = omega arith in rw q (t (omega arith) d));
    }

    pub right_child : (xs : List T) (at : ℕ) → 2 * at + 1 + 1 < length xs → ((d : T) → before (get_or xs (2 * at + 1 + 1) d) (get_or xs (2 * at + 1) d) ≡ true) → FirstChild before xs at (2 * at + 1 + 1)
    right_child xs at p t = record {
      low = omega arith;
      high = p;
      of = omega arith;
      first = λ k d z l u. cases k (2 * at + 1 + 1) (λ q. rw q (itself _))
          (λ n. let q : k ≡ 2 * at + 1 = omega arith in rw q (o.one_way _ _ (t d)));
    }

    pub rise_step : (xs ys : List T) (at : ℕ) → 0 < at → at < length xs → length ys ≡ length xs → ((d : T) → before (get_or xs at d) (get_or xs (parent at) d) ≡ true) → SwappedAt xs ys (parent at) at
        → Rising before xs at → Rising before ys (parent at)
    rise_step xs ys at p l long t swap h = record {
      under = λ k d z m n.
          let inside : k < length xs = omega arith in
          cases k at
          (λ q. rw (q, swap.1 d, swap.0 d) (o.one_way _ _ (t d)))
          (λ q. cases (parent k) at
          (λ u. rw (swap.2 k d n q, u, swap.1 d) (h.children k d p z inside u))
          (λ u. cases (parent k) (parent at)
          (λ v. rw (swap.2 k d n q, v, swap.0 d) (o.chain _ _ _ (rw (sym v) (h.under k d z inside q)) (o.one_way _ _ (t d))))
          (λ v. rw (swap.2 k d n q, swap.2 (parent k) d v u) (h.under k d z inside q))));
      children = λ k d w z m u.
          let inside : k < length xs = omega arith in
          let over = h.under (parent at) d w (omega arith) (omega arith) in
          let top = swap.2 (parent (parent at)) d (omega arith) (omega arith) in
          cases k at
          (λ q. rw (q, swap.1 d, top) over)
          (λ q. rw (swap.2 k d (omega arith) q, top) (o.chain _ _ _ (rw (sym u) (h.under k d z inside q)) over));
    }

    pub sink_rest : (xs : List T) (at child : ℕ) → ((d : T) → before (get_or xs child d) (get_or xs at d) ≡ false) → FirstChild before xs at child → Sinking before xs at → Heaped before xs
    sink_rest xs at child t best h = record {
      under = λ k d p l. cases (parent k) at
          (λ u. rw u (o.chain _ _ _ (best.first k d p l u) (t d)))
          (h.under k d p l);
    }

    pub sink_step : (xs ys : List T) (at child : ℕ) → length ys ≡ length xs → ((d : T) → before (get_or xs child d) (get_or xs at d) ≡ true) → SwappedAt xs ys at child
        → FirstChild before xs at child → Sinking before xs at → Sinking before ys child
    sink_step xs ys at child long t swap best h = record {
      under = λ k d z m n.
          let inside : k < length xs = omega arith in
          cases k child
          (λ q. rw (q, swap.1 d, best.of, swap.0 d) (o.one_way _ _ (t d)))
          (λ q. cases (parent k) at
          (λ u. rw (u, swap.0 d, swap.2 k d (omega arith) q) (best.first k d z inside u))
          (λ u. cases k at
          (λ v. rw (v, swap.0 d, swap.2 (parent at) d (omega arith) (omega arith)) (h.children child d (omega arith) best.low best.high best.of))
          (λ v. rw (swap.2 k d v q, swap.2 (parent k) d u n) (h.under k d z inside u))));
      children = λ k d w z m u.
          rw (swap.2 k d (omega (arith, best.of)) (omega arith), best.of, swap.0 d)
          (rw (sym u) (h.under k d z (omega arith) (omega (arith, best.of))));
    }

    top : (xs : List T) (d : T) → Heaped before xs → (fuel k : ℕ) → k ≤ fuel → k < length xs → before (get_or xs k d) (get_or xs 0 d) ≡ false
    top xs d h zero k a l = let z : k ≡ 0 = omega arith in rw z (itself _)
    top xs d h (suc fuel) k a l = cases k 0 (λ z. rw z (itself _))
        (λ q. o.chain _ _ _ (h.under k d (omega arith) l) (top xs d h fuel (parent k) (omega arith) (omega arith)))

    -- no item of a heap ranks before its first one
    pub foremost : (xs : List T) (item : T) → item ≡ get_or xs 0 item → Heaped before xs → AllByRecursion (λ other. before other item ≡ false) xs
    foremost xs item e h = All-from_get_or _ xs item (λ k l. ap (before (get_or xs k item)) e ∙ top xs item h k k (omega arith) l)
