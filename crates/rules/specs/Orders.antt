-- A lawful ranking of marks orders all numbers: those that differ past its places rank alike.
use Rattle.std.specs.Prelude.{◌≡◌, ℕ, ◌%◌, ◌^◌, true, false, ◌⊎◌}
use Rattle.std.proofs.Common.{sym, ap, ◌∙◌, inl, inr}
use Rattle.std.proofs.lemmas.Bool.{cases_Bool, both_ways}
use Rattle.algebra.specs.Rankings.{MarkRanking, Ranks}
use Rattle.algebra.proofs.Digits.{mod_below}
use Rattle.std.specs.Cmp.{IsStrictWeakOrder}

module _ (R : MarkRanking) (ranks : Ranks R) where
  abbrev low : ℕ → ℕ
  low u = u % 4 ^ R.n

  alike : (u v w : ℕ) → low u ≡ low v → R.before u w ≡ R.before v w
  alike u v w e = ranks.reads_its_places u w ∙ ap (λ x. R.before x (low w)) e ∙ sym (ranks.reads_its_places v w)

  same : (u v : ℕ) → R.before u v ≡ false → R.before v u ≡ false → low u ≡ low v
  same u v h k =
      ranks.some_way (low u) (low v) (mod_below R.n u) (mod_below R.n v) (sym (ranks.reads_its_places u v) ∙ h) (sym (ranks.reads_its_places v u) ∙ k)

  through : (a b c : ℕ) → R.before a b ≡ false → R.before b c ≡ false → R.before a c ≡ false
  through a b c h k = go (cases_Bool (R.before b a)) (cases_Bool (R.before a c))
    where
      go : (R.before b a ≡ true) ⊎ (R.before b a ≡ false) → (R.before a c ≡ true) ⊎ (R.before a c ≡ false) → R.before a c ≡ false
      go l (inr m) = m
      go (inl l) (inl m) = absurd (both_ways (R.before b c) k (ranks.transitive b a c l m))
      go (inr l) (inl m) = alike a b c (same a b h l) ∙ k

  pub ranks_orders : IsStrictWeakOrder R.before
  ranks_orders = record { one_way = ranks.never_both; chain = through }
