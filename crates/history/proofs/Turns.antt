-- From one call of a history to the next, and from the last one to the whole promise.
use Rattle.std.proofs.Common.{◌≡◌, ℕ, ◌+◌, ◌<◌, ◌≤◌, ◌≢◌, min, ◌⊎◌, List, length, get_or, set, sym, ap, ◌∙◌, subst, inl, inr, arith, get_or-set_other, get_or-set_same}
use Rattle.std.proofs.lemmas.Bool.{cases_lt}
use Rattle.std.proofs.lemmas.List.{get_or_default}
use Rattle.std.proofs.lemmas.List.Sums.{sum_by_more}
use Rattle.leaders.specs.Leaders.{coset_count}
use Rattle.leaders.specs.Schemes.{Scheme, Proper}
use Rattle.history.specs.Histories.{growth_of, settled_at, grown_before, Made}
use Rattle.history.specs.Promises.{History}
use Rattle.history.specs.declared.entry.Entry.{Entry}
use Rattle.history.proofs.Promises.{promised}

-- one entry more: i are made, and this one is the next
module _ (T : Scheme) (old entries : List Entry) (i : ℕ) (entry new : Entry) (inside : i < length old) (here : entry ≡ get_or old i entry) where
  pub settled_more : (k k' : ℕ) → k ≡ settled_at T i old → k' ≡ min (coset_count T) (k + growth_of T entry) → k' ≡ settled_at T (i + 1) old
  settled_more k k' e f =
      let all = sum_by_more (growth_of T) old i entry inside in
      let grows : growth_of T (get_or old i entry) ≡ growth_of T entry = ap (growth_of T) (sym here) in
      omega (arith, e, f, all, grows)

  pub made_more : length entries ≡ length old
      → ((k : ℕ) (d : Entry) → k < i → Made T (settled_at T k old) (get_or old k d) (get_or entries k d))
      → Made T (settled_at T i old) entry new
      → (k : ℕ) (d : Entry) → k < i + 1 → Made T (settled_at T k old) (get_or old k d) (get_or (set entries i new) k d)
  made_more long before made k d h = at (cases_lt k i)
    where
      at : (k < i) ⊎ (i ≤ k) → Made T (settled_at T k old) (get_or old k d) (get_or (set entries i new) k d)
      at (inl l) = let other : k ≢ i = omega arith in subst (Made T (settled_at T k old) (get_or old k d)) (sym (get_or-set_other entries i k new d other)) (before k d l)
      at (inr l) =
          let same : i ≡ k = omega arith in
          subst (λ x. Made T (settled_at T x old) (get_or old x d) (get_or (set entries i new) x d)) same
          (subst (λ x. Made T (settled_at T i old) x (get_or (set entries i new) i d)) (here ∙ get_or_default old i entry d inside)
          (subst (Made T (settled_at T i old) entry) (sym (get_or-set_same entries i new d (omega arith))) made))

  pub rest_more : ((k : ℕ) (d : Entry) → i ≤ k → get_or entries k d ≡ get_or old k d)
      → (k : ℕ) (d : Entry) → i + 1 ≤ k → get_or (set entries i new) k d ≡ get_or old k d
  rest_more before k d h = let other : k ≢ i = omega arith in get_or-set_other entries i k new d other ∙ before k d (omega arith)

pub whole_history : (T : Scheme) → Proper T → (old new : List Entry) (i : ℕ) → i ≡ length old → length new ≡ length old
    → ((k : ℕ) (d : Entry) → k < i → Made T (settled_at T k old) (get_or old k d) (get_or new k d)) → History T old new
whole_history T proper old new i end long made = record {
  calls = long;
  every_call = λ k d h. promised T proper (grown_before T k old) (get_or old k d) (get_or new k d) (made k d (omega arith));
}
