-- One more leader is settled: its record is written.
use Rattle.std.proofs.Common.{◌≡◌, ℕ, ◌+◌, ◌<◌, ◌≤◌, Bool, true, false, cond, leb, ◌⊎◌, length, get_or, take, set, is_some, Some, None, Ok, sym, refl, ap, ◌∙◌, subst, inl, inr, arith, length-take}
use Rattle.std.proofs.lemmas.List.{get_or-take, get_or-set_same, get_or-set_other, length-set}
use Rattle.std.proofs.lemmas.Bool.{cases_eq, leb-true, leb-false}
use Rattle.std.proofs.lemmas.Bool.Decides.{nat_tests}
use Rattle.leaders.specs.Leaders.{check_of, leaders, coset_count, leader_number}
use Rattle.leaders.specs.Schemes.{Scheme, MarkOf, Proper}
use Rattle.leaders.proofs.Adding.{check_below}
use Rattle.leaders.proofs.Leaders.{at_mark, few_leaders, number_at, number_same, same_number}
use Rattle.table.specs.Answers.{scratch_size, grow_answer, accepted}
use Rattle.table.specs.Records.{recorded, Settled}
use Rattle.table.specs.declared.records.Records.{Records}

-- whether a number is written tells whether it is at most k
some_written : (m k : ℕ) → is_some (cond (leb m k) (Some m) None) ≡ leb m k
some_written m k = go (leb m k)
  where
    go : (b : Bool) → is_some (cond b (Some m) None) ≡ b
    go true = refl
    go false = refl

module _ (T : Scheme) (proper : Proper T) (records : Records) (settled : Settled T records) where
  abbrev k : ℕ
  k = records.settled

  -- every check number has its place
  pub check_inside : (u : ℕ) → check_of T u < 256
  check_inside u = omega (arith, check_below T.symbols proper.alphabet T.checks proper.check_symbols u, proper.few_cosets)

  -- what is written under a mark's check number tells whether its coset is settled
  written : (u : ℕ) → MarkOf T u → is_some (get_or records.numbers (check_of T u) None) ≡ leb (leader_number T u) k
  written u mark = ap is_some (settled.number u mark) ∙ some_written (leader_number T u) k

  pub not_settled : (u : ℕ) → MarkOf T u → is_some (get_or records.numbers (check_of T u) None) ≡ false → k < leader_number T u
  not_settled u mark e = leb-false (leader_number T u) k (sym (written u mark) ∙ e)

  pub is_settled : (u : ℕ) → MarkOf T u → is_some (get_or records.numbers (check_of T u) None) ≡ true → leader_number T u ≤ k
  is_settled u mark e = leb-true (leader_number T u) k (sym (written u mark) ∙ e)

  -- the settled leaders, as they stand in front of the records
  module _ (j : ℕ) (h : j < length (take k records.leaders)) where
    inside : j < k
    inside = omega (arith, length-take k records.leaders)

    pub front_inside : j < coset_count T
    front_inside = omega (arith, inside, settled.within)

    pub front_leader : get_or (take k records.leaders) j 0 ≡ get_or (leaders T) j 0
    front_leader = get_or-take k records.leaders j 0 inside ∙ settled.leader j inside

    pub front_mark : MarkOf T (get_or (take k records.leaders) j 0)
    front_mark = subst (MarkOf T) (sym front_leader) (at_mark T proper j front_inside)

  module _ (u : ℕ) (next : k < coset_count T) (is : get_or (leaders T) k 0 ≡ u) where
    pub next_mark : MarkOf T u
    next_mark = subst (MarkOf T) is (at_mark T proper k next)

    number_is : leader_number T u ≡ k + 1
    number_is = ap (leader_number T) (sym is) ∙ number_at T proper k next ∙ omega arith

    pub settled_more : Settled T (recorded records u (check_of T u))
    settled_more = record {
      within = omega arith;
      most = omega (arith, few_leaders T proper, proper.few_cosets);
      long_leaders = length-set records.leaders k u ∙ settled.long_leaders;
      long_numbers = length-set records.numbers (check_of T u) (Some (k + 1)) ∙ settled.long_numbers;
      leader = λ j h. at_leader j h (cases_eq j k);
      number = λ v m. at_number v m (cases_eq (check_of T v) (check_of T u));
    }
      where
        at_leader : (j : ℕ) → j < k + 1 → (j ≡ k) ⊎ (j ≡ k → ⊥) → get_or (set records.leaders k u) j 0 ≡ get_or (leaders T) j 0
        at_leader j h (inl e) =
            ap (λ i. get_or (set records.leaders k u) i 0) e ∙ get_or-set_same records.leaders k u 0 (omega (arith, settled.long_leaders, few_leaders T proper, proper.few_cosets))
            ∙ sym is ∙ ap (λ i. get_or (leaders T) i 0) (sym e)
        at_leader j h (inr e) = get_or-set_other records.leaders k j u 0 e ∙ settled.leader j (omega arith)

        here : (m : ℕ) → m ≡ k + 1 → Some (k + 1) ≡ cond (leb m (k + 1)) (Some m) None
        here m e = grind (arith, nat_tests)

        there : (m : ℕ) → (m ≡ k + 1 → ⊥) → cond (leb m k) (Some m) None ≡ cond (leb m (k + 1)) (Some m) None
        there m e = grind (arith, nat_tests)

        at_number : (v : ℕ) → MarkOf T v → (check_of T v ≡ check_of T u) ⊎ (check_of T v ≡ check_of T u → ⊥)
            → get_or (set records.numbers (check_of T u) (Some (k + 1))) (check_of T v) None ≡ cond (leb (leader_number T v) (k + 1)) (Some (leader_number T v)) None
        at_number v m (inl e) =
            ap (λ i. get_or (set records.numbers (check_of T u) (Some (k + 1))) i None) e ∙ get_or-set_same records.numbers (check_of T u) (Some (k + 1)) None (omega (arith, settled.long_numbers, check_inside u))
            ∙ here (leader_number T v) (number_same T proper v u m next_mark e ∙ number_is)
        at_number v m (inr e) =
            get_or-set_other records.numbers (check_of T u) (check_of T v) (Some (k + 1)) None e ∙ settled.number v m
            ∙ there (leader_number T v) (λ p. e (same_number T proper v u m next_mark (p ∙ sym number_is)))

-- a grow within its bounds is accepted, and its amount counts
pub grow_accepted : (T : Scheme) (amount room : ℕ) → amount ≤ 256 → scratch_size T ≤ room → (grow_answer T amount room ≡ Ok tt) × (accepted T amount room ≡ amount)
grow_accepted T amount room h l = (grind (arith, nat_tests), grind (arith, nat_tests))
