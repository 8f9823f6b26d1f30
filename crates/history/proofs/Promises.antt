-- A call that was made as defined keeps every promise.
use Rattle.std.proofs.Common.{◌≡◌, ℕ, ◌-◌, ◌<◌, ◌≤◌, Bool, true, false, cond, ◌&&◌, eqb, leb, ◌⊎◌, List, get_or, Some, Ok, Err, vec_items, vec_len, Result, sym, refl, ap, ◌∙◌, subst, inl, inr, arith}
use Rattle.std.proofs.lemmas.Bool.{cases_lt, cond-true, cond-false, eq-eqb, eqb-true, le-leb, lt-leb, and_from}
use Rattle.std.proofs.lemmas.Bool.Decides.{nat_tests}
use Rattle.algebra.specs.Marks.{number_of, bytes_of, minus}
use Rattle.algebra.proofs.Marks.{number_back}
use Rattle.leaders.specs.Corrections.{Corrects}
use Rattle.leaders.specs.Leaders.{leaders, coset_count, leader_of, leader_number}
use Rattle.leaders.specs.Schemes.{Scheme, MarkOf, Proper}
use Rattle.leaders.proofs.Adding.{minus_mark}
use Rattle.leaders.proofs.Corrections.{leader_corrects}
use Rattle.leaders.proofs.Leaders.{at_mark, at_leader, leader_at, leader_mark, leaders_order, number_least, number_most}
use Rattle.marks.specs.Reading.{reading}
use Rattle.marks.specs.declared.mark.Mark.{Mark}
use Rattle.refusals.specs.declared.Refusal.{Refusal}
use Rattle.refusals.specs.declared.Refusal.TheVariants.{Buffer, NotSettled, OutOfRange}
use Rattle.table.proofs.Finding.{read_sound}
use Rattle.table.specs.Answers.{grow_answer, leader_answer, settled_number, found_of, written, correction_of, corrected_of}
use Rattle.history.specs.Histories.{answered, answer_by, first_by, second_by, found, Made}
use Rattle.history.specs.Promises.{LeaderAt, SoundInput, settled_by, Promised}
use Rattle.history.specs.declared.entry.Answer.TheVariants.{Grown, Tally as Tallied, Found, Leader as Led}
use Rattle.history.specs.declared.entry.Call.{Call}
use Rattle.history.specs.declared.entry.Call.TheVariants.{Grow, Tally, Find, Leader}
use Rattle.history.specs.declared.entry.Entry.{Entry}

never : ◌≡◌ {A = ℕ} 0 1 → ⊥
never e = omega arith

-- what an answer tells of the call's own result
found_was : (r : Result ℕ Refusal) (m : ℕ) → answered Found r ≡ Ok (Found m) → r ≡ Ok m
found_was (Ok x) m e = cc
found_was (Err x) m e = absurd (never cc)

refused_was : (r : Result ℕ Refusal) (x : Refusal) → answered Found r ≡ Err x → r ≡ Err x
refused_was (Ok m) x e = absurd (never cc)
refused_was (Err y) x e = cc

-- find answered, so the mark was read
mark_was : (T : Scheme) (k : ℕ) (r : Result Mark Refusal) (first second m : ℕ) → found_of T k r first second ≡ Ok m → (mark : Mark) × (Ok mark ≡ r)
mark_was T k (Ok mark) first second m e = (mark, refl)
mark_was T k (Err x) first second m e = absurd (never cc)

-- buffers of the right length leave the answer to the look-up
pub found_with_buffers : (T : Scheme) (k : ℕ) (mark : Mark) (first second : ℕ) (r : Result ℕ Refusal) → first ≡ T.checks.n → second ≡ T.checks.n → r ≡ settled_number T k mark.number → r ≡ found_of T k (Ok mark) first second
found_with_buffers T k mark first second r e e' h =
    h ∙ sym (cond-true (eqb first T.checks.n && eqb second T.checks.n) (settled_number T k mark.number) (Err Buffer)
    (and_from (eqb first T.checks.n) (eqb second T.checks.n) (eq-eqb first T.checks.n e) (eq-eqb second T.checks.n e')))

written_ok : (T : Scheme) (r : Result ℕ Refusal) (m u : ℕ) (before : List ℕ) → r ≡ Ok m → written T r u before ≡ bytes_of T.checks.n u
written_ok T r m u before e = ap (λ x. written T x u before) e

-- only a tally answers with a count
tally_was : (T : Scheme) (k : ℕ) (call : Call) (entry : Entry) (count : ℕ) (finished : Bool) → answer_by T k call entry ≡ Ok (Tallied count finished) → (count ≡ k) × (finished ≡ eqb k (coset_count T))
tally_was T k (Grow amount) entry count finished e = no (grow_answer T amount (vec_len entry.scratch)) e
  where
    no : (r : Result (Unit {0}) Refusal) → answered (λ _. Grown) r ≡ Ok (Tallied count finished) → (count ≡ k) × (finished ≡ eqb k (coset_count T))
    no (Ok x) e = absurd (never cc)
    no (Err x) e = absurd (never cc)
tally_was T k Tally entry count finished e = (cc, cc)
tally_was T k Find entry count finished e = no (found T k entry) e
  where
    no : (r : Result ℕ Refusal) → answered Found r ≡ Ok (Tallied count finished) → (count ≡ k) × (finished ≡ eqb k (coset_count T))
    no (Ok x) e = absurd (never cc)
    no (Err x) e = absurd (never cc)
tally_was T k (Leader j) entry count finished e = no (leader_answer T k j) e
  where
    no : (r : Result ℕ Refusal) → answered Led r ≡ Ok (Tallied count finished) → (count ≡ k) × (finished ≡ eqb k (coset_count T))
    no (Ok x) e = absurd (never cc)
    no (Err x) e = absurd (never cc)

-- a look-up is refused just beyond the settled leaders
unsettled_was : (m k : ℕ) → cond (leb m k) (Ok m) (Err NotSettled) ≡ Err NotSettled → k < m
unsettled_was m k e = go (cases_lt k m)
  where
    go : (k < m) ⊎ (m ≤ k) → k < m
    go (inl h) = h
    go (inr h) = let p : Ok m ≡ Err NotSettled = sym (cond-true (leb m k) (Ok m) (Err NotSettled) (le-leb m k h)) ∙ e in absurd (never cc)

module _ (T : Scheme) (proper : Proper T) where
  -- leader j, among all leaders
  pub leader_is_at : (j : ℕ) → 1 ≤ j → j ≤ coset_count T → LeaderAt T j (get_or (leaders T) (j - 1) 0)
  leader_is_at j low high = record {
    mark = at_mark T proper (j - 1) (omega arith);
    leads = at_leader T proper (j - 1) (omega arith);
    earlier = λ v mark leads h. subst (λ x. T.ranking.before x u ≡ true) (itself v mark leads) (leaders_order T proper (leader_number T v - 1) (j - 1) (below v mark h) (omega arith));
    later = λ v mark leads h. subst (λ x. T.ranking.before u x ≡ true) (itself v mark leads) (leaders_order T proper (j - 1) (leader_number T v - 1) (omega arith) (inside v mark));
  }
    where
      u : ℕ
      u = get_or (leaders T) (j - 1) 0

      itself : (v : ℕ) → MarkOf T v → leader_of T v ≡ v → get_or (leaders T) (leader_number T v - 1) 0 ≡ v
      itself v mark leads = leader_at T proper v mark (leader_number T v - 1) (omega (arith, number_least T proper v mark)) ∙ leads

      below : (v : ℕ) → MarkOf T v → leader_number T v < j → leader_number T v - 1 < j - 1
      below v mark h = omega (arith, number_least T proper v mark)

      inside : (v : ℕ) → MarkOf T v → leader_number T v - 1 < coset_count T
      inside v mark = omega (arith, number_least T proper v mark, number_most T proper v mark)

  module _ (grown : ℕ) (old new : Entry) (made : Made T (settled_by T grown old new) old new) where
    abbrev k : ℕ
    k = settled_by T grown old new

    abbrev n : ℕ
    n = T.checks.n

    abbrev bytes : List ℕ
    bytes = vec_items old.mark

    -- the answer, by the call that it was
    answer_was : (call : Call) → old.call ≡ call → new.answer ≡ Some (answer_by T k call old)
    answer_was call e = made.answer ∙ ap (λ x. Some (answer_by T k x old)) e

    -- what find wrote
    module _ (number : ℕ) (call : old.call ≡ Find) (answer : new.answer ≡ Some (Ok (Found number))) where
      ok : found T k old ≡ Ok number
      ok = found_was (found T k old) number (let p = answer_was Find call in cc)

      seen : (mark : Mark) × (Ok mark ≡ reading T.symbols n bytes)
      seen = mark_was T k (reading T.symbols n bytes) (vec_len old.first) (vec_len old.second) number ok

      mark : MarkOf T (number_of bytes)
      mark = let read = read_sound T.symbols proper.alphabet n bytes seen.0 seen.1 in subst (MarkOf T) read.0 read.1

      first_was : number_of (vec_items new.first) ≡ leader_of T (number_of bytes)
      first_was =
          ap number_of (made.first ∙ ap (λ x. first_by T k x old) call ∙ written_ok T (found T k old) number (correction_of T bytes) (vec_items old.first) ok)
          ∙ number_back n (leader_of T (number_of bytes)) (leader_mark T proper (number_of bytes) mark).short

      second_was : number_of (vec_items new.second) ≡ minus T.symbols n (number_of bytes) (leader_of T (number_of bytes))
      second_was =
          ap number_of (made.second ∙ ap (λ x. second_by T k x old) call ∙ written_ok T (found T k old) number (corrected_of T bytes) (vec_items old.second) ok)
          ∙ number_back n (corrected_of T bytes) (minus_mark T.symbols proper.alphabet n (number_of bytes) (leader_of T (number_of bytes))).short

      right : Corrects T (number_of (vec_items new.mark)) (number_of (vec_items new.first)) (number_of (vec_items new.second))
      right =
          subst (λ y. Corrects T y (number_of (vec_items new.first)) (number_of (vec_items new.second))) (ap number_of (sym made.mark_stays))
          (subst (λ e. Corrects T (number_of bytes) e (number_of (vec_items new.second))) (sym first_was)
          (subst (Corrects T (number_of bytes) (leader_of T (number_of bytes))) (sym second_was) (leader_corrects T proper (number_of bytes) mark)))

    -- find on sound input leaves the answer to the look-up
    looked_up : (mark : Mark) → old.call ≡ Find → SoundInput T old mark → new.answer ≡ Some (answered Found (settled_number T k mark.number))
    looked_up mark call sound =
        answer_was Find call
        ∙ ap (λ r. Some (answered Found (found_of T k r (vec_len old.first) (vec_len old.second)))) sound.reads
        ∙ ap (λ r. Some (answered Found r)) (sym (found_with_buffers T k mark (vec_len old.first) (vec_len old.second) (settled_number T k mark.number) sound.first sound.second refl))

    unsettled : (mark : Mark) → old.call ≡ Find → SoundInput T old mark → k < leader_number T mark.number → new.answer ≡ Some (Err NotSettled)
    unsettled mark call sound h =
        looked_up mark call sound ∙ ap (λ r. Some (answered Found r)) (cond-false (leb (leader_number T mark.number) k) (Ok (leader_number T mark.number)) (Err NotSettled) (lt-leb (leader_number T mark.number) k h))

    only_unsettled : (mark : Mark) → old.call ≡ Find → SoundInput T old mark → new.answer ≡ Some (Err NotSettled) → k < leader_number T mark.number
    only_unsettled mark call sound e =
        unsettled_was (leader_number T mark.number) k
        (refused_was (settled_number T k mark.number) NotSettled (let p = looked_up mark call sound in cc))

    answers : (j : ℕ) → old.call ≡ Leader j → 1 ≤ j → j ≤ k → (u : ℕ) × (new.answer ≡ Some (Ok (Led u))) × LeaderAt T j u
    answers j call low high = (
      get_or (leaders T) (j - 1) 0,
      answer_was (Leader j) call ∙ ap (λ r. Some (answered Led r)) (cond-true (leb 1 j && leb j k) (Ok (get_or (leaders T) (j - 1) 0)) (Err OutOfRange) (and_from (leb 1 j) (leb j k) (le-leb 1 j low) (le-leb j k high))),
      leader_is_at j low (omega arith),
    )

    answers_no_other : (j : ℕ) → old.call ≡ Leader j → (1 ≤ j → k < j) → new.answer ≡ Some (Err OutOfRange)
    answers_no_other j call h = answer_was (Leader j) call ∙ ap (λ r. Some (answered Led r)) (cond-false (leb 1 j && leb j k) (Ok (get_or (leaders T) (j - 1) 0)) (Err OutOfRange) (outside (cases_lt 0 j)))
      where
        outside : (0 < j) ⊎ (j ≤ 0) → (leb 1 j && leb j k) ≡ false
        outside (inl l) = let m = h l in grind (arith, nat_tests)
        outside (inr l) = grind (arith, nat_tests)

    counts : (count : ℕ) (finished : Bool) → new.answer ≡ Some (Ok (Tallied count finished)) → (count ≡ k) × (finished ≡ true → count ≡ coset_count T) × (count ≡ coset_count T → finished ≡ true)
    counts count finished e =
        let was = tally_was T k old.call old count finished (let p = made.answer in cc) in
        (was.0, (λ f. was.0 ∙ eqb-true k (coset_count T) (sym was.1 ∙ f)), (λ c. was.1 ∙ eq-eqb k (coset_count T) (sym was.0 ∙ c)))

    pub promised : Promised T grown old new
    promised = record {
      call_is_made_as_defined = made;
      correction_is_right = right;
      tally_counts_the_settled = counts;
      leader_answers_for_the_settled = answers;
      leader_answers_for_no_other = answers_no_other;
      find_is_unsettled_beyond = unsettled;
      find_is_unsettled_only_beyond = only_unsettled;
    }
