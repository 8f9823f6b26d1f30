-- A subject's scheme is proper, and a table with nothing settled keeps its promise, whether its parts fit or not.
use Rattle.std.proofs.Common.{◌≡◌, ℕ, zero, suc, ◌+◌, ◌-◌, ◌*◌, ◌^◌, ◌<◌, ◌≤◌, Bool, true, false, cond, ◌&&◌, eqb, ltb, leb, List, [], ◌∷◌, length, filter, get_or, replicate, is_some, Some, None, Option, sym, refl, ap, ◌∙◌, subst, arith}
use Rattle.std.specs.List.{ContainsAt as Has, AllByRecursion}
use Rattle.std.proofs.ByRecursion.{All-from_get_or, has_get_or}
use Rattle.std.proofs.lemmas.Nat.{mul-add-lt}
use Rattle.std.proofs.lemmas.List.{length-replicate}
use Rattle.std.proofs.lemmas.Bool.{and_parts, cond_both, cond-false, eq-eqb, eqb-true, ltb-true, ne_eqb, true≢false}
use Rattle.std.proofs.lemmas.Bool.Decides.{nat_tests}
use Rattle.algebra.specs.Rankings.{MarkRanking, Ranks}
use Rattle.algebra.specs.Symbols.{Symbols, Lawful}
use Rattle.checkfile.specs.Contents.{checks_of}
use Rattle.checkfile.specs.declared.code.Code.{Code}
use Rattle.leaders.specs.Leaders.{first_ranked, insert, ranked, check_of, marks, coset, leader_of, is_leader, leaders, coset_count, leader_number}
use Rattle.leaders.specs.Schemes.{Scheme, Proper}
use Rattle.leaders.proofs.Adding.{zero_mark}
use Rattle.leaders.proofs.Ranked.{kept_has, has_kept, all_marks_has}
use Rattle.marks.specs.declared.alphabet.Alphabet as alphabet
use Rattle.queue.specs.declared.ranking.Ranking as ranking
use Rattle.refusals.specs.declared.Refusal.TheVariants.{OtherCode}
use Rattle.rules.specs.declared.rule.Rule as rule
use Rattle.table.specs.Answers.{open_refusal}
use Rattle.table.specs.Records.{scheme_over, nothing_settled, Kept}
use Rattle.table.specs.Subjects.{scheme_of}
use Rattle.table.specs.declared.subject.Subject.{Subject}

-- each check symbol of a code is below its count
check_symbol : (code : Code) (i j : ℕ) → (checks_of code).check i j < code.sizes.q
check_symbol code i j =
    cond_both (ltb i code.sizes.places.n && ltb j code.sizes.r) (get_or code.checks (i * code.sizes.r + j) 0) 0 (λ x. x < code.sizes.q)
    (λ h. let p = and_parts (ltb i code.sizes.places.n) (ltb j code.sizes.r) h in code.symbols (i * code.sizes.r + j) (inside (ltb-true i code.sizes.places.n p.0) (ltb-true j code.sizes.r p.1)))
    (λ _. omega (arith, code.sizes.limits.least_q))
  where
    inside : i < code.sizes.places.n → j < code.sizes.r → i * code.sizes.r + j < code.sizes.places.n * code.sizes.r
    inside h k = omega (arith, mul-add-lt i code.sizes.r j code.sizes.places.n h k)

-- a scheme whose parts fit is proper
module _ (S : Symbols) (code : Code) (R : MarkRanking) (lawful : Lawful S) (ranks : Ranks R) where
  pub fitting : R.n ≡ code.sizes.places.n → S.q ≡ code.sizes.q → Proper (scheme_over S code R)
  fitting places count = record {
    alphabet = lawful;
    ranks = ranks;
    same_length = places;
    check_symbols = λ i j. subst (λ q. (checks_of code).check i j < q) (sym count) (check_symbol code i j);
    few_fillings = subst (λ q. code.sizes.places.n * (q - 1) ≤ 24) (sym count) code.sizes.limits.most_n;
    few_cosets = subst (λ q. q ^ code.sizes.r ≤ 256) (sym count) code.sizes.limits.most_r;
  }

  -- where opening does not refuse them, they do
  pub opened_proper : open_refusal code R.n S.q ≡ None → Proper (scheme_over S code R)
  opened_proper e = go (eqb R.n code.sizes.places.n) (eqb S.q code.sizes.q) refl refl e
    where
      go : (same_length same_count : Bool) → eqb R.n code.sizes.places.n ≡ same_length → eqb S.q code.sizes.q ≡ same_count → cond (same_length && same_count) None (Some OtherCode) ≡ None → Proper (scheme_over S code R)
      go true true p q _ = fitting (eqb-true R.n code.sizes.places.n p) (eqb-true S.q code.sizes.q q)
      go true false p q h = absurd (true≢false (ap is_some h))
      go false same_count p q h = absurd (true≢false (ap is_some h))

module _ {A R : Type 0} {a : alphabet.Ghosts A} {r : rule.Ghosts R} {k : ranking.Ghosts R ℕ} where
  pub proper_of : Lawful a.symbols → ((s : R) → Ranks (r.ranks s)) → (subject : Subject A R a r k) → Proper (scheme_of subject)
  proper_of lawful ranks subject = fitting a.symbols subject.checks.code.now (r.ranks subject.rule.now) lawful (ranks subject.rule.now) subject.places subject.count

-- what ranks first, by an order that need not tell every two marks apart
module _ (before : ℕ → ℕ → Bool) (never_both : (u v : ℕ) → before u v ≡ true → before v u ≡ false) (transitive : (u v w : ℕ) → before u v ≡ true → before v w ≡ true → before u w ≡ true) where
  -- the earlier of two
  abbrev earlier : ℕ → ℕ → ℕ
  earlier u v = cond (before v u) v u

  not_earlier : (w u v : ℕ) → before w u ≡ false → before w (earlier u v) ≡ false
  not_earlier w u v h = go (before v u) refl (before w v) refl
    where
      go : (b : Bool) → before v u ≡ b → (d : Bool) → before w v ≡ d → before w (cond b v u) ≡ false
      go false e d f = h
      go true e false f = f
      go true e true f = absurd (true≢false (sym (transitive w v u f e) ∙ h))

  not_itself : (v : ℕ) → before v v ≡ false
  not_itself v = go (before v v) refl
    where
      go : (b : Bool) → before v v ≡ b → before v v ≡ false
      go false e = e
      go true e = never_both v v e

  not_before_earlier : (u v : ℕ) → before v (earlier u v) ≡ false
  not_before_earlier u v = go (before v u) refl
    where
      go : (b : Bool) → before v u ≡ b → before v (cond b v u) ≡ false
      go false e = e
      go true e = not_itself v

  not_before_first : (w u : ℕ) (us : List ℕ) → before w u ≡ false → before w (first_ranked before u us) ≡ false
  not_before_first w u [] h = h
  not_before_first w u (v ∷ us) h = not_before_first w (earlier u v) us (not_earlier w u v h)

  none_before_first : (u : ℕ) (us : List ℕ) → AllByRecursion (λ v. before v (first_ranked before u us) ≡ false) us
  none_before_first u [] = tt
  none_before_first u (v ∷ us) = (not_before_first v (earlier u v) us (not_before_earlier u v), none_before_first (earlier u v) us)

  first_stays : (u : ℕ) (us : List ℕ) → AllByRecursion (λ v. before v u ≡ false) us → first_ranked before u us ≡ u
  first_stays u [] h = refl
  first_stays u (v ∷ us) h = ap (λ b. first_ranked before (cond b v u) us) h.0 ∙ first_stays u us h.1

  first_is : (P : ℕ → Type 0) (u : ℕ) (us : List ℕ) → P u → AllByRecursion P us → P (first_ranked before u us)
  first_is P u [] h hs = h
  first_is P u (v ∷ us) h hs = first_is P (earlier u v) us (cond_both (before v u) v u P (λ _. hs.0) (λ _. h)) hs.1

  length-insert : (u : ℕ) (us : List ℕ) → length (insert before u us) ≡ suc (length us)
  length-insert u [] = refl
  length-insert u (v ∷ us) = cond_both (before u v) (u ∷ (v ∷ us)) (v ∷ insert before u us) (λ vs. length vs ≡ suc (suc (length us))) (λ _. refl) (λ _. ap suc (length-insert u us))

  length-ranked : (us : List ℕ) → length (ranked before us) ≡ length us
  length-ranked [] = refl
  length-ranked (u ∷ us) = length-insert u (ranked before us) ∙ ap suc (length-ranked us)

-- there is a coset, that of 0, whatever the rule's length is
module _ (T : Scheme) (lawful : Lawful T.symbols) (ranks : Ranks T.ranking) where
  abbrev lead : ℕ
  lead = first_ranked T.ranking.before 0 (coset T (check_of T 0))

  -- a mark of the coset of 0
  abbrev Among : ℕ → Type 0
  Among v = Has (marks T) v × (check_of T v ≡ check_of T 0)

  among : AllByRecursion Among (coset T (check_of T 0))
  unfolding coset
  among = All-from_get_or Among (coset T (check_of T 0)) 0
      (λ i h. let k = has_kept (λ v. eqb (check_of T v) (check_of T 0)) (marks T) _ (has_get_or (coset T (check_of T 0)) i 0 h) in (k.0, eqb-true (check_of T (get_or (coset T (check_of T 0)) i 0)) (check_of T 0) k.1))

  zero_listed : Has (marks T) 0
  unfolding marks
  zero_listed = let zeros = zero_mark T.symbols lawful T.checks.n in all_marks_has T.symbols.q T.checks.n 0 lawful.most zeros.short zeros.symbols

  lead_among : Among lead
  lead_among = first_is T.ranking.before ranks.never_both ranks.transitive Among 0 (coset T (check_of T 0)) (zero_listed, refl) among

  lead_leads : leader_of T lead ≡ lead
  unfolding leader_of
  lead_leads =
      ap (λ s. first_ranked T.ranking.before lead (coset T s)) lead_among.1
      ∙ first_stays T.ranking.before ranks.never_both ranks.transitive lead (coset T (check_of T 0)) (none_before_first T.ranking.before ranks.never_both ranks.transitive 0 (coset T (check_of T 0)))

  some_leader : 0 < length (filter (is_leader T) (marks T))
  unfolding is_leader
  some_leader = let k = kept_has (is_leader T) (marks T) lead lead_among.0 (eq-eqb (leader_of T lead) lead lead_leads) in omega (arith, k.1)

  some_coset : 0 < coset_count T
  unfolding coset_count leaders
  some_coset = omega (arith, some_leader, length-ranked T.ranking.before ranks.never_both ranks.transitive (filter (is_leader T) (marks T)))

  pub nothing_kept : Kept T nothing_settled
  unfolding leader_number
  nothing_kept = record {
    settled = record {
      within = omega arith;
      most = omega arith;
      long_leaders = length-replicate {A = ℕ} 256 0;
      long_numbers = length-replicate {A = Option ℕ} 256 None;
      leader = λ j h. absurd (omega arith);
      number = λ u mark. none_written 256 (check_of T u) ∙ sym (cond-false (leb (leader_number T u) 0) (Some (leader_number T u)) None (none (leader_number T u) (omega arith)));
    };
    finished = sym (ne_eqb 0 (coset_count T) (λ e. omega (arith, some_coset)));
  }
    where
      none : (k : ℕ) → 1 ≤ k → leb k 0 ≡ false
      none k h = grind (arith, nat_tests)

      none_written : (n i : ℕ) → get_or {A = Option ℕ} (replicate n None) i None ≡ None
      none_written zero i = refl
      none_written (suc n) zero = refl
      none_written (suc n) (suc i) = none_written n i
