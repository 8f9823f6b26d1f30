-- Runs: every run comes to the leader, in fewer turns than there are marks.
use Rattle.std.proofs.Common.{◌≡◌, ℕ, zero, suc, ◌+◌, ◌<◌, ◌≤◌, Bool, true, eqb, ◌⊎◌, List, length, get_or, filter, sym, refl, ap, ◌∙◌, subst, ap₂, inl, inr, ⊎_elim, arith}
use Rattle.std.specs.List.{ContainsAt as Has}
use Rattle.std.proofs.ByRecursion.{has_get_or}
use Rattle.std.proofs.lemmas.List.Sorted.{length_permutation}
use Rattle.std.proofs.lemmas.List.Sums.{count_by-le-length, length-filter}
use Rattle.std.proofs.lemmas.Bool.{cases_lt, cond-false, cond-true, eq-eqb, ne_eqb}
use Rattle.leaders.specs.Heads.{sitting, turn, Run, turns_from, turns, Head}
use Rattle.leaders.specs.Leaders.{index_of, check_of, marks, leader_of}
use Rattle.leaders.specs.Schemes.{Scheme, MarkOf, Proper}
use Rattle.leaders.proofs.Heads.{has_sitting, no_head_leads}
use Rattle.leaders.proofs.Leaders.{leader_same, passing, passing_has, passing_before}
use Rattle.leaders.proofs.Ranked.{index_of_below, get_or_index_of, ranked_shuffled}
use Rattle.leaders.proofs.Turns.{turn_mark, turn_check, turn_leader, turn_before}

module _ (T : Scheme) (proper : Proper T) where
  abbrev before : ℕ → ℕ → Bool
  before = T.ranking.before

  -- how many marks rank before a mark: its place among all, in ranking order
  abbrev all : List ℕ
  all = passing T proper (λ _. true)

  abbrev pub rank : ℕ → ℕ
  rank w = index_of w all

  module _ (w : ℕ) (mark : MarkOf T w) where
    listed : Has all w
    listed = passing_has T proper (λ _. true) w mark refl

    rank_within : rank w < length all
    rank_within = index_of_below all w listed

    rank_at : get_or all (rank w) 0 ≡ w
    rank_at = get_or_index_of all w listed

  pub rank_below : (w : ℕ) → MarkOf T w → rank w < length (marks T)
  rank_below w mark =
      omega (
        arith,
        rank_within w mark,
        length_permutation _ _ (ranked_shuffled before (filter (λ _. true) (marks T))),
        length-filter (λ _. true) (marks T),
        count_by-le-length (λ _. true) (marks T),
      )

  rank_falls : (u w : ℕ) → MarkOf T u → MarkOf T w → before u w ≡ true → rank u < rank w
  rank_falls u w mu mw h = passing_before T proper (λ _. true) (rank u) (rank w) (rank_within u mu) (ap₂ before (rank_at u mu) (rank_at w mw) ∙ h)

  -- one turn of a run
  module _ (w h : ℕ) (mark : MarkOf T w) (k : Has (sitting T w) h) where
    next_head : Head T h
    next_head = (has_sitting T proper h w k).0

    next_mark : MarkOf T (turn T h w)
    next_mark = turn_mark T proper h w next_head mark

    next_falls : rank (turn T h w) < rank w
    next_falls = rank_falls (turn T h w) w next_mark mark (turn_before T proper h w next_head mark (has_sitting T proper h w k).1)

  pub run_mark : (k w v : ℕ) → MarkOf T w → Run T k w v → MarkOf T v
  run_mark zero w v mark run = subst (MarkOf T) run mark
  run_mark (suc k) w v mark (h, s, run) = run_mark k (turn T h w) v (next_mark w h mark s) run

  pub run_check : (k w v : ℕ) → MarkOf T w → Run T k w v → check_of T v ≡ check_of T w
  run_check zero w v mark run = ap (check_of T) (sym run)
  run_check (suc k) w v mark (h, s, run) =
      run_check k (turn T h w) v (next_mark w h mark s) run ∙ turn_check T proper h w (next_head w h mark s) mark

  -- each turn of a run makes a mark that fewer rank before
  pub run_falls : (k w v : ℕ) → MarkOf T w → Run T k w v → k + rank v ≤ rank w
  run_falls zero w v mark run = omega (arith, ap rank run)
  run_falls (suc k) w v mark (h, s, run) = omega (arith, run_falls k (turn T h w) v (next_mark w h mark s) run, next_falls w h mark s)

  pub run_short : (k w v : ℕ) → MarkOf T w → Run T k w v → k < length (marks T)
  run_short k w v mark run = omega (arith, run_falls k w v mark run, rank_below w mark)

  -- a run goes on while a head sits, and else has come to the leader
  pub run_more : (k w v h : ℕ) → Run T k w v → Has (sitting T v) h → Run T (suc k) w (turn T h v)
  run_more zero w v h run s = subst (λ u. Run T 1 u (turn T h v)) (sym run) (h, s, refl)
  run_more (suc k) w v h (g, t, run) s = (g, t, run_more k (turn T g w) v h run s)

  pub run_ends : (k w v : ℕ) → MarkOf T w → Run T k w v → length (sitting T v) ≡ 0 → v ≡ leader_of T w
  run_ends k w v mark run none =
      let mv = run_mark k w v mark run in
      sym (no_head_leads T proper v mv none) ∙ leader_same T proper v w mv mark (run_check k w v mark run)

  -- the run that always takes the first sitting head
  abbrev first : ℕ → ℕ
  first w = get_or (sitting T w) 0 0

  abbrev next : ℕ → ℕ
  next w = turn T (first w) w

  turns_stop : (most w : ℕ) → length (sitting T w) ≡ 0 → turns_from T most w ≡ 0
  unfolding turns_from
  turns_stop zero w e = refl
  turns_stop (suc most) w e = cond-true (eqb (length (sitting T w)) 0) 0 _ (eq-eqb (length (sitting T w)) 0 e)

  turns_go : (most w : ℕ) → 0 < length (sitting T w) → turns_from T (suc most) w ≡ suc (turns_from T most (next w))
  unfolding turns_from
  turns_go most w some = cond-false (eqb (length (sitting T w)) 0) 0 _ (ne_eqb (length (sitting T w)) 0 (omega arith))

  sitting_cases : (w : ℕ) → Has (sitting T w) (first w) ⊎ (length (sitting T w) ≡ 0)
  sitting_cases w = ⊎_elim (λ some. inl (has_get_or (sitting T w) 0 0 some)) (λ none. inr (omega arith)) (cases_lt 0 (length (sitting T w)))

  -- it comes to the leader
  turns_from_lem : (most w : ℕ) → MarkOf T w → rank w < most → Run T (turns_from T most w) w (leader_of T w)
  turns_from_lem zero w mark l = absurd (omega arith)
  turns_from_lem (suc most) w mark l =
      ⊎_elim (λ k. subst (λ m. Run T m w (leader_of T w)) (sym (turns_go most w (omega (arith, k.1)))) (
        first w,
        k,
        subst (Run T (turns_from T most (next w)) (next w)) (turn_leader T proper (first w) w (next_head w (first w) mark k) mark)
            (turns_from_lem most (next w) (next_mark w (first w) mark k) (omega (arith, next_falls w (first w) mark k))),
      ))
      (λ none. subst (λ m. Run T m w (leader_of T w)) (sym (turns_stop (suc most) w none)) (sym (no_head_leads T proper w mark none)))
      (sitting_cases w)

  pub turns_run : (w : ℕ) → MarkOf T w → Run T (turns T w) w (leader_of T w)
  unfolding turns
  turns_run w mark = turns_from_lem (length (marks T)) w mark (rank_below w mark)

  -- and its turns count down, whatever the most of them is
  turns_any : (most more w : ℕ) → MarkOf T w → rank w < most → rank w < more → turns_from T most w ≡ turns_from T more w
  turns_any zero more w mark l k = absurd (omega arith)
  turns_any (suc most) zero w mark l k = absurd (omega arith)
  turns_any (suc most) (suc more) w mark l k =
      ⊎_elim (λ s. let falls = next_falls w (first w) mark s in
      let some : 0 < length (sitting T w) = omega (arith, s.1) in
      turns_go most w some ∙ ap suc (turns_any most more (next w) (next_mark w (first w) mark s) (omega arith) (omega arith)) ∙ sym (turns_go more w some))
      (λ none. turns_stop (suc most) w none ∙ sym (turns_stop (suc more) w none))
      (sitting_cases w)

  pub turns_none : (w : ℕ) → length (sitting T w) ≡ 0 → turns T w ≡ 0
  unfolding turns
  turns_none w = turns_stop (length (marks T)) w

  pub turns_more : (w : ℕ) → MarkOf T w → 0 < length (sitting T w) → turns T w ≡ suc (turns T (turn T (get_or (sitting T w) 0 0) w))
  unfolding turns
  turns_more w mark some =
      let below = rank_below w mark in
      turns_any (length (marks T)) (suc (length (marks T))) w mark below (omega arith) ∙ turns_go (length (marks T)) w some
