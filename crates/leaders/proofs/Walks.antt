-- Walks: a step leads to the coset it should, so a walk ends at the number of the mark's own coset.
use Rattle.std.proofs.Common.{◌≡◌, ℕ, zero, suc, ◌-◌, ◌<◌, ◌≤◌, eqb, get_or, sym, ap, ◌∙◌, arith}
use Rattle.std.proofs.lemmas.Bool.{cond_both, eqb-true}
use Rattle.algebra.specs.Digits.{digit}
use Rattle.algebra.specs.Rankings.{filled}
use Rattle.algebra.specs.Symbols.{Symbols}
use Rattle.algebra.proofs.Digits.{pack_digits, pack_none}
use Rattle.leaders.specs.Heads.{step, walked_to, walk}
use Rattle.leaders.specs.Leaders.{leaders, leader_of, leader_number}
use Rattle.leaders.specs.Schemes.{Scheme, MarkOf, Proper}
use Rattle.leaders.proofs.Adding.{put_mark, filled_same}
use Rattle.leaders.proofs.Fronts.{front, front_same, front_mark, front_more}
use Rattle.leaders.proofs.Growth.{first_leader}
use Rattle.leaders.proofs.Leaders.{leader_mark, leader_check, leader_at, number_at, number_least, number_same, some_coset}

module _ (T : Scheme) (proper : Proper T) where
  abbrev S : Symbols
  S = T.symbols

  abbrev n : ℕ
  n = T.checks.n

  -- a step from the leader of u's coset leads to that of u with the symbol added
  pub step_number : (u i a : ℕ) → MarkOf T u → i < n → a < S.q → step T (leader_number T u) i a ≡ leader_number T (filled S n u i a)
  unfolding step
  step_number u i a mark inside small =
      ap (λ v. leader_number T (filled S n v i a)) here
      ∙ number_same T proper (filled S n (leader_of T u) i a) (filled S n u i a) (filled_mark (leader_of T u) (leader_mark T proper u mark)) (filled_mark u mark)
      (filled_same S proper.alphabet T.checks proper.check_symbols (leader_of T u) u i a (leader_mark T proper u mark) mark inside small (leader_check T proper u mark))
    where
      here : get_or (leaders T) (leader_number T u - 1) 0 ≡ leader_of T u
      here = leader_at T proper u mark (leader_number T u - 1) (omega (arith, number_least T proper u mark))

      filled_mark : (v : ℕ) → MarkOf T v → MarkOf T (filled S n v i a)
      filled_mark v mv = put_mark S proper.alphabet n v i _ mv (proper.alphabet.sum_symbol (digit v i) a)

  pub step_at : (j i a : ℕ) → step T (suc j) i a ≡ leader_number T (filled S n (get_or (leaders T) j 0) i a)
  unfolding step
  step_at j i a = let e : suc j - 1 ≡ j = omega arith in ap (λ k. leader_number T (filled S n (get_or (leaders T) k 0) i a)) e

  first_number : leader_number T 0 ≡ 1
  first_number = ap (leader_number T) (sym (first_leader T proper)) ∙ number_at T proper 0 (some_coset T proper)

  walked : (u k : ℕ) → MarkOf T u → k ≤ n → walked_to T u k ≡ leader_number T (front u k)
  unfolding walked_to
  walked u zero mark h = sym first_number ∙ ap (leader_number T) (sym (pack_none 4 (digit u)))
  walked u (suc k) mark h =
      let so_far : walked_to T u k ≡ leader_number T (front u k) = walked u k mark (omega arith) in
      cond_both (eqb (digit u k) 0) (walked_to T u k) _ (λ j. j ≡ leader_number T (front u (suc k)))
      (λ e. so_far ∙ ap (leader_number T) (sym (front_same u k (eqb-true (digit u k) 0 e))))
      (λ _. ap (λ j. step T j k (digit u k)) so_far
      ∙ step_number (front u k) k (digit u k) (front_mark S proper.alphabet n u k mark (omega arith)) h (mark.symbols k)
      ∙ ap (leader_number T) (front_more S proper.alphabet n u k mark h))

  pub walk_number : (u : ℕ) → MarkOf T u → walk T u ≡ leader_number T u
  walk_number u mark = walked u n mark (omega arith) ∙ ap (leader_number T) (pack_digits n u mark.short)
