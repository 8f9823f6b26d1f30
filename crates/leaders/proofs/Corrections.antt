-- A coset's leader corrects every mark of the coset.
use Rattle.std.proofs.Common.{◌≡◌, ℕ, ◌≤◌, true, sym, ap, ⊎_elim, arith}
use Rattle.algebra.specs.Marks.{minus, weight}
use Rattle.algebra.specs.Symbols.{Symbols}
use Rattle.leaders.specs.Corrections.{Corrects}
use Rattle.leaders.specs.Leaders.{check_of, leader_of}
use Rattle.leaders.specs.Schemes.{Scheme, MarkOf, Proper}
use Rattle.leaders.proofs.Adding.{differing_weight, minus_mark, minus_minus, minus_same, minus_word, same_values}
use Rattle.leaders.proofs.Leaders.{leader_check, leader_first, leader_mark, no_heavier}

module _ (T : Scheme) (proper : Proper T) (y : ℕ) (mark : MarkOf T y) where
  abbrev S : Symbols
  S = T.symbols

  abbrev n : ℕ
  n = T.checks.n

  abbrev e : ℕ
  e = leader_of T y

  -- a lighter mark of the coset would rank before its leader
  lightest : T.ranking.by_weight ≡ true → (v : ℕ) → MarkOf T v → check_of T v ≡ check_of T y → weight n e ≤ weight n v
  lightest by v other same =
      ⊎_elim (λ p. omega (arith, ap (weight n) p)) (no_heavier T proper by e v (leader_mark T proper y mark) other) (leader_first T proper y mark v other same)

  pub leader_corrects : Corrects T y e (minus S n y e)
  leader_corrects = record {
    mark = leader_mark T proper y mark;
    same_check_values = same_values S proper.alphabet T.checks proper.check_symbols e y (leader_check T proper y mark);
    ranks_first = λ v other same apart. ⊎_elim (λ p. absurd (apart (sym p))) (λ p. p) (leader_first T proper y mark v other same);
    corrected_is_a_code_word = minus_word S proper.alphabet T.checks proper.check_symbols y e mark (leader_mark T proper y mark) (sym (leader_check T proper y mark));
    none_is_nearer = λ by w word zero.
        omega (
          arith,
          differing_weight S proper.alphabet n y (minus S n y e) mark (minus_mark S proper.alphabet n y e),
          ap (weight n) (minus_minus S proper.alphabet n y e mark (leader_mark T proper y mark)),
          lightest by (minus S n y w) (minus_mark S proper.alphabet n y w) (minus_same S proper.alphabet T.checks proper.check_symbols y w mark word zero),
          differing_weight S proper.alphabet n y w mark word,
        );
  }
