-- What makes a correction right, in the words of whoever relies on it.
use Rattle.std.specs.Prelude.{◌≡◌, ℕ, ◌<◌, ◌≤◌, true, ◌≢◌}
use Rattle.algebra.specs.Checks.{check_value}
use Rattle.leaders.specs.Leaders.{check_of, differing}
use Rattle.leaders.specs.Schemes.{Scheme, MarkOf}

-- y was seen, the correction is e, and the corrected mark is c.
pub record Corrects (T : Scheme) (y e c : ℕ) : Type 0 where
  pub mark : MarkOf T e
  pub same_check_values : (j : ℕ) → j < T.checks.r → check_value T.symbols T.checks e j ≡ check_value T.symbols T.checks y j
  pub ranks_first : (v : ℕ) → MarkOf T v → check_of T v ≡ check_of T y → (v ≢ e) → T.ranking.before e v ≡ true
  pub corrected_is_a_code_word : check_of T c ≡ 0
  pub none_is_nearer : T.ranking.by_weight ≡ true → (w : ℕ) → MarkOf T w → check_of T w ≡ 0 → differing T.checks.n y c ≤ differing T.checks.n y w
