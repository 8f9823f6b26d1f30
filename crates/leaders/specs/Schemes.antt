-- An alphabet, a check table over it, and a ranking of its marks: all that a correction depends on.
use Rattle.std.specs.Prelude.{◌≡◌, ℕ, ◌-◌, ◌*◌, ◌^◌, ◌<◌, ◌≤◌}
use Rattle.algebra.specs.Checks.{Checks}
use Rattle.algebra.specs.Marks.{Mark}
use Rattle.algebra.specs.Rankings.{MarkRanking, Ranks}
use Rattle.algebra.specs.Symbols.{Symbols, Lawful}

pub record Scheme : Type 0 where
  pub symbols : Symbols
  pub checks : Checks
  pub ranking : MarkRanking

abbrev pub MarkOf : Scheme → ℕ → Type 0
MarkOf T u = Mark T.symbols T.checks.n u

-- A scheme whose parts keep their laws, fit one another and stay within the limits of a check table.
pub record Proper (T : Scheme) : Type 0 where
  pub alphabet : Lawful T.symbols
  pub ranks : Ranks T.ranking
  pub same_length : T.ranking.n ≡ T.checks.n
  pub check_symbols : (i j : ℕ) → T.checks.check i j < T.symbols.q
  pub few_fillings : T.checks.n * (T.symbols.q - 1) ≤ 24
  pub few_cosets : T.symbols.q ^ T.checks.r ≤ 256
