-- Growth: how each leader is reached from an earlier one.
use Rattle.std.specs.Prelude.{◌≡◌, ℕ, ◌<◌, ◌≤◌, ◌⊎◌, List, slice_index}
use Rattle.std.specs.List.{ContainsAt as Has, AllByRecursion}
use Rattle.algebra.specs.Digits.{digit}
use Rattle.algebra.specs.Marks.{put}
use Rattle.leaders.specs.Leaders.{leaders, leader_number}
use Rattle.leaders.specs.Schemes.{Scheme, MarkOf}

module _ (T : Scheme) where
  -- v is u with a symbol put above all its nonzero places
  pub record Sprout (u v : ℕ) : Type 0 where
    pub place : ℕ
    pub symbol : ℕ
    pub inside : place < T.checks.n
    pub above : (j : ℕ) → place ≤ j → digit u j ≡ 0
    pub some : 0 < symbol
    pub below : symbol < T.symbols.q
    pub is : v ≡ put T.checks.n u place symbol

  -- The marks that wait while the first k leaders are settled: of the first m, every sprout waits or has its coset settled.
  pub record Waiting (k m : ℕ) (items : List ℕ) : Type 0 where
    pub marks : AllByRecursion (MarkOf T) items
    pub start : k ≡ 0 → Has items 0
    pub sprouts : (j v : ℕ) → j < m → Sprout (slice_index (leaders T) j) v → (leader_number T v ≤ k) ⊎ Has items v
