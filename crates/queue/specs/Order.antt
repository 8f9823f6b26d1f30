-- Items in a heap under a ranking.
use Rattle.std.specs.Prelude.{◌≡◌, ℕ, ◌-◌, ◌/◌, ◌<◌, Bool, false, List, ◌∷◌, length, slice_index_or}
use Rattle.std.specs.List.Sorted.{IsPermutation}
use Rattle.std.specs.List.{AllByRecursion}

abbrev pub parent : ℕ → ℕ
parent k = (k - 1) / 2

module _ {T : Type 0} (before : T → T → Bool) where
  -- No item ranks before its parent.
  pub record Heaped (items : List T) : Type 0 where
    pub under : (k : ℕ) (d : T) → 0 < k → k < length items → before (slice_index_or items k d) (slice_index_or items (parent k) d) ≡ false

  -- One item and the rest. If all were heaped, the rest are, and no item ranks before that one.
  pub record Parted (items : List T) (item : T) (rest : List T) : Type 0 where
    pub same : IsPermutation items (item ∷ rest)
    pub order : Heaped items → Heaped rest
    pub first : Heaped items → AllByRecursion (λ other. before other item ≡ false) items
