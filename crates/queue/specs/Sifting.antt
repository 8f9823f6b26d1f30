-- Items that are heaped but for one place.
use Rattle.std.specs.Prelude.{◌≡◌, ℕ, ◌<◌, Bool, false, List, length, ◌≢◌, slice_index_or}
use Rattle.queue.specs.Order.{parent}

module _ {T : Type 0} (before : T → T → Bool) (items : List T) where
  -- no child of a place ranks before the parent of that place
  abbrev Under-grandparent : ℕ → Type 0
  Under-grandparent at = (k : ℕ) (d : T) → 0 < at → 0 < k → k < length items → parent k ≡ at → before (slice_index_or items k d) (slice_index_or items (parent at) d) ≡ false

  -- heaped but that the item at a place may rank before its parent
  pub record Rising (at : ℕ) : Type 0 where
    pub under : (k : ℕ) (d : T) → 0 < k → k < length items → (k ≢ at) → before (slice_index_or items k d) (slice_index_or items (parent k) d) ≡ false
    pub children : Under-grandparent at

  -- heaped but that the children of a place may rank before it
  pub record Sinking (at : ℕ) : Type 0 where
    pub under : (k : ℕ) (d : T) → 0 < k → k < length items → (parent k ≢ at) → before (slice_index_or items k d) (slice_index_or items (parent k) d) ≡ false
    pub children : Under-grandparent at

  -- a child of a place that no child of the place ranks before
  pub record FirstChild (at child : ℕ) : Type 0 where
    pub low : 0 < child
    pub high : child < length items
    pub of : parent child ≡ at
    pub first : (k : ℕ) (d : T) → 0 < k → k < length items → parent k ≡ at → before (slice_index_or items k d) (slice_index_or items child d) ≡ false
