-- What a queue holds, and what a call makes of it.
use Rattle.std.specs.Prelude.{◌≡◌, ℕ, ◌+◌, ◌<◌, Bool, List, ◌∷◌, length, take, drop}
use base.Fml.{GName}
use Rattle.std.specs.List.Sorted.{IsPermutation}
use Rattle.queue.specs.declared.queue.Queue.{Queue}
use Rattle.queue.specs.Order.{Heaped, Parted}
use Rattle.refusals.specs.declared.Refusal.{Refusal}
use Rattle.refusals.specs.declared.Refusal.TheVariants.{QueueFull}

module _ {T : Type 0} where
  -- how many items are held
  abbrev pub count_of : Queue T → ℕ
  count_of queue = queue.held

  -- what the lent places hold
  abbrev pub places_of : Queue T → List T
  places_of queue = queue.places.now

  -- which memory is lent
  abbrev pub lender_of : Queue T → GName
  lender_of queue = queue.places.ghost_name

  -- the items that are held, in the order of their places
  abbrev pub items_of : Queue T → List T
  items_of queue = take (count_of queue) (places_of queue)

  pub record Unaltered (old new : Queue T) : Type 0 where
    pub held : count_of new ≡ count_of old
    pub places : places_of new ≡ places_of old

  -- A queue over lent memory, whatever that held: nothing is held, which is in order under every ranking.
  pub record Fresh (lent : List T) (new : Queue T) : Type 0 where
    pub held : count_of new ≡ 0
    pub places : places_of new ≡ lent
    pub order : (before : T → T → Bool) → Heaped before (items_of new)

  -- No item is put where every place holds one.
  pub record Refused (refusal : Refusal) (old new : Queue T) : Type 0 where
    pub is : refusal ≡ QueueFull
    pub full : count_of old ≡ length (places_of old)
    pub unaltered : Unaltered old new

  -- An item is put: it joins those that are held. The places past them stay.
  pub record Accepted (before : T → T → Bool) (item : T) (old new : Queue T) : Type 0 where
    pub room : count_of old < length (places_of old)
    pub held : count_of new ≡ count_of old + 1
    pub items : IsPermutation (item ∷ items_of old) (items_of new)
    pub past : drop (count_of new) (places_of new) ≡ drop (count_of new) (places_of old)
    pub order : Heaped before (items_of old) → Heaped before (items_of new)

  -- No item is taken where none is held.
  pub record Empty (old new : Queue T) : Type 0 where
    pub none : count_of old ≡ 0
    pub unaltered : Unaltered old new

  -- An item is taken from those that are held. The place that is freed may hold anything; those past it stay.
  pub record Taken (before : T → T → Bool) (item : T) (old new : Queue T) : Type 0 where
    pub held : count_of old ≡ count_of new + 1
    pub parted : Parted before (items_of old) item (items_of new)
    pub past : drop (count_of old) (places_of new) ≡ drop (count_of old) (places_of old)
