-- The queue of a growing table: the marks that wait.
use Rattle.std.specs.Prelude.{◌≡◌, ℕ, ◌+◌, ◌-◌, ◌*◌, ◌<◌, ◌≤◌, length, Some, None, Option, slice_index_or}
use Rattle.std.specs.List.{ContainsAt as Has, AllByRecursion}
use Rattle.algebra.specs.Digits.{digit}
use Rattle.algebra.specs.Marks.{put}
use Rattle.leaders.specs.Growth.{Sprout, Waiting}
use Rattle.leaders.specs.Leaders.{leaders, coset_count}
use Rattle.leaders.specs.Schemes.{Scheme, MarkOf}
use Rattle.queue.specs.Contents.{count_of, places_of, items_of}
use Rattle.queue.specs.Order.{Heaped}
use Rattle.queue.specs.declared.queue.Queue.{Queue}
use Rattle.table.specs.Answers.{scratch_size}
use Rattle.table.specs.Records.{Settled}
use Rattle.table.specs.declared.records.Records.{Records}

module _ (T : Scheme) where
  -- The queue has got every mark of which `added` holds, at most `count` in all, and has lost none.
  pub record Joined (added : ℕ → Type 0) (count : ℕ) (old new : Queue ℕ) : Type 0 where
    pub long : length (places_of new) ≡ length (places_of old)
    pub held : count_of new ≤ count_of old + count
    pub marks : AllByRecursion (MarkOf T) (items_of old) → AllByRecursion (MarkOf T) (items_of new)
    pub keeps : (v : ℕ) → Has (items_of old) v → Has (items_of new) v
    pub joins : (v : ℕ) → added v → Has (items_of new) v
    pub order : Heaped T.ranking.before (items_of old) → Heaped T.ranking.before (items_of new)

  -- v is u with a nonzero symbol below a put at the place
  abbrev pub PutBelow : ℕ → ℕ → ℕ → ℕ → Type 0
  PutBelow u place a v = (b : ℕ) × (0 < b) × (b < a) × (v ≡ put T.checks.n u place b)

  -- v is a sprout of u at a place below m
  abbrev pub SproutBelow : ℕ → ℕ → ℕ → Type 0
  SproutBelow u m v = (s : Sprout T u v) × (s.place < m)

  -- the most sprouts of a mark
  abbrev pub sprout_count : ℕ
  sprout_count = T.checks.n * (T.symbols.q - 1)

  -- While k leaders are settled, the sprouts of the first m wait in the queue, with room for those of every coset.
  pub record Pending (k m : ℕ) (queue : Queue ℕ) : Type 0 where
    pub room : scratch_size T ≤ length (places_of queue)
    pub held : count_of queue ≤ sprout_count * m + 1
    pub waiting : Waiting T k m (items_of queue)
    pub order : Heaped T.ranking.before (items_of queue)

  -- What holds while a table grows: its records say which leaders are settled, and all their sprouts wait.
  pub record Growing (records : Records) (queue : Queue ℕ) : Type 0 where
    pub settled : Settled T records
    pub pending : Pending records.settled records.settled queue

  -- The next leader was taken from the queue. What waits then waits once it is settled, but for its own sprouts.
  pub record NextIs (k : ℕ) (queue : Queue ℕ) (u : ℕ) : Type 0 where
    pub within : k < coset_count T
    pub is : slice_index_or (leaders T) k 0 ≡ u
    pub pending : Pending (k + 1) k queue

  -- No leader is next: all are settled, and nothing waits.
  pub record NoneNext (k : ℕ) (queue : Queue ℕ) : Type 0 where
    pub all : k ≡ coset_count T
    pub pending : Pending k k queue

  abbrev pub Next : ℕ → Queue ℕ → Option ℕ → Type 0
  Next k queue (Some u) = NextIs k queue u
  Next k queue None = NoneNext k queue

-- from this place on a mark has only zeros, and no lower place will do
pub record Height (u r : ℕ) : Type 0 where
  pub above : (j : ℕ) → r ≤ j → digit u j ≡ 0
  pub least : (m : ℕ) → ((j : ℕ) → m ≤ j → digit u j ≡ 0) → r ≤ m
