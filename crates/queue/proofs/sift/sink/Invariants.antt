use Rattle.std.proofs.Common.{◌-◌, length}
use Rattle.std.specs.List.Sorted.{IsPermutation}
use Rattle.queue.specs.Sifting.{Sinking}
use Rattle.queue.proofs.sift.sink.Given as goal

abbrev pub invariant-loop-at : goal.invariant-loop-at
invariant-loop-at g l = record {
  items : IsPermutation l.initial.items l.items;
  order : Sinking (g.R.Ranking.before l.ranking) l.initial.items 0 → Sinking (g.R.Ranking.before l.ranking) l.items l.at;
}

abbrev pub decreases-loop-at : goal.decreases-loop-at
decreases-loop-at g l = length l.initial.items - l.at
