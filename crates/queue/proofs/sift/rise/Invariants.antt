use Rattle.std.proofs.Common.{◌-◌, ◌<◌, length}
use Rattle.std.specs.List.Sorted.{IsPermutation}
use Rattle.queue.specs.Sifting.{Rising}
use Rattle.queue.proofs.sift.rise.Given as goal

abbrev pub invariant-loop-at : goal.invariant-loop-at
invariant-loop-at g l = record {
  inside : l.at < length l.items;
  items : IsPermutation l.initial.items l.items;
  order : Rising (g.R.Ranking.before l.ranking) l.initial.items (length l.initial.items - 1) → Rising (g.R.Ranking.before l.ranking) l.items l.at;
}

abbrev pub decreases-loop-at : goal.decreases-loop-at
decreases-loop-at g l = l.at
