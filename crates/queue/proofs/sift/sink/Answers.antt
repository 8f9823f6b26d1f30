use Rattle.std.proofs.lemmas.List.Sorted.{IsPermutation-trans}
use Rattle.queue.proofs.Heaps.{sink_step}
use Rattle.queue.proofs.sift.sink.Goals as goal

pub loop-at-preserved : goal.loop-at-preserved
loop-at-preserved g c = record {
  items = IsPermutation-trans _ _ _ c.loop-at.invariant.items c.swap.ensures.permutation;
  order = λ h. sink_step _ (g.met.R.Ranking.orders _) _ _ _ _
      c.swap.ensures.len c.if-not-ranks_before.ensures c.swap.ensures.by_index c.first_child-child.ensures (c.loop-at.invariant.order h);
}
