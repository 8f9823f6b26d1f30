use Rattle.std.proofs.Common.{arith}
use Rattle.std.proofs.lemmas.List.Sorted.{IsPermutation-trans}
use Rattle.queue.proofs.Heaps.{rise_step}
use Rattle.queue.proofs.sift.rise.Goals as goal

pub loop-at-preserved : goal.loop-at-preserved
loop-at-preserved g c = record {
  inside = omega arith;
  items = IsPermutation-trans _ _ _ c.loop-at.invariant.items c.swap.ensures.permutation;
  order = λ h. rise_step _ (g.met.R.Ranking.orders _) _ _ _ (omega arith) (omega arith)
      c.swap.ensures.len c.if-not-ranks_before.ensures c.swap.ensures.by_index (c.loop-at.invariant.order h);
}
