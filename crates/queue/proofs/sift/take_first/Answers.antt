use Rattle.std.proofs.Common.{arith}
use Rattle.queue.proofs.Contents.{parted}
use Rattle.queue.proofs.sift.take_first.Goals as goal

pub returns : goal.returns
returns g c =
    parted (g.R.Ranking.before _) (g.met.R.Ranking.orders _) _ _ _ _ _ (omega arith) c.index-items-0.is
    c.swap.ensures.permutation c.swap.ensures.len c.swap.ensures.by_index
    c.sink.ensures.items c.sink.ensures.order
