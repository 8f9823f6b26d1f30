use Rattle.std.proofs.Common.{refl, arith}
use Rattle.queue.proofs.Contents.{accepted}
use Rattle.queue.proofs.queue.Queue.put.Goals as goal

pub returns-clause-answer : goal.returns-clause-answer
returns-clause-answer g c = accepted _ _ _ _ _ (omega arith) refl c.rise.ensures.items c.rise.ensures.order refl
