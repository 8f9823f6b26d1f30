use Rattle.table.specs.Queues.{Pending}
use Rattle.table.specs.Subjects.{scheme_of}
use Rattle.table.proofs.subject.Subject.queue_pending.Given as goal

abbrev pub invariant-loop-leader : goal.invariant-loop-leader
invariant-loop-leader g l = Pending (scheme_of l.self) l.records.settled l.leader-index l.queue
