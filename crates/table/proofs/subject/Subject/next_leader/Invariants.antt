use Rattle.table.specs.Queues.{Pending}
use Rattle.table.specs.Subjects.{scheme_of}
use Rattle.table.proofs.subject.Subject.next_leader.Given as goal

abbrev pub invariant-loop-number : goal.invariant-loop-number
invariant-loop-number g l = Pending (scheme_of l.self) l.records.settled l.records.settled l.queue

abbrev pub decreases-loop-number : goal.decreases-loop-number
decreases-loop-number g l = l.queue.held
