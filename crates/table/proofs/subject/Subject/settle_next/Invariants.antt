use Rattle.std.proofs.Common.{◌≡◌, ◌+◌}
use Rattle.table.specs.Queues.{Growing}
use Rattle.table.specs.Subjects.{scheme_of}
use Rattle.table.proofs.subject.Subject.settle_next.Given as goal

abbrev pub invariant-loop : goal.invariant-loop
invariant-loop g l =
    (l.records.settled ≡ l.initial.records.settled + l.counter)
    × Growing (scheme_of l.self) l.records l.queue
