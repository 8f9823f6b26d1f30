use Rattle.std.proofs.Common.{◌-◌}
use Rattle.table.specs.Queues.{Joined, PutBelow}
use Rattle.table.specs.Subjects.{scheme_of}
use Rattle.table.proofs.subject.Subject.queue_symbols.Given as goal

abbrev pub invariant-loop-symbol : goal.invariant-loop-symbol
invariant-loop-symbol g l =
    let T = scheme_of l.self in
    Joined T (PutBelow T l.mark.number l.place l.symbol) (l.symbol - 1) l.initial.queue l.queue
