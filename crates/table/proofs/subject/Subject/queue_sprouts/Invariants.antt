use Rattle.std.proofs.Common.{◌-◌, ◌*◌}
use Rattle.table.specs.Queues.{Joined, SproutBelow}
use Rattle.table.specs.Subjects.{scheme_of}
use Rattle.table.proofs.subject.Subject.queue_sprouts.Given as goal

abbrev pub invariant-loop-place : goal.invariant-loop-place
invariant-loop-place g l =
    let T = scheme_of l.self in
    Joined T (SproutBelow T l.mark.number l.place) (l.place * (T.symbols.q - 1)) l.initial.queue l.queue
