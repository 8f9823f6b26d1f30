use Rattle.std.proofs.Common.{sym, subst, arith}
use Rattle.leaders.specs.Growth.{Sprout}
use Rattle.table.specs.Queues.{Joined, Pending, sprout_count}
use Rattle.table.specs.Subjects.{scheme_of}
use Rattle.table.proofs.Opening.{proper_of}
use Rattle.table.proofs.Queues.{accepted_with_room, pending_first, pending_later, pending_sprouts, room_for_sprouts}
use Rattle.table.proofs.Settling.{front_inside, front_leader, front_mark}
use Rattle.table.proofs.subject.Subject.queue_pending.Goals as goal
use Rattle.table.proofs.subject.Subject.queue_pending.Goals.{then-records-eq0, else-records-eq0}

pub loop-leader-init : goal.loop-leader-init
loop-leader-init g c =
    let subject = c.args.self.now in
    let k = c.args.records.now.settled in
    let T = scheme_of subject in
    let old = c.args.queue.now in
    let proper = proper_of g.met.A.Alphabet.lawful g.met.R.Rule.lawful subject in
    elim c.if-records-eq0.branch [
      | then-records-eq0 w ↦
          let accepted = accepted_with_room _ _ old w.put.new.self w.put.result w.put.ensures.answer (omega (arith, c.requires.empty, c.requires.room)) in
          let first = pending_first T proper (g.R.Ranking.before subject.rule.now) (g.met.R.Rule.agrees subject.rule.now) old w.put.new.self c.requires.empty c.requires.room w.put.ensures.long accepted in
          subst (λ k. Pending T k 0 c.if-records-eq0.queue) (sym w.if-records-eq0.true) (subst (Pending T 0 0) (sym w.queue-is) first)
      | else-records-eq0 w ↦
          subst (Pending T k 0) (sym w.queue-is) (pending_later T proper k old (omega (arith, w.if-records-eq0.false)) c.requires.empty c.requires.room)
    ]

pub queue_sprouts-requires-clause-mark : goal.queue_sprouts-requires-clause-mark
queue_sprouts-requires-clause-mark g c =
    let subject = c.args.self.now in
    front_mark (scheme_of subject) (proper_of g.met.A.Alphabet.lawful g.met.R.Rule.lawful subject) c.args.records.now c.requires.settled c.loop-leader.leader-index c.loop-leader-test.true

pub queue_sprouts-requires-clause-room : goal.queue_sprouts-requires-clause-room
queue_sprouts-requires-clause-room g c =
    let subject = c.args.self.now in
    let T = scheme_of subject in
    let proper = proper_of g.met.A.Alphabet.lawful g.met.R.Rule.lawful subject in
    let records = c.args.records.now in
    let j = c.loop-leader.leader-index in
    room_for_sprouts T proper records.settled j c.loop-leader.queue c.loop-leader.invariant (front_inside T proper records c.requires.settled j c.loop-leader-test.true)

pub loop-leader-preserved : goal.loop-leader-preserved
loop-leader-preserved g c =
    let subject = c.args.self.now in
    let T = scheme_of subject in
    let proper = proper_of g.met.A.Alphabet.lawful g.met.R.Rule.lawful subject in
    let records = c.args.records.now in
    let j = c.loop-leader.leader-index in
    pending_sprouts T proper records.settled j c.loop-leader.queue c.queue_sprouts.new.queue c.loop-leader.invariant
    (subst (λ u. Joined T (Sprout T u) (sprout_count T) c.loop-leader.queue c.queue_sprouts.new.queue) (front_leader T proper records c.requires.settled j c.loop-leader-test.true) c.queue_sprouts.ensures)
