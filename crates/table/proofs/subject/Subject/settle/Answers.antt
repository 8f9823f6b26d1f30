use Rattle.std.proofs.Common.{◌≡◌, ◌+◌, sym, ap, ◌∙◌, subst, arith}
use Rattle.leaders.specs.Growth.{Sprout}
use Rattle.leaders.specs.Leaders.{check_of}
use Rattle.leaders.proofs.Leaders.{few_leaders}
use Rattle.table.specs.Queues.{Joined, Pending, sprout_count}
use Rattle.table.specs.Records.{recorded, Settled}
use Rattle.table.specs.Subjects.{scheme_of}
use Rattle.table.proofs.Opening.{proper_of}
use Rattle.table.proofs.Queues.{pending_sprouts, room_for_sprouts}
use Rattle.table.proofs.Settling.{check_inside, next_mark, settled_more}
use Rattle.table.proofs.subject.Subject.settle.Goals as goal

pub write-requires : goal.write-requires
write-requires g c =
    let subject = c.args.self.now in
    let T = scheme_of subject in
    let proper = proper_of g.met.A.Alphabet.lawful g.met.R.Rule.lawful subject in
    (omega (arith, few_leaders T proper, proper.few_cosets, c.requires.next.within), omega (arith, check_inside T proper c.args.records.now c.requires.settled c.args.number, c.number-check.ensures))

pub queue_sprouts-requires-clause-mark : goal.queue_sprouts-requires-clause-mark
queue_sprouts-requires-clause-mark g c =
    let subject = c.args.self.now in
    next_mark (scheme_of subject) (proper_of g.met.A.Alphabet.lawful g.met.R.Rule.lawful subject) c.args.records.now c.requires.settled c.args.number c.requires.next.within c.requires.next.is

pub queue_sprouts-requires-clause-room : goal.queue_sprouts-requires-clause-room
queue_sprouts-requires-clause-room g c =
    let subject = c.args.self.now in
    let k = c.args.records.now.settled in
    room_for_sprouts (scheme_of subject) (proper_of g.met.A.Alphabet.lawful g.met.R.Rule.lawful subject) (k + 1) k c.args.queue.now c.requires.next.pending c.requires.next.within

pub returns-clause-growing : goal.returns-clause-growing
returns-clause-growing g c =
    let subject = c.args.self.now in
    let T = scheme_of subject in
    let proper = proper_of g.met.A.Alphabet.lawful g.met.R.Rule.lawful subject in
    let records = c.args.records.now in
    let u = c.args.number in
    let k = records.settled in
    let new = c.queue_sprouts.new.queue in
    let is : c.write.new.self ≡ recorded records u (check_of T u) = c.write.ensures ∙ ap (recorded records u) c.number-check.ensures in
    record {
      settled = subst (Settled T) (sym is) (settled_more T proper records c.requires.settled u c.requires.next.within c.requires.next.is);
      pending = subst (λ written. Pending T written.settled written.settled new) (sym is)
          (pending_sprouts T proper (k + 1) k c.args.queue.now new c.requires.next.pending
          (subst (λ v. Joined T (Sprout T v) (sprout_count T) c.args.queue.now new) (sym c.requires.next.is) c.queue_sprouts.ensures));
    }
