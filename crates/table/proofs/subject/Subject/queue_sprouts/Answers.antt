use Rattle.std.proofs.Common.{◌≡◌, ◌+◌, ◌-◌, ◌*◌, ◌≤◌, subst, mul-le-mul_right, add-mul, one-mul, arith}
use Rattle.algebra.proofs.Digits.{digit_past}
use Rattle.leaders.specs.Growth.{Sprout}
use Rattle.table.specs.Queues.{Joined, PutBelow, SproutBelow, sprout_count}
use Rattle.table.specs.Subjects.{scheme_of}
use Rattle.table.proofs.Queues.{joined_none, joined_then, joined_weaker, sprout_below_more}
use Rattle.table.proofs.subject.Subject.queue_sprouts.Goals as goal

pub height-place-requires : goal.height-place-requires
height-place-requires g c j h = digit_past c.args.self.now.checks.code.now.sizes.places.n c.args.mark.number j c.requires.mark.short (omega (arith, c.n.ensures))

-- a place more takes at most its nonzero symbols more
pub queue_symbols-requires-clause-room : goal.queue_symbols-requires-clause-room
queue_symbols-requires-clause-room g c =
    let T = scheme_of c.args.self.now in
    let more = T.symbols.q - 1 in
    let place = c.loop-place.place in
    let most : (place + 1) * more ≤ T.checks.n * more = mul-le-mul_right more (omega (arith, c.loop-place-test.true, c.n-place-end.ensures)) in
    omega (arith, most, add-mul place 1 more, one-mul more, c.loop-place.invariant.held, c.loop-place.invariant.long, c.requires.room)

pub loop-place-init : goal.loop-place-init
loop-place-init g c =
    let T = scheme_of c.args.self.now in
    let u = c.args.mark.number in
    let low = c.height-place.result in
    joined_weaker T (SproutBelow T u low) (SproutBelow T u low) 0 (low * (T.symbols.q - 1)) c.args.queue.now c.args.queue.now
    (joined_none T (SproutBelow T u low) c.args.queue.now (λ v h. omega (arith, h.1, c.height-place.ensures.value.least h.0.place h.0.above)))
    (omega arith) (λ v h. h)

pub loop-place-preserved : goal.loop-place-preserved
loop-place-preserved g c =
    let T = scheme_of c.args.self.now in
    let more = T.symbols.q - 1 in
    let u = c.args.mark.number in
    let place = c.loop-place.place in
    let old = c.args.queue.now in
    let new = c.queue_symbols.new.queue in
    joined_weaker T (SproutBelow T u (place + 1)) (SproutBelow T u (place + 1)) (place * more + more) ((place + 1) * more) old new
    (joined_then T (SproutBelow T u place) (PutBelow T u place T.symbols.q) (SproutBelow T u (place + 1)) (place * more) more old c.loop-place.queue new c.loop-place.invariant c.queue_symbols.ensures (sprout_below_more T u place))
    (omega (arith, add-mul place 1 more, one-mul more)) (λ v h. h)

pub returns : goal.returns
returns g c =
    let T = scheme_of c.args.self.now in
    let u = c.args.mark.number in
    let end : c.loop-place.place ≡ T.checks.n = omega (arith, c.n.ensures, c.n-place-end.ensures, c.height-place.ensures.bound, c.loop-place.auto.place-end) in
    let all : Joined T (SproutBelow T u T.checks.n) (sprout_count T) c.args.queue.now c.loop-place.queue =
    subst (λ m. Joined T (SproutBelow T u m) (m * (T.symbols.q - 1)) c.args.queue.now c.loop-place.queue) end c.loop-place.invariant
    in
    joined_weaker T (SproutBelow T u T.checks.n) (Sprout T u) (sprout_count T) (sprout_count T) c.args.queue.now c.loop-place.queue all (omega arith) (λ v s. (s, s.inside))
