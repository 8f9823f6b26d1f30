use Rattle.std.proofs.Common.{◌≡◌, ◌+◌, ◌-◌, ◌<◌, sym, subst, arith}
use Rattle.algebra.specs.Marks.{put}
use Rattle.leaders.proofs.Adding.{put_mark}
use Rattle.leaders.specs.Schemes.{MarkOf}
use Rattle.table.specs.Queues.{PutBelow}
use Rattle.table.specs.Subjects.{scheme_of}
use Rattle.table.proofs.Queues.{set_put, accepted_with_room, joined_put, put_below_more}
use Rattle.table.proofs.subject.Subject.queue_symbols.Goals as goal

pub loop-symbol-preserved : goal.loop-symbol-preserved
loop-symbol-preserved g c =
    let subject = c.args.self.now in
    let code = subject.checks.code.now in
    let T = scheme_of subject in
    let a = c.loop-symbol.symbol in
    let u = c.args.mark.number in
    let lawful = g.met.A.Alphabet.lawful in
    let small : a < T.symbols.q = omega (arith, c.Q-symbol-end.ensures, g.met.A.Alphabet.counted, c.loop-symbol-test.true) in
    let most = code.sizes.places.size.1 in
    let is : c.set.result.number ≡ put T.checks.n u c.args.place a =
    set_put T.checks.n u c.args.place a c.set.result.number (omega (arith, most)) c.requires.mark.short c.requires.place (omega (arith, lawful.most)) c.set.ensures
    in
    let mark : MarkOf T c.set.result.number = subst (MarkOf T) (sym is) (put_mark T.symbols lawful T.checks.n u c.args.place a c.requires.mark small) in
    let accepted = accepted_with_room _ _ c.loop-symbol.queue c.put.new.self c.put.result c.put.ensures.answer (omega (arith, small, c.loop-symbol.invariant.held, c.loop-symbol.invariant.long, c.requires.room, c.loop-symbol.auto.symbol)) in
    joined_put T (g.R.Ranking.before subject.rule.now) (g.met.R.Rule.agrees subject.rule.now)
    (PutBelow T u c.args.place a) (PutBelow T u c.args.place (a + 1)) (a - 1) (a + 1 - 1) c.args.queue.now c.loop-symbol.queue c.put.new.self c.set.result.number
    c.loop-symbol.invariant accepted c.put.ensures.long mark (omega (arith, c.loop-symbol.auto.symbol))
    (put_below_more T u c.args.place a c.set.result.number is)
