use Rattle.std.proofs.Common.{◌≡◌, get_or, is_some, None, sym, ap, ◌∙◌}
use Rattle.leaders.specs.Leaders.{check_of}
use Rattle.leaders.specs.Schemes.{MarkOf}
use Rattle.table.specs.Subjects.{scheme_of}
use Rattle.table.proofs.Opening.{proper_of}
use Rattle.table.proofs.Queues.{taken_mark, taken_settled, taken_next, taken_none}
use Rattle.table.proofs.Settling.{not_settled, is_settled}
use Rattle.table.proofs.subject.Subject.next_leader.Given as given
use Rattle.table.proofs.subject.Subject.next_leader.Goals as goal
use Rattle.table.proofs.subject.Subject.next_leader.Goals.{After-number}

module _ (g : given.Over) (c : After-number g) where
  mark : MarkOf (scheme_of c.args.self.now) c.in-Some.number
  mark =
      let subject = c.args.self.now in
      let said = c.in-Some.ensures in
      taken_mark (scheme_of subject) (proper_of g.met.A.Alphabet.lawful g.met.R.Rule.lawful subject) (g.R.Ranking.before subject.rule.now) (g.met.R.Rule.agrees subject.rule.now)
      c.args.records.now.settled c.loop-number.queue c.take.new.self c.in-Some.number c.loop-number.invariant said.answer said.long

  written : is_some c.number.result ≡ is_some (get_or c.args.records.now.numbers (check_of (scheme_of c.args.self.now) c.in-Some.number) None)
  written = ap is_some (c.number.ensures ∙ ap (λ i. get_or c.args.records.now.numbers i None) c.number-check.ensures)

-- a mark of a settled coset is left out
pub loop-number-preserved : goal.loop-number-preserved
loop-number-preserved g c =
    let subject = c.args.self.now in
    let records = c.args.records.now in
    let T = scheme_of subject in
    let proper = proper_of g.met.A.Alphabet.lawful g.met.R.Rule.lawful subject in
    let u = c.in-Some.number in
    let said = c.in-Some.ensures in
    let at = (goal.at.loop-number-preserved g c).After-number in
    taken_settled T proper (g.R.Ranking.before subject.rule.now) (g.met.R.Rule.agrees subject.rule.now) records.settled c.loop-number.queue c.take.new.self u c.loop-number.invariant said.answer said.long
    (is_settled T proper records c.requires.settled u (mark g at) (sym (written g at) ∙ c.if-is_none.ensures))

pub returns-then-is_none : goal.returns-then-is_none
returns-then-is_none g c =
    let subject = c.args.self.now in
    let records = c.args.records.now in
    let T = scheme_of subject in
    let proper = proper_of g.met.A.Alphabet.lawful g.met.R.Rule.lawful subject in
    let u = c.in-Some.number in
    let said = c.in-Some.ensures in
    let at = (goal.at.returns-then-is_none g c).After-number in
    taken_next T proper (g.R.Ranking.before subject.rule.now) (g.met.R.Rule.agrees subject.rule.now) records.settled c.loop-number.queue c.take.new.self u c.loop-number.invariant said.answer said.long
    (not_settled T proper records c.requires.settled u (mark g at) (sym (written g at) ∙ c.if-is_none.ensures))

pub returns : goal.returns
returns g c =
    let T = scheme_of c.args.self.now in
    taken_none T (proper_of g.met.A.Alphabet.lawful g.met.R.Rule.lawful c.args.self.now) c.args.records.now.settled c.loop-number.queue c.take.new.self c.loop-number.invariant c.requires.settled.within c.in_default.ensures.answer
