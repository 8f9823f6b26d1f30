use Rattle.lines.proofs.Lines.{takes_line}
use Rattle.lines.proofs.input.LinesIterator.next.Goals as goal

pub returns-clause-steps : goal.returns-clause-steps
returns-clause-steps c = takes_line _ _ _ (cc) (cc) (cc)
