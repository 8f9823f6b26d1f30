use Rattle.marks.specs.Symbols.{SymbolsOf}
use Rattle.marks.proofs.mark.Mark.from_fn.Given as goal

abbrev pub invariant-loop-i : goal.invariant-loop-i
invariant-loop-i g l = SymbolsOf (goal.F-post g l.symbol) l.i l.number
