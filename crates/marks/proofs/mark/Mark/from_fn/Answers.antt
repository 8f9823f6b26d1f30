use Rattle.std.proofs.Common.{◌≡◌, ◌+◌, ◌*◌, ◌%◌, ◌^◌, ap, ◌∙◌, arith}
use lib.Bits.{and_mask}
use Rattle.marks.specs.Symbols.{SymbolsOf}
use Rattle.marks.proofs.Symbols.{no_symbols, one_more, symbols_fit}
use Rattle.marks.proofs.mark.Mark.from_fn.Given as given
use Rattle.marks.proofs.mark.Mark.from_fn.Goals as goal
use Rattle.marks.proofs.mark.Mark.from_fn.Goals.{After-digit_at-number}

next : (g : given.Over) (c : After-digit_at-number g) → SymbolsOf (goal.F-post g c.args.symbol) (c.loop-i.i + 1) (c.loop-i.number + c.digit_at-number.result)
next g c =
    let placed : c.digit_at-number.result ≡ c.symbol.result % 4 * 4 ^ c.loop-i.i =
    c.digit_at-number.ensures ∙ ap (λ a. a * 4 ^ c.loop-i.i) (and_mask c.symbol.result 2) in
    rw placed (one_more (goal.F-post g c.args.symbol) c.loop-i.i c.loop-i.number c.symbol.result c.loop-i.invariant c.symbol.ensures)

pub loop-i-init : goal.loop-i-init
loop-i-init g c = no_symbols (goal.F-post g c.args.symbol)

pub overflow_add-number : goal.overflow_add-number
overflow_add-number g c = omega (arith, symbols_fit (goal.F-post g c.args.symbol) (c.loop-i.i + 1) _ (omega arith) (next g c))

pub loop-i-preserved : goal.loop-i-preserved
loop-i-preserved = next
