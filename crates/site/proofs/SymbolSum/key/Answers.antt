use Rattle.std.proofs.Common.{arith}
use Rattle.algebra.specs.Digits.{digit, total}
use Rattle.algebra.proofs.Digits.{digit_symbol, total_more}
use Rattle.site.proofs.SymbolSum.key.Goals as goal

pub loop-place-init : goal.loop-place-init
unfolding total
loop-place-init c = omega arith

pub overflow_add-sum : goal.overflow_add-sum
overflow_add-sum c = omega (arith, digit_symbol c.args.number c.loop-place.place)

pub loop-place-preserved : goal.loop-place-preserved
loop-place-preserved c =
    (omega (arith, total_more c.loop-place.place (λ k. digit c.args.number k)), omega (arith, digit_symbol c.args.number c.loop-place.place))
