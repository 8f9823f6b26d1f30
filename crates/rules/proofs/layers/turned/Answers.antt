use Rattle.std.proofs.Common.{◌-◌, rules, arith}
use Rattle.algebra.specs.Digits.{digit}
use Rattle.algebra.proofs.Digits.{digit_symbol}
use Rattle.rules.proofs.Packing.{symbols_are}
use Rattle.rules.proofs.layers.turned.Goals as goal

pub returns : goal.returns
returns c =
    symbols_are _ c.args.n _ (λ i. digit c.args.number (c.args.n - 1 - i)) (omega arith) c.from_fn.ensures
    (λ i. digit_symbol c.args.number (c.args.n - 1 - i)) (λ i s h answered. search rules)
