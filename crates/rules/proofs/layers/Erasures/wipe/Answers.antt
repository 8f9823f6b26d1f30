use Rattle.std.proofs.Common.{ℕ, ◌<◌, cond, eqb, get_or, arith}
use Rattle.std.proofs.lemmas.Bool.{cond_both}
use Rattle.std.proofs.lemmas.Bool.Decides.{nat_tests}
use Rattle.algebra.specs.Digits.{digit}
use Rattle.algebra.proofs.Digits.{digit_symbol}
use Rattle.rules.proofs.Packing.{symbols_are}
use Rattle.rules.proofs.layers.Erasures.wipe.Goals as goal

pub returns : goal.returns
returns c =
    let gone : ℕ → ℕ = λ i. get_or c.args.self.now.bytes i 0 in
    symbols_are _ c.args.n _ (λ i. cond (eqb (gone i) 0) (digit c.args.number i) 0) (omega arith) c.from_fn.ensures
    (λ i. cond_both (eqb (gone i) 0) (digit c.args.number i) 0 (λ x. x < 4) (λ _. digit_symbol c.args.number i) (λ _. omega arith))
    (λ i s h answered. grind (arith, nat_tests))
