use Rattle.std.proofs.Common.{ℕ, min, rules, arith}
use Rattle.algebra.specs.Digits.{digit}
use Rattle.marks.proofs.Symbols.{same_symbols}
use Rattle.marks.proofs.mark.Mark.minus.Goals as goal

pub returns : goal.returns
returns g c =
    let S = g.A.Alphabet.symbols in
    let lawful = g.met.A.Alphabet.lawful in
    let u = c.args.self.number in
    let v = c.args.other.number in
    let each : ℕ → ℕ = λ i. S.sum (digit u i) (S.opposite (digit v i)) in
    same_symbols _ (min c.args.n 32) c.from_fn.result.number each c.from_fn.ensures
    (λ i _. omega (arith, lawful.sum_symbol (digit u i) (S.opposite (digit v i)), lawful.most)) (λ i s h answered. search rules)
