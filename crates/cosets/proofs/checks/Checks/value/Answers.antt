use Rattle.std.proofs.Common.{◌≡◌, ℕ, ap, ◌∙◌, arith}
use Rattle.algebra.specs.Checks.{sum_of}
use Rattle.algebra.specs.Digits.{digit}
use Rattle.algebra.proofs.Checks.{sum_of_more}
use Rattle.checkfile.specs.Contents.{checks_of}
use Rattle.cosets.proofs.checks.Checks.value.Goals as goal

pub loop-i-preserved : goal.loop-i-preserved
loop-i-preserved g c =
    let S = g.A.Alphabet.symbols in
    let term : ℕ → ℕ = λ i. S.product (digit c.args.mark.number i) ((checks_of c.args.self.now.code.now).check i c.args.j) in
    let here : c.product-share.result ≡ term c.loop-i.i = cc in
    let sum : c.loop-i.sum ≡ sum_of S c.loop-i.i term = c.loop-i.invariant in
    let more = sum_of_more S c.loop-i.i term in
    cc

pub returns : goal.returns
returns g c =
    let S = g.A.Alphabet.symbols in
    let term : ℕ → ℕ = λ i. S.product (digit c.args.mark.number i) ((checks_of c.args.self.now.code.now).check i c.args.j) in
    let all : c.loop-i.i ≡ c.args.self.now.code.now.sizes.places.n = omega arith in
    c.loop-i.invariant ∙ ap (λ n. sum_of S n term) all
