use Rattle.std.proofs.Common.{◌≡◌}
use Rattle.algebra.specs.Checks.{sum_of}
use Rattle.algebra.specs.Digits.{digit}
use Rattle.checkfile.specs.Contents.{checks_of}
use Rattle.cosets.proofs.checks.Checks.value.Given as goal

abbrev pub invariant-loop-i : goal.invariant-loop-i
invariant-loop-i g l = let S = g.A.Alphabet.symbols in l.sum ≡ sum_of S l.i (λ i. S.product (digit l.mark.number i) ((checks_of l.self.code.now).check i l.j))
