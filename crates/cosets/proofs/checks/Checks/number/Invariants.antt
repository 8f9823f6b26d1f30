use Rattle.std.proofs.Common.{◌≡◌, ◌^◌}
use Rattle.algebra.specs.Checks.{check_value}
use Rattle.algebra.specs.Digits.{pack}
use Rattle.checkfile.specs.Contents.{checks_of}
use Rattle.cosets.proofs.checks.Checks.number.Given as goal

abbrev pub invariant-loop-j : goal.invariant-loop-j
invariant-loop-j g l =
    let S = g.A.Alphabet.symbols in record {
      packed : l.number ≡ pack S.q l.j (check_value S (checks_of l.self.code.now) l.mark.number);
      base : l.power ≡ S.q ^ l.j;
    }
