use Rattle.std.proofs.Common.{◌-◌, ◌*◌, ◌%◌, sym, ap, ◌∙◌, mod-eq_of_lt, arith}
use native.Mathlib.Nat.{pow-le-pow_right}
use lib.Bits.{bit_and, and_mask}
use Rattle.algebra.proofs.Marks.{two_bits}
use Rattle.std.proofs.lemmas.Nat.{one_shl}
use Rattle.rules.proofs.basic.low.Goals as goal

pub returns-then-n-ge-PLACES : goal.returns-then-n-ge-PLACES
returns-then-n-ge-PLACES c = sym (mod-eq_of_lt (omega (arith, pow-le-pow_right {n = 4} (omega arith) {i = 32} {j = c.args.n} (omega arith))))

pub returns : goal.returns
returns c =
    let n = c.args.n in
    ap (λ m. bit_and c.args.number (m - 1)) (one_shl (2 * n) 64 (omega arith)) ∙ and_mask c.args.number (2 * n) ∙ ap (λ b. c.args.number % b) (two_bits n)
