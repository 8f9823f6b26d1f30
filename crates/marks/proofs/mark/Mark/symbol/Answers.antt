use Rattle.std.proofs.Common.{◌*◌, ◌/◌, ◌%◌, ◌^◌, sym, ap, ◌∙◌, arith}
use lib.Bits.{and_mask}
use Rattle.algebra.proofs.Digits.{digit_past}
use Rattle.algebra.proofs.Marks.{two_bits}
use Rattle.marks.proofs.mark.Mark.symbol.Goals as goal

pub returns-then-place-ge-PLACES : goal.returns-then-place-ge-PLACES
returns-then-place-ge-PLACES c = sym (digit_past 32 c.args.self.number c.args.place (omega arith) (omega arith))

pub returns : goal.returns
returns c =
    let u = c.args.self.number in
    let i = c.args.place in
    and_mask (u / 2 ^ (2 * i)) 2 ∙ ap (λ b. u / b % 4) (two_bits i)
