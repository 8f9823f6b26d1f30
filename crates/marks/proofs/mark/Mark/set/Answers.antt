use Rattle.std.proofs.Common.{◌≡◌, ◌*◌, ◌%◌, ◌^◌, sym, ap, ◌∙◌, arith}
use lib.Bits.{and_mask}
use Rattle.algebra.proofs.Marks.{digit_fits, changed_put, changed_fits, put_past}
use Rattle.marks.proofs.mark.Mark.set.Goals as goal
use Rattle.marks.proofs.mark.Mark.set.Goals.{After-digit_at-2}

-- the second digit is that of the symbol's two low bits
masked : (c : After-digit_at-2) → c.digit_at-2.result ≡ c.args.symbol % 4 * 4 ^ c.args.place
masked c = c.digit_at-2.ensures ∙ ap (λ a. a * 4 ^ c.args.place) (and_mask c.args.symbol 2)

pub returns-then-place-ge-PLACES : goal.returns-then-place-ge-PLACES
returns-then-place-ge-PLACES c = sym (put_past 32 c.args.self.number c.args.place (c.args.symbol % 4) (omega arith) (omega arith))

pub overflow_sub-cleared : goal.overflow_sub-cleared
overflow_sub-cleared c =
    let was = ap (λ a. a * 4 ^ c.args.place) c.symbol.ensures in
    omega (arith, digit_fits c.args.self.number c.args.place)

pub overflow_add-result : goal.overflow_add-result
overflow_add-result c =
    let was = ap (λ a. a * 4 ^ c.args.place) c.symbol.ensures in
    omega (arith, masked c, changed_fits 32 c.args.self.number c.args.place (c.args.symbol % 4) (omega arith) (omega arith) (omega arith))

pub returns : goal.returns
returns c =
    let was = ap (λ a. a * 4 ^ c.args.place) c.symbol.ensures in
    omega (arith, masked c, changed_put 32 c.args.self.number c.args.place (c.args.symbol % 4) (omega arith) (omega arith) (omega arith))
