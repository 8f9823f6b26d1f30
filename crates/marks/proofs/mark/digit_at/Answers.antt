use Rattle.std.proofs.Common.{◌≡◌, ◌*◌, ◌^◌, ◌≤◌, ap, arith}
use native.Mathlib.Nat.{pow-le-pow_right}
use Rattle.algebra.proofs.Marks.{two_bits}
use Rattle.std.proofs.lemmas.Nat.{mul-le}
use Rattle.marks.proofs.mark.digit_at.Goals as goal

-- the digit lies within 64 bits, so the shift loses nothing
pub returns : goal.returns
returns c =
    let i = c.args.place in
    let small : 4 ^ i ≤ 4 ^ 31 = pow-le-pow_right {n = 4} (omega arith) {i = i} {j = 31} (omega arith) in
    let bound : c.from.result * 4 ^ i ≤ 3 * 4 ^ 31 = mul-le c.from.result (4 ^ i) 3 (4 ^ 31) (omega arith) small in
    let shifted : c.from.result * 2 ^ (2 * i) ≡ c.from.result * 4 ^ i = ap (λ b. c.from.result * b) (two_bits i) in
    let same : c.from.result * 4 ^ i ≡ c.args.symbol * 4 ^ i = ap (λ s. s * 4 ^ i) c.from.ensures in
    omega arith
