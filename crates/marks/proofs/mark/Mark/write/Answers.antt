use Rattle.std.proofs.Common.{◌≡◌, length, ap, ◌∙◌, arith}
use Rattle.algebra.specs.Digits.{digit}
use Rattle.algebra.specs.Marks.{number_of, bytes_of}
use Rattle.algebra.proofs.Marks.{number_back}
use Rattle.std.proofs.lemmas.List.FromFn.{fill_by_all}
use Rattle.marks.proofs.mark.Mark.write.Goals as goal

pub returns : goal.returns
returns c =
    let size = length c.args.buffer.now in
    let written : c.loop-i.buffer ≡ bytes_of size c.args.self.number =
    fill_by_all (digit c.args.self.number) c.loop-i.buffer size 0 c.loop-i.auto.buffer (λ k h. c.loop-i.invariant k (omega arith))
    in
    record { after = written; back = λ h. ap number_of written ∙ number_back size c.args.self.number h }
