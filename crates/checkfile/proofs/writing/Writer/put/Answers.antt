use Rattle.std.proofs.Common.{◌≡◌, ◌+◌, ◌-◌, ◌++◌, length, take, refl, ap, ◌∙◌, arith}
use Rattle.std.proofs.lemmas.Slice.{take-put_mid, drop-put_mid}
use Rattle.checkfile.specs.Layout.{Put}
use Rattle.checkfile.proofs.Puts.{put_length}
use Rattle.checkfile.proofs.writing.Writer.put.Goals as goal

pub returns : goal.returns
returns c =
    let at = c.args.self.now.offset in
    let bytes = c.args.bytes.now in
    let buffer = c.args.self.now.buffer.now in
    let same = c.copy_from_slice.ensures.after in
    let long : length c.copy_from_slice.new.self ≡ length bytes = ap length same in
    let put : Put bytes at buffer _ (at + length bytes) = record {
      moves_on = refl;
      front = take-put_mid at (at + length bytes - at) buffer c.copy_from_slice.new.self (at + length bytes) (omega arith) (omega arith) ∙ ap (λ zs. take at buffer ++ zs) same;
      back = drop-put_mid at (at + length bytes - at) buffer c.copy_from_slice.new.self (at + length bytes) (omega arith) (omega arith) (omega arith);
    } in
    record { same_reference = refl; same_length = put_length bytes buffer _ at (at + length bytes) put c.requires; put = put }
