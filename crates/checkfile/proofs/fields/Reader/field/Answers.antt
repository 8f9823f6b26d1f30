use Rattle.std.proofs.Common.{◌≡◌, ℕ, ◌+◌, ◌-◌, ◌*◌, List, length, get_or, take, drop, sym, refl, ap, ◌∙◌, add-zero, arith, ltb-false, ltb-true}
use Rattle.std.proofs.lemmas.List.{take_rest, drop-drop, length-drop, length-take-le}
use Rattle.checkfile.specs.Tests.{byte, pair}
use Rattle.checkfile.proofs.FirstRefusal.{head_fails, tag_fails, length_fails, contents_fail, field_passes}
use Rattle.checkfile.proofs.fields.Reader.field.Goals as goal

-- the head's bytes, read from the rest of the file, are the file's
module _ (file rest : List ℕ) (at : ℕ) (places : (k : ℕ) → get_or rest k 0 ≡ byte file (at + k)) where
  first : get_or rest 0 0 ≡ byte file at
  first = places 0 ∙ ap (byte file) (add-zero at)

  second : get_or rest 1 0 * 256 + get_or rest 2 0 ≡ pair file (at + 1)
  second =
      let e : at + 2 ≡ at + 1 + 1 = omega arith in
      omega (arith, places 1, places 2, ap (byte file) e)

-- the contents are a part of the file
part : (file rest : List ℕ) (at size : ℕ) → rest ≡ drop at file → take (size - 0) (take (length rest - 3) (drop 3 rest)) ≡ take size (drop (at + 3) file)
part file rest at size e =
    let whole : size - 0 ≡ size = omega arith in
    ap (λ k. take k (take (length rest - 3) (drop 3 rest))) whole ∙ ap (take size) (take_rest rest 3 ∙ ap (drop 3) e ∙ drop-drop 3 at file)

pub returns-in_default : goal.returns-in_default
returns-in_default c = record {
  same_file = refl;
  judged = head_fails c.args.self.now.file.now c.args.self.now.offset c.args.tag c.args.size (omega (arith, ltb-true));
}

pub returns-then-found-tag : goal.returns-then-found-tag
returns-then-found-tag c =
    let file = c.args.self.now.file.now in
    let at = c.args.self.now.offset in
    record {
      same_file = refl;
      judged =
          tag_fails file at c.args.tag c.args.size (omega (arith, ltb-false))
          (λ e. c.if-found-tag.true (first file c.rest.result.now at c.rest.ensures.places ∙ e));
    }

pub returns-then-from-size : goal.returns-then-from-size
returns-then-from-size c =
    let file = c.args.self.now.file.now in
    let at = c.args.self.now.offset in
    let rest = c.rest.result.now in
    record {
      same_file = refl;
      judged =
          length_fails file at c.args.tag c.args.size (omega (arith, ltb-false))
          (sym (first file rest at c.rest.ensures.places) ∙ c.if-found-tag.false)
          (λ e. c.if-from-size.true (omega (arith, second file rest at c.rest.ensures.places)));
    }

pub returns-then-rest-size : goal.returns-then-rest-size
returns-then-rest-size c =
    let file = c.args.self.now.file.now in
    let at = c.args.self.now.offset in
    let rest = c.rest.result.now in
    record {
      same_file = refl;
      judged =
          contents_fail file at c.args.tag c.args.size (omega (arith, ltb-false))
          (sym (first file rest at c.rest.ensures.places) ∙ c.if-found-tag.false)
          (omega (arith, second file rest at c.rest.ensures.places))
          (omega (arith, ltb-false, ap length (take_rest rest 3), length-drop 3 rest));
    }

pub invariant_of-self : goal.invariant_of-self
invariant_of-self c = record { within = omega (arith, ltb-false, ap length (take_rest c.rest.result.now 3), length-drop 3 c.rest.result.now) }

pub returns : goal.returns
returns c =
    let file = c.args.self.now.file.now in
    let at = c.args.self.now.offset in
    let rest = c.rest.result.now in
    let long : length rest - 3 ≡ length (take (length rest - 3) (drop 3 rest)) = omega (arith, ap length (take_rest rest 3), length-drop 3 rest) in
    record {
      same_file = refl;
      judged = (
        field_passes file at c.args.tag c.args.size (omega (arith, ltb-false))
            (sym (first file rest at c.rest.ensures.places) ∙ c.if-found-tag.false)
            (omega (arith, second file rest at c.rest.ensures.places))
            (omega (arith, ltb-false)),
        record {
          begins = refl;
          part = part file rest at c.args.size c.rest.ensures.value;
          long = let whole : c.args.size - 0 ≡ c.args.size = omega arith in length-take-le (c.args.size - 0) (take (length rest - 3) (drop 3 rest)) (omega arith) ∙ whole;
          moves_on = refl;
        },
      );
    }
