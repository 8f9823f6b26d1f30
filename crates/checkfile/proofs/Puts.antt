-- Bytes put one after the other are put at once.
use Rattle.std.proofs.Common.{◌≡◌, ℕ, ◌+◌, ◌-◌, ◌*◌, ◌/◌, ◌%◌, ◌<◌, ◌≤◌, List, [], ◌∷◌, ◌++◌, length, get_or, take, drop, set, sym, refl, ap, ◌∙◌, append_assoc, arith, take-append-drop}
use Rattle.std.specs.List.{flat_map}
use Rattle.std.proofs.lemmas.List.{drop-drop, length-append, length-drop, length-set, length-take-le, take_more, take_more_set, flat_map_more}
use Rattle.checkfile.specs.declared.code.Code.{Code}
use Rattle.rules.specs.declared.cost.Costs.{Costs}
use Rattle.checkfile.specs.declared.rule.FileRule.{FileRule}
use Rattle.checkfile.specs.declared.writing.Writer.{Writer}
use Rattle.checkfile.specs.Writes.{Writes}
use Rattle.checkfile.specs.Contents.{content_of, rule_costs}
use Rattle.checkfile.specs.Rules.{kind_of_rule}
use Rattle.checkfile.specs.Layout.{Put, field, layout, kind_byte, two_bytes}

pub puts : (xs ys : List ℕ) (at next end : ℕ) (before between after : List ℕ) → Put xs at before between next → Put ys next between after end → Put (xs ++ ys) at before after end
puts xs ys at next end before between after p r =
    let further : (zs : List ℕ) → drop (end - next) (drop next zs) ≡ drop end zs = λ zs.
    drop-drop (end - next) next zs ∙ ap (λ k. drop k zs) (let e : next + (end - next) ≡ end = omega (arith, r.moves_on) in e)
    in
    record {
      moves_on = omega (arith, p.moves_on, r.moves_on, length-append xs ys);
      front = r.front ∙ ap (λ zs. zs ++ ys) p.front ∙ append_assoc (take at before) xs ys;
      back = r.back ∙ sym (further between) ∙ ap (drop (end - next)) p.back ∙ further before;
    }

-- put at the front, they stand before what lay past them
pub put_first : (xs : List ℕ) (before after : List ℕ) (end : ℕ) → Put xs 0 before after end → after ≡ xs ++ drop (length xs) before
put_first xs before after end p =
    let e : end ≡ length xs = omega (arith, p.moves_on) in
    sym (take-append-drop end after) ∙ ap (λ zs. zs ++ drop end after) p.front ∙ ap (λ zs. xs ++ zs) (p.back ∙ ap (λ k. drop k before) e)

-- two bytes more
pub two_more : (bytes : List ℕ) (k hi lo : ℕ) → 2 * k + 1 < length bytes → take (2 * (k + 1)) (set (set bytes (2 * k) hi) (2 * k + 1) lo) ≡ take (2 * k) bytes ++ (hi ∷ (lo ∷ []))
two_more bytes k hi lo h =
    let e : 2 * (k + 1) ≡ 2 * k + 1 + 1 = omega arith in
    ap (λ m. take m (set (set bytes (2 * k) hi) (2 * k + 1) lo)) e
    ∙ take_more_set (set bytes (2 * k) hi) (2 * k + 1) lo (omega (arith, length-set bytes (2 * k) hi))
    ∙ ap (λ zs. zs ++ (lo ∷ [])) (take_more_set bytes (2 * k) hi (omega arith))
    ∙ append_assoc (take (2 * k) bytes) (hi ∷ []) (lo ∷ [])

-- one cost more
pub costs_more : (costs : List ℕ) (k : ℕ) → k < length costs → flat_map two_bytes (take (k + 1) costs) ≡ flat_map two_bytes (take k costs) ++ two_bytes (get_or costs k 0)
costs_more costs k h = ap (flat_map two_bytes) (take_more costs k 0 h) ∙ sym (flat_map_more two_bytes [] (take k costs) (get_or costs k 0))

pub costs_long : (costs : List ℕ) → length (flat_map two_bytes costs) ≡ 2 * length costs
costs_long [] = refl
costs_long (cost ∷ costs) = omega (arith, costs_long costs)

-- the field of a rule's costs, by kind
pub dear_costs_long : (costs : Costs) → length (field 5 (flat_map two_bytes (take costs.places.n costs.costs))) ≡ 3 + 2 * costs.places.n
dear_costs_long costs =
    let n = costs.places.n in
    omega (arith, costs_long (take n costs.costs), length-take-le n costs.costs (omega (arith, costs.long, costs.places.size.1)))

-- the parts of a file, and its length
pub layout_parts : (code : Code) (rule : FileRule)
    → (((field 1 (code.sizes.q ∷ []) ++ field 2 (code.sizes.places.n ∷ (code.sizes.r ∷ []))) ++ field 3 (take (code.sizes.places.n * code.sizes.r) code.checks)) ++ (field 4 (kind_byte (kind_of_rule rule) ∷ []) ++ rule_costs rule))
    ≡ layout (content_of code rule)
layout_parts code rule = simp append_assoc

pub layout_long : (code : Code) (rule : FileRule) → length (layout (content_of code rule)) ≡ 16 + code.sizes.places.n * code.sizes.r + length (rule_costs rule)
layout_long code rule =
    let checks = take (code.sizes.places.n * code.sizes.r) code.checks in
    let long : length checks ≡ code.sizes.places.n * code.sizes.r = length-take-le (code.sizes.places.n * code.sizes.r) code.checks (omega (arith, code.long, code.sizes.room)) in
    omega (arith, length-append checks (field 4 (kind_byte (kind_of_rule rule) ∷ []) ++ rule_costs rule))

-- what a writer puts one after the other, it puts at once
pub writes : {a b c : Writer} (xs ys : List ℕ) → Writes a b xs → Writes b c ys → Writes a c (xs ++ ys)
writes xs ys p r = record {
  same_reference = r.same_reference ∙ p.same_reference;
  same_length = r.same_length ∙ p.same_length;
  put = puts xs ys _ _ _ _ _ _ p.put r.put;
}

-- a number of two bytes, as it is written
pub big_end : (x : ℕ) → x < 65536 → (x / 256 % 256 ∷ (x % 256 ∷ [])) ≡ two_bytes x
big_end x h = let e : x / 256 % 256 ≡ x / 256 = omega arith in ap (λ b. b ∷ (x % 256 ∷ [])) e

-- what is put within a buffer leaves its length
pub put_length : (bytes before after : List ℕ) (at next : ℕ) → Put bytes at before after next → next ≤ length before → length after ≡ length before
put_length bytes before after at next p h =
    omega (
      arith,
      p.moves_on,
      ap length (take-append-drop next after),
      length-append (take next after) (drop next after),
      ap length p.front,
      length-append (take at before) bytes,
      length-take-le at before (omega (arith, p.moves_on)),
      ap length p.back,
      length-drop next before,
    )

-- a field of costs, and its length
pub costs_field : (n : ℕ) (costs : List ℕ) → length costs ≡ n → 5 ∷ (two_bytes (2 * n) ++ flat_map two_bytes costs) ≡ field 5 (flat_map two_bytes costs)
costs_field n costs h = ap (λ m. 5 ∷ (two_bytes m ++ flat_map two_bytes costs)) (omega (arith, costs_long costs))
