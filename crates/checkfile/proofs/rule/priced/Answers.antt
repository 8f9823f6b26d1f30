use Rattle.std.proofs.Common.{◌≡◌, ℕ, ◌-◌, ◌*◌, ◌<◌, ◌≤◌, List, length, get_or, take, ltb, position, None, ap, ◌∙◌, arith}
use Rattle.std.proofs.lemmas.Bool.{le-ltb}
use Rattle.std.proofs.lemmas.Bool.Decides.{nat_tests}
use Rattle.std.proofs.lemmas.List.FromFn.{fill_by_all}
use Rattle.std.proofs.lemmas.List.{get_or-take, length-take-le}
use Rattle.std.proofs.lemmas.List.Sums.{position_or_len_is}
use Rattle.rules.specs.Making.{cost_refusal}
use Rattle.checkfile.specs.Tests.{pair}
use Rattle.checkfile.proofs.rule.priced.Goals as goal

-- affordable costs of as many places are not refused
none_dear : (xs : List ℕ) → ((k : ℕ) → k < length xs → get_or xs k 0 ≤ 1000) → position (ltb 1000) xs ≡ None
none_dear xs h =
    let all = position_or_len_is (ltb 1000) xs (length xs) 0 (omega arith) (λ k l. le-ltb 1000 (get_or xs k 0) (h k l)) (λ l. absurd (omega arith)) in
    grind (arith, nat_tests)

not_refused : (n : ℕ) (xs : List ℕ) → 1 ≤ n → n ≤ 24 → length xs ≡ n → ((k : ℕ) → k < n → get_or xs k 0 ≤ 1000) → cost_refusal n xs ≡ None
not_refused n xs least most long h =
    let e = none_dear xs (λ k l. h k (omega arith)) in
    grind (arith, nat_tests)

pub returns : goal.returns
returns c =
    let costs = c.args.costs.now in
    let n = c.get-n.result in
    let whole : n - 0 ≡ n = omega arith in
    let long : length (take (n - 0) c.numbers.result) ≡ n = ap (λ m. length (take m c.numbers.result)) whole ∙ length-take-le n c.numbers.result (omega (arith, c.numbers.ensures.len, c.get-n.ensures.most)) in
    let each : (k : ℕ) → k < n → get_or (take (n - 0) c.numbers.result) k 0 ≡ pair costs.bytes.now (2 * k) =
    λ k h. get_or-take (n - 0) c.numbers.result k 0 (omega arith) ∙ c.numbers.ensures.items k (omega (arith, c.get-n.ensures.most))
    in
    let accepted = not_refused n (take (n - 0) c.numbers.result) c.get-n.ensures.least c.get-n.ensures.most long
    (λ k h. omega (arith, each k h, costs.affordable k (omega (arith, c.get-n.ensures.value))))
    in
    let made = c.new.ensures.rule (c.new.ensures.refused ∙ accepted) in
    let kept = c.new.result.rule.measure in
    record {
      places = made.0 ∙ c.get-n.ensures.value;
      items =
          fill_by_all (λ k. pair costs.bytes.now (2 * k)) (take costs.places.n kept.costs) costs.places.n 0
          (length-take-le costs.places.n kept.costs (omega (arith, kept.long, costs.places.size.1)))
          (λ k h. get_or-take costs.places.n kept.costs k 0 h ∙ made.1 k ∙ each k (omega (arith, c.get-n.ensures.value)));
    }
