-- What is written: the layout of a sound content, which reads back.
use Rattle.std.proofs.Common.{◌≡◌, ℕ, ◌*◌, ◌<◌, ◌≤◌, true, ◌&&◌, eqb, leb, ◌⊎◌, List, length, get_or, take, Ok, sym, refl, ap, ◌∙◌, subst, inl, inr, arith}
use Rattle.std.proofs.lemmas.List.{get_or-take, get_or_past, length-take-le}
use Rattle.std.proofs.lemmas.Bool.{cond-true, eq-eqb, le-leb, and_from, cases_lt}
use Rattle.checkfile.specs.declared.code.Code.{Code}
use Rattle.checkfile.specs.declared.rule.FileRule.{FileRule}
use Rattle.checkfile.specs.declared.rule.FileRule.TheVariants.{Plain, Weight, Cost}
use Rattle.checkfile.specs.Contents.{content_of, content_at, buffer_after, ReadsBack}
use Rattle.checkfile.specs.Layout.{Put, Sound, CostsOf, layout}
use Rattle.checkfile.specs.Rules.{kind_of_rule, places_of, costs_of}
use Rattle.checkfile.specs.Tests.{first_refusal, tests}
use Rattle.checkfile.proofs.Layouts.{layouts_accepted}
use Rattle.checkfile.proofs.Puts.{put_first}

-- the costs of a rule
sound_costs : (rule : FileRule) → CostsOf (kind_of_rule rule) (places_of rule) (costs_of rule)
sound_costs (Plain rule) = refl
sound_costs (Weight rule) = refl
sound_costs (Cost rule) = (long, λ k. at k (cases_lt k rule.measure.places.n))
  where
    long : length (take rule.measure.places.n rule.measure.costs) ≡ rule.measure.places.n
    long = length-take-le rule.measure.places.n rule.measure.costs (omega (arith, rule.measure.long, rule.measure.places.size.1))

    at : (k : ℕ) → (k < rule.measure.places.n) ⊎ (rule.measure.places.n ≤ k) → get_or (take rule.measure.places.n rule.measure.costs) k 0 ≤ 1000
    at k (inl h) = omega (arith, get_or-take rule.measure.places.n rule.measure.costs k 0 h, rule.measure.affordable k)
    at k (inr h) = omega (arith, get_or_past (take rule.measure.places.n rule.measure.costs) k 0 (omega (arith, long)))

module _ (code : Code) (rule : FileRule) (same : places_of rule ≡ code.sizes.places.n) where
  sound_content : Sound (content_of code rule)
  sound_content =
      let checks = code.checks in
      let size = code.sizes.places.n * code.sizes.r in
      record {
        least_q = code.sizes.limits.least_q;
        most_q = code.sizes.limits.most_q;
        least_n = code.sizes.limits.least_n;
        most_n = code.sizes.limits.most_n;
        least_r = code.sizes.limits.least_r;
        most_r = code.sizes.limits.most_r;
        table = length-take-le size checks (omega (arith, code.long, code.sizes.room));
        symbols = λ k h. omega (arith, get_or-take size checks k 0 h, code.symbols k h);
        costs = subst (λ n. CostsOf (kind_of_rule rule) n (costs_of rule)) same (sound_costs rule);
      }

  module _ (before after : List ℕ) (next : ℕ) (room : length (layout (content_of code rule)) ≤ length before) (put : Put (layout (content_of code rule)) 0 before after next) where
    long : next ≡ length (layout (content_of code rule))
    long = omega (arith, put.moves_on)

    fits : leb (length (layout (content_of code rule))) (length before) ≡ true
    fits = le-leb (length (layout (content_of code rule))) (length before) room

    pub written_buffer : after ≡ buffer_after code rule before
    written_buffer =
        put_first (layout (content_of code rule)) before after next put
        ∙ sym (cond-true (eqb (places_of rule) code.sizes.places.n && leb (length (layout (content_of code rule))) (length before)) _ _ (and_from _ _ (eq-eqb (places_of rule) code.sizes.places.n same) fits))

    pub written_back : ReadsBack code rule after (Ok next)
    written_back =
        let accepted = layouts_accepted (content_of code rule) sound_content in
        (ap (λ f. first_refusal (tests f)) put.front ∙ accepted.0, ap content_at put.front ∙ accepted.1)
