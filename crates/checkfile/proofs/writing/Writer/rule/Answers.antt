use Rattle.std.proofs.Common.{◌≡◌, [], ◌∷◌, ◌++◌, length, refl, sym, ap, ◌∙◌, subst}
use Rattle.std.specs.List.{flat_map}
use Rattle.checkfile.specs.Contents.{rule_costs}
use Rattle.checkfile.specs.Rules.{kind_of_rule}
use Rattle.checkfile.specs.Layout.{field, kind_byte, two_bytes}
use Rattle.checkfile.specs.Writes.{Writes}
use Rattle.checkfile.proofs.Puts.{writes, costs_field}
use Rattle.checkfile.proofs.writing.Writer.rule.Goals as goal

pub returns-in-Cost : goal.returns-in-Cost
returns-in-Cost c =
    let rule = c.args.rule.now in
    let costs = c.costs-costs.result.now in
    let kind = subst (λ b. Writes c.args.self.now c.field.new.self (field 4 (b ∷ []))) (c.from.ensures ∙ ap kind_byte c.kind.ensures) c.field.ensures in
    let dear : field 5 (flat_map two_bytes costs) ≡ rule_costs rule = ap (λ xs. field 5 (flat_map two_bytes xs)) c.costs-costs.ensures ∙ sym (ap rule_costs c.in-Cost.is) in
    subst (λ zs. Writes c.args.self.now c.costs.new.self (field 4 (kind_byte (kind_of_rule rule) ∷ []) ++ zs)) (costs_field (length costs) costs refl ∙ dear)
    (writes _ _ kind (writes _ _ c.head.ensures c.costs.ensures))
