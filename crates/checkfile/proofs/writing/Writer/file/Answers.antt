use Rattle.std.proofs.Common.{[], ◌∷◌, subst}
use Rattle.checkfile.specs.Layout.{field}
use Rattle.checkfile.specs.Writes.{Writes}
use Rattle.checkfile.proofs.Puts.{writes, layout_parts}
use Rattle.checkfile.proofs.writing.Writer.file.Goals as goal

pub returns : goal.returns
returns c =
    let code = c.args.code.now in
    let rule = c.args.rule.now in
    let sizes = subst (λ n. Writes c.field.new.self c.field-2.new.self (field 2 (n ∷ (code.sizes.r ∷ [])))) c.get.ensures.value c.field-2.ensures in
    let table = subst (λ zs. Writes c.field-2.new.self c.field-3.new.self (field 3 zs)) c.symbols.ensures.value c.field-3.ensures in
    subst (Writes c.args.self.now c.rule.new.self) (layout_parts code rule) (writes _ _ (writes _ _ (writes _ _ c.field.ensures sizes) table) c.rule.ensures)
