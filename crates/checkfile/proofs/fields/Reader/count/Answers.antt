use Rattle.std.proofs.Common.{refl, arith}
use Rattle.std.proofs.lemmas.Bool.Decides.{nat_tests}
use Rattle.refusals.specs.declared.Refusal.TheVariants.{SymbolCount}
use Rattle.checkfile.proofs.Stepping.{stops_first, content, tested}
use Rattle.checkfile.proofs.fields.Reader.count.Goals as goal

pub returns-in_err-field : goal.returns-in_err-field
returns-in_err-field c = stops_first _ _ c.in_err-field.ensures c.from_residual.ensures.1

pub returns-in-2-to-4 : goal.returns-in-2-to-4
returns-in-2-to-4 c =
    let field = c.in_ok-field.ensures in
    let q = content 1 field 0 (omega arith) in
    tested 1 field _ SymbolCount _ (grind (arith, nat_tests), (q, omega arith, omega arith, omega (arith, field.judged.1.moves_on)))

pub returns-in_default : goal.returns-in_default
returns-in_default c =
    let field = c.in_ok-field.ensures in
    let q = content 1 field 0 (omega arith) in
    tested 1 field _ SymbolCount _ (grind (arith, nat_tests), refl)

pub returns-in_default-2 : goal.returns-in_default-2
returns-in_default-2 c =
    let field = c.in_ok-field.ensures in
    let q = content 1 field 0 (omega arith) in
    tested 1 field _ SymbolCount _ (grind (arith, nat_tests), refl)
