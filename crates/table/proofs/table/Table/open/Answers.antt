use Rattle.std.proofs.Common.{sym, subst}
use Rattle.table.specs.Records.{scheme_over, Kept}
use Rattle.table.proofs.Opening.{nothing_kept}
use Rattle.table.proofs.table.Table.open.Goals as goal

pub invariant_of-result : goal.invariant_of-result
invariant_of-result g c =
    let T = scheme_over g.A.Alphabet.symbols c.args.code (g.R.Rule.ranks c.args.rule) in
    record { kept = subst (Kept T) (sym c.new-2.ensures) (nothing_kept T g.met.A.Alphabet.lawful (g.met.R.Rule.lawful c.args.rule)) }
