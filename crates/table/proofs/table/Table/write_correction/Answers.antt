use Rattle.std.proofs.Common.{◌≡◌, ◌-◌, min, get_or, ◌∙◌, ap₂, arith}
use Rattle.algebra.specs.Marks.{bytes_of, minus}
use Rattle.leaders.specs.Leaders.{leader_of}
use Rattle.table.specs.Tables.{scheme_of}
use Rattle.table.proofs.Finding.{leader_recorded, number_some}
use Rattle.table.proofs.table.Table.write_correction.Goals as goal

pub overflow_sub-leader : goal.overflow_sub-leader
overflow_sub-leader g c = omega (arith, number_some (scheme_of c.args.self.now) c.args.mark.number, c.requires.number.0)

pub returns : goal.returns
returns g c =
    let table = c.args.self.now in
    let code = table.code in
    let T = scheme_of table in
    let u = c.args.mark.number in
    let is : get_or table.records.leaders (c.args.number - 1) 0 ≡ leader_of T u = leader_recorded T table.records table.kept.settled u c.args.number c.requires.number.0 c.requires.number.1 in
    let whole : min c.n.result 32 ≡ code.sizes.places.n = omega (arith, c.n.ensures, code.sizes.places.size.1) in
    record {
      correction = c.write.ensures.after ∙ ap₂ bytes_of c.requires.long.0 is;
      corrected = c.write-2.ensures.after ∙ ap₂ bytes_of c.requires.long.1 (c.minus.ensures ∙ ap₂ (λ m v. minus g.A.Alphabet.symbols m u v) whole is);
    }
