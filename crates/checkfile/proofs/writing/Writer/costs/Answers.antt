use Rattle.std.proofs.Common.{◌++◌, length, get_or, take, sym, ap, ◌∙◌, subst, arith}
use Rattle.std.specs.List.{flat_map}
use Rattle.std.proofs.lemmas.List.{length-take-le}
use Rattle.checkfile.specs.Layout.{two_bytes}
use Rattle.checkfile.specs.Writes.{Writes}
use Rattle.checkfile.proofs.Puts.{big_end, costs_long, costs_more, writes}
use Rattle.checkfile.proofs.writing.Writer.costs.Goals as goal

pub put-requires : goal.put-requires
put-requires c =
    let costs = c.args.costs.now in
    let i = c.loop-cost.cost-index in
    omega (
      arith,
      ap length c.to_be_bytes.ensures,
      costs_long costs,
      costs_long (take i costs),
      length-take-le i costs (omega arith),
      c.loop-cost.invariant.put.moves_on,
      c.loop-cost.invariant.same_length,
    )

pub loop-cost-preserved : goal.loop-cost-preserved
loop-cost-preserved c =
    let costs = c.args.costs.now in
    let i = c.loop-cost.cost-index in
    subst (Writes c.args.self.now c.put.new.self)
    (ap (λ zs. flat_map two_bytes (take i costs) ++ zs) (c.to_be_bytes.ensures ∙ big_end (get_or costs i 0) (c.type_inv.costs i).fits) ∙ sym (costs_more costs i (omega arith)))
    (writes _ _ c.loop-cost.invariant c.put.ensures)
