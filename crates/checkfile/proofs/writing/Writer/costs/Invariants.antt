use Rattle.std.proofs.Common.{take}
use Rattle.std.specs.List.{flat_map}
use Rattle.checkfile.specs.Layout.{two_bytes}
use Rattle.checkfile.specs.Writes.{Writes}
use Rattle.checkfile.proofs.writing.Writer.costs.Given as goal

abbrev pub invariant-loop-cost : goal.invariant-loop-cost
invariant-loop-cost l = Writes l.initial.self l.self (flat_map two_bytes (take l.cost-index l.costs))
