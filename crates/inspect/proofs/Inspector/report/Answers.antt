use Rattle.std.proofs.Common.{◌≡◌, arith}
use Rattle.std.proofs.lemmas.Grind.{common_steps}
use Rattle.algebra.specs.Symbols.{bits, thirds, quads}
use Rattle.inspect.specs.Inspection.{symbols_of}
use Rattle.inspect.proofs.Inspector.report.Goals as goal

pub returns-in-2 : goal.returns-in-2
returns-in-2 c = let over : symbols_of c.args.self.now.code.now.sizes.q ≡ bits = grind (arith, common_steps) in rw over c.report_over.ensures

pub returns-in-3 : goal.returns-in-3
returns-in-3 c = let over : symbols_of c.args.self.now.code.now.sizes.q ≡ thirds = grind (arith, common_steps) in rw over c.report_over-in-3.ensures

pub returns-in_default : goal.returns-in_default
returns-in_default c = let over : symbols_of c.args.self.now.code.now.sizes.q ≡ quads = grind (arith, common_steps) in rw over c.report_over-in_default.ensures
