use Rattle.std.proofs.Common.{◌∙◌}
use Rattle.rules.proofs.Above.{no_total}
use Rattle.rules.proofs.layers.Erasures.are_none.Goals as goal

pub returns : goal.returns
returns c = c.none_above.ensures ∙ no_total c.args.n c.args.self.now.bytes
