use Rattle.checkfile.proofs.Puts.{writes}
use Rattle.checkfile.proofs.writing.Writer.field.Goals as goal

pub returns : goal.returns
returns c = writes _ _ c.head.ensures c.put.ensures
