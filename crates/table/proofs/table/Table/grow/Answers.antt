use Rattle.std.proofs.Common.{refl}
use Rattle.table.proofs.Tables.{same_table}
use Rattle.table.proofs.table.Table.grow.Goals as goal

-- a refused grow leaves the table as it is
pub returns-in_err-subject-clause-refused : goal.returns-in_err-subject-clause-refused
returns-in_err-subject-clause-refused g c = λ _. (same_table c.args.self.now _, refl)

pub returns-then-amount-gt-MOST-clause-refused : goal.returns-then-amount-gt-MOST-clause-refused
returns-then-amount-gt-MOST-clause-refused g c = λ _. (same_table c.args.self.now _, refl)

pub returns-then-scratch-scratch_size-clause-refused : goal.returns-then-scratch-scratch_size-clause-refused
returns-then-scratch-scratch_size-clause-refused g c = λ _. (same_table c.args.self.now _, refl)
