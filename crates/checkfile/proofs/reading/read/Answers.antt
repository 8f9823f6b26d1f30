use Rattle.std.proofs.Common.{ap, ◌∙◌, arith}
use Rattle.checkfile.proofs.Readings.{read_accepted, read_refused}
use Rattle.checkfile.proofs.reading.read.Goals as goal

pub returns-in-Ok : goal.returns-in-Ok
returns-in-Ok c =
    let found = c.in-Ok.ensures.1 in
    read_accepted c.args.file.now c.in-Ok.table c.in-Ok.rule found.0 found.1 _ _ c.new.ensures c.new-in-Ok.ensures (λ k. omega (arith, c.type_inv.file k)) c.in-Ok.ensures.0

pub returns-in-Err : goal.returns-in-Err
returns-in-Err c =
    let blank = c.blank_table.ensures in
    let code = c.new-in-Err.ensures in
    read_refused c.args.file.now c.in-Err.refusal _ _ c.in-Err.ensures
    (ap (λ s. s.q) code.0 ∙ blank.0, ap (λ s. s.places.n) code.0 ∙ blank.1, ap (λ s. s.r) code.0 ∙ blank.2, code.1 ∙ blank.3)
    _ c.one.ensures c.new-in-Err-2.ensures
