use Rattle.std.proofs.Common.{◌≤◌, length, sym, ◌∙◌, arith}
use Rattle.checkfile.specs.Contents.{content_of}
use Rattle.checkfile.specs.Layout.{layout}
use Rattle.checkfile.proofs.Puts.{layout_long}
use Rattle.checkfile.proofs.Written.{written_buffer, written_back}
use Rattle.checkfile.proofs.writing.write.Goals as goal

pub returns-clause-buffer : goal.returns-clause-buffer
returns-clause-buffer c =
    let code = c.args.code.now in
    let rule = c.args.rule.now in
    let room : length (layout (content_of code rule)) ≤ length c.args.buffer.now = omega (arith, layout_long code rule) in
    written_buffer code rule (sym c.n.ensures ∙ c.if-n.false ∙ c.n-2.ensures) c.args.buffer.now c.put_file.new.buffer c.put_file.result room c.put_file.ensures

pub returns-clause-back : goal.returns-clause-back
returns-clause-back c =
    let code = c.args.code.now in
    let rule = c.args.rule.now in
    let room : length (layout (content_of code rule)) ≤ length c.args.buffer.now = omega (arith, layout_long code rule) in
    written_back code rule (sym c.n.ensures ∙ c.if-n.false ∙ c.n-2.ensures) c.args.buffer.now c.put_file.new.buffer c.put_file.result room c.put_file.ensures
