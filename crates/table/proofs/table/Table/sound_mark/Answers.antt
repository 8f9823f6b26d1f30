use Rattle.std.proofs.Common.{ap, ◌∙◌}
use Rattle.marks.specs.Reading.{reading}
use Rattle.table.proofs.Finding.{sound_made}
use Rattle.table.proofs.table.Table.sound_mark.Goals as goal

pub returns-clause-sound : goal.returns-clause-sound
returns-clause-sound g c =
    let S = g.A.Alphabet.symbols in
    let bytes = c.args.bytes.now in
    sound_made S g.met.A.Alphabet.lawful c.args.self.now.code.sizes.places.n bytes c.read.result (c.read.ensures.value ∙ ap (λ n. reading S n bytes) c.n.ensures)
