use Rattle.std.proofs.Common.{eqb, sym, ap, ◌∙◌}
use Rattle.std.proofs.lemmas.Bool.{eqb-true, eq-eqb}
use Rattle.algebra.proofs.Checks.{values_of_word, word_of_values}
use Rattle.checkfile.specs.Contents.{checks_of}
use Rattle.cosets.proofs.checks.Checks.is_code_word.Goals as goal

pub returns : goal.returns
returns g c =
    let S = g.A.Alphabet.symbols in
    let lawful = g.met.A.Alphabet.lawful in
    let C = checks_of c.args.self.now.code.now in
    let y = c.args.mark.number in
    let number = c.number.ensures in
    record {
      number = ap (λ k. eqb k 0) number;
      lawful = λ h. values_of_word S lawful C y (sym number ∙ eqb-true c.number.result 0 h);
      only = λ h. eq-eqb c.number.result 0 (number ∙ word_of_values S lawful C y h);
    }
