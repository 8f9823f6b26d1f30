use Rattle.std.proofs.Common.{◌≡◌, ℕ, ◌<◌, min, length, get_or, None, sym, ap, ◌∙◌, arith, rules}
use Rattle.algebra.specs.Digits.{pack}
use Rattle.algebra.specs.Marks.{number_of, bytes_of}
use Rattle.algebra.proofs.Marks.{bytes_back}
use Rattle.marks.specs.Reading.{first_outside}
use Rattle.marks.proofs.Reading.{none_outside}
use Rattle.marks.proofs.Symbols.{same_symbols}
use Rattle.marks.proofs.mark.Mark.read.Given as given
use Rattle.marks.proofs.mark.Mark.read.Goals as goal
use Rattle.marks.proofs.mark.Mark.read.Goals.{After-from_fn}

none : (g : given.Over) (c : After-from_fn g) → first_outside g.A.Alphabet.symbols.q c.args.bytes.now ≡ None
none g c =
    let counted : c.Q.result ≡ g.A.Alphabet.symbols.q = c.Q.ensures ∙ g.met.A.Alphabet.counted in
    ap (λ q. first_outside q c.args.bytes.now) (sym counted) ∙ sym c.first_outside.ensures ∙ c.in_default.is

small : (g : given.Over) (c : After-from_fn g) (i : ℕ) → i < length c.args.bytes.now → get_or c.args.bytes.now i 0 < 4
small g c i h = omega (arith, none_outside g.A.Alphabet.symbols.q c.args.bytes.now (none g c) i h, g.met.A.Alphabet.lawful.most)

spelt : (g : given.Over) (c : After-from_fn g) → c.from_fn.result.number ≡ number_of c.args.bytes.now
spelt g c =
    let bytes = c.args.bytes.now in
    same_symbols _ (min c.args.n 32) c.from_fn.result.number (λ i. get_or bytes i 0) c.from_fn.ensures (λ i h. small g c i (omega arith)) (λ i s h answered. search rules)
    ∙ ap (λ n. pack 4 n (λ i. get_or bytes i 0)) (omega arith)

pub returns : goal.returns
returns g c =
    let bytes = c.args.bytes.now in
    let is = spelt g c in
    let clean = none g c in
    record {
      value = search rules;
      back = ap (bytes_of c.args.n) is ∙ bytes_back c.args.n bytes (omega arith) (λ i h. small g c i (omega arith));
    }
