use Rattle.std.proofs.Common.{◌≡◌, ℕ, ◌+◌, ◌*◌, ◌^◌, ◌<◌, ◌≤◌, sym, ap, ◌∙◌, ap₂, pow-suc, add-one, arith}
use native.Mathlib.Nat.{pow-zero}
use Rattle.algebra.specs.Checks.{check_value}
use Rattle.algebra.specs.Digits.{pack}
use Rattle.algebra.proofs.Checks.{power_fits, value_symbol}
use Rattle.algebra.proofs.Digits.{pack_more, pack_none, pack_below}
use Rattle.checkfile.specs.Contents.{checks_of}
use Rattle.checkfile.specs.declared.code.Code.{Code}
use Rattle.cosets.proofs.checks.Checks.number.Given as given
use Rattle.cosets.proofs.checks.Checks.number.Goals as goal
use Rattle.cosets.proofs.checks.Checks.number.Goals.{After-from, After-from-power}

rows : (code : Code) → code.sizes.r ≤ 8
rows code = code.sizes.rows

-- one digit more, and the power of the next
packed_next : (q : ℕ) (f : ℕ → ℕ) (k number power digit : ℕ) → number ≡ pack q k f → power ≡ q ^ k → digit ≡ f k → number + digit * power ≡ pack q (k + 1) f
packed_next q f k number power digit e p d = let here : digit * power ≡ f k * q ^ k = ap₂ (λ a b. a * b) d p in omega (arith, pack_more q k f)

power_next : (q k power base : ℕ) → power ≡ q ^ k → base ≡ q → power * base ≡ q ^ (k + 1)
power_next q k power base p b = ap₂ (λ a c. a * c) p b ∙ sym (pow-suc q k) ∙ ap (λ j. q ^ j) (sym (add-one k))

fits : (q : ℕ) (f : ℕ → ℕ) (k : ℕ) → q ≤ 4 → k ≤ 8 → ((j : ℕ) → j < k → f j < q) → pack q k f < 65536
fits q f k h l each = omega (arith, pack_below q k f each, power_fits q k h l)

-- with one value more
next : (g : given.Over) (c : After-from g) → c.loop-j.number + c.from.result * c.loop-j.power ≡ pack g.A.Alphabet.symbols.q (c.loop-j.j + 1) (check_value g.A.Alphabet.symbols (checks_of c.args.self.now.code.now) c.args.mark.number)
next g c =
    packed_next g.A.Alphabet.symbols.q (check_value g.A.Alphabet.symbols (checks_of c.args.self.now.code.now) c.args.mark.number) c.loop-j.j c.loop-j.number c.loop-j.power c.from.result
    c.loop-j.invariant.packed c.loop-j.invariant.base (c.from.ensures ∙ c.value.ensures)

bound : (g : given.Over) (c : After-from g) → c.loop-j.number + c.from.result * c.loop-j.power < 65536
bound g c =
    let S = g.A.Alphabet.symbols in
    let lawful = g.met.A.Alphabet.lawful in
    let C = checks_of c.args.self.now.code.now in
    omega (
      arith,
      next g c,
      fits S.q (check_value S C c.args.mark.number) (c.loop-j.j + 1) lawful.most (omega (arith, rows c.args.self.now.code.now)) (λ j _. value_symbol S lawful C c.args.mark.number j),
    )

stepped : (g : given.Over) (c : After-from-power g) → c.loop-j.power * c.from-power.result ≡ g.A.Alphabet.symbols.q ^ (c.loop-j.j + 1)
stepped g c =
    power_next g.A.Alphabet.symbols.q c.loop-j.j c.loop-j.power c.from-power.result c.loop-j.invariant.base
    (c.from-power.ensures ∙ c.Q.ensures ∙ g.met.A.Alphabet.counted)

pub loop-j-init : goal.loop-j-init
loop-j-init g c = record { packed = sym (pack_none g.A.Alphabet.symbols.q _); base = sym (pow-zero g.A.Alphabet.symbols.q) }

pub overflow_mul-number : goal.overflow_mul-number
overflow_mul-number g c = omega (arith, bound g c)

pub overflow_add-number : goal.overflow_add-number
overflow_add-number g c = omega (arith, bound g (goal.at.overflow_add-number g c).After-from)

pub overflow_mul-power : goal.overflow_mul-power
overflow_mul-power g c =
    omega (arith, stepped g c, power_fits g.A.Alphabet.symbols.q (c.loop-j.j + 1) g.met.A.Alphabet.lawful.most (omega (arith, rows c.args.self.now.code.now)))

pub loop-j-preserved : goal.loop-j-preserved
loop-j-preserved g c = record { packed = next g (goal.at.loop-j-preserved g c).After-from; base = stepped g c }
