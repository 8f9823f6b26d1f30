use Rattle.std.proofs.Common.{◌≡◌, ℕ, ◌*◌, List, refl, ◌∙◌, ap₂, arith}
use Rattle.checkfile.specs.Tests.{check_tests}
use Rattle.checkfile.specs.Steps.{TableAt}
use Rattle.checkfile.proofs.Stepping.{stops_first, stops_then, follows, symbol_out, symbols_below, symbols_in}
use Rattle.checkfile.proofs.fields.Reader.table.Goals as goal

pub returns-in_err-sizes : goal.returns-in_err-sizes
returns-in_err-sizes c = stops_first _ _ c.in_err-sizes.ensures c.from_residual.ensures.1

-- the tests of the symbols, by the sizes that were read
same : (file : List ℕ) (at q n r size q' n' r' : ℕ) → size ≡ n * r → q ≡ q' → n ≡ n' → r ≡ r' → check_tests file at q size ≡ check_tests file at q' (n' * r')
same file at q n r size q' n' r' h e f g = ap₂ (check_tests file at) e (h ∙ ap₂ (λ a b. a * b) f g)

pub returns-in_err-field : goal.returns-in_err-field
returns-in_err-field c =
    let s = c.in_ok-sizes.ensures in
    let z = c.in_ok-sizes.sizes in
    stops_then (λ file at. check_tests file at z.q c.table.result) _ s s.judged.1.moves_on
    (same c.args.self.now.file.now _ _ _ _ _ _ _ _ c.table.ensures s.judged.1.count s.judged.1.places s.judged.1.rows)
    (stops_first _ _ c.in_err-field.ensures refl) c.from_residual-in_err-field.ensures.1

pub invariant_of-result : goal.invariant_of-result
invariant_of-result c =
    let below = symbols_below c.in_ok-sizes.sizes.q c.in_ok-field.ensures c.in-None.ensures in
    record { long = c.in_ok-field.ensures.judged.1.long ∙ c.table.ensures; below = λ k h. below k (omega (arith, c.table.ensures)) }

pub returns-in-Some : goal.returns-in-Some
returns-in-Some c =
    let s = c.in_ok-sizes.ensures in
    let z = c.in_ok-sizes.sizes in
    stops_then (λ file at. check_tests file at z.q c.table.result) _ s s.judged.1.moves_on
    (same c.args.self.now.file.now _ _ _ _ _ _ _ _ c.table.ensures s.judged.1.count s.judged.1.places s.judged.1.rows)
    (symbol_out z.q c.in_ok-field.ensures c.in-Some.k c.in-Some.ensures) refl

pub returns-in-None : goal.returns-in-None
returns-in-None c =
    let s = c.in_ok-sizes.ensures in
    let f = c.in_ok-field.ensures.judged.1 in
    let z = c.in_ok-sizes.sizes in
    let file = c.args.self.now.file.now in
    let at = c.args.self.now.offset in
    follows (λ file at. check_tests file at z.q c.table.result) _ s s.judged.1.moves_on
    (same file _ _ _ _ _ _ _ _ c.table.ensures s.judged.1.count s.judged.1.places s.judged.1.rows)
    (symbols_in z.q c.in_ok-field.ensures {P = λ _ _ table next. TableAt file at table next} _ c.in-None.ensures
    record {
      sizes = record { count = s.judged.1.count; places = s.judged.1.places; rows = s.judged.1.rows; moves_on = refl };
      part = cc (f.part, s.same_file, s.judged.1.moves_on, c.table.ensures);
      moves_on = cc (f.moves_on, s.judged.1.moves_on, c.table.ensures);
    })
    (λ table h. h)
