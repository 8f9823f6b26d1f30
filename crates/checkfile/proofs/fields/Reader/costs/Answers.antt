use Rattle.std.proofs.Common.{◌*◌, Ok, Err, refl, subst}
use Rattle.checkfile.specs.Steps.{Reads, FieldAt}
use Rattle.checkfile.specs.Tests.{field_tests, price_tests}
use Rattle.checkfile.proofs.Stepping.{stops_first, cost_out, costs_affordable, costs_in}
use Rattle.checkfile.proofs.fields.Reader.costs.Goals as goal
use Rattle.checkfile.proofs.fields.Reader.costs.Goals.{In_err-field, In_ok-field}

-- what is known of the field, by the places' number
refused : (c : In_err-field) → Reads c.args.self.now c.field.new.self (λ file at. field_tests file at 5 (2 * c.args.places.n)) (FieldAt (2 * c.args.places.n)) (Err c.in_err-field.field-0.0)
refused c = subst (λ n. Reads c.args.self.now c.field.new.self (λ file at. field_tests file at 5 (2 * n)) (FieldAt (2 * n)) (Err c.in_err-field.field-0.0)) c.get.ensures.value c.in_err-field.ensures

found : (c : In_ok-field) → Reads c.args.self.now c.field.new.self (λ file at. field_tests file at 5 (2 * c.args.places.n)) (FieldAt (2 * c.args.places.n)) (Ok c.in_ok-field.field)
found c = subst (λ n. Reads c.args.self.now c.field.new.self (λ file at. field_tests file at 5 (2 * n)) (FieldAt (2 * n)) (Ok c.in_ok-field.field)) c.get.ensures.value c.in_ok-field.ensures

pub returns-in_err-field : goal.returns-in_err-field
returns-in_err-field c =
    stops_first (λ file at. field_tests file at 5 (2 * c.args.places.n)) (λ file at. price_tests file at c.args.places.n) (refused (goal.at.returns-in_err-field c).In_err-field) c.from_residual.ensures.1

pub returns-in-Some : goal.returns-in-Some
returns-in-Some c =
    cost_out (found (goal.at.returns-in-Some c).In_ok-field) c.args.places.size.1 c.numbers.result c.numbers.ensures.len c.numbers.ensures.items c.in-Some.k c.in-Some.ensures

pub invariant_of-result : goal.invariant_of-result
invariant_of-result c =
    let field = found (goal.at.invariant_of-result c).In_ok-field in
    record {
      long = field.judged.1.long;
      affordable = costs_affordable field c.args.places.size.1 c.numbers.result c.numbers.ensures.len c.numbers.ensures.items c.in-None.ensures;
    }

pub returns-in-None : goal.returns-in-None
returns-in-None c =
    let field = found (goal.at.returns-in-None c).In_ok-field in
    costs_in field c.args.places.size.1 c.numbers.result c.numbers.ensures.len c.numbers.ensures.items _ c.in-None.ensures
    record { of_all = refl; part = field.judged.1.part; moves_on = field.judged.1.moves_on }
