use Rattle.std.proofs.Common.{◌≡◌, ℕ, ◌-◌, ◌*◌, ◌≤◌, false, Some, sym, ◌∙◌, ap, subst, mul-le-mul_left, mul-one, arith}
use Rattle.std.proofs.lemmas.Bool.Decides.{nat_tests}
use Rattle.refusals.specs.declared.Refusal.{Refusal}
use Rattle.rules.specs.Making.{size_refusal}
use Rattle.checkfile.specs.Tests.{Limits, sizes_fit}
use Rattle.checkfile.proofs.FirstRefusal.{sizes_within}
use Rattle.checkfile.proofs.Limits.{most_rows, most_checks}
use Rattle.checkfile.proofs.sizes.Sizes.new.Goals as goal

-- places that no rule may have pass the limits
unfit : (q n r : ℕ) (e : Refusal) → 2 ≤ q → size_refusal n ≡ Some e → sizes_fit q n r ≡ false
unfit q n r e least h =
    let factor : 1 ≤ q - 1 = omega arith in
    let more : n ≤ n * (q - 1) = omega (arith, mul-le-mul_left n factor, mul-one n) in
    grind (arith, nat_tests)

pub returns-in_default : goal.returns-in_default
returns-in_default c = unfit c.args.q c.args.n c.args.r _ c.requires.0 (ap size_refusal (sym c.from.ensures) ∙ c.in_default.ensures)

pub invariant_of-result : goal.invariant_of-result
invariant_of-result c =
    let fit = sizes_within c.args.q c.args.n c.args.r (sym c.if-sizes_fit.ensures) in
    let limits : Limits c.args.q c.args.n c.args.r = record {
      least_q = c.requires.0;
      most_q = c.requires.1;
      least_n = fit.0.0;
      most_n = fit.1.0;
      least_r = fit.0.1;
      most_r = fit.1.1;
    } in
    let n : c.args.n ≡ c.in-Ok.places.n = sym (c.in-Ok.ensures.1 ∙ c.from.ensures) in
    record {
      limits = subst (λ n. Limits c.args.q n c.args.r) n limits;
      rows = most_rows c.args.q c.args.n c.args.r limits;
      room = subst (λ n. n * c.args.r ≤ 192) n (most_checks c.args.q c.args.n c.args.r limits);
    }
