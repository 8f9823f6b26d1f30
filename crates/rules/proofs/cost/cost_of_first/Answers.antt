use Rattle.std.proofs.Common.{◌≡◌, ℕ, ◌*◌, ◌^◌, ◌<◌, ◌≤◌, ◌⊎◌, List, length, get_or, take, min, sym, ap, ◌∙◌, inl, inr, mul-zero, zero-mul, arith}
use Rattle.std.proofs.lemmas.List.{get_or_past, get_or-take, length-take-le}
use Rattle.std.proofs.lemmas.Bool.{cases_lt}
use Rattle.algebra.specs.Digits.{digit}
use Rattle.algebra.specs.Marks.{nonzero}
use Rattle.algebra.specs.Rankings.{cost_of}
use Rattle.algebra.proofs.Digits.{digit_past, total_extended, total_same}
use Rattle.algebra.proofs.Rankings.{nonzero_zero}
use Rattle.rules.proofs.cost.cost_of_first.Goals as goal

taken : (n m : ℕ) (costs : List ℕ) (u : ℕ) → m ≡ min n (length costs) → u < 4 ^ 32
    → cost_of (min (length (take m costs)) 32) (λ i. get_or (take m costs) i 0) u ≡ cost_of n (λ i. get_or costs i 0) u
taken n m costs u e small =
    total_same (min (length (take m costs)) 32) _ _ (λ i h. ap (λ cost. nonzero (digit u i) * cost) (get_or-take m costs i 0 (omega (arith, long))))
    ∙ sym (total_extended (min (length (take m costs)) 32) n _ (λ i k l. free i k l (cases_lt i (length costs))) (omega (arith, long)))
  where
    long : length (take m costs) ≡ m
    long = length-take-le m costs (omega arith)

    free : (i : ℕ) → min (length (take m costs)) 32 ≤ i → i < n → (i < length costs) ⊎ (length costs ≤ i) → nonzero (digit u i) * get_or costs i 0 ≡ 0
    free i k l (inl h) =
        ap (λ x. x * get_or costs i 0) (nonzero_zero _ (digit_past 32 u i small (omega (arith, long)))) ∙ zero-mul (get_or costs i 0)
    free i k l (inr h) = ap (λ cost. nonzero (digit u i) * cost) (get_or_past costs i 0 h) ∙ mul-zero (nonzero (digit u i))

pub returns : goal.returns
returns c = c.cost_of.ensures ∙ taken c.args.n c.min.result c.args.costs.now c.args.mark.number c.min.ensures (omega arith)
