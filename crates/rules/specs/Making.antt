-- Which refusal a rule is made with, if any.
use Rattle.std.specs.Prelude.{◌≡◌, ℕ, suc, cond, ◌&&◌, List, length, option_map, position, Some, None, Ok, Err, Option, Result, ◌==◌, nat_le, nat_lt}
use Rattle.std.specs.List.{list_all}
use Rattle.refusals.specs.declared.Refusal.{Refusal}
use Rattle.refusals.specs.declared.Refusal.TheVariants.{RuleShape, CostInList}

-- a value of which P holds where there is no refusal, else that refusal
abbrev pub Made : {T : Type 0} → Option Refusal → (T → Type 0) → Result T Refusal → Type 0
Made refusal P (Ok x) = (refusal ≡ None) × P x
Made refusal P (Err e) = refusal ≡ Some e

-- a length from 1 to 24
abbrev pub size_refusal : ℕ → Option Refusal
size_refusal n = cond (nat_le 1 n && nat_le n 24) None (Some RuleShape)

-- a cost above 1,000, by its place from 1
abbrev pub dear_refusal : List ℕ → Option Refusal
dear_refusal costs = option_map (λ i. CostInList (suc i)) (position (nat_lt 1000) costs)

-- a rule by cost: first the length and the list's, then the costs
abbrev pub cost_refusal : ℕ → List ℕ → Option Refusal
cost_refusal n costs = cond ((nat_le 1 n && nat_le n 24) && length costs == n) (dear_refusal costs) (Some RuleShape)

-- an erased layer: the list's length, and a byte above 1
abbrev pub erased_refusal : ℕ → List ℕ → Option Refusal
erased_refusal n bytes = cond (length bytes == n && list_all (λ byte. nat_le byte 1) bytes) None (Some RuleShape)
