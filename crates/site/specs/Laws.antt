-- The symbols as they are count nothing at 0, and at most their ordinary sum where a place is filled.
use Rattle.std.proofs.Common.{sym}
use Rattle.std.specs.Prelude.{ℕ, ◌≤◌, false, refl}
use Rattle.std.proofs.lemmas.Bool.{true≢false}
use Rattle.algebra.specs.Rankings.{Ranks, by_measure}
use Rattle.algebra.proofs.Rankings.{by_measure_ranks}

pub symbol_sum_ranks : (n : ℕ) → 1 ≤ n → n ≤ 24 → Ranks (by_measure n false (λ _ symbol. symbol))
symbol_sum_ranks n least most =
    by_measure_ranks n false (λ _ symbol. symbol) least most (record { nothing = λ _ _. refl; at_most = λ _ _ _ _ _ h. h }) (λ h. absurd (true≢false (sym h)))
