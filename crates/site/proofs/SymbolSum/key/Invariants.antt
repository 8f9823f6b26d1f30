use Rattle.std.proofs.Common.{◌≡◌, ◌*◌, ◌≤◌}
use Rattle.algebra.specs.Rankings.{measure}
use Rattle.site.proofs.SymbolSum.key.Given as goal

abbrev pub invariant-loop-place : goal.invariant-loop-place
invariant-loop-place l = (l.sum ≡ measure l.place (λ _ symbol. symbol) l.mark.number) × (l.sum ≤ 3 * l.place)
