-- A mark by its symbols.
use Rattle.std.specs.Prelude.{◌≡◌, ℕ, ◌%◌, ◌<◌}
use Rattle.algebra.specs.Digits.{pack}

-- At each of n places the number has the two low bits of a symbol that is answered there, and nothing past them.
pub record SymbolsOf (answered : ℕ → ℕ → Type 0) (n number : ℕ) : Type 0 where
  pub symbol : ℕ → ℕ
  pub is_answered : (i : ℕ) → i < n → answered i (symbol i)
  pub packed : number ≡ pack 4 n (λ i. symbol i % 4)
