-- A mark that is built of its symbols, one answered for each place.
use Rattle.std.proofs.Common.{◌≡◌, ℕ, ◌<◌, ◌≤◌, min, ap, ◌∙◌, arith}
use Rattle.algebra.specs.Digits.{pack}
use Rattle.marks.specs.Symbols.{SymbolsOf}
use Rattle.marks.proofs.Symbols.{same_symbols}

pub symbols_are : (answered : ℕ → ℕ → Type 0) (n number : ℕ) (f : ℕ → ℕ) → n ≤ 32 → SymbolsOf answered (min n 32) number
    → ((i : ℕ) → f i < 4) → ((i s : ℕ) → i < n → answered i s → s ≡ f i) → number ≡ pack 4 n f
symbols_are answered n number f fits symbols small known =
    same_symbols answered (min n 32) number f symbols (λ i _. small i) (λ i s h. known i s (omega arith)) ∙ ap (λ m. pack 4 m f) (omega arith)
