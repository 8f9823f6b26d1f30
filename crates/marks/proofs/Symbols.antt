-- Symbols packed one after the other.
use Rattle.std.proofs.Common.{◌≡◌, ℕ, ◌+◌, ◌*◌, ◌%◌, ◌^◌, ◌<◌, ◌≤◌, cond, eqb, ◌⊎◌, refl, sym, subst, ap, ◌∙◌, inl, inr, arith}
use Rattle.std.proofs.lemmas.Bool.{cond-true, cond-false, eq-eqb, ne_eqb, cases_lt}
use Rattle.algebra.specs.Digits.{pack}
use Rattle.algebra.proofs.Digits.{pack_none, pack_more, pack_same, pack_fits}
use Rattle.marks.specs.Symbols.{SymbolsOf}

pub no_symbols : (answered : ℕ → ℕ → Type 0) → SymbolsOf answered 0 0
no_symbols answered = record { symbol = λ i. 0; is_answered = λ i h. absurd (omega (arith, h)); packed = sym (pack_none 4 _) }

module _ (answered : ℕ → ℕ → Type 0) (n number s : ℕ) (before : SymbolsOf answered n number) (given : answered n s) where
  abbrev with_next : ℕ → ℕ
  with_next i = cond (eqb i n) s (before.symbol i)

  at_next : with_next n ≡ s
  at_next = cond-true (eqb n n) s (before.symbol n) (eq-eqb n n refl)

  at_earlier : (i : ℕ) → i < n → with_next i ≡ before.symbol i
  at_earlier i h = cond-false (eqb i n) s (before.symbol i) (ne_eqb i n (omega arith))

  each : (i : ℕ) → i < n + 1 → (i < n) ⊎ (n ≤ i) → answered i (with_next i)
  each i h (inl k) = subst (λ x. answered i x) (sym (at_earlier i k)) (before.is_answered i k)
  each i h (inr k) =
      let same : i ≡ n = omega arith in
      subst (λ j. answered j (with_next j)) (sym same) (subst (λ x. answered n x) (sym at_next) given)

  pub one_more : SymbolsOf answered (n + 1) (number + s % 4 * 4 ^ n)
  one_more = record {
    symbol = with_next;
    is_answered = λ i h. each i h (cases_lt i n);
    packed =
        let earlier : number ≡ pack 4 n (λ i. with_next i % 4) =
        before.packed ∙ pack_same 4 n _ _ (λ i h. ap (λ x. x % 4) (sym (at_earlier i h))) in
        omega (arith, pack_more 4 n (λ i. with_next i % 4), ap (λ x. x % 4 * 4 ^ n) at_next);
  }

pub symbols_fit : (answered : ℕ → ℕ → Type 0) (n number : ℕ) → n ≤ 32 → SymbolsOf answered n number → number < 2 ^ 64
symbols_fit answered n number h symbols = omega (arith, symbols.packed, pack_fits n (λ i. symbols.symbol i % 4) h (λ i _. omega arith))

-- where each symbol is known
pub same_symbols : (answered : ℕ → ℕ → Type 0) (n number : ℕ) (f : ℕ → ℕ) → SymbolsOf answered n number
    → ((i : ℕ) → i < n → f i < 4) → ((i s : ℕ) → i < n → answered i s → s ≡ f i) → number ≡ pack 4 n f
same_symbols answered n number f symbols small known =
    symbols.packed ∙ pack_same 4 n _ f (λ i h. omega (arith, known i (symbols.symbol i) h (symbols.is_answered i h), small i h))
