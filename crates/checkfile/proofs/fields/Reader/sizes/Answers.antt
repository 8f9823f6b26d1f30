use Rattle.std.proofs.Common.{◌≡◌, ℕ, ◌+◌, true, false, List, Option, Some, None, MatchOption, MatchResult, refl, sym, ap, ◌∙◌, ap₂, arith}
use Rattle.std.specs.Option.{ok_or}
use Rattle.refusals.specs.declared.Refusal.{Refusal}
use Rattle.refusals.specs.declared.Refusal.TheVariants.{Size}
use Rattle.checkfile.specs.declared.sizes.Sizes.{Sizes}
use Rattle.checkfile.specs.Tests.{size_tests, sizes_fit, byte}
use Rattle.checkfile.proofs.Stepping.{stops_first, stops_then, follows, content, tested}
use Rattle.checkfile.proofs.fields.Reader.sizes.Goals as goal

pub returns-in_err-q : goal.returns-in_err-q
returns-in_err-q c = stops_first _ _ c.in_err-q.ensures c.from_residual.ensures.1

pub returns-in_err-field : goal.returns-in_err-field
returns-in_err-field c =
    let first = c.in_ok-q.ensures in
    stops_then (λ file at. size_tests file at c.in_ok-q.q) _ first first.judged.1.3 (ap (size_tests c.args.self.now.file.now (c.args.self.now.offset + 4)) first.judged.1.0)
    (stops_first _ _ c.in_err-field.ensures refl) c.from_residual-in_err-field.ensures.1

-- what two fields tell, from the second on
abbrev SecondAt : ℕ → List ℕ → ℕ → Sizes → ℕ → Type 0
SecondAt q file at s next = (s.q ≡ q) × (s.places.n ≡ byte file (at + 3)) × (s.r ≡ byte file (at + 4)) × (next ≡ at + 5)

-- the sizes, where they fit
made : (q n r n' r' at next : ℕ) (o : Option Sizes) (e : Refusal) → n ≡ n' → r ≡ r' → next ≡ at + 5
    → MatchOption o (sizes_fit q n r ≡ false) (λ s. (sizes_fit q n r ≡ true) × (s.q ≡ q) × (s.places.n ≡ n) × (s.r ≡ r))
    → MatchResult (ok_or o e) (λ s. (sizes_fit q n' r' ≡ true) × ((s.q ≡ q) × (s.places.n ≡ n') × (s.r ≡ r') × (next ≡ at + 5))) (λ y. (sizes_fit q n' r' ≡ false) × (y ≡ e))
made q n r n' r' at next None e f g m h = (ap₂ (sizes_fit q) (sym f) (sym g) ∙ h, refl)
made q n r n' r' at next (Some s) e f g m h = (ap₂ (sizes_fit q) (sym f) (sym g) ∙ h.0, (h.1, h.2 ∙ f, h.3 ∙ g, m))

pub returns : goal.returns
returns c =
    let first = c.in_ok-q.ensures in
    let q = c.in_ok-q.q in
    let field = c.in_ok-field.ensures in
    let n = content 2 field 0 (omega arith) in
    let r = content 2 field 1 (omega arith) in
    let moves : c.field.new.self.offset ≡ c.count.new.self.offset + 5 = omega (arith, field.judged.1.moves_on) in
    let second = tested 2 field {P = SecondAt q} (λ file at. sizes_fit q (byte file (at + 3)) (byte file (at + 4))) Size c.ok_or.result
    (rw c.ok_or.ensures.value (made q _ _ _ _ c.count.new.self.offset _ c.new.result (Size c.in_ok-field.field.offset) n r moves c.new.ensures))
    in
    follows (λ file at. size_tests file at q) _ first first.judged.1.3 (ap (size_tests c.args.self.now.file.now (c.args.self.now.offset + 4)) first.judged.1.0) second
    (λ s h. record { count = h.0 ∙ first.judged.1.0; places = h.1; rows = h.2; moves_on = h.3 })
