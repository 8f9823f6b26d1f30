use Rattle.std.proofs.Common.{◌≡◌, ℕ, ◌+◌, true, false, Result, Ok, Err, IsErrAnd, MatchResult, sym, ap, ◌∙◌, arith, rules}
use Rattle.std.proofs.lemmas.Result.{err_from_is_err_and, MatchResult-weaker}
use Rattle.refusals.specs.declared.Refusal.{Refusal}
use Rattle.refusals.specs.declared.Refusal.TheVariants.{RuleByte}
use Rattle.checkfile.specs.declared.kind.Kind.{Kind}
use Rattle.checkfile.specs.declared.kind.UnknownKind.{UnknownKind}
use Rattle.checkfile.specs.Kinds.{Decodes}
use Rattle.checkfile.specs.Layout.{is_kind, kind_of}
use Rattle.checkfile.proofs.Stepping.{stops_first, content, tested}
use Rattle.checkfile.proofs.fields.Reader.kind.Goals as goal

pub returns-in_err-field : goal.returns-in_err-field
returns-in_err-field c = stops_first _ _ c.in_err-field.ensures c.from_residual.ensures.1

-- the kind of a byte, or the refusal of a byte of none
named : (b b' at next : ℕ) (d : Result Kind UnknownKind) (r : Result Kind Refusal) (e : Refusal) → b ≡ b' → next ≡ at + 4 → Decodes b d → MatchResult d (λ kind. r ≡ Ok kind) (λ _. IsErrAnd r (λ y. y ≡ e))
    → MatchResult r (λ kind. (is_kind b' ≡ true) × ((kind ≡ kind_of b') × (next ≡ at + 4))) (λ y. (is_kind b' ≡ false) × (y ≡ e))
named b b' at next (Ok kind) r e f m h k = rw k (ap is_kind (sym f) ∙ h.0, (h.1 ∙ ap kind_of f, m))
named b b' at next (Err x) r e f m h k = let p = err_from_is_err_and r k in rw p.1 (ap is_kind (sym f) ∙ h.0, p.2)

-- of an error, what follows from what is known of it
err_weaker : {T E : Type 0} (r : Result T E) (P Q : E → Type 0) → ((e : E) → P e → Q e) → IsErrAnd r P → IsErrAnd r Q
err_weaker (Ok x) P Q f h = h
err_weaker (Err e) P Q f h = f e h

pub returns : goal.returns
returns c =
    let field = c.in_ok-field.ensures in
    let b = content 4 field 0 (omega arith) in
    let moves : c.field.new.self.offset ≡ c.args.self.now.offset + 4 = omega (arith, field.judged.1.moves_on) in
    let refused = MatchResult-weaker c.try_from.result {P' = λ kind. c.map_err.result ≡ Ok kind} {Q' = λ _. IsErrAnd c.map_err.result (λ y. y ≡ RuleByte c.in_ok-field.field.offset)}
    c.map_err.ensures.cases (λ x h. h) (λ e. err_weaker c.map_err.result _ _ (λ y h. search rules))
    in
    tested 4 field _ RuleByte _ (named _ _ c.args.self.now.offset _ c.try_from.result c.map_err.result (RuleByte c.in_ok-field.field.offset) b moves c.try_from.ensures refused)
