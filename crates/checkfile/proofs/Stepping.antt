-- Steps of a reader, one after the other.
use Rattle.std.proofs.Common.{◌≡◌, ℕ, ◌+◌, ◌*◌, ◌<◌, ◌≤◌, Bool, true, false, List, [], ◌∷◌, ◌++◌, length, get_or, position, leb, ltb, Some, None, Ok, Err, Result, IsErrAnd, MatchResult, inl, inr, sym, ap, ◌∙◌, subst, subst₂, arith}
use Rattle.std.proofs.lemmas.Bool.{cases_lt, leb-true, leb-false, ltb-true, ltb-false}
use Rattle.std.proofs.lemmas.Bool.Decides.{nat_tests}
use Rattle.std.proofs.lemmas.List.{get_or_past}
use Rattle.std.proofs.lemmas.List.Quantifiers.{position-Some}
use Rattle.std.proofs.lemmas.List.Sums.{fails_before_first}
use Rattle.refusals.specs.declared.Refusal.{Refusal}
use Rattle.refusals.specs.declared.Refusal.TheVariants.{CheckSymbol, CostInFile}
use Rattle.checkfile.specs.declared.fields.Field.{Field}
use Rattle.checkfile.specs.declared.fields.Reader.{Reader}
use Rattle.checkfile.specs.Tests.{Test, test, Judged, first_refusal, field_tests, check_tests, cost_tests, byte, pair}
use Rattle.checkfile.specs.Steps.{Reads, FieldAt}
use Rattle.checkfile.proofs.FirstRefusal.{first_here, first_later, judged_err, value_fails, value_passes, contents_byte, symbol_fails, symbols_pass, cost_fails, costs_pass}

-- what a step tells of a reader that stands at a known place
pub read_at : {T : Type 0} {old new : Reader} {tests : List ℕ → ℕ → List Test} {P : List ℕ → ℕ → T → ℕ → Type 0} {r : Result T Refusal} (file : List ℕ) (at : ℕ)
    → Reads old new tests P r → old.file.now ≡ file → old.offset ≡ at → (new.file.now ≡ file) × Judged (tests file at) (λ x. P file at x new.offset) r
read_at {new = new} {tests = tests} {P = P} {r = r} file at s e f =
    (s.same_file ∙ e, subst₂ (λ a b. Judged (tests a b) (λ x. P a b x new.offset) r) e f s.judged)

-- a step that is passed on as another's
pub passed_on : {S T : Type 0} {old new : Reader} {tests : List ℕ → ℕ → List Test} {P : List ℕ → ℕ → S → ℕ → Type 0} {Q : List ℕ → ℕ → T → ℕ → Type 0} {x : S} {y : T}
    → Reads old new tests P (Ok x) → (P old.file.now old.offset x new.offset → Q old.file.now old.offset y new.offset) → Reads old new tests Q (Ok y)
passed_on s f = record { same_file = s.same_file; judged = (s.judged.0, f s.judged.1) }

pub refused_on : {S T : Type 0} {old new : Reader} {tests : List ℕ → ℕ → List Test} {P : List ℕ → ℕ → S → ℕ → Type 0} {Q : List ℕ → ℕ → T → ℕ → Type 0} {e : Refusal}
    → Reads old new tests P (Err e) → Reads old new tests Q (Err e)
refused_on s = record { same_file = s.same_file; judged = s.judged }

-- a refusal that is answered as it is
pub stops_here : {T : Type 0} {old new : Reader} {tests : List ℕ → ℕ → List Test} {P : List ℕ → ℕ → T → ℕ → Type 0} {e : Refusal} (r : Result T Refusal)
    → IsErrAnd r (λ y. y ≡ e) → Reads old new tests P (Err e) → Reads old new tests P r
stops_here {old = old} {new = new} {tests = tests} {P = P} {e = e} r h s =
    record { same_file = s.same_file; judged = judged_err (tests old.file.now old.offset) (λ x. P old.file.now old.offset x new.offset) r e h s.judged }

-- a reader that stops at the first of its steps
pub stops_first : {S T : Type 0} {old new : Reader} {P : List ℕ → ℕ → S → ℕ → Type 0} {Q : List ℕ → ℕ → T → ℕ → Type 0} {r : Result T Refusal} {e : Refusal} (first then : List ℕ → ℕ → List Test)
    → Reads old new first P (Err e) → IsErrAnd r (λ y. y ≡ e) → Reads old new (λ file at. first file at ++ then file at) Q r
stops_first {old = old} {new = new} {Q = Q} {r = r} {e = e} first then s h = record {
  same_file = s.same_file;
  judged =
      judged_err (first old.file.now old.offset ++ then old.file.now old.offset) (λ x. Q old.file.now old.offset x new.offset) r e h
      (first_here (first old.file.now old.offset) (then old.file.now old.offset) e s.judged);
}

-- tests after others that are passed
judged_later : {T : Type 0} (before after : List Test) (P Q : T → Type 0) (r : Result T Refusal) → first_refusal before ≡ None → ((x : T) → P x → Q x) → Judged after P r → Judged (before ++ after) Q r
judged_later before after P Q (Ok x) h found j = (first_later before after h ∙ j.0, found x j.1)
judged_later before after P Q (Err e) h found j = first_later before after h ∙ j

-- a step after another, from the place where that left the reader
module _ {S T : Type 0} {old mid new : Reader} {P : List ℕ → ℕ → S → ℕ → Type 0} {R : List ℕ → ℕ → T → ℕ → Type 0} {x : S} {first : List ℕ → ℕ → List Test} (second then : List ℕ → ℕ → List Test)
    {to : ℕ} (s : Reads old mid first P (Ok x)) (place : mid.offset ≡ to) (same : second old.file.now to ≡ then old.file.now old.offset) where
  pub follows : {Q : List ℕ → ℕ → T → ℕ → Type 0} {r : Result T Refusal} → Reads mid new second Q r
      → ((y : T) → Q old.file.now to y new.offset → R old.file.now old.offset y new.offset)
      → Reads old new (λ file at. first file at ++ then file at) R r
  follows {Q = Q} {r = r} t found =
      let m = read_at old.file.now to t s.same_file place in
      record {
        same_file = m.0;
        judged =
            judged_later (first old.file.now old.offset) (then old.file.now old.offset) (λ y. Q old.file.now to y new.offset) (λ y. R old.file.now old.offset y new.offset) r
            s.judged.0 found (subst (λ ts. Judged ts (λ y. Q old.file.now to y new.offset) r) same m.1);
      }

  -- and stops
  pub stops_then : {r : Result T Refusal} {e : Refusal} → Reads mid new second R (Err e) → IsErrAnd r (λ y. y ≡ e) → Reads old new (λ file at. first file at ++ then file at) R r
  stops_then {r = r} {e = e} t h =
      let m = read_at old.file.now to t s.same_file place in
      record {
        same_file = m.0;
        judged =
            judged_err (first old.file.now old.offset ++ then old.file.now old.offset) (λ y. R old.file.now old.offset y new.offset) r e h
            (first_later (first old.file.now old.offset) (then old.file.now old.offset) s.judged.0 ∙ ap first_refusal (sym same) ∙ m.1);
      }

-- where no item passes a test, each fails it
position_none : (p : ℕ → Bool) (xs : List ℕ) (k d : ℕ) → position p xs ≡ None → k < length xs → p (get_or xs k d) ≡ false
position_none p xs k d h l = fails_before_first p xs k d (grind (arith, nat_tests))

-- a field, and one more test of its contents
module _ (tag : ℕ) {size : ℕ} {old new : Reader} {field : Field} (s : Reads old new (λ file at. field_tests file at tag size) (FieldAt size) (Ok field)) where
  pub content : (k : ℕ) → k < size → get_or field.contents.now k 0 ≡ byte old.file.now (old.offset + (3 + k))
  content k h =
      let e : old.offset + 3 + k ≡ old.offset + (3 + k) = omega arith in
      contents_byte old.file.now field.contents.now (old.offset + 3) size k s.judged.1.part h ∙ ap (byte old.file.now) e

  module _ {T : Type 0} {P : List ℕ → ℕ → T → ℕ → Type 0} (b : List ℕ → ℕ → Bool) (E : ℕ → Refusal) where
    pub tested : (r : Result T Refusal) → MatchResult r (λ x. (b old.file.now old.offset ≡ true) × P old.file.now old.offset x new.offset) (λ e. (b old.file.now old.offset ≡ false) × (e ≡ E field.offset))
        → Reads old new (λ file at. field_tests file at tag size ++ (test (b file at) (E (at + 3)) ∷ [])) P r
    tested (Ok x) h = record { same_file = s.same_file; judged = (value_passes (field_tests old.file.now old.offset tag size) (b old.file.now old.offset) (E (old.offset + 3)) s.judged.0 h.0, h.1) }
    tested (Err e) h = record {
      same_file = s.same_file;
      judged =
          value_fails (field_tests old.file.now old.offset tag size) (b old.file.now old.offset) (E (old.offset + 3)) s.judged.0 h.0
          ∙ ap (λ k. Some (E k)) (sym s.judged.1.begins) ∙ ap Some (sym h.1);
    }

-- a field of check symbols, of which one is not below q, or all are
module _ (q : ℕ) {size : ℕ} {old new : Reader} {field : Field} (s : Reads old new (λ file at. field_tests file at 3 size) (FieldAt size) (Ok field)) where
  pub symbol_out : {T : Type 0} {P : List ℕ → ℕ → T → ℕ → Type 0} (k : ℕ) → Some k ≡ position (leb q) field.contents.now
      → Reads old new (λ file at. check_tests file at q size) P (Err (CheckSymbol (field.offset + k)))
  symbol_out k h =
      let f = s.judged.1 in
      let p = position-Some (leb q) field.contents.now k 0 (sym h) in
      record {
        same_file = s.same_file;
        judged =
            symbol_fails old.file.now field.contents.now old.offset q size f.part s.judged.0 k (omega (arith, f.long, p.0))
            (λ j l. leb-false q (get_or field.contents.now j 0) (p.2 j l)) (leb-true q (get_or field.contents.now k 0) p.1)
            ∙ ap (λ at. Some (CheckSymbol (at + k))) (sym f.begins);
      }

  pub symbols_below : None ≡ position (leb q) field.contents.now → (k : ℕ) → k < size → get_or field.contents.now k 0 < q
  symbols_below h k l = leb-false q (get_or field.contents.now k 0) (position_none (leb q) field.contents.now k 0 (sym h) (omega (arith, s.judged.1.long)))

  pub symbols_in : {T : Type 0} {P : List ℕ → ℕ → T → ℕ → Type 0} (x : T) → None ≡ position (leb q) field.contents.now → P old.file.now old.offset x new.offset
      → Reads old new (λ file at. check_tests file at q size) P (Ok x)
  symbols_in x h found = record {
    same_file = s.same_file;
    judged = (symbols_pass old.file.now field.contents.now old.offset q size s.judged.1.part s.judged.0 (symbols_below h), found);
  }

-- a field of costs, by the numbers that its bytes make, of which one is above 1,000, or none is
module _ {n : ℕ} {old new : Reader} {field : Field} (s : Reads old new (λ file at. field_tests file at 5 (2 * n)) (FieldAt (2 * n)) (Ok field))
    (few : n ≤ 24) (numbers : List ℕ) (long : length numbers ≡ 24) (items : (k : ℕ) → k < 24 → get_or numbers k 0 ≡ pair field.contents.now (2 * k)) where
  pub cost_out : {T : Type 0} {P : List ℕ → ℕ → T → ℕ → Type 0} (k : ℕ) → Some k ≡ position (ltb 1000) numbers
      → Reads old new (λ file at. cost_tests file at n) P (Err (CostInFile (field.offset + 2 * k)))
  cost_out k h =
      let f = s.judged.1 in
      let p = position-Some (ltb 1000) numbers k 0 (sym h) in
      let dear : 1000 < pair field.contents.now (2 * k) = omega (arith, items k (omega arith), ltb-true 1000 (get_or numbers k 0) p.1) in
      let inside : k < n = elim (cases_lt k n) [
        | inl l ↦ l
        | inr l ↦
            absurd (omega (
              arith,
              dear,
              get_or_past field.contents.now (2 * k) 0 (omega (arith, f.long)),
              get_or_past field.contents.now (2 * k + 1) 0 (omega (arith, f.long)),
            ))
      ] in
      record {
        same_file = s.same_file;
        judged =
            cost_fails old.file.now field.contents.now old.offset n f.part s.judged.0 k inside
            (λ j l. omega (arith, items j (omega arith), ltb-false 1000 (get_or numbers j 0) (p.2 j l))) dear
            ∙ ap (λ at. Some (CostInFile (at + 2 * k))) (sym f.begins);
      }

  pub costs_affordable : None ≡ position (ltb 1000) numbers → (k : ℕ) → k < n → pair field.contents.now (2 * k) ≤ 1000
  costs_affordable h k l = omega (arith, items k (omega arith), ltb-false 1000 (get_or numbers k 0) (position_none (ltb 1000) numbers k 0 (sym h) (omega arith)))

  pub costs_in : {T : Type 0} {P : List ℕ → ℕ → T → ℕ → Type 0} (x : T) → None ≡ position (ltb 1000) numbers → P old.file.now old.offset x new.offset
      → Reads old new (λ file at. cost_tests file at n) P (Ok x)
  costs_in x h found = record {
    same_file = s.same_file;
    judged = (costs_pass old.file.now field.contents.now old.offset n s.judged.1.part s.judged.0 (costs_affordable h), found);
  }
