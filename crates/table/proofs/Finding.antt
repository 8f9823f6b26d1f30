-- A mark that was read is a mark of the table.
use Rattle.std.proofs.Common.{◌≡◌, ℕ, suc, ◌-◌, ◌^◌, ◌<◌, ◌≤◌, Bool, true, false, cond, ◌&&◌, eqb, leb, ◌⊎◌, List, [], ◌∷◌, length, get_or, IfOk, Some, None, Ok, Err, Option, Result, sym, refl, ap, ◌∙◌, subst, inl, inr, arith}
use Rattle.std.proofs.lemmas.Bool.{and_parts, cases_lt, eqb-true}
use Rattle.algebra.specs.Digits.{digit}
use Rattle.algebra.specs.Marks.{number_of, Mark as MarkIn}
use Rattle.algebra.specs.Symbols.{Symbols, Lawful}
use Rattle.algebra.proofs.Digits.{digit_past, pack_below, pack_digit}
use Rattle.marks.proofs.Reading.{none_outside}
use Rattle.marks.specs.Reading.{first_outside, unless_outside, reading}
use Rattle.marks.specs.declared.mark.Mark.{Mark}
use Rattle.refusals.specs.declared.Refusal.{Refusal}
use Rattle.leaders.specs.Leaders.{index_of, leaders, coset_count, leader_of, leader_number}
use Rattle.leaders.specs.Schemes.{Scheme}
use Rattle.table.specs.Records.{Settled}
use Rattle.table.specs.declared.records.Records.{Records}

-- a number that stands before the end of a list is there
at_index : (u : ℕ) (us : List ℕ) → index_of u us < length us → get_or us (index_of u us) 0 ≡ u
at_index u [] h = absurd (omega arith)
at_index u (v ∷ us) h = go (eqb v u) refl h (at_index u us)
  where
    go : (b : Bool) → eqb v u ≡ b → cond b 0 (suc (index_of u us)) < suc (length us) → (index_of u us < length us → get_or us (index_of u us) 0 ≡ u)
        → get_or (v ∷ us) (cond b 0 (suc (index_of u us))) 0 ≡ u
    go true e h rest = eqb-true v u e
    go false e h rest = rest (omega arith)

-- both tests are passed
passed : (long : Bool) (outside : Option ℕ) (bytes : List ℕ) (refusal : Refusal) (mark : Mark) → Ok mark ≡ cond long (unless_outside bytes outside) (Err refusal)
    → (long ≡ true) × (outside ≡ None) × (mark ≡ record { number = number_of bytes })
passed true None bytes refusal mark h = (refl, refl, cc)
passed true (Some place) bytes refusal mark h = let z : ◌≡◌ {A = ℕ} 0 1 = cc in absurd (omega arith)
passed false outside bytes refusal mark h = let z : ◌≡◌ {A = ℕ} 0 1 = cc in absurd (omega arith)

module _ (S : Symbols) (lawful : Lawful S) (bytes : List ℕ) (all : (i : ℕ) → i < length bytes → get_or bytes i 0 < S.q) where
  small : (i : ℕ) → i < length bytes → get_or bytes i 0 < 4
  small i h = omega (arith, all i h, lawful.most)

  spelt_short : number_of bytes < 4 ^ length bytes
  spelt_short = pack_below 4 (length bytes) (λ i. get_or bytes i 0) small

  spelt_symbol : (i : ℕ) → (i < length bytes) ⊎ (length bytes ≤ i) → digit (number_of bytes) i < S.q
  spelt_symbol i (inl h) = subst (λ x. x < S.q) (sym (pack_digit (length bytes) (λ j. get_or bytes j 0) small i h)) (all i h)
  spelt_symbol i (inr h) = subst (λ x. x < S.q) (sym (digit_past (length bytes) (number_of bytes) i spelt_short h)) (omega (arith, lawful.least))

  spelt_mark : MarkIn S (length bytes) (number_of bytes)
  spelt_mark = record { short = spelt_short; symbols = λ i. spelt_symbol i (cases_lt i (length bytes)) }

pub read_sound : (S : Symbols) → Lawful S → (n : ℕ) (bytes : List ℕ) (mark : Mark) → Ok mark ≡ reading S n bytes → (mark.number ≡ number_of bytes) × MarkIn S n mark.number
read_sound S lawful n bytes mark e =
    let tests = passed (eqb (length bytes) n && leb n 32) (first_outside S.q bytes) bytes _ mark e in
    let long : length bytes ≡ n = eqb-true (length bytes) n (and_parts (eqb (length bytes) n) (leb n 32) tests.0).0 in
    let is : mark.number ≡ number_of bytes = ap (λ m. m.number) tests.2 in
    (is, subst (MarkIn S n) (sym is) (subst (λ m. MarkIn S m (number_of bytes)) long (spelt_mark S lawful bytes (none_outside S.q bytes tests.1))))

pub sound_made : (S : Symbols) → Lawful S → (n : ℕ) (bytes : List ℕ) (r : Result Mark Refusal) → r ≡ reading S n bytes → IfOk r (λ mark. (mark.number ≡ number_of bytes) × MarkIn S n mark.number)
sound_made S lawful n bytes (Ok mark) e = read_sound S lawful n bytes mark e
sound_made S lawful n bytes (Err refusal) e = tt

-- a number of a leader is at least 1
pub number_some : (T : Scheme) (u : ℕ) → 1 ≤ leader_number T u
unfolding leader_number
number_some T u = omega arith

-- the record of the leader that a mark's number names
pub leader_recorded : (T : Scheme) (records : Records) → Settled T records → (u number : ℕ) → number ≡ leader_number T u → number ≤ records.settled → get_or records.leaders (number - 1) 0 ≡ leader_of T u
unfolding leader_number coset_count
leader_recorded T records settled u number e h =
    let i : number - 1 ≡ index_of (leader_of T u) (leaders T) = omega arith in
    settled.leader (number - 1) (omega (arith, number_some T u)) ∙ ap (λ j. get_or (leaders T) j 0) i ∙ at_index (leader_of T u) (leaders T) (omega (arith, settled.within))
