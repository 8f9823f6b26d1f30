-- Which refusal comes first.
use Rattle.std.proofs.Common.{◌≡◌, ℕ, zero, suc, ◌+◌, ◌-◌, ◌*◌, ◌^◌, ◌<◌, ◌≤◌, Bool, true, false, cond, ltb, leb, List, [], ◌∷◌, ◌++◌, map, length, get_or, take, drop, Some, None, sym, refl, ap, ◌∙◌, add-zero, add_assoc, zero-add, arith}
use Rattle.std.specs.List.{range_with_len}
use Rattle.std.specs.Prelude.{Result, IsErrAnd}
use Rattle.std.proofs.lemmas.Result.{err_from_is_err_and}
use Rattle.std.proofs.lemmas.List.{get_or-take, get_or-drop}
use Rattle.std.proofs.lemmas.Bool.{cond-true, cond-false, lt-ltb, le-ltb, le-leb, lt-leb}
use Rattle.std.proofs.lemmas.Bool.Decides.{nat_tests}
use Rattle.refusals.specs.declared.Refusal.{Refusal}
use Rattle.refusals.specs.declared.Refusal.TheVariants.{CutOff, OtherTag, OtherLength, CheckSymbol, CostInFile}
use Rattle.checkfile.specs.Tests.{Test, test, first_refusal, byte, pair, field_tests, symbol_tests, check_tests, price_tests, cost_tests, sizes_fit, Judged}

-- tests after others that are passed, and after others that are not
pub first_later : (before after : List Test) → first_refusal before ≡ None → first_refusal (before ++ after) ≡ first_refusal after
first_later [] after h = refl
first_later (t ∷ before) after h = go t.passed (first_later before after) h
  where
    go : (b : Bool) → (first_refusal before ≡ None → first_refusal (before ++ after) ≡ first_refusal after)
        → cond b (first_refusal before) (Some t.refusal) ≡ None → cond b (first_refusal (before ++ after)) (Some t.refusal) ≡ first_refusal after
    go true rest k = rest k
    go false rest k = absurd (some_none k)
      where
        some_none : {e : Refusal} → Some e ≡ None → ⊥
        some_none p = let z : ◌≡◌ {A = ℕ} 0 1 = cc in omega arith

pub first_here : (before after : List Test) (e : Refusal) → first_refusal before ≡ Some e → first_refusal (before ++ after) ≡ Some e
first_here [] after e h = absurd (let z : ◌≡◌ {A = ℕ} 0 1 = cc in omega arith)
first_here (t ∷ before) after e h = go t.passed (first_here before after e) h
  where
    go : (b : Bool) → (first_refusal before ≡ Some e → first_refusal (before ++ after) ≡ Some e)
        → cond b (first_refusal before) (Some t.refusal) ≡ Some e → cond b (first_refusal (before ++ after)) (Some t.refusal) ≡ Some e
    go true rest k = rest k
    go false rest k = k

pub head_fails : (file : List ℕ) (at tag size : ℕ) → length file < at + 3 → first_refusal (field_tests file at tag size) ≡ Some (CutOff at)
unfolding field_tests
head_fails file at tag size h = grind (arith, nat_tests)

module _ (file : List ℕ) (at tag size : ℕ) (head : at + 3 ≤ length file) where
  pub tag_fails : (byte file at ≡ tag → ⊥) → first_refusal (field_tests file at tag size) ≡ Some (OtherTag at)
  unfolding field_tests
  tag_fails h = grind (arith, nat_tests)

  pub length_fails : byte file at ≡ tag → (pair file (at + 1) ≡ size → ⊥) → first_refusal (field_tests file at tag size) ≡ Some (OtherLength at)
  unfolding field_tests
  length_fails h k = grind (arith, nat_tests)

  pub contents_fail : byte file at ≡ tag → pair file (at + 1) ≡ size → length file < at + 3 + size → first_refusal (field_tests file at tag size) ≡ Some (CutOff at)
  unfolding field_tests
  contents_fail h k l = grind (arith, nat_tests)

  pub field_passes : byte file at ≡ tag → pair file (at + 1) ≡ size → at + 3 + size ≤ length file → first_refusal (field_tests file at tag size) ≡ None
  unfolding field_tests
  field_passes h k l = grind (arith, nat_tests)

-- one test after others
pub value_fails : (before : List Test) (b : Bool) (e : Refusal) → first_refusal before ≡ None → b ≡ false → first_refusal (before ++ (test b e ∷ [])) ≡ Some e
value_fails before b e h k = first_later before (test b e ∷ []) h ∙ cond-false b None (Some e) k

pub value_passes : (before : List Test) (b : Bool) (e : Refusal) → first_refusal before ≡ None → b ≡ true → first_refusal (before ++ (test b e ∷ [])) ≡ None
value_passes before b e h k = first_later before (test b e ∷ []) h ∙ cond-true b None (Some e) k

-- a row of tests, one for each k below n
module _ (t : ℕ → Test) where
  abbrev row : ℕ → ℕ → List Test
  row a n = map t (range_with_len a n)

  row_passes : (a n : ℕ) → ((k : ℕ) → k < n → (t (a + k)).passed ≡ true) → first_refusal (map t (range_with_len a n)) ≡ None
  row_passes a zero h = refl
  row_passes a (suc n) h =
      cond-true (t a).passed (first_refusal (row (a + 1) n)) (Some (t a).refusal) (ap (λ k. (t k).passed) (sym (add-zero a)) ∙ h 0 (omega arith))
      ∙ row_passes (a + 1) n (λ k l. let e : a + 1 + k ≡ a + suc k = omega arith in ap (λ m. (t m).passed) e ∙ h (suc k) (omega arith))

  row_fails : (a n k : ℕ) → k < n → ((j : ℕ) → j < k → (t (a + j)).passed ≡ true) → (t (a + k)).passed ≡ false → first_refusal (map t (range_with_len a n)) ≡ Some (t (a + k)).refusal
  row_fails a zero k h before here = absurd (omega arith)
  row_fails a (suc n) zero h before here =
      cond-false (t a).passed (first_refusal (row (a + 1) n)) (Some (t a).refusal) (ap (λ m. (t m).passed) (sym (add-zero a)) ∙ here)
      ∙ ap (λ m. Some (t m).refusal) (sym (add-zero a))
  row_fails a (suc n) (suc k) h before here =
      let e : (j : ℕ) → a + 1 + j ≡ a + suc j = λ j. omega arith in
      cond-true (t a).passed (first_refusal (row (a + 1) n)) (Some (t a).refusal) (ap (λ m. (t m).passed) (sym (add-zero a)) ∙ before 0 (omega arith))
      ∙ row_fails (a + 1) n k (omega arith) (λ j l. ap (λ m. (t m).passed) (e j) ∙ before (suc j) (omega arith)) (ap (λ m. (t m).passed) (e k) ∙ here)
      ∙ ap (λ m. Some (t m).refusal) (e k)

  pub all_pass : (n : ℕ) → ((k : ℕ) → k < n → (t k).passed ≡ true) → first_refusal (map t (range_with_len 0 n)) ≡ None
  all_pass n h = row_passes 0 n (λ k l. ap (λ m. (t m).passed) (zero-add k) ∙ h k l)

  pub one_fails : (n k : ℕ) → k < n → ((j : ℕ) → j < k → (t j).passed ≡ true) → (t k).passed ≡ false → first_refusal (map t (range_with_len 0 n)) ≡ Some (t k).refusal
  one_fails n k h before here =
      row_fails 0 n k h (λ j l. ap (λ m. (t m).passed) (zero-add j) ∙ before j l) (ap (λ m. (t m).passed) (zero-add k) ∙ here)
      ∙ ap (λ m. Some (t m).refusal) (zero-add k)

-- the bytes of a field's contents are the file's
pub contents_byte : (file contents : List ℕ) (from size k : ℕ) → contents ≡ take size (drop from file) → k < size → get_or contents k 0 ≡ byte file (from + k)
contents_byte file contents from size k e h =
    ap (λ xs. get_or xs k 0) e ∙ get_or-take size (drop from file) k 0 h ∙ get_or-drop from file k 0

-- a field of check symbols, tested from the front
module _ (file contents : List ℕ) (at q size : ℕ) (part : contents ≡ take size (drop (at + 3) file)) (field : first_refusal (field_tests file at 3 size) ≡ None) where
  pub symbol_fails : (k : ℕ) → k < size → ((j : ℕ) → j < k → get_or contents j 0 < q) → q ≤ get_or contents k 0 → first_refusal (check_tests file at q size) ≡ Some (CheckSymbol (at + 3 + k))
  unfolding symbol_tests
  symbol_fails k h before here =
      first_later (field_tests file at 3 size) (symbol_tests file at q size) field
      ∙ one_fails (λ j. test (ltb (byte file (at + 3 + j)) q) (CheckSymbol (at + 3 + j))) size k h
      (λ j l. lt-ltb (byte file (at + 3 + j)) q (omega (arith, before j l, contents_byte file contents (at + 3) size j part (omega arith))))
      (le-ltb (byte file (at + 3 + k)) q (omega (arith, contents_byte file contents (at + 3) size k part h)))

  pub symbols_pass : ((j : ℕ) → j < size → get_or contents j 0 < q) → first_refusal (check_tests file at q size) ≡ None
  unfolding symbol_tests
  symbols_pass each =
      first_later (field_tests file at 3 size) (symbol_tests file at q size) field
      ∙ all_pass (λ j. test (ltb (byte file (at + 3 + j)) q) (CheckSymbol (at + 3 + j))) size
      (λ j l. lt-ltb (byte file (at + 3 + j)) q (omega (arith, each j l, contents_byte file contents (at + 3) size j part l)))

pub contents_pair : (file contents : List ℕ) (at n k : ℕ) → contents ≡ take (2 * n) (drop (at + 3) file) → k < n → pair contents (2 * k) ≡ pair file (at + 3 + 2 * k)
contents_pair file contents at n k part h =
    omega (
      arith,
      contents_byte file contents (at + 3) (2 * n) (2 * k) part (omega arith),
      contents_byte file contents (at + 3) (2 * n) (2 * k + 1) part (omega arith),
      ap (byte file) (add_assoc (at + 3) (2 * k) 1),
    )

-- a field of costs, likewise
module _ (file contents : List ℕ) (at n : ℕ) (part : contents ≡ take (2 * n) (drop (at + 3) file)) (field : first_refusal (field_tests file at 5 (2 * n)) ≡ None) where
  pub cost_fails : (k : ℕ) → k < n → ((j : ℕ) → j < k → pair contents (2 * j) ≤ 1000) → 1000 < pair contents (2 * k) → first_refusal (cost_tests file at n) ≡ Some (CostInFile (at + 3 + 2 * k))
  unfolding price_tests
  cost_fails k h before here =
      first_later (field_tests file at 5 (2 * n)) (price_tests file at n) field
      ∙ one_fails (λ j. test (leb (pair file (at + 3 + 2 * j)) 1000) (CostInFile (at + 3 + 2 * j))) n k h
      (λ j l. le-leb (pair file (at + 3 + 2 * j)) 1000 (omega (arith, before j l, contents_pair file contents at n j part (omega arith))))
      (lt-leb (pair file (at + 3 + 2 * k)) 1000 (omega (arith, contents_pair file contents at n k part h)))

  pub costs_pass : ((j : ℕ) → j < n → pair contents (2 * j) ≤ 1000) → first_refusal (cost_tests file at n) ≡ None
  unfolding price_tests
  costs_pass each =
      first_later (field_tests file at 5 (2 * n)) (price_tests file at n) field
      ∙ all_pass (λ j. test (leb (pair file (at + 3 + 2 * j)) 1000) (CostInFile (at + 3 + 2 * j))) n
      (λ j l. le-leb (pair file (at + 3 + 2 * j)) 1000 (omega (arith, each j l, contents_pair file contents at n j part l)))

-- what sizes that fit keep
pub sizes_within : (q n r : ℕ) → sizes_fit q n r ≡ true → ((1 ≤ n) × (1 ≤ r)) × ((n * (q - 1) ≤ 24) × (q ^ r ≤ 256))
sizes_within q n r h = grind (arith, nat_tests)

-- a step that ends in a refusal, where that is the first
pub judged_err : {T : Type 0} (ts : List Test) (P : T → Type 0) (r : Result T Refusal) (e : Refusal) → IsErrAnd r (λ y. y ≡ e) → first_refusal ts ≡ Some e → Judged ts P r
judged_err ts P r e h k = let p = err_from_is_err_and r h in rw (p.1, p.2) k
