-- The tests that a file must pass, in their order, each with the refusal of a file that fails it.
use Rattle.std.specs.Prelude.{◌≡◌, ℕ, ◌+◌, ◌-◌, ◌*◌, ◌^◌, ◌≤◌, Bool, cond, ◌&&◌, List, [], ◌∷◌, ◌++◌, map, length, Some, None, Option, Result, MatchResult, ◌==◌, nat_le, nat_lt, slice_index}
use Rattle.std.specs.List.{range_with_len}
use Rattle.refusals.specs.declared.Refusal.{Refusal}
use Rattle.checkfile.specs.declared.kind.Kind.{Kind}
use Rattle.checkfile.specs.declared.kind.Kind.TheVariants.{Plain, Weight, Cost}
use Rattle.checkfile.specs.Layout.{is_kind, kind_of}
use Rattle.refusals.specs.declared.Refusal.TheVariants.{CutOff, OtherTag, OtherLength, SymbolCount, Size, CheckSymbol, RuleByte, CostInFile, Surplus}

pub record Test : Type 0 where
  pub passed : Bool
  pub refusal : Refusal

abbrev pub test : Bool → Refusal → Test
test passed refusal = record { passed = passed; refusal = refusal }

-- the refusal of the first test that is not passed
abbrev pub first_refusal : List Test → Option Refusal
first_refusal [] = None
first_refusal (t ∷ ts) = cond t.passed (first_refusal ts) (Some t.refusal)

-- the sizes a table may have
abbrev pub sizes_fit : ℕ → ℕ → ℕ → Bool
sizes_fit q n r = (nat_le 1 n && nat_le 1 r) && (nat_le (n * (q - 1)) 24 && nat_le (q ^ r) 256)

module _ (file : List ℕ) where
  abbrev pub byte : ℕ → ℕ
  byte at = slice_index file at

  abbrev pub pair : ℕ → ℕ
  pair at = byte at * 256 + byte (at + 1)

  abbrev pub reaches : ℕ → Bool
  reaches end = nat_le end (length file)

  -- a field: three bytes present, its tag, its length, its contents present
  unfoldable pub field_tests : ℕ → ℕ → ℕ → List Test
  field_tests at tag size =
      test (reaches (at + 3)) (CutOff at)
      ∷ (test (byte at == tag) (OtherTag at)
      ∷ (test (pair (at + 1) == size) (OtherLength at)
      ∷ (test (reaches (at + 3 + size)) (CutOff at)
      ∷ [])))

  -- the fields in their order, each with its values; `at` is the offset of the tag
  abbrev pub count_tests : ℕ → List Test
  count_tests at = field_tests at 1 1 ++ (test (nat_le 2 (byte (at + 3)) && nat_le (byte (at + 3)) 4) (SymbolCount (at + 3)) ∷ [])

  abbrev pub size_tests : ℕ → ℕ → List Test
  size_tests at q = field_tests at 2 2 ++ (test (sizes_fit q (byte (at + 3)) (byte (at + 4))) (Size (at + 3)) ∷ [])

  unfoldable pub symbol_tests : ℕ → ℕ → ℕ → List Test
  symbol_tests at q size = map (λ k. test (nat_lt (byte (at + 3 + k)) q) (CheckSymbol (at + 3 + k))) (range_with_len 0 size)

  abbrev pub check_tests : ℕ → ℕ → ℕ → List Test
  check_tests at q size = field_tests at 3 size ++ symbol_tests at q size

  -- a check table: the fields of its sizes, and that of its symbols
  abbrev pub sizes_tests : ℕ → List Test
  sizes_tests at = count_tests at ++ size_tests (at + 4) (byte (at + 3))

  abbrev pub table_tests : ℕ → List Test
  table_tests at = sizes_tests at ++ check_tests (at + 4 + 5) (byte (at + 3)) (byte (at + 4 + 3) * byte (at + 4 + 4))

  abbrev pub rule_tests : ℕ → List Test
  rule_tests at = field_tests at 4 1 ++ (test (is_kind (byte (at + 3))) (RuleByte (at + 3)) ∷ [])

  unfoldable pub price_tests : ℕ → ℕ → List Test
  price_tests at n = map (λ k. test (nat_le (pair (at + 3 + 2 * k)) 1000) (CostInFile (at + 3 + 2 * k))) (range_with_len 0 n)

  abbrev pub cost_tests : ℕ → ℕ → List Test
  cost_tests at n = field_tests at 5 (2 * n) ++ price_tests at n

  abbrev pub end_tests : ℕ → List Test
  end_tests at = test (nat_le (length file) at) (Surplus at) ∷ []

  -- what follows the rule: its costs, if it has any, and then nothing
  abbrev pub tail_tests : ℕ → ℕ → Kind → List Test
  tail_tests at n Plain = end_tests at
  tail_tests at n Weight = end_tests at
  tail_tests at n Cost = cost_tests at n ++ end_tests (at + 3 + 2 * n)

  -- a rule of n places, and what follows it
  abbrev pub last_tests : ℕ → ℕ → List Test
  last_tests at n = rule_tests at ++ tail_tests (at + 4) n (kind_of (byte (at + 3)))

  -- where things stand in a file that is well laid out so far
  abbrev pub count_at : ℕ
  count_at = byte 3

  abbrev pub places_at : ℕ
  places_at = byte 7

  abbrev pub rows_at : ℕ
  rows_at = byte 8

  abbrev pub rule_offset : ℕ
  rule_offset = 12 + places_at * rows_at

  abbrev pub rule_at : ℕ
  rule_at = byte (rule_offset + 3)

  abbrev pub cost_offset : ℕ
  cost_offset = rule_offset + 4

  unfoldable pub tests : List Test
  tests =
      count_tests 0
      ++ (size_tests 4 count_at
      ++ (check_tests 9 count_at (places_at * rows_at)
      ++ (rule_tests rule_offset
      ++ tail_tests cost_offset places_at (kind_of rule_at))))

-- What a step of the reader answers: where its tests are passed a value of which P holds, else the refusal of the first that is not.
abbrev pub Judged : {T : Type 0} → List Test → (T → Type 0) → Result T Refusal → Type 0
Judged tests P r = MatchResult r (λ x. (first_refusal tests ≡ None) × P x) (λ refusal. first_refusal tests ≡ Some refusal)

-- the limits of a check table
pub record Limits (q n r : ℕ) : Type 0 where
  pub least_q : 2 ≤ q
  pub most_q : q ≤ 4
  pub least_n : 1 ≤ n
  pub most_n : n * (q - 1) ≤ 24
  pub least_r : 1 ≤ r
  pub most_r : q ^ r ≤ 256
