-- A file passes the tests just where it is laid out from its content.
use Rattle.std.proofs.Common.{◌≡◌, ℕ, zero, suc, ◌+◌, ◌*◌, ◌/◌, ◌%◌, ◌<◌, ◌≤◌, Bool, true, false, ◌&&◌, ltb, leb, List, [], ◌∷◌, ◌++◌, map, length, get_or, take, drop, Some, None, sym, refl, ap, ◌∙◌, inl, inr, add-zero, add_assoc, zero-add, arith}
use Rattle.std.specs.List.{range_with_len, flat_map}
use Rattle.std.proofs.lemmas.List.FromFn.{length-map-range_with_len, get_or-map-range_with_len, fill_by_all}
use Rattle.std.proofs.lemmas.List.{append-nil, length-append, length-drop, length-take-le, take-append-drop, take_at, drop_at, drop-drop, drop_all, drop_more, get_or-drop, get_or_past}
use Rattle.std.proofs.lemmas.Bool.{cases_lt, cond-true, ltb-true, leb-true, le-leb, and_from}
use Rattle.std.proofs.lemmas.Bool.Decides.{nat_tests}
use Rattle.refusals.specs.declared.Refusal.{Refusal}
use Rattle.refusals.specs.declared.Refusal.TheVariants.{CheckSymbol, CostInFile, Surplus}
use Rattle.checkfile.specs.declared.kind.Kind.{Kind}
use Rattle.checkfile.specs.declared.kind.Kind.TheVariants.{Plain, Weight, Cost}
use Rattle.checkfile.specs.Layout.{Content, Sound, CostsOf, kind_byte, is_kind, kind_of, costs_under, two_bytes, field, cost_field, layout}
use Rattle.checkfile.specs.Tests.{Test, test, first_refusal, sizes_fit, byte, pair, field_tests, count_tests, size_tests, symbol_tests, check_tests, rule_tests, price_tests, cost_tests, end_tests, tail_tests, count_at, places_at, rows_at, rule_offset, rule_at, cost_offset, tests}
use Rattle.checkfile.specs.Contents.{content_at}
use Rattle.checkfile.proofs.FirstRefusal.{first_later, field_passes, value_passes, contents_byte, symbols_pass, costs_pass, contents_pair}

-- the first of tests that are passed, and those behind it
test_passed : (b : Bool) (e : Refusal) (ts : List Test) → first_refusal (test b e ∷ ts) ≡ None → (b ≡ true) × (first_refusal ts ≡ None)
test_passed true e ts h = (refl, h)
test_passed false e ts h = absurd (let z : ◌≡◌ {A = ℕ} 0 1 = cc in omega arith)

-- tests that are passed together are passed each by themselves
first_parts : (before after : List Test) → first_refusal (before ++ after) ≡ None → (first_refusal before ≡ None) × (first_refusal after ≡ None)
first_parts [] after h = (refl, h)
first_parts (t ∷ before) after h =
    let p = test_passed t.passed t.refusal (before ++ after) h in
    let q = first_parts before after p.1 in
    (cond-true t.passed (first_refusal before) (Some t.refusal) p.0 ∙ q.0, q.1)

-- a test after others, likewise
value_parts : (before : List Test) (b : Bool) (e : Refusal) → first_refusal (before ++ (test b e ∷ [])) ≡ None → (first_refusal before ≡ None) × (b ≡ true)
value_parts before b e h = let p = first_parts before (test b e ∷ []) h in (p.0, (test_passed b e [] p.1).0)

-- of a row of tests that are passed, each is
row_each : (t : ℕ → Test) (a n : ℕ) → first_refusal (map t (range_with_len a n)) ≡ None → (k : ℕ) → k < n → (t (a + k)).passed ≡ true
row_each t a zero h k l = absurd (omega arith)
row_each t a (suc n) h zero l = ap (λ m. (t m).passed) (add-zero a) ∙ (test_passed (t a).passed (t a).refusal (map t (range_with_len (a + 1) n)) h).0
row_each t a (suc n) h (suc k) l =
    let e : a + suc k ≡ a + 1 + k = omega arith in
    ap (λ m. (t m).passed) e ∙ row_each t (a + 1) n (test_passed (t a).passed (t a).refusal (map t (range_with_len (a + 1) n)) h).1 k (omega arith)

each_passed : (t : ℕ → Test) (n k : ℕ) → first_refusal (map t (range_with_len 0 n)) ≡ None → k < n → (t k).passed ≡ true
each_passed t n k h l = ap (λ m. (t m).passed) (sym (zero-add k)) ∙ row_each t 0 n h k l

-- each cost has two bytes
length_costs : (costs : List ℕ) → length (flat_map two_bytes costs) ≡ 2 * length costs
length_costs [] = refl
length_costs (x ∷ costs) = omega (arith, length_costs costs)

-- a byte of a kind is that kind's
kind_byte_lem : (b : ℕ) → is_kind b ≡ true → kind_byte (kind_of b) ≡ b
kind_byte_lem zero h = absurd (let z : ◌≡◌ {A = ℕ} 0 1 = cc in omega arith)
kind_byte_lem (suc zero) h = refl
kind_byte_lem (suc (suc zero)) h = refl
kind_byte_lem (suc (suc (suc b))) h = grind (arith, nat_tests)

module _ (file : List ℕ) where
  -- what the tests of a field tell
  record Held (at tag size : ℕ) : Type 0 where
    tag_is : byte file at ≡ tag
    size_is : pair file (at + 1) ≡ size
    fits : at + 3 + size ≤ length file

  held : (at tag size : ℕ) → first_refusal (field_tests file at tag size) ≡ None → Held at tag size
  unfolding field_tests
  held at tag size h = record { tag_is = grind (arith, nat_tests); size_is = grind (arith, nat_tests); fits = grind (arith, nat_tests) }

  -- what the tests of symbols and of costs tell
  symbol_below : (at q size : ℕ) → first_refusal (symbol_tests file at q size) ≡ None → (k : ℕ) → k < size → byte file (at + 3 + k) < q
  unfolding symbol_tests
  symbol_below at q size h k l =
      ltb-true (byte file (at + 3 + k)) q (each_passed (λ j. test (ltb (byte file (at + 3 + j)) q) (CheckSymbol (at + 3 + j))) size k h l)

  price_below : (at n : ℕ) → first_refusal (price_tests file at n) ≡ None → (k : ℕ) → k < n → pair file (at + 3 + 2 * k) ≤ 1000
  unfolding price_tests
  price_below at n h k l =
      leb-true (pair file (at + 3 + 2 * k)) 1000 (each_passed (λ j. test (leb (pair file (at + 3 + 2 * j)) 1000) (CostInFile (at + 3 + 2 * j))) n k h l)

  -- where the last test is passed, no bytes are left
  at_end : (at : ℕ) → first_refusal (end_tests file at) ≡ None → drop at file ≡ []
  at_end at h = drop_all at file (leb-true (length file) at (test_passed (leb (length file) at) (Surplus at) [] h).0)

  -- the costs that stand at an offset
  abbrev costs_from : ℕ → ℕ → List ℕ
  costs_from from n = map (λ k. pair file (from + 2 * k)) (range_with_len 0 n)

  -- costs that pass their tests are small, and past the last there are none
  costs_below : (at n : ℕ) → first_refusal (price_tests file at n) ≡ None → (k : ℕ) → get_or (costs_from (at + 3) n) k 0 ≤ 1000
  costs_below at n h k =
      elim (cases_lt k n) [
        | inl l ↦
            let e : 0 + k ≡ k = omega arith in
            omega (arith, get_or-map-range_with_len (λ j. pair file (at + 3 + 2 * j)) 0 n k k 0 l e, price_below at n h k l)
        | inr l ↦
            let f : ℕ → ℕ = λ j. pair file (at + 3 + 2 * j) in
            omega (arith, get_or_past (costs_from (at + 3) n) k 0 (omega (arith, length-map-range_with_len f 0 n)))
      ]

  module _ (bytes : (k : ℕ) → byte file k < 256) where
    -- the next two bytes are those of their pair
    pair_split : (at : ℕ) → at + 2 ≤ length file → drop at file ≡ two_bytes (pair file at) ++ drop (at + 2) file
    pair_split at h =
        let hi : byte file at ≡ pair file at / 256 = omega (arith, bytes (at + 1)) in
        let lo : byte file (at + 1) ≡ pair file at % 256 = omega (arith, bytes (at + 1)) in
        let end = add_assoc at 1 1 in
        cc (drop_more file at 0 (omega arith), drop_more file (at + 1) 0 (omega arith))

    -- a row of costs is laid out from them
    costs_split : (from a n : ℕ) → from + 2 * (a + n) ≤ length file → drop (from + 2 * a) file ≡ flat_map two_bytes (map (λ k. pair file (from + 2 * k)) (range_with_len a n)) ++ drop (from + 2 * (a + n)) file
    costs_split from a zero h = ap (λ m. drop (from + 2 * m) file) (sym (add-zero a))
    costs_split from a (suc n) h =
        let one : from + 2 * a + 2 ≡ from + 2 * (a + 1) = omega arith in
        let all : a + 1 + n ≡ a + suc n = omega arith in
        pair_split (from + 2 * a) (omega arith)
        ∙ ap (λ xs. two_bytes (pair file (from + 2 * a)) ++ xs)
        (ap (λ m. drop m file) one ∙ costs_split from (a + 1) n (omega arith) ∙ ap (λ m. flat_map two_bytes (map (λ k. pair file (from + 2 * k)) (range_with_len (a + 1) n)) ++ drop (from + 2 * m) file) all)

    -- a field that passes its tests is laid out from its contents
    field_split : (at tag size : ℕ) (contents rest : List ℕ) → Held at tag size → length contents ≡ size → drop (at + 3) file ≡ contents ++ rest → drop at file ≡ field tag contents ++ rest
    field_split at tag size contents rest h l e =
        let end = add_assoc at 1 2 in
        cc (drop_more file at 0 (omega arith), pair_split (at + 1) (omega arith))

    -- what stands behind the rule, by its kind
    tail_split : (at n : ℕ) (kind : Kind) → first_refusal (tail_tests file at n kind) ≡ None
        → (drop at file ≡ cost_field kind (costs_under kind (costs_from (at + 3) n))) × CostsOf kind n (costs_under kind (costs_from (at + 3) n))
    tail_split at n Plain h = (at_end at h, refl)
    tail_split at n Weight h = (at_end at h, refl)
    tail_split at n Cost h =
        let p = first_parts (cost_tests file at n) (end_tests file (at + 3 + 2 * n)) h in
        let f = first_parts (field_tests file at 5 (2 * n)) (price_tests file at n) p.0 in
        let g = held at 5 (2 * n) f.0 in
        let l : length (costs_from (at + 3) n) ≡ n = length-map-range_with_len (λ k. pair file (at + 3 + 2 * k)) 0 n in
        let contents : List ℕ = flat_map two_bytes (costs_from (at + 3) n) in
        let e : drop (at + 3) file ≡ contents ++ [] = cc (costs_split (at + 3) 0 n (omega arith), add-zero (at + 3), zero-add n, at_end (at + 3 + 2 * n) p.1) in (
          field_split at 5 (2 * n) contents [] g (omega (arith, length_costs (costs_from (at + 3) n))) e ∙ append-nil (field 5 contents),
          (l, costs_below at n f.1),
        )

    -- a file that passes the tests, and what they tell
    module _ (h : first_refusal (tests file) ≡ None) where
      abbrev table_size : ℕ
      table_size = places_at file * rows_at file

      record Passed : Type 0 where
        count : Held 0 1 1
        count_fits : (leb 2 (count_at file) && leb (count_at file) 4) ≡ true
        sizes : Held 4 2 2
        sizes_fit_lem : sizes_fit (count_at file) (places_at file) (rows_at file) ≡ true
        checks : Held 9 3 table_size
        symbols : first_refusal (symbol_tests file 9 (count_at file) table_size) ≡ None
        rule : Held (rule_offset file) 4 1
        rule_fits : is_kind (rule_at file) ≡ true
        tail : first_refusal (tail_tests file (cost_offset file) (places_at file) (kind_of (rule_at file))) ≡ None

      passed : Passed
      unfolding tests
      passed =
          let a = first_parts (count_tests file 0) _ h in
          let b = first_parts (size_tests file 4 (count_at file)) _ a.1 in
          let c = first_parts (check_tests file 9 (count_at file) table_size) _ b.1 in
          let d = first_parts (rule_tests file (rule_offset file)) _ c.1 in
          let count = value_parts (field_tests file 0 1 1) _ _ a.0 in
          let sizes = value_parts (field_tests file 4 2 2) _ _ b.0 in
          let checks = first_parts (field_tests file 9 3 table_size) _ c.0 in
          let rule = value_parts (field_tests file (rule_offset file) 4 1) _ _ d.0 in
          record {
            count = held 0 1 1 count.0;
            count_fits = count.1;
            sizes = held 4 2 2 sizes.0;
            sizes_fit_lem = sizes.1;
            checks = held 9 3 table_size checks.0;
            symbols = checks.1;
            rule = held (rule_offset file) 4 1 rule.0;
            rule_fits = rule.1;
            tail = d.1;
          }

      -- its content is sound
      content_sound : Sound (content_at file)
      content_sound =
          let p = passed in
          record {
            least_q = grind (arith, nat_tests);
            most_q = grind (arith, nat_tests);
            least_n = grind (arith, nat_tests);
            most_n = grind (arith, nat_tests);
            least_r = grind (arith, nat_tests);
            most_r = grind (arith, nat_tests);
            table = length-take-le table_size (drop 12 file) (omega (arith, length-drop 12 file));
            symbols = λ k l.
                omega (
                  arith,
                  contents_byte file (content_at file).checks 12 table_size k refl l,
                  symbol_below 9 (count_at file) table_size p.symbols k l,
                );
            costs = (tail_split (cost_offset file) (places_at file) (kind_of (rule_at file)) p.tail).1;
          }

      -- and the file is laid out from it, field by field
      count_laid : file ≡ field 1 (count_at file ∷ []) ++ drop 4 file
      count_laid = field_split 0 1 1 (count_at file ∷ []) (drop 4 file) passed.count refl (drop_more file 3 0 (omega (arith, passed.count)))

      sizes_laid : drop 4 file ≡ field 2 (places_at file ∷ (rows_at file ∷ [])) ++ drop 9 file
      sizes_laid =
          field_split 4 2 2 (places_at file ∷ (rows_at file ∷ [])) (drop 9 file) passed.sizes refl
          (drop_more file 7 0 (omega (arith, passed.sizes)) ∙ ap (λ xs. places_at file ∷ xs) (drop_more file 8 0 (omega (arith, passed.sizes))))

      checks_laid : drop 9 file ≡ field 3 (content_at file).checks ++ drop (rule_offset file) file
      checks_laid =
          field_split 9 3 table_size (content_at file).checks (drop (rule_offset file) file) passed.checks content_sound.table
          (sym (take-append-drop table_size (drop 12 file)) ∙ ap (λ xs. (content_at file).checks ++ xs) (drop-drop table_size 12 file))

      rule_laid : drop (rule_offset file) file ≡ field 4 (kind_byte (kind_of (rule_at file)) ∷ []) ++ drop (cost_offset file) file
      rule_laid =
          field_split (rule_offset file) 4 1 (kind_byte (kind_of (rule_at file)) ∷ []) (drop (cost_offset file) file) passed.rule refl
          (cc (drop_more file (rule_offset file + 3) 0 (omega (arith, passed.rule)), add_assoc (rule_offset file) 3 1, kind_byte_lem (rule_at file) passed.rule_fits))

      tail_laid : drop (cost_offset file) file ≡ cost_field (content_at file).kind (content_at file).costs
      tail_laid = (tail_split (cost_offset file) (places_at file) (kind_of (rule_at file)) passed.tail).0

      content_laid : file ≡ layout (content_at file)
      content_laid = cc (count_laid, sizes_laid, checks_laid, rule_laid, tail_laid)

-- a file that passes the tests is laid out from a sound content, the one that is read from it
pub accepted : (file : List ℕ) → ((k : ℕ) → get_or file k 0 < 256) → first_refusal (tests file) ≡ None → Sound (content_at file) × (file ≡ layout (content_at file))
accepted file bytes h = (content_sound file bytes h, content_laid file bytes h)

-- tests that are passed one after the other
first_both : (before after : List Test) → first_refusal before ≡ None → first_refusal after ≡ None → first_refusal (before ++ after) ≡ None
first_both before after h k = first_later before after h ∙ k

-- a cost is the pair of its bytes
cost_pair : (costs : List ℕ) (k : ℕ) → k < length costs → get_or costs k 0 ≡ pair (flat_map two_bytes costs) (2 * k)
cost_pair [] k h = absurd (omega arith)
cost_pair (x ∷ costs) zero h = omega arith
cost_pair (x ∷ costs) (suc k) h =
    let e : suc (suc (2 * k)) ≡ 2 * suc k = omega arith in
    let f : suc (suc (2 * k + 1)) ≡ suc (suc (2 * k)) + 1 = omega arith in
    omega (arith, cost_pair costs k (omega arith), ap (λ m. pair (flat_map two_bytes (x ∷ costs)) m) e, ap (λ m. byte (flat_map two_bytes (x ∷ costs)) m) f)

-- a field that is laid out from its contents passes its tests
module _ (file : List ℕ) (at tag size : ℕ) (contents rest : List ℕ) (long : length contents ≡ size) (here : drop at file ≡ field tag contents ++ rest) where
  -- where its contents and what follows them stand
  field_starts : drop (at + 3) file ≡ contents ++ rest
  field_starts = sym (drop-drop 3 at file) ∙ ap (drop 3) here

  field_ends : drop (at + 3 + size) file ≡ rest
  field_ends = sym (drop-drop size (at + 3) file) ∙ ap (drop size) field_starts ∙ drop_at contents rest size long

  field_contents : contents ≡ take size (drop (at + 3) file)
  field_contents = sym (take_at contents rest size long) ∙ ap (take size) (sym field_starts)

  field_byte : (k : ℕ) → byte file (at + k) ≡ get_or (field tag contents ++ rest) k 0
  field_byte k = sym (get_or-drop at file k 0) ∙ ap (λ xs. get_or xs k 0) here

  field_there : first_refusal (field_tests file at tag size) ≡ None
  field_there =
      let fits : at + 3 + size ≤ length file = omega (arith, length-drop at file, ap length here, length-append contents rest) in
      field_passes file at tag size (omega arith) (ap (byte file) (sym (add-zero at)) ∙ field_byte 0)
      (omega (arith, field_byte 1, field_byte 2, ap (byte file) (add_assoc at 1 1))) fits

-- a file that ends at an offset passes the last test there
end_there : (file : List ℕ) (at : ℕ) → drop at file ≡ [] → first_refusal (end_tests file at) ≡ None
end_there file at e = cond-true (leb (length file) at) None (Some (Surplus at)) (le-leb (length file) at (omega (arith, length-drop at file, ap length e)))

-- what stands behind the rule passes its tests and tells the costs
tail_there : (file : List ℕ) (at n : ℕ) (kind : Kind) (costs : List ℕ) → CostsOf kind n costs → drop at file ≡ cost_field kind costs
    → (first_refusal (tail_tests file at n kind) ≡ None) × (costs_under kind (costs_from file (at + 3) n) ≡ costs)
tail_there file at n Plain costs h e = (end_there file at e, sym h)
tail_there file at n Weight costs h e = (end_there file at e, sym h)
tail_there file at n Cost costs h e =
    let contents : List ℕ = flat_map two_bytes costs in
    let here : drop at file ≡ field 5 contents ++ [] = e ∙ sym (append-nil (field 5 contents)) in
    let long : length contents ≡ 2 * n = omega (arith, length_costs costs) in
    let part : contents ≡ take (2 * n) (drop (at + 3) file) = field_contents file at 5 (2 * n) contents [] long here in
    let there : first_refusal (field_tests file at 5 (2 * n)) ≡ None = field_there file at 5 (2 * n) contents [] long here in
    let each : (k : ℕ) → k < n → get_or costs k 0 ≡ pair contents (2 * k) = λ k l. cost_pair costs k (omega arith) in (
      first_both (cost_tests file at n) (end_tests file (at + 3 + 2 * n))
          (costs_pass file contents at n part there (λ k l. omega (arith, each k l, h.1 k)))
          (end_there file (at + 3 + 2 * n) (field_ends file at 5 (2 * n) contents [] long here)),
      sym (fill_by_all (λ k. pair file (at + 3 + 2 * k)) costs n 0 h.0 (λ k l. each k l ∙ contents_pair file contents at n k part l)),
    )

-- the byte of a kind is one of a kind, and of that kind
byte_kind : (kind : Kind) → kind_of (kind_byte kind) ≡ kind
byte_kind Plain = refl
byte_kind Weight = refl
byte_kind Cost = refl

byte_is_kind : (kind : Kind) → is_kind (kind_byte kind) ≡ true
byte_is_kind Plain = refl
byte_is_kind Weight = refl
byte_is_kind Cost = refl

-- a file that is laid out from a sound content
module _ (c : Content) (s : Sound c) where
  abbrev file : List ℕ
  file = layout c

  abbrev size : ℕ
  size = c.n * c.r

  abbrev rule : List ℕ
  rule = kind_byte c.kind ∷ []

  -- what follows the rule, the checks, the sizes and the count
  abbrev from_costs : List ℕ
  from_costs = cost_field c.kind c.costs

  abbrev from_rule : List ℕ
  from_rule = field 4 rule ++ from_costs

  abbrev from_checks : List ℕ
  from_checks = field 3 c.checks ++ from_rule

  abbrev from_sizes : List ℕ
  from_sizes = field 2 (c.n ∷ (c.r ∷ [])) ++ from_checks

  -- where the rule and the costs stand, and what they say
  rule_here : drop (rule_offset file) file ≡ from_rule
  rule_here = field_ends file 9 3 size c.checks from_rule s.table refl

  rule_byte : rule_at file ≡ kind_byte c.kind
  rule_byte = field_byte file (rule_offset file) 4 1 rule from_costs refl rule_here 3

  costs_here : drop (cost_offset file) file ≡ from_costs
  costs_here =
      ap (λ m. drop m file) (sym (add_assoc (rule_offset file) 3 1))
      ∙ field_ends file (rule_offset file) 4 1 rule from_costs refl rule_here

  kind_back : kind_of (rule_at file) ≡ c.kind
  kind_back = ap kind_of rule_byte ∙ byte_kind c.kind

  tail_back : (first_refusal (tail_tests file (cost_offset file) c.n c.kind) ≡ None) × (costs_under c.kind (costs_from file (cost_offset file + 3) c.n) ≡ c.costs)
  tail_back = tail_there file (cost_offset file) c.n c.kind c.costs s.costs costs_here

  checks_here : c.checks ≡ take size (drop 12 file)
  checks_here = field_contents file 9 3 size c.checks from_rule s.table refl

  -- the tests, field by field
  count_passes : first_refusal (count_tests file 0) ≡ None
  count_passes = value_passes (field_tests file 0 1 1) _ _ (field_there file 0 1 1 (c.q ∷ []) from_sizes refl refl) (and_from _ _ (le-leb 2 c.q s.least_q) (le-leb c.q 4 s.most_q))

  sizes_pass : first_refusal (size_tests file 4 c.q) ≡ None
  sizes_pass = value_passes (field_tests file 4 2 2) _ _ (field_there file 4 2 2 (c.n ∷ (c.r ∷ [])) from_checks refl refl) (grind (arith, nat_tests))

  checks_pass : first_refusal (check_tests file 9 c.q size) ≡ None
  checks_pass = symbols_pass file c.checks 9 c.q size checks_here (field_there file 9 3 size c.checks from_rule s.table refl) s.symbols

  rule_passes : first_refusal (rule_tests file (rule_offset file)) ≡ None
  rule_passes =
      value_passes (field_tests file (rule_offset file) 4 1) _ _ (field_there file (rule_offset file) 4 1 rule from_costs refl rule_here)
      (ap is_kind rule_byte ∙ byte_is_kind c.kind)

  layout_passes : first_refusal (tests file) ≡ None
  unfolding tests
  layout_passes =
      first_both (count_tests file 0) _ count_passes
      (first_both (size_tests file 4 c.q) _ sizes_pass
      (first_both (check_tests file 9 c.q size) _ checks_pass
      (first_both (rule_tests file (rule_offset file)) _ rule_passes
      (ap (λ kind. first_refusal (tail_tests file (cost_offset file) c.n kind)) kind_back ∙ tail_back.0))))

  content_back : content_at file ≡ c
  content_back =
      let costs : (content_at file).costs ≡ c.costs = ap (λ kind. costs_under kind (costs_from file (cost_offset file + 3) c.n)) kind_back ∙ tail_back.1 in
      λ i. record { q = c.q; n = c.n; r = c.r; checks = sym checks_here i; kind = kind_back i; costs = costs i }

-- what is laid out from a sound content passes the tests, and that content is read from it
pub layouts_accepted : (c : Content) → Sound c → (first_refusal (tests (layout c)) ≡ None) × (content_at (layout c) ≡ c)
layouts_accepted c s = (layout_passes c s, content_back c s)
