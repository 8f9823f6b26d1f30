-- An alphabet is lawful where one test over all its symbols passes; the three alphabets pass it.
use Rattle.std.proofs.Common.{◌≡◌, ℕ, zero, suc, ◌+◌, ◌<◌, ◌≤◌, Bool, true, ◌&&◌, eqb, ltb, leb, refl, arith, lit≤}
use Rattle.std.proofs.lemmas.Bool.{and_parts}
use Rattle.std.proofs.lemmas.Bool.Decides.{Decides-below_and, nat_tests}
use Rattle.algebra.specs.Symbols.{Symbols, Lawful, alphabet, modulo, quads}

-- the test p passes at each number below n
abbrev pub below : ℕ → (ℕ → Bool) → Bool
below zero p = true
below (suc n) p = p n && below n p

pub below_at : (n : ℕ) (p : ℕ → Bool) → below n p ≡ true → (i : ℕ) → i < n → p i ≡ true
below_at n p = (Decides-below_and p (λ i. p i ≡ true) (λ m. below m p) (λ _. (λ e. e, λ e. e)) refl (λ _. refl) n).0

module _ (q : ℕ) (sum : ℕ → ℕ → ℕ) (opposite : ℕ → ℕ) (product : ℕ → ℕ → ℕ) where
  -- the laws at one symbol, at two, and at three
  abbrev pub one : ℕ → Bool
  one s = ltb (opposite s) q && (eqb (sum 0 s) s && eqb (sum s (opposite s)) 0)

  abbrev pub two : ℕ → ℕ → Bool
  two s t = (ltb (sum s t) q && ltb (product s t) q) && (eqb (sum s t) (sum t s) && leb (sum s t) (s + t))

  abbrev pub three : ℕ → ℕ → ℕ → Bool
  three s t u = eqb (sum (sum s t) u) (sum s (sum t u)) && eqb (product (sum s t) u) (sum (product s u) (product t u))

  abbrev pub passes : Bool
  passes = below q (λ s. one s && below q (λ t. two s t && below q (three s t)))

  abbrev S : Symbols
  S = alphabet q sum opposite product

  module _ (least : 2 ≤ q) (most : q ≤ 4) (passed : passes ≡ true) where
    at_one : (s : ℕ) → s < q → (one s ≡ true) × (below q (λ t. two s t && below q (three s t)) ≡ true)
    at_one s h = and_parts _ _ (below_at q (λ x. one x && below q (λ t. two x t && below q (three x t))) passed s h)

    at_two : (s t : ℕ) → s < q → t < q → (two s t ≡ true) × (below q (three s t) ≡ true)
    at_two s t h k = and_parts _ _ (below_at q (λ x. two s x && below q (three s x)) (at_one s h).1 t k)

    at_three : (s t u : ℕ) → s < q → t < q → u < q → three s t u ≡ true
    at_three s t u h k l = below_at q (three s t) (at_two s t h k).1 u l

    one_holds : (s : ℕ) → s < q → (opposite s < q) × (sum 0 s ≡ s) × (sum s (opposite s) ≡ 0)
    one_holds s h = let e = (at_one s h).0 in grind (arith, nat_tests)

    two_holds : (s t : ℕ) → s < q → t < q → (sum s t < q) × (product s t < q) × (sum s t ≡ sum t s) × (sum s t ≤ s + t)
    two_holds s t h k = let e = (at_two s t h k).0 in grind (arith, nat_tests)

    product_raw : (s t : ℕ) → s < q → t < q → product s t < q
    product_raw s t h k = (two_holds s t h k).1

    three_holds : (s t u : ℕ) → s < q → t < q → u < q
        → (sum (sum s t) u ≡ sum s (sum t u)) × (product (sum s t) u ≡ sum (product s u) (product t u))
    three_holds s t u h k l = let e = at_three s t u h k l in grind (arith, nat_tests)

    pub lawful_by_test : Lawful (alphabet q sum opposite product)
    lawful_by_test = record {
      least = least;
      most = most;
      sum_symbol = λ s t. grind (arith, nat_tests, two_holds);
      opposite_symbol = λ s. grind (arith, nat_tests, one_holds);
      product_symbol = λ s h. grind (arith, nat_tests, product_raw);
      commutes = λ s t. grind (arith, nat_tests, two_holds);
      associates = λ s t u h k l. grind (arith, nat_tests, two_holds, three_holds);
      zero_adds_nothing = λ s h. let e = one_holds s h in grind (arith, nat_tests);
      opposite_cancels = λ s h. grind (arith, nat_tests, one_holds);
      distributes = λ s t u h k l.
          let st = two_holds s t h k in let su = two_holds s u h l in let tu = two_holds t u k l in let stu = three_holds s t u h k l in
          grind (arith, nat_tests);
      sum_at_most = λ s t. grind (arith, nat_tests, two_holds);
      sum_outside_left = λ s t h. grind (arith, nat_tests);
      sum_outside_right = λ s t h. grind (arith, nat_tests);
      opposite_outside = λ s h. grind (arith, nat_tests);
      product_outside_left = λ s t h. grind (arith, nat_tests);
      product_outside_right = λ s t h. grind (arith, nat_tests);
    }

pub modulo_lawful : (q : ℕ) → 2 ≤ q → q ≤ 4 → Lawful (modulo q)
modulo_lawful zero least most = absurd (omega (arith, least))
modulo_lawful (suc zero) least most = absurd (omega (arith, least))
modulo_lawful (suc (suc zero)) least most = lawful_by_test 2 _ _ _ least most refl
modulo_lawful (suc (suc (suc zero))) least most = lawful_by_test 3 _ _ _ least most refl
modulo_lawful (suc (suc (suc (suc zero)))) least most = lawful_by_test 4 _ _ _ least most refl
modulo_lawful (suc (suc (suc (suc (suc q))))) least most = absurd (omega (arith, most))

pub quads_lawful : Lawful quads
quads_lawful = lawful_by_test 4 _ _ _ (lit≤ tt) (lit≤ tt) refl
