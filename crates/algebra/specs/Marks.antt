-- Marks: n symbols packed into a number, two bits a place. Places count from 0 here.
use Rattle.std.specs.Prelude.{ℕ, ◌^◌, ◌<◌, cond, List, map, length, ◌==◌, slice_index}
use Rattle.std.specs.List.{range_with_len}
use Rattle.algebra.specs.Digits.{pack, digit, total}
use Rattle.algebra.specs.Symbols.{Symbols}

-- the mark that the bytes spell, one symbol each
abbrev pub number_of : List ℕ → ℕ
number_of bytes = pack 4 (length bytes) (λ i. slice_index bytes i)

-- the symbols of a mark at its first n places
abbrev pub bytes_of : ℕ → ℕ → List ℕ
bytes_of n u = map (digit u) (range_with_len 0 n)

-- A mark of n symbols of the alphabet: no digit past the n-th, and none that is no symbol.
pub record Mark (S : Symbols) (n u : ℕ) : Type 0 where
  pub short : u < 4 ^ n
  pub symbols : (i : ℕ) → digit u i < S.q

-- the mark with symbol a at place i
abbrev pub put : ℕ → ℕ → ℕ → ℕ → ℕ
put n u i a = pack 4 n (λ j. cond (j == i) a (digit u j))

abbrev pub blank : ℕ → ℕ → ℕ → ℕ
blank n u i = put n u i 0

-- marks add and subtract place by place
abbrev pub plus : Symbols → ℕ → ℕ → ℕ → ℕ
plus S n u v = pack 4 n (λ i. S.sum (digit u i) (digit v i))

abbrev pub minus : Symbols → ℕ → ℕ → ℕ → ℕ
minus S n u v = pack 4 n (λ i. S.sum (digit u i) (S.opposite (digit v i)))

-- 1 for a symbol that is not 0
abbrev pub nonzero : ℕ → ℕ
nonzero a = cond (a == 0) 0 1

-- the count of nonzero places
abbrev pub weight : ℕ → ℕ → ℕ
weight n u = total n (λ i. nonzero (digit u i))
