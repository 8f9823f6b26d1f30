-- Cosets and their leaders, by enumeration of all marks.
use Rattle.std.specs.Prelude.{ℕ, zero, suc, ◌+◌, ◌*◌, Bool, cond, List, [], ◌∷◌, map, length, filter, ◌==◌, nat_eq}
use Rattle.std.specs.List.{range_with_len, flat_map}
use Rattle.algebra.specs.Checks.{check_number}
use Rattle.algebra.specs.Digits.{digit, total}
use Rattle.leaders.specs.Schemes.{Scheme}

-- every mark of n symbols below q
unfoldable pub all_marks : ℕ → ℕ → List ℕ
all_marks q zero = 0 ∷ []
all_marks q (suc n) = flat_map (λ u. map (λ a. a + 4 * u) (range_with_len 0 q)) (all_marks q n)

-- the one of u and us that ranks before all others
abbrev pub first_ranked : (ℕ → ℕ → Bool) → ℕ → List ℕ → ℕ
first_ranked before u [] = u
first_ranked before u (v ∷ us) = first_ranked before (cond (before v u) v u) us

-- in ranking order
abbrev pub insert : (ℕ → ℕ → Bool) → ℕ → List ℕ → List ℕ
insert before u [] = u ∷ []
insert before u (v ∷ vs) = cond (before u v) (u ∷ (v ∷ vs)) (v ∷ insert before u vs)

abbrev pub ranked : (ℕ → ℕ → Bool) → List ℕ → List ℕ
ranked before [] = []
ranked before (u ∷ us) = insert before u (ranked before us)

-- how many stand before u in a list
abbrev pub index_of : ℕ → List ℕ → ℕ
index_of u [] = 0
index_of u (v ∷ vs) = cond (v == u) 0 (suc (index_of u vs))

-- at how many of n places two marks differ
abbrev pub differing : ℕ → ℕ → ℕ → ℕ
differing n u v = total n (λ i. cond (digit u i == digit v i) 0 1)

module _ (T : Scheme) where
  abbrev pub check_of : ℕ → ℕ
  check_of u = check_number T.symbols T.checks u

  unfoldable pub marks : List ℕ
  marks = all_marks T.symbols.q T.checks.n

  -- the marks with a check number
  unfoldable pub coset : ℕ → List ℕ
  coset s = filter (λ u. nat_eq (check_of u) s) marks

  -- the mark that ranks before all others of u's coset
  unfoldable pub leader_of : ℕ → ℕ
  leader_of u = first_ranked T.ranking.before u (coset (check_of u))

  unfoldable pub is_leader : ℕ → Bool
  is_leader u = leader_of u == u

  -- all leaders, in ranking order
  unfoldable pub leaders : List ℕ
  leaders = ranked T.ranking.before (filter is_leader marks)

  unfoldable pub coset_count : ℕ
  coset_count = length leaders

  -- the number of the leader of u's coset; leaders count from 1
  unfoldable pub leader_number : ℕ → ℕ
  leader_number u = suc (index_of (leader_of u) leaders)
