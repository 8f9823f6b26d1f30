-- Heads and turns by which every mark comes to its coset's leader, the limit, and the walk over leaders.
use Rattle.std.specs.Prelude.{◌≡◌, ℕ, zero, suc, ◌-◌, ◌/◌, ◌<◌, min, Bool, true, cond, not, ◌&&◌, ◌||◌, ◌⊎◌, List, [], ◌∷◌, length, filter, ◌==◌, slice_index}
use Rattle.std.specs.List.{ContainsAt as Has}
use Rattle.algebra.specs.Digits.{digit}
use Rattle.algebra.specs.Marks.{blank, plus, minus, weight}
use Rattle.algebra.specs.Rankings.{filled}
use Rattle.algebra.specs.Symbols.{Symbols}
use Rattle.leaders.specs.Leaders.{ranked, check_of, marks, leader_of, is_leader, leaders, leader_number}
use Rattle.leaders.specs.Schemes.{Scheme, MarkOf}

-- the test passes at each of n places
abbrev pub everywhere : ℕ → (ℕ → Bool) → Bool
everywhere zero test = true
everywhere (suc n) test = test n && everywhere n test

-- the least weight of c and cs
abbrev pub least_weight : ℕ → ℕ → List ℕ → ℕ
least_weight n c [] = weight n c
least_weight n c (b ∷ cs) = min (weight n c) (least_weight n b cs)

-- the whole part of half of one less than the least weight, and n where there is none
abbrev pub limit_of : ℕ → List ℕ → ℕ
limit_of n [] = n
limit_of n (c ∷ cs) = (least_weight n c cs - 1) / 2

module _ (T : Scheme) where
  abbrev S : Symbols
  S = T.symbols

  abbrev n : ℕ
  n = T.checks.n

  -- no leader, although blanking any one nonzero place gives a leader
  unfoldable pub is_head : ℕ → Bool
  is_head u = not (is_leader T u) && everywhere n (λ i. (digit u i == 0) || is_leader T (blank n u i))

  -- all heads, in ranking order; the tail of a head is its coset's leader
  unfoldable pub heads : List ℕ
  heads = ranked T.ranking.before (filter is_head (marks T))

  -- w has the symbol of h wherever h is nonzero
  unfoldable pub sits : ℕ → ℕ → Bool
  sits h w = everywhere n (λ i. (digit h i == 0) || digit h i == digit w i)

  -- the heads that sit in w, in ranking order
  unfoldable pub sitting : ℕ → List ℕ
  sitting w = filter (λ h. sits h w) heads

  -- w with the head h replaced by its tail
  unfoldable pub turn : ℕ → ℕ → ℕ
  turn h w = plus S n (minus S n w h) (leader_of T h)

  -- k turns, each with any sitting head, make v of u
  abbrev pub Run : ℕ → ℕ → ℕ → Type 0
  Run zero u v = u ≡ v
  Run (suc k) u v = (h : ℕ) × Has (sitting u) h × Run k (turn h u) v

  -- how many turns there are from w, up to a most, where each takes the first sitting head
  unfoldable pub turns_from : ℕ → ℕ → ℕ
  turns_from zero w = 0
  turns_from (suc most) w = cond (length (sitting w) == 0) 0 (suc (turns_from most (turn (slice_index (sitting w) 0) w)))

  unfoldable pub turns : ℕ → ℕ
  turns w = turns_from (length (marks T)) w

  -- the nonzero code words
  abbrev pub is_word : ℕ → Bool
  is_word c = not (c == 0) && check_of T c == 0

  unfoldable pub words : List ℕ
  words = filter is_word (marks T)

  unfoldable pub limit : ℕ
  limit = limit_of n words

  -- the number of the leader reached from leader j by adding a at place i
  unfoldable pub step : ℕ → ℕ → ℕ → ℕ
  step j i a = leader_number T (filled S n (slice_index (leaders T) (j - 1)) i a)

  -- from leader 1, the steps of the nonzero symbols at the first k places, the first place first
  unfoldable pub walked_to : ℕ → ℕ → ℕ
  walked_to u zero = 1
  walked_to u (suc k) = cond (digit u k == 0) (walked_to u k) (step (walked_to u k) k (digit u k))

  abbrev pub walk : ℕ → ℕ
  walk u = walked_to u n

  -- what the tests say
  pub record Head (u : ℕ) : Type 0 where
    pub mark : MarkOf T u
    pub misled : leader_of T u ≡ u → ⊥
    pub blanks : (i : ℕ) → i < n → 0 < digit u i → leader_of T (blank n u i) ≡ blank n u i

  abbrev pub Sits : ℕ → ℕ → Type 0
  Sits h w = (i : ℕ) → i < n → (digit h i ≡ 0) ⊎ (digit h i ≡ digit w i)

  pub record Word (c : ℕ) : Type 0 where
    pub mark : MarkOf T c
    pub some : c ≡ 0 → ⊥
    pub check : check_of T c ≡ 0
