-- Rankings of marks by their meaning, and the laws that every one keeps.
use Rattle.std.specs.Prelude.{◌≡◌, ℕ, ◌+◌, ◌-◌, ◌*◌, ◌%◌, ◌^◌, ◌<◌, ◌≤◌, Bool, true, false, cond, ◌&&◌, ◌||◌, ◌==◌, nat_lt}
use Rattle.algebra.specs.Digits.{pack, digit, total}
use Rattle.algebra.specs.Marks.{Mark, put, nonzero, weight}
use Rattle.algebra.specs.Symbols.{Symbols, Lawful}

-- a length, whether it is by weight, and which of two mark numbers ranks before the other
pub record MarkRanking : Type 0 where
  pub n : ℕ
  pub by_weight : Bool
  pub before : ℕ → ℕ → Bool

-- the mark with a added at place i
abbrev pub filled : Symbols → ℕ → ℕ → ℕ → ℕ → ℕ
filled S n u i a = put n u i (S.sum (digit u i) a)

-- The laws of every ranking, over the marks of every lawful alphabet; those of n places are the numbers below 4 ^ n.
pub record Ranks (R : MarkRanking) : Type 0 where
  pub least : 1 ≤ R.n
  pub most : R.n ≤ 24
  pub reads_its_places : (u v : ℕ) → R.before u v ≡ R.before (u % 4 ^ R.n) (v % 4 ^ R.n)
  pub never_both : (u v : ℕ) → R.before u v ≡ true → R.before v u ≡ false
  pub some_way : (u v : ℕ) → u < 4 ^ R.n → v < 4 ^ R.n → R.before u v ≡ false → R.before v u ≡ false → u ≡ v
  pub transitive : (u v w : ℕ) → R.before u v ≡ true → R.before v w ≡ true → R.before u w ≡ true
  pub zero_first : (u i a : ℕ) → u < 4 ^ R.n → i < R.n → digit u i ≡ 0 → 0 < a → a < 4 → R.before u (put R.n u i a) ≡ true
  pub filling_keeps : (S : Symbols) → Lawful S → (u v i a : ℕ) → Mark S R.n u → Mark S R.n v → R.before u v ≡ true
      → i < R.n → digit v i ≡ 0 → 0 < a → a < S.q → R.before (filled S R.n u i a) (filled S R.n v i a) ≡ true
  pub lighter_first : R.by_weight ≡ true → (u v : ℕ) → u < 4 ^ R.n → v < 4 ^ R.n → weight R.n u < weight R.n v → R.before u v ≡ true

-- the smaller first number ranks first, and where these are equal the smaller second
abbrev pub first : ℕ → ℕ → ℕ → ℕ → Bool
first a b u v = nat_lt a b || (a == b && nat_lt u v)

-- the sum over a mark's places of what each place makes of its symbol
abbrev pub measure : ℕ → (ℕ → ℕ → ℕ) → ℕ → ℕ
measure n share u = total n (λ i. share i (digit u i))

-- the smaller sum ranks first, then the smaller number
abbrev pub by_measure : ℕ → Bool → (ℕ → ℕ → ℕ) → MarkRanking
by_measure n by_weight share = record {
  n = n;
  by_weight = by_weight;
  before = λ u v. first (measure n share u) (measure n share v) (u % 4 ^ n) (v % 4 ^ n);
}

-- A place that holds 0 counts nothing, and one filled up at most what it held and what was added.
pub record Counts (n : ℕ) (share : ℕ → ℕ → ℕ) : Type 0 where
  pub nothing : (i : ℕ) → i < n → share i 0 ≡ 0
  pub at_most : (i s a t : ℕ) → i < n → t ≤ s + a → share i t ≤ share i s + share i a

-- the cost of a place, where its symbol is not 0
abbrev pub cost_share : (ℕ → ℕ) → ℕ → ℕ → ℕ
cost_share cost i d = nonzero d * cost i

abbrev pub cost_of : ℕ → (ℕ → ℕ) → ℕ → ℕ
cost_of n cost u = measure n (cost_share cost) u

abbrev pub by_cost : ℕ → Bool → (ℕ → ℕ) → MarkRanking
by_cost n by_weight cost = by_measure n by_weight (cost_share cost)

abbrev pub plain : ℕ → MarkRanking
plain n = by_cost n false (λ _. 0)

abbrev pub by_weight : ℕ → MarkRanking
by_weight n = by_cost n true (λ _. 1)

-- a mark turned end for end
abbrev pub mirrored : ℕ → ℕ → ℕ
mirrored n u = pack 4 n (λ i. digit u (n - 1 - i))

abbrev pub mirror : MarkRanking → MarkRanking
mirror R = record {
  n = R.n;
  by_weight = R.by_weight;
  before = λ u v. R.before (mirrored R.n u) (mirrored R.n v);
}

-- a mark with its erased places blanked; gone i is 1 for an erased place
abbrev pub wiped : ℕ → (ℕ → ℕ) → ℕ → ℕ
wiped n gone u = pack 4 n (λ i. cond (gone i == 0) (digit u i) 0)

abbrev pub erased : (ℕ → ℕ) → MarkRanking → MarkRanking
erased gone R = record {
  n = R.n;
  by_weight = R.by_weight && (total R.n gone == 0);
  before = λ u v. R.before (wiped R.n gone u) (wiped R.n gone v)
      || (wiped R.n gone u == wiped R.n gone v && nat_lt (u % 4 ^ R.n) (v % 4 ^ R.n));
}
