-- A check table file, byte for byte, from what it says.
use Rattle.std.specs.Prelude.{◌≡◌, ℕ, zero, suc, ◌+◌, ◌-◌, ◌*◌, ◌/◌, ◌%◌, ◌^◌, ◌<◌, ◌≤◌, Bool, ◌&&◌, List, [], ◌∷◌, ◌++◌, length, take, drop, nat_le, slice_index}
use Rattle.std.specs.List.{flat_map}
use Rattle.checkfile.specs.declared.kind.Kind.{Kind}
use Rattle.checkfile.specs.declared.kind.Kind.TheVariants.{Plain, Weight, Cost}

pub record Content : Type 0 where
  pub q : ℕ
  pub n : ℕ
  pub r : ℕ
  pub checks : List ℕ
  pub kind : Kind
  pub costs : List ℕ

abbrev pub kind_byte : Kind → ℕ
kind_byte Plain = 1
kind_byte Weight = 2
kind_byte Cost = 3

abbrev pub is_kind : ℕ → Bool
is_kind byte = nat_le 1 byte && nat_le byte 3

-- the kind that such a byte stands for
abbrev pub kind_of : ℕ → Kind
kind_of zero = Plain
kind_of (suc zero) = Plain
kind_of (suc (suc zero)) = Weight
kind_of (suc (suc (suc b))) = Cost

-- the costs that a rule of that kind has
abbrev pub costs_under : Kind → List ℕ → List ℕ
costs_under Plain costs = []
costs_under Weight costs = []
costs_under Cost costs = costs

-- two bytes, the high one first
abbrev pub two_bytes : ℕ → List ℕ
two_bytes x = x / 256 ∷ (x % 256 ∷ [])

abbrev pub field : ℕ → List ℕ → List ℕ
field tag contents = tag ∷ (two_bytes (length contents) ++ contents)

-- only costs have a field of their own
abbrev pub cost_field : Kind → List ℕ → List ℕ
cost_field Plain costs = []
cost_field Weight costs = []
cost_field Cost costs = field 5 (flat_map two_bytes costs)

abbrev pub layout : Content → List ℕ
layout c =
    field 1 (c.q ∷ [])
    ++ (field 2 (c.n ∷ (c.r ∷ []))
    ++ (field 3 c.checks
    ++ (field 4 (kind_byte c.kind ∷ [])
    ++ cost_field c.kind c.costs)))

-- the costs of a rule with that many places: none unless the rule is by cost
abbrev pub CostsOf : Kind → ℕ → List ℕ → Type 0
CostsOf Plain n costs = costs ≡ []
CostsOf Weight n costs = costs ≡ []
CostsOf Cost n costs = (length costs ≡ n) × ((k : ℕ) → slice_index costs k ≤ 1000)

-- what a file may say
pub record Sound (c : Content) : Type 0 where
  pub least_q : 2 ≤ c.q
  pub most_q : c.q ≤ 4
  pub least_n : 1 ≤ c.n
  pub most_n : c.n * (c.q - 1) ≤ 24
  pub least_r : 1 ≤ c.r
  pub most_r : c.q ^ c.r ≤ 256
  pub table : length c.checks ≡ c.n * c.r
  pub symbols : (k : ℕ) → k < c.n * c.r → slice_index c.checks k < c.q
  pub costs : CostsOf c.kind c.n c.costs

-- bytes put into a buffer at an offset, and the offset past them
pub record Put (bytes : List ℕ) (at : ℕ) (before after : List ℕ) (next : ℕ) : Type 0 where
  pub moves_on : next ≡ at + length bytes
  pub front : take next after ≡ take at before ++ bytes
  pub back : drop next after ≡ drop next before
