-- What a reader answers at each step, and what it finds.
use Rattle.std.specs.Prelude.{◌≡◌, ℕ, ◌+◌, ◌*◌, List, length, take, drop, Result}
use Rattle.rules.specs.declared.length.Length.{Length}
use Rattle.refusals.specs.declared.Refusal.{Refusal}
use Rattle.checkfile.specs.declared.fields.Field.{Field}
use Rattle.checkfile.specs.declared.fields.Reader.{Reader}
use Rattle.checkfile.specs.declared.kind.Kind.{Kind}
use Rattle.checkfile.specs.declared.kind.Kind.TheVariants as kinds
use Rattle.checkfile.specs.declared.lent.LentCosts.{LentCosts}
use Rattle.checkfile.specs.declared.lent.LentRule.{LentRule}
use Rattle.checkfile.specs.declared.lent.LentRule.TheVariants.{Plain, Weight, Cost}
use Rattle.checkfile.specs.declared.lent.LentTable.{LentTable}
use Rattle.checkfile.specs.declared.sizes.Sizes.{Sizes}
use Rattle.checkfile.specs.Layout.{kind_of}
use Rattle.checkfile.specs.Tests.{Test, Judged, byte}

-- A reader takes what stands next: it stays on its file, and where the tests there are passed, P tells what it answers and where it goes on.
pub record Reads {T : Type 0} (old new : Reader) (tests : List ℕ → ℕ → List Test) (P : List ℕ → ℕ → T → ℕ → Type 0) (r : Result T Refusal) : Type 0 where
  pub same_file : new.file.now ≡ old.file.now
  pub judged : Judged (tests old.file.now old.offset) (λ x. P old.file.now old.offset x new.offset) r

-- the contents of a field of that size that stands at an offset, and the offset past it
pub record FieldAt (size : ℕ) (file : List ℕ) (at : ℕ) (field : Field) (next : ℕ) : Type 0 where
  pub begins : field.offset ≡ at + 3
  pub part : field.contents.now ≡ take size (drop (at + 3) file)
  pub long : length field.contents.now ≡ size
  pub moves_on : next ≡ at + 3 + size

-- the sizes that stand in two fields at an offset, of which the first has four bytes and the second five, and the offset past them
pub record SizesAt (file : List ℕ) (at : ℕ) (sizes : Sizes) (next : ℕ) : Type 0 where
  pub count : sizes.q ≡ byte file (at + 3)
  pub places : sizes.places.n ≡ byte file (at + 4 + 3)
  pub rows : sizes.r ≡ byte file (at + 4 + 4)
  pub moves_on : next ≡ at + 4 + 5

-- the check table that stands at an offset, its symbols behind its sizes, and the offset past it
pub record TableAt (file : List ℕ) (at : ℕ) (table : LentTable) (next : ℕ) : Type 0 where
  pub sizes : SizesAt file at table.sizes (at + 4 + 5)
  pub part : table.symbols.now ≡ take (table.sizes.places.n * table.sizes.r) (drop (at + 4 + 5 + 3) file)
  pub moves_on : next ≡ at + 4 + 5 + 3 + table.sizes.places.n * table.sizes.r

abbrev pub kind_in : LentRule → Kind
kind_in (Plain places) = kinds.Plain
kind_in (Weight places) = kinds.Weight
kind_in (Cost costs) = kinds.Cost

abbrev pub places_in : LentRule → Length
places_in (Plain places) = places
places_in (Weight places) = places
places_in (Cost costs) = costs.places

-- the costs of so many places that stand in a field at an offset, and the offset past it
pub record PricesAt (places : Length) (file : List ℕ) (at : ℕ) (costs : LentCosts) (next : ℕ) : Type 0 where
  pub of_all : costs.places ≡ places
  pub part : costs.bytes.now ≡ take (2 * places.n) (drop (at + 3) file)
  pub moves_on : next ≡ at + 3 + 2 * places.n

-- the costs that a rule has in a field of their own
abbrev pub CostsAt : Length → List ℕ → ℕ → LentRule → ℕ → Type 0
CostsAt places file at (Plain _) next = Unit {0}
CostsAt places file at (Weight _) next = Unit {0}
CostsAt places file at (Cost costs) next = PricesAt places file at costs next

-- the rule of so many places that stands at an offset, with nothing past it
pub record RuleAt (places : Length) (file : List ℕ) (at : ℕ) (rule : LentRule) (next : ℕ) : Type 0 where
  pub kind : kind_in rule ≡ kind_of (byte file (at + 3))
  pub of_all : places_in rule ≡ places
  pub costs : CostsAt places file (at + 4) rule next
  pub ends : next ≡ length file
