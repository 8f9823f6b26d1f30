-- What bytes and words stand for a kind of rule.
use Rattle.std.specs.Prelude.{◌≡◌, ℕ, true, false, List, Result, MatchResult, codes}
use Rattle.checkfile.specs.declared.kind.Kind.{Kind}
use Rattle.checkfile.specs.declared.kind.Kind.TheVariants.{Plain, Weight, Cost}
use Rattle.checkfile.specs.declared.kind.UnknownKind.{UnknownKind}
use Rattle.checkfile.specs.Layout.{is_kind, kind_of}

-- the word by which a report names a kind
abbrev pub kind_name : Kind → List ℕ
kind_name Plain = codes "plain"
kind_name Weight = codes "weight"
kind_name Cost = codes "cost"

-- a byte is of a kind, or is answered as one of none
abbrev pub Decodes : ℕ → Result Kind UnknownKind → Type 0
Decodes byte r = MatchResult r (λ kind. (is_kind byte ≡ true) × (kind ≡ kind_of byte)) (λ e. (is_kind byte ≡ false) × (e.0 ≡ byte))
