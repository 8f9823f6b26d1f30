-- What a mark of n symbols reads as.
use Rattle.std.specs.Prelude.{ℕ, suc, cond, ◌&&◌, List, length, Some, None, Ok, Err, Option, Result, ◌==◌, nat_le, position}
use Rattle.algebra.specs.Marks.{number_of}
use Rattle.algebra.specs.Symbols.{Symbols}
use Rattle.marks.specs.declared.mark.Mark.{Mark}
use Rattle.refusals.specs.declared.Refusal.{Refusal}
use Rattle.refusals.specs.declared.Refusal.TheVariants.{MarkLength, MarkSymbol}

-- the place, from 0, of the first byte that is no symbol
abbrev pub first_outside : ℕ → List ℕ → Option ℕ
first_outside q bytes = position (nat_le q) bytes

-- the mark that the bytes spell, where none is outside
abbrev pub unless_outside : List ℕ → Option ℕ → Result Mark Refusal
unless_outside bytes (Some place) = Err (MarkSymbol (suc place))
unless_outside bytes None = Ok (record { number = number_of bytes })

-- First the length is tested, then the symbols from the front. No mark has more than 32 places.
abbrev pub reading : Symbols → ℕ → List ℕ → Result Mark Refusal
reading S n bytes =
    cond (length bytes == n && nat_le n 32) (unless_outside bytes (first_outside S.q bytes)) (Err MarkLength)
