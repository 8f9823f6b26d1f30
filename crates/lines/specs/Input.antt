-- The lines of an input, which end at byte 10, and the symbols of a line.
use Rattle.std.specs.Prelude.{◌≡◌, ℕ, cond, List, [], ◌∷◌, Some, None, Option, MatchOption, ◌==◌}
use Rattle.lines.specs.declared.input.Lines.{Lines}

-- the byte, put in front of the first line
abbrev pub on_first : ℕ → List (List ℕ) → List (List ℕ)
on_first byte [] = (byte ∷ []) ∷ []
on_first byte (line ∷ lines) = (byte ∷ line) ∷ lines

-- a 10 ends each line, or else the end of the bytes; no line follows the last 10
abbrev pub lines_of : List ℕ → List (List ℕ)
lines_of [] = []
lines_of (byte ∷ bytes) = cond (byte == 10) ([] ∷ lines_of bytes) (on_first byte (lines_of bytes))

-- the bytes before the first 10, or all
abbrev pub first_line : List ℕ → List ℕ
first_line [] = []
first_line (byte ∷ bytes) = cond (byte == 10) [] (byte ∷ first_line bytes)

-- the bytes after the first 10, or none
abbrev pub after_line : List ℕ → List ℕ
after_line [] = []
after_line (byte ∷ bytes) = cond (byte == 10) bytes (after_line bytes)

abbrev pub unread : Lines → List ℕ
unread lines = lines.rest.now

-- the line that is taken, if any byte is left
abbrev pub taken : List ℕ → Option (List ℕ)
taken [] = None
taken (byte ∷ bytes) = Some (first_line (byte ∷ bytes))

-- One call of `next`: the line that it gives, the bytes that it leaves, and so the lines.
pub record Takes (before : List ℕ) (given : Option (List ℕ)) (after : List ℕ) : Type 0 where
  pub line : given ≡ taken before
  pub left : after ≡ after_line before
  pub lines : MatchOption given (lines_of before ≡ []) (λ first. lines_of before ≡ first ∷ lines_of after)

-- '.' is 46, and '0' to '3' are 48 to 51; 4 is no symbol
abbrev pub symbol_of : ℕ → ℕ
symbol_of character =
    cond (character == 46) 0 (
    cond (character == 48) 0 (
    cond (character == 49) 1 (
    cond (character == 50) 2 (
    cond (character == 51) 3 4))))
