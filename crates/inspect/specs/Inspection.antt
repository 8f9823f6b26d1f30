-- What is reported of a line: its check number and check values, or why it is no mark of the table.
use Rattle.std.specs.Prelude.{ℕ, cond, List, map, Ok, Err, Result, ◌==◌}
use Rattle.std.specs.List.{range_with_len}
use Rattle.algebra.specs.Checks.{Checks, check_value, check_number}
use Rattle.algebra.specs.Symbols.{Symbols, bits, thirds, quads}
use Rattle.lines.specs.Input.{symbol_of}
use Rattle.lines.specs.Report.{checked_line, refused_line}
use Rattle.marks.specs.Reading.{reading}
use Rattle.marks.specs.declared.mark.Mark.{Mark}
use Rattle.refusals.specs.declared.Refusal.{Refusal}

-- the alphabet of a code with q symbols
abbrev pub symbols_of : ℕ → Symbols
symbols_of q = cond (q == 2) bits (cond (q == 3) thirds quads)

abbrev pub values_of : Symbols → Checks → ℕ → List ℕ
values_of S C y = map (check_value S C y) (range_with_len 0 C.r)

abbrev pub reported : Symbols → Checks → ℕ → Result Mark Refusal → List ℕ
reported S C line (Ok mark) = checked_line line (check_number S C mark.number) (values_of S C mark.number)
reported S C line (Err refusal) = refused_line line refusal

abbrev pub inspected : Symbols → Checks → ℕ → List ℕ → List ℕ
inspected S C line characters = reported S C line (reading S C.n (map symbol_of characters))
