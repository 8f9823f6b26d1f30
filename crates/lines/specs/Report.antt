-- The lines that a program reports, byte by byte and without the newline.
use Rattle.std.specs.Prelude.{ℕ, ◌+◌, cond, List, ◌++◌, map, codes, decimal, ◌==◌, nat_lt}
use Rattle.refusals.specs.Refusals.{refused_text}
use Rattle.refusals.specs.declared.Refusal.{Refusal}
use Rattle.lines.specs.declared.report.Report.{Report}
use Rattle.lines.specs.declared.report.Report.TheVariants.{Checked, Refused}

-- the digit of a symbol, or '?' where it has more than one
abbrev pub digit_of : ℕ → ℕ
digit_of symbol = cond (nat_lt symbol 10) (48 + symbol) 63

abbrev pub digits_of : List ℕ → List ℕ
digits_of symbols = map digit_of symbols

abbrev pub refused_line : ℕ → Refusal → List ℕ
refused_line line refusal = decimal line ++ (codes " " ++ refused_text refusal)

abbrev pub checks_refused : Refusal → List ℕ
checks_refused refusal = codes "checks " ++ refused_text refusal

abbrev pub table_line : ℕ → ℕ → ℕ → List ℕ → List ℕ
table_line q n r rule =
    codes "table " ++ (decimal q ++ (codes " " ++ (decimal n ++ (codes " " ++ (decimal r ++ (codes " " ++ rule))))))

abbrev pub verdict_of : ℕ → List ℕ
verdict_of number = cond (number == 0) (codes "lawful") (codes "unlawful")

abbrev pub checked_line : ℕ → ℕ → List ℕ → List ℕ
checked_line line number values =
    decimal line ++ (codes " " ++ (decimal number ++ (codes " " ++ (digits_of values ++ (codes " " ++ verdict_of number)))))

-- the text of a report, where `items` lists its check values
abbrev pub report_text : {V : Type 0} → (V → List ℕ) → Report V → List ℕ
report_text items (Checked line number values) = checked_line line number (items values)
report_text items (Refused line refusal) = refused_line line refusal
