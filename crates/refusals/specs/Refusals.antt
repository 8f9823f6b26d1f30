-- What each refusal is listed under: its number, its layer and its place.
use Rattle.std.specs.Prelude.{ℕ, List, ◌++◌, codes, decimal}
use Rattle.refusals.specs.declared.Refusal.{Refusal}
use Rattle.refusals.specs.declared.Refusal.TheVariants.{CutOff, OtherTag, OtherLength, SymbolCount, Size, CheckSymbol, RuleByte, CostInFile, Surplus, RuleShape, CostInList, RuleOfOtherCode, FileTooShort, OtherCode, Amount, Scratch, MarkLength, MarkSymbol, Buffer, NotSettled, NotFinished, NotByWeight, TooHeavy, RunTooShort, OutOfRange, QueueFull}

pub record Listed : Type 0 where
  pub number : ℕ
  pub layer : ℕ
  pub place : ℕ

abbrev under : ℕ → ℕ → ℕ → Listed
under number layer place = record { number = number; layer = layer; place = place }

-- Layers: 1 fields, 2 file values, 3 rules, 4 the table, 5 the queue. A place is 0 unless one is given.
abbrev pub listed : Refusal → Listed
listed (CutOff at) = under 1 1 at
listed (OtherTag at) = under 2 1 at
listed (OtherLength at) = under 3 1 at
listed (SymbolCount at) = under 4 2 at
listed (Size at) = under 5 2 at
listed (CheckSymbol at) = under 6 2 at
listed (RuleByte at) = under 7 2 at
listed (CostInFile at) = under 8 2 at
listed (CostInList at) = under 8 3 at
listed (Surplus at) = under 9 1 at
listed OtherCode = under 10 4 0
listed RuleOfOtherCode = under 10 1 0
listed Amount = under 11 4 0
listed Scratch = under 12 4 0
listed MarkLength = under 13 4 0
listed (MarkSymbol at) = under 14 4 at
listed Buffer = under 15 4 0
listed NotSettled = under 16 4 0
listed NotFinished = under 17 4 0
listed NotByWeight = under 18 4 0
listed TooHeavy = under 19 4 0
listed RunTooShort = under 20 4 0
listed FileTooShort = under 20 1 0
listed OutOfRange = under 21 4 0
listed RuleShape = under 22 3 0
listed QueueFull = under 23 5 0

-- what is printed of a refusal
abbrev pub refused_text : Refusal → List ℕ
refused_text refusal =
    codes "refused " ++ (decimal (listed refusal).number ++ (codes " " ++ (decimal (listed refusal).layer ++ (codes " " ++ decimal (listed refusal).place))))
