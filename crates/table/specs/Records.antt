-- What the records of a table mean, from the scheme alone.
use Rattle.std.specs.Prelude.{◌≡◌, ℕ, ◌+◌, ◌<◌, ◌≤◌, cond, length, Some, None, Option, false, replicate, ◌==◌, nat_le, slice_index, slice_index_or, slice_set}
use Rattle.std.specs.Coded.{Coded-set, coded_ℕ, coded_bool, coded_option, le_prop}
use Rattle.algebra.specs.Rankings.{MarkRanking}
use Rattle.algebra.specs.Symbols.{Symbols}
use Rattle.checkfile.specs.Contents.{checks_of}
use Rattle.checkfile.specs.declared.code.Code.{Code}
use Rattle.leaders.specs.Leaders.{check_of, leaders, coset_count, leader_number}
use Rattle.leaders.specs.Schemes.{Scheme, MarkOf}
use Rattle.table.specs.declared.records.Records.{Records}

-- the scheme of an alphabet, a code and a rule
abbrev pub scheme_over : Symbols → Code → MarkRanking → Scheme
scheme_over S code R = record { symbols = S; checks = checks_of code; ranking = R }

-- nothing is settled
abbrev pub nothing_settled : Records
nothing_settled = record { settled = 0; finished = false; leaders = replicate 256 0; numbers = replicate 256 None }

-- the records with one more leader
abbrev pub recorded : Records → ℕ → ℕ → Records
recorded records leader check = record {
  settled = records.settled + 1;
  finished = records.finished;
  leaders = slice_set records.leaders records.settled leader;
  numbers = slice_set records.numbers check (Some (records.settled + 1));
}

-- The records say which leaders are settled: the first ones in rank.
pub record Settled (T : Scheme) (records : Records) : Type 0 where
  pub within : records.settled ≤ coset_count T
  pub most : records.settled ≤ 256
  pub long_leaders : length records.leaders ≡ 256
  pub long_numbers : length records.numbers ≡ 256
  pub leader : (j : ℕ) → j < records.settled → slice_index records.leaders j ≡ slice_index (leaders T) j
  pub number : (u : ℕ) → MarkOf T u → slice_index_or records.numbers (check_of T u) None ≡ cond (nat_le (leader_number T u) records.settled) (Some (leader_number T u)) None

-- What every table keeps.
pub record Kept (T : Scheme) (records : Records) : Type 0 where
  pub settled : Settled T records
  pub finished : records.finished ≡ (records.settled == coset_count T)

same_numbers : (m n : ℕ) → IsProp (m ≡ n)
same_numbers = Coded-set coded_ℕ

same_options : (a b : Option ℕ) → IsProp (a ≡ b)
same_options = Coded-set (coded_option coded_ℕ)

Settled-prop : (T : Scheme) (records : Records) → IsProp (Settled T records)
Settled-prop T records a b i = record {
  within = le_prop a.within b.within i;
  most = le_prop a.most b.most i;
  long_leaders = same_numbers _ _ a.long_leaders b.long_leaders i;
  long_numbers = same_numbers _ _ a.long_numbers b.long_numbers i;
  leader = λ j h. same_numbers _ _ (a.leader j h) (b.leader j h) i;
  number = λ u mark. same_options _ _ (a.number u mark) (b.number u mark) i;
}

-- a table keeps it in one way
pub Kept-prop : (T : Scheme) (records : Records) → IsProp (Kept T records)
Kept-prop T records a b i = record {
  settled = Settled-prop T records a.settled b.settled i;
  finished = Coded-set coded_bool _ _ a.finished b.finished i;
}
