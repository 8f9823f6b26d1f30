use Rattle.std.proofs.Common.{◌≡◌, ℕ, ◌<◌, ◌≤◌, length, get_or}
use Rattle.table.specs.Records.{scheme_over}
use Rattle.table.specs.Tables.{settled_of, Over}
use Rattle.history.specs.Histories.{settled_at, Made}
use Rattle.history.specs.declared.entry.Entry.{Entry}
use Rattle.history.proofs.calls.replay.Given as goal

-- the calls before i are made, and those from i on are as they came
abbrev pub invariant-loop-i : goal.invariant-loop-i
invariant-loop-i g l =
    let T = scheme_over g.A.Alphabet.symbols l.fn.code (g.R.Rule.ranks l.fn.rule) in
    let old = l.initial.entries in record {
      long : length l.entries ≡ length old;
      over : Over l.fn.code l.fn.rule l.fn.alphabet l.table;
      settled : settled_of l.table ≡ settled_at T l.i old;
      made : (k : ℕ) (d : Entry) → k < l.i → Made T (settled_at T k old) (get_or old k d) (get_or l.entries k d);
      rest : (k : ℕ) (d : Entry) → l.i ≤ k → get_or l.entries k d ≡ get_or old k d;
    }
