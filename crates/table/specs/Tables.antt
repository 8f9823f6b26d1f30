-- What a table means, and what its calls keep.
use Rattle.std.specs.Prelude.{◌≡◌, ℕ, ◌+◌, min, Option}
use Rattle.checkfile.specs.declared.code.Code.{Code}
use Rattle.leaders.specs.Leaders.{coset_count}
use Rattle.leaders.specs.Schemes.{Scheme}
use Rattle.marks.specs.declared.alphabet.Alphabet as alphabet
use Rattle.queue.specs.declared.ranking.Ranking as ranking
use Rattle.refusals.specs.declared.Refusal.{Refusal}
use Rattle.rules.specs.declared.rule.Rule as rule
use Rattle.table.specs.Answers.{open_refusal}
use Rattle.table.specs.Records.{scheme_over}
use Rattle.table.specs.declared.table.Table.{Table}

module _ {A R : Type 0} {a : alphabet.Ghosts A} {r : rule.Ghosts R} {k : ranking.Ghosts R ℕ} where
  -- the scheme of a table
  abbrev pub scheme_of : Table A R a r k → Scheme
  scheme_of table = scheme_over a.symbols table.code (r.ranks table.rule)

  -- how many leaders are settled
  abbrev pub settled_of : Table A R a r k → ℕ
  settled_of table = table.records.settled

  -- how the opening was refused, which grows repeat
  abbrev pub refusal_of : Table A R a r k → Option Refusal
  refusal_of table = open_refusal table.code (r.ranks table.rule).n a.symbols.q

  -- what a table stands over
  pub record Over (code : Code) (rule : R) (alphabet : A) (table : Table A R a r k) : Type 0 where
    pub is_code : table.code ≡ code
    pub is_rule : table.rule ≡ rule
    pub is_alphabet : table.alphabet ≡ alphabet

  -- a table's alphabet, rule and code never change
  abbrev pub SameSubject : Table A R a r k → Table A R a r k → Type 0
  SameSubject old new = Over old.code old.rule old.alphabet new

  -- so many more leaders are settled, or all that remain
  pub record Grown (amount : ℕ) (old new : Table A R a r k) : Type 0 where
    pub subject : SameSubject old new
    pub count : settled_of new ≡ min (coset_count (scheme_of old)) (settled_of old + amount)
