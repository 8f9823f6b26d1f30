-- What holds of a table by what it stands over and keeps.
use Rattle.std.proofs.Common.{◌≡◌, ℕ, ◌∙◌, ap₂}
use Rattle.checkfile.specs.declared.code.Code.{Code}
use Rattle.marks.specs.declared.alphabet.Alphabet as alphabet
use Rattle.queue.specs.declared.ranking.Ranking as ranking
use Rattle.rules.specs.declared.rule.Rule as rule
use Rattle.table.specs.Records.{scheme_over, Kept, Kept-prop}
use Rattle.table.specs.Tables.{scheme_of, Over, SameSubject}
use Rattle.table.specs.declared.table.Table.{Table}

module _ {A R : Type 0} {a : alphabet.Ghosts A} {r : rule.Ghosts R} {k : ranking.Ghosts R ℕ} (table : Table A R a r k) where
  -- its scheme is that of its code and its rule
  pub scheme_is : (code : Code) (rule : R) (alphabet : A) → Over code rule alphabet table → scheme_of table ≡ scheme_over a.symbols code (r.ranks rule)
  scheme_is code rule alphabet over = ap₂ (λ code rule. scheme_over a.symbols code (r.ranks rule)) over.is_code over.is_rule

  -- it is the same with any proof of what it keeps
  pub same_table : (kept : Kept (scheme_of table) table.records)
      → ◌≡◌ {A = Table A R a r k} (record { alphabet = table.alphabet; rule = table.rule; code = table.code; records = table.records; kept = kept }) table
  same_table kept i = record { alphabet = table.alphabet; rule = table.rule; code = table.code; records = table.records; kept = Kept-prop (scheme_of table) table.records kept table.kept i }

module _ {A R : Type 0} {a : alphabet.Ghosts A} {r : rule.Ghosts R} {k : ranking.Ghosts R ℕ} where
  -- what a table corrects by stays over more calls than one
  pub same_then : (old mid new : Table A R a r k) → SameSubject old mid → SameSubject mid new → SameSubject old new
  same_then old mid new p q = record { is_code = q.is_code ∙ p.is_code; is_rule = q.is_rule ∙ p.is_rule; is_alphabet = q.is_alphabet ∙ p.is_alphabet }
