-- The scheme of a subject.
use Rattle.leaders.specs.Schemes.{Scheme}
use Rattle.marks.specs.declared.alphabet.Alphabet as alphabet
use Rattle.queue.specs.declared.ranking.Ranking as ranking
use Rattle.rules.specs.declared.rule.Rule as rule
use Rattle.table.specs.Records.{scheme_over}
use Rattle.table.specs.declared.subject.Subject.{Subject}
use Rattle.std.specs.Prelude.{ℕ}

module _ {A R : Type 0} {a : alphabet.Ghosts A} {r : rule.Ghosts R} {k : ranking.Ghosts R ℕ} where
  abbrev pub scheme_of : Subject A R a r k → Scheme
  scheme_of subject = scheme_over a.symbols subject.checks.code.now (r.ranks subject.rule.now)
