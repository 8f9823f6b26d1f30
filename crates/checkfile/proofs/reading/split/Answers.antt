use Rattle.std.proofs.Common.{◌≡◌, ℕ, ◌+◌, ◌*◌, List, ◌++◌, None, Option, subst, sym, ap, ◌∙◌, ap₂, append_assoc}
use Rattle.refusals.specs.declared.Refusal.{Refusal}
use Rattle.checkfile.specs.declared.lent.LentTable.{LentTable}
use Rattle.checkfile.specs.Steps.{TableAt, RuleAt}
use Rattle.checkfile.specs.Tests.{first_refusal, tests, table_tests, last_tests, places_at, rule_offset}
use Rattle.checkfile.proofs.FirstRefusal.{first_here, first_later, judged_err}
use Rattle.checkfile.proofs.Stepping.{read_at}
use Rattle.checkfile.proofs.reading.split.Goals as goal

-- a table's tests, and those of what stands behind it
tests_parts : (file : List ℕ) → tests file ≡ table_tests file 0 ++ last_tests file (rule_offset file) (places_at file)
unfolding tests
tests_parts file = simp append_assoc

-- where a table ends
behind_table : (file : List ℕ) (table : LentTable) (next : ℕ) → TableAt file 0 table next → next ≡ rule_offset file
behind_table file table next t = t.moves_on ∙ ap₂ (λ n r. 12 + n * r) t.sizes.places t.sizes.rows

-- after a table that passes its tests, those of the rest decide
later : (file : List ℕ) (n : ℕ) (x : Option Refusal) → first_refusal (table_tests file 0) ≡ None → n ≡ places_at file → first_refusal (last_tests file (rule_offset file) n) ≡ x → first_refusal (tests file) ≡ x
later file n x h e k =
    ap first_refusal (tests_parts file) ∙ first_later (table_tests file 0) (last_tests file (rule_offset file) (places_at file)) h
    ∙ ap (λ m. first_refusal (last_tests file (rule_offset file) m)) (sym e) ∙ k

pub returns-in_err-table : goal.returns-in_err-table
returns-in_err-table c =
    let file = c.args.file.now in
    let t = read_at file 0 c.in_err-table.ensures c.new-reader.ensures.0 c.new-reader.ensures.1 in
    judged_err (tests file) _ _ _ c.from_residual.ensures.1
    (ap first_refusal (tests_parts file) ∙ first_here (table_tests file 0) (last_tests file (rule_offset file) (places_at file)) _ t.1)

pub returns-in_err-rule : goal.returns-in_err-rule
returns-in_err-rule c =
    let file = c.args.file.now in
    let t = read_at file 0 c.in_ok-table.ensures c.new-reader.ensures.0 c.new-reader.ensures.1 in
    let r = read_at file (rule_offset file) c.in_err-rule.ensures t.0 (behind_table file _ _ t.1.1) in
    judged_err (tests file) _ _ _ c.from_residual-in_err-rule.ensures.1 (later file _ _ t.1.0 t.1.1.sizes.places r.1)

pub returns : goal.returns
returns c =
    let file = c.args.file.now in
    let t = read_at file 0 c.in_ok-table.ensures c.new-reader.ensures.0 c.new-reader.ensures.1 in
    let place = behind_table file _ _ t.1.1 in
    let r = read_at file (rule_offset file) c.in_ok-rule.ensures t.0 place in
    (later file _ _ t.1.0 t.1.1.sizes.places r.1.0, (subst (TableAt file 0 c.in_ok-table.table) place t.1.1, subst (RuleAt c.in_ok-table.table.sizes.places file (rule_offset file) c.in_ok-rule.rule) r.1.1.ends r.1.1))
