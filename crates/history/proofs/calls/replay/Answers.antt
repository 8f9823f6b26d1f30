use Rattle.std.proofs.Common.{◌≡◌, ◌+◌, min, get_or, sym, ◌∙◌, subst, arith}
use Rattle.std.proofs.lemmas.List.{get_or_default, length-set}
use Rattle.leaders.specs.Leaders.{coset_count}
use Rattle.table.specs.Records.{scheme_over}
use Rattle.table.specs.Tables.{scheme_of, settled_of}
use Rattle.table.proofs.Opening.{opened_proper}
use Rattle.table.proofs.Tables.{scheme_is}
use Rattle.history.specs.Histories.{growth_of, Made}
use Rattle.history.proofs.Turns.{settled_more, made_more, rest_more, whole_history}
use Rattle.history.proofs.calls.replay.Goals as goal

pub loop-i-preserved : goal.loop-i-preserved
loop-i-preserved g c =
    let T = scheme_over g.A.Alphabet.symbols c.args.code (g.R.Rule.ranks c.args.rule) in
    let table = c.loop-i.table in
    let after = c.make.new.table in
    let old = c.args.entries.now in
    let entries = c.loop-i.entries in
    let i = c.loop-i.i in
    let inv = c.loop-i.invariant in
    let said = c.make.ensures in
    let item = get_or entries i c.index-entries-i.result in
    let new = c.make.new.entry in
    let inside = c.loop-i-test.true in
    let same : scheme_of table ≡ T = scheme_is table c.args.code c.args.rule c.args.alphabet inv.over in
    let here : item ≡ get_or old i item = get_or_default entries i c.index-entries-i.result item (omega (arith, inv.long)) ∙ inv.rest i item (omega arith) in
    record {
      long = length-set entries i new ∙ inv.long;
      over = record {
        is_code = said.grown.subject.is_code ∙ inv.over.is_code;
        is_rule = said.grown.subject.is_rule ∙ inv.over.is_rule;
        is_alphabet = said.grown.subject.is_alphabet ∙ inv.over.is_alphabet;
      };
      settled = settled_more T old entries i item new inside here (settled_of table) (settled_of after) inv.settled
          (subst (λ U. settled_of after ≡ min (coset_count U) (settled_of table + growth_of U item)) same said.grown.count);
      made = made_more T old entries i item new inside here inv.long inv.made
          (subst (λ k. Made T k item new) inv.settled (subst (λ U. Made U (settled_of table) item new) same said.made));
      rest = rest_more T old entries i item new inside here inv.rest;
    }

pub returns-clause-history : goal.returns-clause-history
returns-clause-history g c = λ _.
    let S = g.A.Alphabet.symbols in
    let R = g.R.Rule.ranks c.args.rule in
    let none = sym c.open-table.ensures.refused ∙ c.in_default.is in
    whole_history (scheme_over S c.args.code R) (opened_proper S c.args.code R g.met.A.Alphabet.lawful (g.met.R.Rule.lawful c.args.rule) none)
    c.args.entries.now c.loop-i.entries c.loop-i.i (omega (arith, c.loop-i-test.false, c.loop-i.invariant.long)) c.loop-i.invariant.long c.loop-i.invariant.made
