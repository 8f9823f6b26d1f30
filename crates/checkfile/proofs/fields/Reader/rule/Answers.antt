use Rattle.std.proofs.Common.{◌≡◌, ℕ, ◌+◌, ◌*◌, List, length, Result, Ok, refl, sym, ap, ◌∙◌, subst}
use Rattle.rules.specs.declared.length.Length.{Length}
use Rattle.refusals.specs.declared.Refusal.{Refusal}
use Rattle.checkfile.specs.declared.fields.Reader.{Reader}
use Rattle.checkfile.specs.declared.kind.Kind.{Kind}
use Rattle.checkfile.specs.declared.kind.Kind.TheVariants.{Cost}
use Rattle.checkfile.specs.declared.lent.LentCosts.{LentCosts}
use Rattle.checkfile.specs.declared.lent.LentRule.{LentRule}
use Rattle.checkfile.specs.Layout.{kind_of}
use Rattle.checkfile.specs.Steps.{Reads, PricesAt, RuleAt, CostsAt, kind_in, places_in}
use Rattle.checkfile.specs.Tests.{Test, byte, rule_tests, tail_tests, cost_tests, end_tests, last_tests}
use Rattle.checkfile.proofs.Stepping.{passed_on, refused_on, stops_here, stops_first, stops_then, follows}
use Rattle.checkfile.proofs.fields.Reader.rule.Goals as goal
use Rattle.checkfile.proofs.fields.Reader.rule.Goals.{in-Plain, in-Weight, in-Cost+in_ok-costs-in-Cost}

pub returns-in_err-kind : goal.returns-in_err-kind
returns-in_err-kind c = stops_first _ _ c.in_err-kind.ensures c.from_residual.ensures.1

-- what the rule's own field and that of its costs tell
abbrev KindAt : List ℕ → ℕ → Kind → ℕ → Type 0
KindAt file at kind next = (kind ≡ kind_of (byte file (at + 3))) × (next ≡ at + 4)

-- the end after a rule that has no costs
free_end : {old last : Reader} (places : Length) {kind : Kind} {r : Result LentRule Refusal} → Reads old last rule_tests KindAt (Ok kind) → tail_tests old.file.now (old.offset + 4) places.n kind ≡ end_tests old.file.now (old.offset + 4)
    → Reads last last end_tests (λ _ _ y _. RuleAt places old.file.now old.offset y last.offset) r → Reads old last (λ file at. last_tests file at places.n) (RuleAt places) r
free_end {old = old} places s free t =
    follows end_tests (λ file at. tail_tests file (at + 4) places.n (kind_of (byte file (at + 3)))) s s.judged.1.1 (sym free ∙ ap (tail_tests old.file.now (old.offset + 4) places.n) s.judged.1.0) t (λ y h. h)

-- the end after a rule's costs
paid_end : {old mid last : Reader} (places : Length) {kind : Kind} {costs : LentCosts} {r : Result LentRule Refusal} → Reads old mid rule_tests KindAt (Ok kind) → kind ≡ Cost
    → Reads mid last (λ file at. cost_tests file at places.n) (PricesAt places) (Ok costs)
    → Reads last last end_tests (λ _ _ y _. RuleAt places old.file.now old.offset y last.offset) r → Reads old last (λ file at. last_tests file at places.n) (RuleAt places) r
paid_end {old = old} {last = last} places s e u t =
    follows (λ file at. tail_tests file at places.n Cost) (λ file at. tail_tests file (at + 4) places.n (kind_of (byte file (at + 3)))) s s.judged.1.1
    (ap (tail_tests old.file.now (old.offset + 4) places.n) (sym e ∙ s.judged.1.0))
    (follows {R = λ _ _ y _. RuleAt places old.file.now old.offset y last.offset} end_tests (λ file at. end_tests file (at + 3 + 2 * places.n)) u u.judged.1.moves_on refl t (λ y h. h)) (λ y h. h)

pub returns-in_err-costs-in-Cost : goal.returns-in_err-costs-in-Cost
returns-in_err-costs-in-Cost c =
    let s = c.in_ok-kind.ensures in
    let places = c.args.places in
    stops_then (λ file at. tail_tests file at places.n Cost) _ s s.judged.1.1 (ap (tail_tests c.args.self.now.file.now (c.args.self.now.offset + 4) places.n) (sym c.in-Cost.is ∙ s.judged.1.0))
    (stops_first (λ file at. cost_tests file at places.n) (λ file at. end_tests file (at + 3 + 2 * places.n)) c.in_err-costs-in-Cost.ensures refl) c.from_residual-in_err-costs-in-Cost.ensures.1

-- a step of a reader, by another name of where it left it
moved : {T : Type 0} {old new new' : Reader} {tests : List ℕ → ℕ → List Test} {P : List ℕ → ℕ → T → ℕ → Type 0} {r : Result T Refusal} → new' ≡ new → Reads old new tests P r → Reads old new' tests P r
moved {old = old} {tests = tests} {P = P} {r = r} e s = subst (λ m. Reads old m tests P r) (sym e) s

pub returns-in_err-end : goal.returns-in_err-end
returns-in_err-end c =
    let s = c.in_ok-kind.ensures in
    let places = c.args.places in
    let at = c.args.self.now.offset + 4 in
    let file = c.args.self.now.file.now in
    stops_here _ c.from_residual-in_err-end.ensures.1
    (elim c.match-branch-2.branch [
      | in-Plain w ↦ free_end places (moved w.self-is s) (ap (tail_tests file at places.n) w.in-Plain.is) (refused_on c.in_err-end.ensures)
      | in-Weight w ↦ free_end places (moved w.self-is s) (ap (tail_tests file at places.n) w.in-Weight.is) (refused_on c.in_err-end.ensures)
      | in-Cost+in_ok-costs-in-Cost w ↦ paid_end places s w.in-Cost.is (moved w.self-is w.in_ok-costs-in-Cost.ensures) (refused_on c.in_err-end.ensures)
    ])

pub returns : goal.returns
returns c =
    let s = c.in_ok-kind.ensures in
    let places = c.args.places in
    let at = c.args.self.now.offset + 4 in
    let file = c.args.self.now.file.now in
    let end = c.in_ok-end.ensures in
    elim c.match-branch-2.branch [
      | in-Plain w ↦
          let t = moved w.self-is s in
          free_end places t (ap (tail_tests file at places.n) w.in-Plain.is)
          (passed_on end (λ h. record { kind = ap kind_in w.rule-is ∙ sym w.in-Plain.is ∙ s.judged.1.0; of_all = ap places_in w.rule-is; costs = subst (λ r. CostsAt places file at r c.match-branch-2.self.offset) (sym w.rule-is) tt; ends = h ∙ ap length t.same_file }))
      | in-Weight w ↦
          let t = moved w.self-is s in
          free_end places t (ap (tail_tests file at places.n) w.in-Weight.is)
          (passed_on end (λ h. record { kind = ap kind_in w.rule-is ∙ sym w.in-Weight.is ∙ s.judged.1.0; of_all = ap places_in w.rule-is; costs = subst (λ r. CostsAt places file at r c.match-branch-2.self.offset) (sym w.rule-is) tt; ends = h ∙ ap length t.same_file }))
      | in-Cost+in_ok-costs-in-Cost w ↦
          let t = moved w.self-is w.in_ok-costs-in-Cost.ensures in
          let costs = t.judged.1 in
          paid_end places s w.in-Cost.is t
          (passed_on end (λ h. record {
            kind = ap kind_in w.rule-is ∙ sym w.in-Cost.is ∙ s.judged.1.0;
            of_all = ap places_in w.rule-is ∙ costs.of_all;
            costs = subst (λ r. CostsAt places file at r c.match-branch-2.self.offset) (sym w.rule-is) record { of_all = costs.of_all; part = cc (costs.part, s.same_file, s.judged.1.1); moves_on = cc (costs.moves_on, s.judged.1.1) };
            ends = h ∙ ap length (t.same_file ∙ s.same_file);
          }))
    ]
