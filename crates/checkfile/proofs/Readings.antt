-- A code and a rule made from what an accepted file says have that file's content.
use Rattle.std.proofs.Common.{◌≡◌, ℕ, ◌+◌, ◌*◌, ◌<◌, List, [], ◌∷◌, map, length, get_or, take, drop, Some, None, sym, refl, ap, ◌∙◌, subst, ap₂, arith}
use Rattle.std.specs.List.{range_with_len}
use Rattle.std.proofs.lemmas.List.FromFn.{fill_by_all, get_or-map-range_with_len, length-map-range_with_len}
use Rattle.refusals.specs.declared.Refusal.{Refusal}
use Rattle.checkfile.specs.declared.code.Code.{Code}
use Rattle.checkfile.specs.declared.kind.Kind.TheVariants as kinds
use Rattle.checkfile.specs.declared.lent.LentRule.{LentRule}
use Rattle.checkfile.specs.declared.lent.LentRule.TheVariants as lent
use Rattle.checkfile.specs.declared.lent.LentTable.{LentTable}
use Rattle.checkfile.specs.declared.rule.FileRule.{FileRule}
use Rattle.checkfile.specs.declared.rule.FileRule.TheVariants.{Plain, Weight, Cost}
use Rattle.rules.specs.declared.length.Length.{Length}
use Rattle.checkfile.specs.Contents.{content_of, content_at, blank_content, Read}
use Rattle.checkfile.specs.Layout.{Content, Sound, layout, costs_under}
use Rattle.checkfile.specs.Making.{MadeOf}
use Rattle.checkfile.specs.Rules.{kind_of_rule, places_of, costs_of}
use Rattle.checkfile.specs.Steps.{TableAt, RuleAt, CostsAt, kind_in, places_in}
use Rattle.checkfile.specs.Tests.{first_refusal, tests, pair, rule_offset, cost_offset}
use Rattle.checkfile.proofs.Layouts.{accepted, layouts_accepted}
use Rattle.checkfile.proofs.FirstRefusal.{contents_pair}

content_same : (c d : Content) → c.q ≡ d.q → c.n ≡ d.n → c.r ≡ d.r → c.checks ≡ d.checks → c.kind ≡ d.kind → c.costs ≡ d.costs → c ≡ d
content_same c d q n r checks kind costs = λ i. record { q = q i; n = n i; r = r i; checks = checks i; kind = kind i; costs = costs i }

same_maps : (f g : ℕ → ℕ) (n : ℕ) → ((k : ℕ) → k < n → f k ≡ g k) → map f (range_with_len 0 n) ≡ map g (range_with_len 0 n)
same_maps f g n h =
    fill_by_all g (map f (range_with_len 0 n)) n 0 (length-map-range_with_len f 0 n) (λ k l. get_or-map-range_with_len f 0 n k k 0 l (omega arith) ∙ h k l)

-- a rule that is made of what a file names has that kind, as many places, and the costs that stand in the file
rule_made : (places : Length) (file : List ℕ) (at next : ℕ) (lent : LentRule) (rule : FileRule) → MadeOf lent rule → places_in lent ≡ places → CostsAt places file at lent next
    → (kind_of_rule rule ≡ kind_in lent) × (places_of rule ≡ places.n)
    × (costs_of rule ≡ costs_under (kind_in lent) (map (λ k. pair file (at + 3 + 2 * k)) (range_with_len 0 places.n)))
rule_made places file at next (lent.Plain p) (Plain rule) m e h = (refl, ap (λ z. z.n) (m ∙ e), refl)
rule_made places file at next (lent.Plain p) (Weight rule) m e h = elim m [ ]
rule_made places file at next (lent.Plain p) (Cost rule) m e h = elim m [ ]
rule_made places file at next (lent.Weight p) (Plain rule) m e h = elim m [ ]
rule_made places file at next (lent.Weight p) (Cost rule) m e h = elim m [ ]
rule_made places file at next (lent.Cost costs) (Plain rule) m e h = elim m [ ]
rule_made places file at next (lent.Cost costs) (Weight rule) m e h = elim m [ ]
rule_made places file at next (lent.Weight p) (Weight rule) m e h = (refl, ap (λ z. z.n) (m ∙ e), refl)
rule_made places file at next (lent.Cost costs) (Cost rule) m e h = (
  refl,
  m.places ∙ ap (λ z. z.n) e,
  ap (λ n. take n rule.measure.costs) m.places ∙ m.items
      ∙ ap (λ z. map (λ k. pair costs.bytes.now (2 * k)) (range_with_len 0 z.n)) e
      ∙ same_maps _ _ places.n (λ k l. contents_pair file costs.bytes.now at places.n k h.part l),
)

module _ (file : List ℕ) (table : LentTable) (lent : LentRule) (here : TableAt file 0 table (rule_offset file)) (behind : RuleAt table.sizes.places file (rule_offset file) lent (length file)) (code : Code) (rule : FileRule)
    (made : (code.sizes ≡ table.sizes) × (take (code.sizes.places.n * code.sizes.r) code.checks ≡ table.symbols.now)) (of : MadeOf lent rule) where
  pub read_content : content_of code rule ≡ content_at file
  read_content =
      let s = here.sizes in
      let r = rule_made table.sizes.places file (cost_offset file) (length file) lent rule of behind.of_all behind.costs in
      content_same (content_of code rule) (content_at file) (ap (λ z. z.q) made.0 ∙ s.count) (ap (λ z. z.places.n) made.0 ∙ s.places) (ap (λ z. z.r) made.0 ∙ s.rows)
      (made.1 ∙ here.part ∙ ap₂ (λ a b. take (a * b) (drop 12 file)) s.places s.rows)
      (r.0 ∙ behind.kind)
      (r.2 ∙ ap₂ (λ k m. costs_under k (map (λ j. pair file (cost_offset file + 3 + 2 * j)) (range_with_len 0 m))) behind.kind s.places)

  pub read_accepted : ((k : ℕ) → get_or file k 0 < 256) → first_refusal (tests file) ≡ None → Read file code rule None
  read_accepted bytes passed =
      let content = accepted file bytes passed in
      let r = rule_made table.sizes.places file (cost_offset file) (length file) lent rule of behind.of_all behind.costs in
      record {
        first_failing_test = sym passed;
        accepted_is_a_layout = λ _. content.1 ∙ ap layout (sym read_content);
        accepted_is_sound = λ _. subst Sound (sym read_content) content.0;
        accepted_rule_fits = λ _. r.1 ∙ sym (ap (λ z. z.places.n) made.0);
        every_layout_is_accepted = λ c sound e. (refl, read_content ∙ ap content_at e ∙ (layouts_accepted c sound).1);
        refused_is_blank = λ e h. absurd (let z : ◌≡◌ {A = ℕ} 0 1 = cc in omega arith);
      }

-- a rule that needs no costs
free_made : (places : Length) (rule : FileRule) → MadeOf (lent.Plain places) rule → (kind_of_rule rule ≡ kinds.Plain) × (costs_of rule ≡ []) × (places_of rule ≡ places.n)
free_made places (Plain rule) m = (refl, refl, ap (λ z. z.n) m)
free_made places (Weight rule) m = elim m [ ]
free_made places (Cost rule) m = elim m [ ]

pub read_refused : (file : List ℕ) (refusal : Refusal) (code : Code) (rule : FileRule) → first_refusal (tests file) ≡ Some refusal
    → (code.sizes.q ≡ 2) × (code.sizes.places.n ≡ 1) × (code.sizes.r ≡ 1) × (take (code.sizes.places.n * code.sizes.r) code.checks ≡ 0 ∷ [])
    → (places : Length) → places.n ≡ 1 → MadeOf (lent.Plain places) rule
    → Read file code rule (Some refusal)
read_refused file refusal code rule failed made places one of = let free = free_made places rule of in record {
  first_failing_test = sym failed;
  accepted_is_a_layout = λ h. absurd (not_none h);
  accepted_is_sound = λ h. absurd (not_none h);
  accepted_rule_fits = λ h. absurd (not_none h);
  every_layout_is_accepted = λ c sound e. absurd (not_none (sym failed ∙ ap (λ f. first_refusal (tests f)) e ∙ (layouts_accepted c sound).0));
  refused_is_blank = λ e h. (
    content_same (content_of code rule) blank_content made.0 made.1 made.2
        made.3
        free.0
        free.1,
    free.2 ∙ one,
  );
}
  where
    not_none : Some refusal ≡ None → ⊥
    not_none h = let z : ◌≡◌ {A = ℕ} 0 1 = cc in omega arith
