-- What a code and a rule's description say, and what a file says of itself.
use Rattle.std.specs.Prelude.{◌≡◌, ℕ, ◌+◌, ◌*◌, cond, ◌&&◌, List, [], ◌∷◌, ◌++◌, map, length, take, drop, Some, None, Ok, Err, Option, Result, ◌==◌, nat_le}
use Rattle.std.specs.List.{range_with_len}
use Rattle.algebra.specs.Checks.{Checks}
use Rattle.refusals.specs.declared.Refusal.{Refusal}
use Rattle.refusals.specs.declared.Refusal.TheVariants.{RuleOfOtherCode, FileTooShort}
use Rattle.checkfile.specs.declared.code.Code.{Code}
use Rattle.checkfile.specs.declared.rule.FileRule.{FileRule}
use Rattle.checkfile.specs.Rules.{kind_of_rule, places_of, costs_of}
use Rattle.checkfile.specs.Symbols.{check_at}
use Rattle.checkfile.specs.declared.kind.Kind.TheVariants.{Plain}
use Rattle.checkfile.specs.Layout.{Content, Sound, layout, cost_field, kind_of, costs_under}
use Rattle.checkfile.specs.Tests.{first_refusal, tests, pair, count_at, places_at, rows_at, rule_at, cost_offset}

-- a code as a check table
abbrev pub checks_of : Code → Checks
checks_of code = record { n = code.sizes.places.n; r = code.sizes.r; check = check_at code.sizes.places.n code.sizes.r code.checks }

-- the content that a code and a rule give a file
abbrev pub content_of : Code → FileRule → Content
content_of code rule = record {
  q = code.sizes.q;
  n = code.sizes.places.n;
  r = code.sizes.r;
  checks = take (code.sizes.places.n * code.sizes.r) code.checks;
  kind = kind_of_rule rule;
  costs = costs_of rule;
}

-- the content that an accepted file has
abbrev pub content_at : List ℕ → Content
content_at file = record {
  q = count_at file;
  n = places_at file;
  r = rows_at file;
  checks = take (places_at file * rows_at file) (drop 12 file);
  kind = kind_of (rule_at file);
  costs = costs_under (kind_of (rule_at file)) (map (λ k. pair file (cost_offset file + 3 + 2 * k)) (range_with_len 0 (places_at file)));
}

-- what stands beside a refusal: one place of bits with the check symbol 0, under the plain rule
abbrev pub blank_content : Content
blank_content = record { q = 2; n = 1; r = 1; checks = 0 ∷ []; kind = Plain; costs = [] }

-- A file is accepted exactly if it is the layout of some sound content, and then that content is the answer.
pub record Read (file : List ℕ) (code : Code) (rule : FileRule) (refused : Option Refusal) : Type 0 where
  pub first_failing_test : refused ≡ first_refusal (tests file)
  pub accepted_is_a_layout : refused ≡ None → file ≡ layout (content_of code rule)
  pub accepted_is_sound : refused ≡ None → Sound (content_of code rule)
  pub accepted_rule_fits : refused ≡ None → places_of rule ≡ code.sizes.places.n
  pub every_layout_is_accepted : (c : Content) → Sound c → file ≡ layout c → (refused ≡ None) × (content_of code rule ≡ c)
  pub refused_is_blank : (e : Refusal) → refused ≡ Some e → (content_of code rule ≡ blank_content) × (places_of rule ≡ 1)

-- the field of a rule's costs
abbrev pub rule_costs : FileRule → List ℕ
rule_costs rule = cost_field (kind_of_rule rule) (costs_of rule)

-- What writing answers and leaves in the buffer: the layout in front of what lay past it, or a refusal and the buffer as it was.
abbrev pub write_answer : Code → FileRule → ℕ → Result ℕ Refusal
write_answer code rule room =
    cond (places_of rule == code.sizes.places.n)
    (cond (nat_le (length (layout (content_of code rule))) room) (Ok (length (layout (content_of code rule)))) (Err FileTooShort))
    (Err RuleOfOtherCode)

abbrev pub buffer_after : Code → FileRule → List ℕ → List ℕ
buffer_after code rule before =
    cond (places_of rule == code.sizes.places.n && nat_le (length (layout (content_of code rule))) (length before))
    (layout (content_of code rule) ++ drop (length (layout (content_of code rule))) before)
    before

-- reading what was written gives it back
abbrev pub ReadsBack : Code → FileRule → List ℕ → Result ℕ Refusal → Type 0
ReadsBack code rule after (Ok size) = (first_refusal (tests (take size after)) ≡ None) × (content_at (take size after) ≡ content_of code rule)
ReadsBack code rule after (Err refusal) = Unit {0}
