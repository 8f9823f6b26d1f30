-- One call of a history: what it answers and leaves, put together from the table's own promises.
use Rattle.std.proofs.Common.{◌≡◌, ℕ, Bool, true, false, cond, ◌&&◌, leb, ◌⊎◌, List, length, is_ok, Some, None, Ok, Err, vec_items, vec_len, Option, Result, sym, refl, ap, ◌∙◌, subst, ap₂, inl, inr, arith}
use Rattle.std.specs.Vec.{with_items}
use Rattle.std.proofs.lemmas.List.{with_items_is}
use Rattle.leaders.specs.Schemes.{Scheme}
use Rattle.marks.specs.declared.alphabet.Alphabet as alphabet
use Rattle.queue.specs.declared.ranking.Ranking as ranking
use Rattle.refusals.specs.declared.Refusal.{Refusal}
use Rattle.refusals.specs.declared.Refusal.TheVariants.{Amount, Scratch}
use Rattle.rules.specs.declared.rule.Rule as rule
use Rattle.table.specs.Answers.{unless_refused, growth, scratch_size, grow_answer, accepted, find_answer, written, correction_of, corrected_of}
use Rattle.table.specs.Tables.{scheme_of, Grown}
use Rattle.table.specs.declared.table.Table.{Table}
use Rattle.history.specs.Histories.{answered, growth_by, growth_of, found, Done, Made}
use Rattle.history.specs.declared.entry.Answer.{Answer}
use Rattle.history.specs.declared.entry.Answer.TheVariants.{Grown as Grew, Found}
use Rattle.history.specs.declared.entry.Call.{Call}
use Rattle.history.specs.declared.entry.Call.TheVariants.{Grow, Find}
use Rattle.history.specs.declared.entry.Entry.{Entry}

growth_accepted : (T : Scheme) (amount room : ℕ) → growth (grow_answer T amount room) amount ≡ accepted T amount room
growth_accepted T amount room = go (leb amount 256) (leb (scratch_size T) room)
  where
    go : (few enough : Bool) → growth (cond few (cond enough (Ok tt) (Err Scratch)) (Err Amount)) amount ≡ cond (few && enough) amount 0
    go true true = refl
    go true false = refl
    go false enough = refl

-- grow, on the slice that the entry's memory gives
module _ (T : Scheme) (amount : ℕ) (entry : Entry) (scratch : List ℕ) (is : scratch ≡ vec_items entry.scratch) (long : length scratch ≡ vec_len entry.scratch)
    (refused : Option Refusal) (opened : refused ≡ None) (r : Result (Unit {0}) Refusal) (answers : r ≡ unless_refused refused (grow_answer T amount (length scratch))) where
  same : r ≡ grow_answer T amount (length scratch)
  same = answers ∙ ap (λ o. unless_refused o (grow_answer T amount (length scratch))) opened

  pub grow_amount : growth r amount ≡ accepted T amount (vec_len entry.scratch)
  grow_amount = ap (λ x. growth x amount) same ∙ growth_accepted T amount (length scratch) ∙ ap (accepted T amount) long

  pub grow_done : (k : ℕ) (scratch' : List ℕ) (answer : Result Answer Refusal) → length scratch' ≡ length scratch → (is_ok r ≡ false → scratch' ≡ scratch) → answer ≡ answered (λ _. Grew) r
      → Done T k (Grow amount) entry (record { call = entry.call; mark = entry.mark; first = entry.first; second = entry.second; scratch = with_items entry.scratch scratch'; answer = entry.answer }) answer
  grow_done k scratch' answer kept stays a = record {
    is = a ∙ ap (answered (λ _. Grew)) (same ∙ ap (grow_answer T amount) long);
    call_stays = refl;
    mark_stays = refl;
    first = refl;
    second = refl;
    scratch = free r refl;
  }
    where
      free : (x : Result (Unit {0}) Refusal) → r ≡ x → (grow_answer T amount (length (vec_items entry.scratch)) ≡ Ok tt) ⊎ (vec_items (with_items entry.scratch scratch') ≡ vec_items entry.scratch)
      free (Ok x) p = inl (ap (λ s. grow_answer T amount (length s)) (sym is) ∙ sym same ∙ p)
      free (Err x) p = inr (with_items_is entry.scratch scratch' (kept ∙ long) ∙ stays (ap is_ok p) ∙ is)

-- find, on the slices that the entry's memory gives
module _ (T : Scheme) (k : ℕ) (entry : Entry) (mark first second first' second' : List ℕ) (r : Result ℕ Refusal) (answer : Result Answer Refusal)
    (mark-is : mark ≡ vec_items entry.mark) (first-is : first ≡ vec_items entry.first) (second_is : second ≡ vec_items entry.second)
    (first-long : length first ≡ vec_len entry.first) (second-long : length second ≡ vec_len entry.second)
    (first-kept : length first' ≡ length first) (second-kept : length second' ≡ length second) where
  pub find_done : r ≡ find_answer T k mark (length first) (length second) → first' ≡ written T r (correction_of T mark) first → second' ≡ written T r (corrected_of T mark) second
      → answer ≡ answered Found r
      → Done T k Find entry (record { call = entry.call; mark = entry.mark; first = with_items entry.first first'; second = with_items entry.second second'; scratch = entry.scratch; answer = entry.answer }) answer
  find_done e p q a = record {
    is = a ∙ ap (answered Found) same;
    call_stays = refl;
    mark_stays = refl;
    first = with_items_is entry.first first' (first-kept ∙ first-long) ∙ p ∙ ap₂ (λ x y. written T x (correction_of T y) first) same mark-is ∙ ap (written T (found T k entry) (correction_of T (vec_items entry.mark))) first-is;
    second = with_items_is entry.second second' (second-kept ∙ second-long) ∙ q ∙ ap₂ (λ x y. written T x (corrected_of T y) second) same mark-is ∙ ap (written T (found T k entry) (corrected_of T (vec_items entry.mark))) second_is;
    scratch = refl;
  }
    where
      same : r ≡ found T k entry
      same = e ∙ ap (λ x. find_answer T k x (length first) (length second)) mark-is ∙ ap₂ (find_answer T k (vec_items entry.mark)) first-long second-long

-- The call that the entry asks for, made as `call` with the memory as `mid` and the answer as `answer`, which are what this way
-- through the calls left.
module _ (T : Scheme) (k : ℕ) (call : Call) (entry mid there : Entry) (answer given : Result Answer Refusal) (is : entry.call ≡ call) (mid_is : there ≡ mid) (answer_is : given ≡ answer) where
  pub call_made : Done T k call entry mid answer
      → Made T k entry (record { call = there.call; mark = there.mark; first = there.first; second = there.second; scratch = there.scratch; answer = Some given })
  call_made done =
      let own = subst (λ x. Done T k x entry there given) (sym is) (subst (λ x. Done T k call entry x given) (sym mid_is) (subst (Done T k call entry mid) (sym answer_is) done)) in record {
        answer = ap Some own.is;
        call_stays = own.call_stays;
        mark_stays = own.mark_stays;
        first = own.first;
        second = own.second;
        scratch = own.scratch;
      }

module _ {A R : Type 0} {a : alphabet.Ghosts A} {r : rule.Ghosts R} {k : ranking.Ghosts R ℕ} (old new there : Table A R a r k) (there_is : there ≡ new) (call : Call) (entry : Entry) (is : entry.call ≡ call) where
  pub call_grown : Grown (growth_by (scheme_of old) call (vec_len entry.scratch)) old new → Grown (growth_of (scheme_of old) entry) old there
  call_grown h = subst (λ x. Grown (growth_by (scheme_of old) x (vec_len entry.scratch)) old there) (sym is) (subst (Grown (growth_by (scheme_of old) call (vec_len entry.scratch)) old) (sym there_is) h)

-- a call that only asks leaves the table as it is
pub not_grown : {A R : Type 0} {a : alphabet.Ghosts A} {r : rule.Ghosts R} {k : ranking.Ghosts R ℕ} (table : Table A R a r k) → Grown 0 table table
not_grown table = record {
  subject = record { is_code = refl; is_rule = refl; is_alphabet = refl };
  count = omega (arith, table.kept.settled.within);
}
