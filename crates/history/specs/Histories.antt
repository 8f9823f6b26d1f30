-- What each call of a history answers and leaves, from the scheme, the sum of the amounts accepted before it, and the call alone.
use Rattle.std.specs.Prelude.{◌≡◌, ℕ, min, ◌⊎◌, List, length, take, Some, None, Ok, Err, vec_items, vec_len, sum_by, Option, Result}
use Rattle.leaders.specs.Leaders.{coset_count}
use Rattle.leaders.specs.Schemes.{Scheme}
use Rattle.history.specs.declared.entry.Answer.{Answer}
use Rattle.history.specs.declared.entry.Answer.TheVariants.{Grown, Tally as Tallied, Found, Leader as Led}
use Rattle.history.specs.declared.entry.Call.{Call}
use Rattle.history.specs.declared.entry.Call.TheVariants.{Grow, Tally, Find, Leader}
use Rattle.history.specs.declared.entry.Entry.{Entry}
use Rattle.refusals.specs.declared.Refusal.{Refusal}
use Rattle.table.specs.Answers.{grow_answer, accepted, tally_answer, leader_answer, find_answer, written, correction_of, corrected_of}

-- a table is opened, or refused with nothing done
abbrev pub opened_by : Option Refusal → Result (Unit {0}) Refusal
opened_by None = Ok tt
opened_by (Some refusal) = Err refusal

-- the answer that a call's own result stands for
abbrev pub answered : {X : Type 0} → (X → Answer) → Result X Refusal → Result Answer Refusal
answered answer (Ok x) = Ok (answer x)
answered answer (Err refusal) = Err refusal

module _ (T : Scheme) where
  -- by how much a call lets the table grow
  abbrev pub growth_by : Call → ℕ → ℕ
  growth_by (Grow amount) room = accepted T amount room
  growth_by Tally room = 0
  growth_by Find room = 0
  growth_by (Leader j) room = 0

  abbrev pub growth_of : Entry → ℕ
  growth_of entry = growth_by entry.call (vec_len entry.scratch)

  -- the sum of the amounts accepted before call k, and so how many leaders are settled then
  abbrev pub grown_before : ℕ → List Entry → ℕ
  grown_before k entries = sum_by growth_of (take k entries)

  abbrev pub settled_at : ℕ → List Entry → ℕ
  settled_at k entries = min (coset_count T) (grown_before k entries)

  -- afterwards the scratch is free where a grow was accepted, and as it was after every other call
  abbrev pub ScratchBy : Call → List ℕ → List ℕ → Type 0
  ScratchBy (Grow amount) before after = (grow_answer T amount (length before) ≡ Ok tt) ⊎ (after ≡ before)
  ScratchBy Tally before after = after ≡ before
  ScratchBy Find before after = after ≡ before
  ScratchBy (Leader j) before after = after ≡ before

  module _ (settled : ℕ) where
    abbrev pub found : Entry → Result ℕ Refusal
    found entry = find_answer T settled (vec_items entry.mark) (vec_len entry.first) (vec_len entry.second)

    abbrev pub answer_by : Call → Entry → Result Answer Refusal
    answer_by (Grow amount) entry = answered (λ _. Grown) (grow_answer T amount (vec_len entry.scratch))
    answer_by Tally entry = Ok (Tallied (tally_answer T settled).0 (tally_answer T settled).1)
    answer_by Find entry = answered Found (found entry)
    answer_by (Leader j) entry = answered Led (leader_answer T settled j)

    -- what the two buffers hold afterwards
    abbrev pub first_by : Call → Entry → List ℕ
    first_by (Grow amount) entry = vec_items entry.first
    first_by Tally entry = vec_items entry.first
    first_by Find entry = written T (found entry) (correction_of T (vec_items entry.mark)) (vec_items entry.first)
    first_by (Leader j) entry = vec_items entry.first

    abbrev pub second_by : Call → Entry → List ℕ
    second_by (Grow amount) entry = vec_items entry.second
    second_by Tally entry = vec_items entry.second
    second_by Find entry = written T (found entry) (corrected_of T (vec_items entry.mark)) (vec_items entry.second)
    second_by (Leader j) entry = vec_items entry.second

    -- The call was made on the memory that the entry brings, with that answer.
    pub record Done (call : Call) (old new : Entry) (answer : Result Answer Refusal) : Type 0 where
      pub is : answer ≡ answer_by call old
      pub call_stays : new.call ≡ old.call
      pub mark_stays : vec_items new.mark ≡ vec_items old.mark
      pub first : vec_items new.first ≡ first_by call old
      pub second : vec_items new.second ≡ second_by call old
      pub scratch : ScratchBy call (vec_items old.scratch) (vec_items new.scratch)

    -- An entry's call was made, and its answer noted.
    pub record Made (old new : Entry) : Type 0 where
      pub answer : new.answer ≡ Some (answer_by old.call old)
      pub call_stays : new.call ≡ old.call
      pub mark_stays : vec_items new.mark ≡ vec_items old.mark
      pub first : vec_items new.first ≡ first_by old.call old
      pub second : vec_items new.second ≡ second_by old.call old
      pub scratch : ScratchBy old.call (vec_items old.scratch) (vec_items new.scratch)
