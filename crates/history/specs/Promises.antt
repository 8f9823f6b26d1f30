-- The whole promise of a history, in the words of whoever relies on it.
use Rattle.std.specs.Prelude.{◌≡◌, ℕ, ◌<◌, ◌≤◌, min, Bool, true, List, length, Some, Ok, Err, vec_items, vec_len, slice_index_or}
use Rattle.algebra.specs.Marks.{number_of}
use Rattle.leaders.specs.Corrections.{Corrects}
use Rattle.leaders.specs.Leaders.{coset_count, leader_of, leader_number}
use Rattle.leaders.specs.Schemes.{Scheme, MarkOf}
use Rattle.marks.specs.Reading.{reading}
use Rattle.marks.specs.declared.mark.Mark.{Mark}
use Rattle.refusals.specs.declared.Refusal.TheVariants.{NotSettled, OutOfRange}
use Rattle.history.specs.Histories.{grown_before, Made}
use Rattle.history.specs.declared.entry.Answer.TheVariants.{Tally as Tallied, Found, Leader as Led}
use Rattle.history.specs.declared.entry.Call.TheVariants.{Find, Leader}
use Rattle.history.specs.declared.entry.Entry.{Entry}

module _ (T : Scheme) where
  -- u is leader j: just the leaders with smaller numbers rank before it
  pub record LeaderAt (j u : ℕ) : Type 0 where
    pub mark : MarkOf T u
    pub leads : leader_of T u ≡ u
    pub earlier : (v : ℕ) → MarkOf T v → leader_of T v ≡ v → leader_number T v < j → T.ranking.before v u ≡ true
    pub later : (v : ℕ) → MarkOf T v → leader_of T v ≡ v → j < leader_number T v → T.ranking.before u v ≡ true

  -- bytes and buffers that find takes: n symbols and two buffers of n bytes
  pub record SoundInput (entry : Entry) (mark : Mark) : Type 0 where
    pub reads : reading T.symbols T.checks.n (vec_items entry.mark) ≡ Ok mark
    pub first : vec_len entry.first ≡ T.checks.n
    pub second : vec_len entry.second ≡ T.checks.n

  -- One call, with so much growth accepted before it.
  module _ (grown : ℕ) (old new : Entry) where
    abbrev pub settled_by : ℕ
    settled_by = min (coset_count T) grown

    pub record Promised : Type 0 where
      pub call_is_made_as_defined : Made T settled_by old new
      pub correction_is_right : (number : ℕ) → old.call ≡ Find → new.answer ≡ Some (Ok (Found number))
          → Corrects T (number_of (vec_items new.mark)) (number_of (vec_items new.first)) (number_of (vec_items new.second))
      pub tally_counts_the_settled : (count : ℕ) (finished : Bool) → new.answer ≡ Some (Ok (Tallied count finished))
          → (count ≡ settled_by) × (finished ≡ true → count ≡ coset_count T) × (count ≡ coset_count T → finished ≡ true)
      pub leader_answers_for_the_settled : (j : ℕ) → old.call ≡ Leader j → 1 ≤ j → j ≤ settled_by → (u : ℕ) × (new.answer ≡ Some (Ok (Led u))) × LeaderAt j u
      pub leader_answers_for_no_other : (j : ℕ) → old.call ≡ Leader j → (1 ≤ j → settled_by < j) → new.answer ≡ Some (Err OutOfRange)
      pub find_is_unsettled_beyond : (mark : Mark) → old.call ≡ Find → SoundInput old mark → settled_by < leader_number T mark.number → new.answer ≡ Some (Err NotSettled)
      pub find_is_unsettled_only_beyond : (mark : Mark) → old.call ≡ Find → SoundInput old mark → new.answer ≡ Some (Err NotSettled) → settled_by < leader_number T mark.number

  -- Every call of a history, from what was accepted before it and the call alone.
  pub record History (old new : List Entry) : Type 0 where
    pub calls : length new ≡ length old
    pub every_call : (k : ℕ) (d : Entry) → k < length old → Promised (grown_before T k old) (slice_index_or old k d) (slice_index_or new k d)
