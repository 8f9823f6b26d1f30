-- What putting marks into the queue of a growing table, and taking them out, comes to.
use Rattle.std.proofs.Common.{◌≡◌, ℕ, ◌+◌, ◌*◌, ◌%◌, ◌^◌, ◌<◌, ◌≤◌, Bool, false, ◌⊎◌, List, ◌∷◌, length, get_or, take, Ok, Err, Result, sym, refl, ap, ◌∙◌, subst, ap₂, inl, inr, ⊎_elim, mod-eq_of_lt, mul-le-mul_left, mul-one, mul-add, arith, MatchResult}
use native.Mathlib.Nat.{pow-le-pow_right}
use Rattle.std.specs.List.{ContainsAt as Has, AllByRecursion}
use Rattle.std.proofs.ByRecursion.{all-has, all_shuffled, has_shuffled}
use Rattle.std.proofs.lemmas.List.Sorted.{IsPermutation-sym}
use Rattle.std.proofs.lemmas.Bool.{cases_eq}
use Rattle.algebra.specs.Marks.{put}
use Rattle.algebra.proofs.Marks.{changed_put}
use Rattle.leaders.specs.Growth.{Sprout, Waiting}
use Rattle.leaders.specs.Leaders.{leaders, coset_count, leader_number}
use Rattle.leaders.specs.Schemes.{Scheme, MarkOf, Proper}
use Rattle.leaders.proofs.Adding.{zero_mark}
use Rattle.leaders.proofs.Growth.{next_leader, none_waits, waiting_taken, waiting_more}
use Rattle.leaders.proofs.Leaders.{few_leaders, number_at, number_most}
use Rattle.leaders.proofs.Ranked.{has_here, has_there}
use Rattle.queue.specs.Contents.{count_of, places_of, items_of, Accepted, Refused, Empty, Taken}
use Rattle.queue.specs.Order.{Heaped}
use Rattle.queue.specs.declared.queue.Queue.{Queue}
use Rattle.refusals.specs.declared.Refusal.{Refusal}
use Rattle.table.specs.Answers.{scratch_size}
use Rattle.table.specs.Queues.{Joined, PutBelow, SproutBelow, sprout_count, Pending, NextIs, NoneNext}

-- setting a place of a mark with n places
pub set_put : (n u i a v : ℕ) → n ≤ 32 → u < 4 ^ n → i < n → a < 4 → v ≡ put 32 u i (a % 4) → v ≡ put n u i a
set_put n u i a v most short inside small e =
    e ∙ ap (put 32 u i) (mod-eq_of_lt small)
    ∙ sym (changed_put 32 u i a small (omega arith) (omega (arith, pow-le-pow_right {n = 4} (omega arith) {i = n} {j = 32} most)))
    ∙ changed_put n u i a small inside short

-- rankings that agree order items alike
module _ (before before' : ℕ → ℕ → Bool) (agree : (u v : ℕ) → before u v ≡ before' u v) where
  pub heaped_alike : (items : List ℕ) → Heaped before items → Heaped before' items
  heaped_alike items h = record { under = λ k d p l. sym (agree _ _) ∙ h.under k d p l }

-- an item is accepted where there is room
pub accepted_with_room : (before : ℕ → ℕ → Bool) (item : ℕ) (old new : Queue ℕ) (r : Result (Unit {0}) Refusal)
    → MatchResult r (λ _. Accepted before item old new) (λ e. Refused e old new) → count_of old < length (places_of old) → Accepted before item old new
accepted_with_room before item old new (Ok _) h room = h
accepted_with_room before item old new (Err e) h room = absurd (omega (arith, h.full))

module _ (T : Scheme) where
  pub joined_none : (added : ℕ → Type 0) (queue : Queue ℕ) → ((v : ℕ) → added v → ⊥) → Joined T added 0 queue queue
  joined_none added queue none = record {
    long = refl;
    held = omega arith;
    marks = λ h. h;
    keeps = λ v h. h;
    joins = λ v h. absurd (none v h);
    order = λ h. h;
  }

  -- one mark more
  module _ (before : ℕ → ℕ → Bool) (agree : (u v : ℕ) → before u v ≡ T.ranking.before u v) where
    pub joined_put : (added added' : ℕ → Type 0) (count count' : ℕ) (old mid new : Queue ℕ) (u : ℕ) → Joined T added count old mid → Accepted before u mid new
        → length (places_of new) ≡ length (places_of mid) → MarkOf T u → count + 1 ≤ count' → ((v : ℕ) → added' v → added v ⊎ (u ≡ v)) → Joined T added' count' old new
    joined_put added added' count count' old mid new u joined accepted long mark more cases = record {
      long = long ∙ joined.long;
      held = omega (arith, joined.held, accepted.held);
      marks = λ h. all_shuffled (MarkOf T) (u ∷ items_of mid) (items_of new) accepted.items (mark, joined.marks h);
      keeps = λ v h. keep v (joined.keeps v h);
      joins = λ v h. ⊎_elim (λ a. keep v (joined.joins v a)) (λ e. subst (Has (items_of new)) e (has_shuffled (u ∷ items_of mid) (items_of new) u accepted.items (has_here u (items_of mid)))) (cases v h);
      order = λ h. heaped_alike before T.ranking.before agree (items_of new) (accepted.order (heaped_alike T.ranking.before before (λ a b. sym (agree a b)) (items_of mid) (joined.order h)));
    }
      where
        keep : (v : ℕ) → Has (items_of mid) v → Has (items_of new) v
        keep v h = has_shuffled (u ∷ items_of mid) (items_of new) v accepted.items (has_there u (items_of mid) v h)

  -- the symbols put at a place, one more
  pub put_below_more : (u place a w : ℕ) → w ≡ put T.checks.n u place a → (v : ℕ) → PutBelow T u place (a + 1) v → PutBelow T u place a v ⊎ (w ≡ v)
  put_below_more u place a w e v (b, some, less, is) = go (cases_eq b a)
    where
      go : (b ≡ a) ⊎ (b ≡ a → ⊥) → PutBelow T u place a v ⊎ (w ≡ v)
      go (inl p) = inr (e ∙ ap (put T.checks.n u place) (sym p) ∙ sym is)
      go (inr p) = inl (b, some, omega arith, is)

  pub sprout_below_more : (u m v : ℕ) → SproutBelow T u (m + 1) v → SproutBelow T u m v ⊎ PutBelow T u m T.symbols.q v
  sprout_below_more u m v (s, below) = go (cases_eq s.place m)
    where
      go : (s.place ≡ m) ⊎ (s.place ≡ m → ⊥) → SproutBelow T u m v ⊎ PutBelow T u m T.symbols.q v
      go (inl p) = inr (s.symbol, s.some, s.below, s.is ∙ ap (λ i. put T.checks.n u i s.symbol) p)
      go (inr p) = inl (s, omega arith)

  pub joined_weaker : (added added' : ℕ → Type 0) (count count' : ℕ) (old new : Queue ℕ) → Joined T added count old new → count ≤ count' → ((v : ℕ) → added' v → added v) → Joined T added' count' old new
  joined_weaker added added' count count' old new joined h less = record {
    long = joined.long;
    held = omega (arith, joined.held);
    marks = joined.marks;
    keeps = joined.keeps;
    joins = λ v a. joined.joins v (less v a);
    order = joined.order;
  }

  pub joined_then : (added added' both : ℕ → Type 0) (count count' : ℕ) (old mid new : Queue ℕ) → Joined T added count old mid → Joined T added' count' mid new
      → ((v : ℕ) → both v → added v ⊎ added' v) → Joined T both (count + count') old new
  joined_then added added' both count count' old mid new first second cases = record {
    long = second.long ∙ first.long;
    held = omega (arith, first.held, second.held);
    marks = λ h. second.marks (first.marks h);
    keeps = λ v h. second.keeps v (first.keeps v h);
    joins = λ v h. ⊎_elim (λ a. second.keeps v (first.joins v a)) (λ a. second.joins v a) (cases v h);
    order = λ h. second.order (first.order h);
  }

-- what waits in the queue
module _ (T : Scheme) (proper : Proper T) where
  abbrev at : ℕ → ℕ
  at i = get_or (leaders T) i 0

  empty_heaped : (before : ℕ → ℕ → Bool) (queue : Queue ℕ) → count_of queue ≡ 0 → Heaped before (items_of queue)
  empty_heaped before queue e = subst (λ m. Heaped before (take m (places_of queue))) (sym e) (record { under = λ k d p l. absurd (omega arith) })

  empty_all : (queue : Queue ℕ) → count_of queue ≡ 0 → AllByRecursion (MarkOf T) (items_of queue)
  empty_all queue e = subst (λ m. AllByRecursion (MarkOf T) (take m (places_of queue))) (sym e) tt

  -- nothing is held, and some leader is settled
  pub pending_later : (k : ℕ) (queue : Queue ℕ) → 0 < k → count_of queue ≡ 0 → scratch_size T ≤ length (places_of queue) → Pending T k 0 queue
  pending_later k queue some e room = record {
    room = room;
    held = omega arith;
    waiting = record { marks = empty_all queue e; start = λ z. absurd (omega arith); sprouts = λ j v h. absurd (omega arith) };
    order = empty_heaped T.ranking.before queue e;
  }

  module _ (before : ℕ → ℕ → Bool) (agree : (u v : ℕ) → before u v ≡ T.ranking.before u v) where
    -- only 0 is held, and no leader is settled
    pub pending_first : (old new : Queue ℕ) → count_of old ≡ 0 → scratch_size T ≤ length (places_of old) → length (places_of new) ≡ length (places_of old) → Accepted before 0 old new → Pending T 0 0 new
    pending_first old new e room long accepted = record {
      room = omega arith;
      held = omega (arith, accepted.held);
      waiting = record {
        marks = all_shuffled (MarkOf T) (0 ∷ items_of old) (items_of new) accepted.items (zero_mark T.symbols proper.alphabet T.checks.n, empty_all old e);
        start = λ _. has_shuffled (0 ∷ items_of old) (items_of new) 0 accepted.items (has_here 0 (items_of old));
        sprouts = λ j v h. absurd (omega arith);
      };
      order = heaped_alike before T.ranking.before agree (items_of new) (accepted.order (empty_heaped before old e));
    }

    -- a mark is taken
    module _ (k : ℕ) (old new : Queue ℕ) (u : ℕ) (pending : Pending T k k old) (taken : Taken before u old new) (long : length (places_of new) ≡ length (places_of old)) where
      was_heaped : Heaped before (items_of old)
      was_heaped = heaped_alike T.ranking.before before (λ a b. sym (agree a b)) (items_of old) pending.order

      here : Has (items_of old) u
      here = has_shuffled (u ∷ items_of new) (items_of old) u (IsPermutation-sym (items_of old) (u ∷ items_of new) taken.parted.same) (has_here u (items_of new))

      pub taken_mark : MarkOf T u
      taken_mark = all-has (MarkOf T) (items_of old) u pending.waiting.marks here

      rest : (k' : ℕ) → k ≤ k' → leader_number T u ≤ k' → Pending T k' k new
      rest k' h l = record {
        room = omega (arith, pending.room);
        held = omega (arith, pending.held, taken.held);
        waiting = waiting_taken T proper k k' k (items_of old) (items_of new) u pending.waiting taken.parted.same h l;
        order = heaped_alike before T.ranking.before agree (items_of new) (taken.parted.order was_heaped);
      }

      -- of a settled coset
      pub taken_settled : leader_number T u ≤ k → Pending T k k new
      taken_settled l = rest k (omega arith) l

      -- of one that is not settled: it is the next leader
      pub taken_next : k < leader_number T u → NextIs T k new u
      taken_next l = record {
        within = omega (arith, number_most T proper u taken_mark);
        is = is;
        pending = rest (k + 1) (omega arith) (omega (arith, ap (leader_number T) (sym is), number_at T proper k (omega (arith, number_most T proper u taken_mark))));
      }
        where
          is : at k ≡ u
          is = next_leader T proper k (items_of old) u pending.waiting here
              (λ v h. sym (agree v u) ∙ all-has (λ other. before other u ≡ false) (items_of old) v (taken.parted.first was_heaped) h) l

  -- nothing is left to take
  pub taken_none : (k : ℕ) (old new : Queue ℕ) → Pending T k k old → k ≤ coset_count T → Empty old new → NoneNext T k new
  taken_none k old new pending h empty = record {
    all = none_waits T proper k (items_of old) pending.waiting (ap (λ m. length (take m (places_of old))) empty.none) h;
    pending = record {
      room = omega (arith, pending.room, ap length empty.unaltered.places);
      held = omega (arith, empty.unaltered.held, empty.none);
      waiting = subst (Waiting T k k) (sym same) pending.waiting;
      order = subst (Heaped T.ranking.before) (sym same) pending.order;
    };
  }
    where
      same : items_of new ≡ items_of old
      same = ap₂ take empty.unaltered.held empty.unaltered.places

  -- a leader's sprouts are put
  pub pending_sprouts : (k m : ℕ) (old new : Queue ℕ) → Pending T k m old → Joined T (Sprout T (at m)) (sprout_count T) old new → Pending T k (m + 1) new
  pending_sprouts k m old new pending joined = record {
    room = omega (arith, pending.room, joined.long);
    held = omega (arith, joined.held, pending.held, mul-add (sprout_count T) m 1, mul-one (sprout_count T));
    waiting = waiting_more T proper k m (items_of new) kept joined.joins;
    order = joined.order pending.order;
  }
    where
      kept : Waiting T k m (items_of new)
      kept = record {
        marks = joined.marks pending.waiting.marks;
        start = λ e. joined.keeps 0 (pending.waiting.start e);
        sprouts = λ j v h s. ⊎_elim (λ a. inl a) (λ a. inr (joined.keeps v a)) (pending.waiting.sprouts j v h s);
      }

  -- there is room for the sprouts of every leader
  pub room_for_sprouts : (k m : ℕ) (queue : Queue ℕ) → Pending T k m queue → m < coset_count T → count_of queue + sprout_count T ≤ length (places_of queue)
  room_for_sprouts k m queue pending h =
      let most : sprout_count T * (m + 1) ≤ sprout_count T * T.symbols.q ^ T.checks.r = mul-le-mul_left (sprout_count T) (omega (arith, few_leaders T proper)) in
      omega (arith, pending.room, pending.held, mul-add (sprout_count T) m 1, mul-one (sprout_count T))
