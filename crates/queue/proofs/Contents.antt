-- What becomes of the items where one is put or taken.
use Rattle.std.proofs.Common.{◌≡◌, ℕ, ◌+◌, ◌-◌, ◌<◌, Bool, List, [], ◌∷◌, ◌++◌, length, get_or, take, drop, set, sym, ap, ◌∙◌, subst, arith}
use Rattle.std.specs.Cmp.{IsStrictWeakOrder}
use Rattle.std.specs.List.{SwappedAt}
use Rattle.std.specs.List.Sorted.{IsPermutation}
use Rattle.std.proofs.lemmas.List.{length_push, length-take-le, take_all, take_at, take_more, take_more_set, drop_at, drop-set-lt}
use Rattle.std.proofs.lemmas.List.Sorted.{IsPermutation-sym, IsPermutation-cons, IsPermutation-trans, IsPermutation-to_front, length_permutation}
use Rattle.queue.specs.declared.queue.Queue.{Queue}
use Rattle.queue.specs.Contents.{count_of, places_of, items_of, Accepted}
use Rattle.queue.specs.Order.{Heaped, Parted}
use Rattle.queue.specs.Sifting.{Rising, Sinking}
use Rattle.queue.proofs.Heaps.{rise_begins, sink_begins, foremost}

module _ {T : Type 0} (before : T → T → Bool) where
  -- the first item is exchanged with the last, and those before it come back as `sunk`
  pub parted : IsStrictWeakOrder before → (xs ys sunk : List T) (item : T) (last : ℕ) → last + 1 ≡ length xs → item ≡ get_or xs 0 item → IsPermutation xs ys → length ys ≡ length xs → SwappedAt xs ys 0 last
      → IsPermutation (take last ys) sunk → (Sinking before (take last ys) 0 → Heaped before sunk) → Parted before xs item (take last (sunk ++ drop last ys))
  parted o xs ys sunk item last size first swapped same_long swap shuffled sinks =
      let long : length sunk ≡ last = length_permutation _ _ shuffled ∙ length-take-le last ys (omega arith) in
      let end : get_or ys last item ≡ item = swap.1 item ∙ sym first in
      let all : ys ≡ take last ys ++ item ∷ [] = sym (take_all (last + 1) ys (omega arith)) ∙ take_more ys last item (omega arith) ∙ ap (λ x. take last ys ++ x ∷ []) end in
      subst (Parted before xs item) (sym (take_at sunk _ last long)) (record {
        same = IsPermutation-trans _ _ _ (subst (IsPermutation xs) all swapped) (IsPermutation-trans _ _ _ (IsPermutation-to_front _ item) (IsPermutation-cons item _ _ shuffled));
        order = λ h. sinks (sink_begins before xs ys last size same_long swap h);
        first = foremost before o xs item first;
      })

  -- the items and the new one come back as `risen`
  pub accepted : (old new : Queue T) (item : T) (risen : List T) → count_of old < length (places_of old) → count_of new ≡ count_of old + 1
      → IsPermutation (take (count_of old + 1) (set (places_of old) (count_of old) item)) risen
      → (Rising before (take (count_of old + 1) (set (places_of old) (count_of old) item)) (length (take (count_of old + 1) (set (places_of old) (count_of old) item)) - 1) → Heaped before risen)
      → places_of new ≡ risen ++ drop (count_of old + 1) (set (places_of old) (count_of old) item) → Accepted before item old new
  accepted old new item risen room more shuffled rises is =
      let held = count_of old in
      let lent : take (held + 1) (set (places_of old) held item) ≡ items_of old ++ item ∷ [] = take_more_set (places_of old) held item room in
      let long : length (items_of old ++ item ∷ []) ≡ length (items_of old) + 1 = length_push (items_of old) item in
      let size : length risen ≡ count_of new = omega (arith, length_permutation _ _ shuffled, ap length lent, length-take-le held (places_of old) (omega arith)) in
      let items : items_of new ≡ risen = ap (take (count_of new)) is ∙ take_at risen _ (count_of new) size in
      record {
        room = room;
        held = more;
        items = subst (IsPermutation (item ∷ items_of old)) (sym items)
            (IsPermutation-trans _ _ _ (IsPermutation-sym _ _ (IsPermutation-to_front (items_of old) item)) (subst (λ l. IsPermutation l risen) lent shuffled));
        past = ap (drop (count_of new)) is ∙ drop_at risen _ (count_of new) size ∙ drop-set-lt (held + 1) (places_of old) held item (omega arith) ∙ ap (λ n. drop n (places_of old)) (sym more);
        order = λ h. subst (Heaped before) (sym items)
            (subst (λ l. Rising before l (length l - 1) → Heaped before risen) lent rises (rise_begins before (items_of old) item _ (omega arith) h));
      }
