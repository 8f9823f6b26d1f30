use Rattle.std.proofs.Common.{◌≡◌, Ok, refl, ap, ◌∙◌, subst, rules}
use Rattle.table.specs.Tables.{scheme_of, settled_of, refusal_of, Grown}
use Rattle.history.specs.Histories.{answered}
use Rattle.history.specs.declared.entry.Answer.TheVariants.{Grown as Grew, Tally as Tallied, Found, Leader as Led}
use Rattle.history.specs.declared.entry.Call.TheVariants.{Grow, Tally, Find, Leader}
use Rattle.history.proofs.Single.{grow_amount, grow_done, find_done, not_grown, call_made, call_grown}
use Rattle.history.proofs.calls.make.Goals as goal
use Rattle.history.proofs.calls.make.Goals.{in-Grow, in-Tally, in-Find, in-Leader}

pub returns-clause-grown : goal.returns-clause-grown
returns-clause-grown g c =
    let old = c.args.table.now in
    let new = c.match-entry.table in
    let entry = c.args.entry.now in
    elim c.match-entry.branch [
      | in-Grow w ↦
          let amount = w.in-Grow.amount in
          let same = grow_amount (scheme_of old) amount entry w.as_mut_slice.result.now w.as_mut_slice.ensures.value w.as_mut_slice.ensures.len (refusal_of old) c.requires w.grow.result w.grow.ensures.answer in
          call_grown old w.grow.new.self new w.table-is (Grow amount) entry w.in-Grow.is (subst (λ m. Grown m old w.grow.new.self) same w.grow.ensures.grown)
      | in-Tally w ↦ call_grown old old new w.table-is Tally entry w.in-Tally.is (not_grown old)
      | in-Find w ↦ call_grown old old new w.table-is Find entry w.in-Find.is (not_grown old)
      | in-Leader w ↦ call_grown old old new w.table-is (Leader w.in-Leader.j) entry w.in-Leader.is (not_grown old)
    ]

pub returns-clause-made : goal.returns-clause-made
returns-clause-made g c =
    let old = c.args.table.now in
    let T = scheme_of old in
    let k = settled_of old in
    let entry = c.args.entry.now in
    let there = c.match-entry.entry in
    let given = c.match-entry.answer in
    elim c.match-entry.branch [
      | in-Grow w ↦
          let is : w.map-answer.result ≡ answered (λ _. Grew) w.grow.result = search rules in
          call_made T k (Grow w.in-Grow.amount) entry _ there w.map-answer.result given w.in-Grow.is w.entry-is w.answer-is
          (grow_done T w.in-Grow.amount entry w.as_mut_slice.result.now w.as_mut_slice.ensures.value w.as_mut_slice.ensures.len (refusal_of old) c.requires w.grow.result w.grow.ensures.answer
          k w.grow.new.scratch w.map-answer.result w.grow.auto.scratch (λ e. (w.grow.ensures.refused e).1) is)
      | in-Tally w ↦
          call_made T k Tally entry entry there _ given w.in-Tally.is w.entry-is w.answer-is
          (record { is = ap (λ p. Ok (Tallied p.0 p.1)) w.tally-count.ensures; call_stays = refl; mark_stays = refl; first = refl; second = refl; scratch = refl })
      | in-Find w ↦
          let is : w.map-answer-in-Find.result ≡ answered Found w.find.result = search rules in
          call_made T k Find entry _ there w.map-answer-in-Find.result given w.in-Find.is w.entry-is w.answer-is
          (find_done T k entry w.as_slice.result.now w.as_mut_slice-in-Find.result.now w.as_mut_slice-in-Find-2.result.now w.find.new.correction w.find.new.corrected w.find.result w.map-answer-in-Find.result
          w.as_slice.ensures.value w.as_mut_slice-in-Find.ensures.value w.as_mut_slice-in-Find-2.ensures.value w.as_mut_slice-in-Find.ensures.len w.as_mut_slice-in-Find-2.ensures.len w.find.auto.correction w.find.auto.corrected
          w.find.ensures.answer w.find.ensures.correction w.find.ensures.corrected is)
      | in-Leader w ↦
          let is : w.map-answer-in-Leader.result ≡ answered Led w.leader.result = search rules in
          call_made T k (Leader w.in-Leader.j) entry entry there w.map-answer-in-Leader.result given w.in-Leader.is w.entry-is w.answer-is
          (record { is = is ∙ ap (answered Led) w.leader.ensures; call_stays = refl; mark_stays = refl; first = refl; second = refl; scratch = refl })
    ]
