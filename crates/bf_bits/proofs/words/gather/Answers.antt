use Rattle.std.proofs.Common.{◌+◌, ℕ, List, arith, subst, sym, ap, ◌∙◌, vec_len}
use Rattle.std.specs.Prelude.{vec_capacity}
use Rattle.bf_bits.proofs.Gathering.{RisesBetween, rises-skip, rises-more, rises-strictly, gathered_more, gathered_same}
use Rattle.bf_bits.proofs.words.gather.Goals as goal
use Rattle.bf_bits.proofs.words.gather.Goals.{then-is_migrated, else-is_migrated}

pub loop-at-preserved : goal.loop-at-preserved
loop-at-preserved c =
    let i = c.loop-at.invariant in
    let at = c.loop-at.at in
    let out = c.loop-at.done.items in
    elim c.if-is_migrated.branch [
      | then-is_migrated w ↦
          let e = ap (λ v. v.items) w.done-is ∙ w.push_reserved.ensures.items in
          let len = ap (λ v. vec_len v) w.done-is ∙ w.push_reserved.ensures.len in
          let cap = ap (λ v. vec_capacity v) w.done-is ∙ w.push_reserved.ensures.capacity in
          record {
            room = (omega (arith, i.room.0, len), cap ∙ i.room.1);
            rises = subst (λ (l : List ℕ). RisesBetween 0 (at + 1) l) (sym e) (rises-more 0 at out i.rises);
            gathered = gathered_more _ out _ at c.word.result c.word.ensures w.if-is_migrated.ensures e i.gathered;
          }
      | else-is_migrated w ↦
          let e = ap (λ v. v.items) w.done-is in
          let len = ap (λ v. vec_len v) w.done-is in
          let cap = ap (λ v. vec_capacity v) w.done-is in
          record {
            room = (omega (arith, i.room.0, len), cap ∙ i.room.1);
            rises = subst (λ (l : List ℕ). RisesBetween 0 (at + 1) l) (sym e) (rises-skip 0 at out i.rises);
            gathered = gathered_same _ out _ at c.word.result c.word.ensures w.if-is_migrated.ensures e i.gathered;
          }
    ]

pub returns-clause-rising : goal.returns-clause-rising
returns-clause-rising c = rises-strictly 0 c.loop-at.at c.loop-at.done.items c.loop-at.invariant.rises
