-- Rows take the place of those before under their name.
use Rattle.std.proofs.Common.{ℕ, List, [], ◌∷◌, ◌++◌, sym, ap, ◌∙◌, append_assoc}
use Rattle.std.specs.Global.{Vec}
use Rattle.std.specs.Vec.Iter.{into_iter_items}
use Rattle.bf_base.specs.declared.value.Value.{Value}
use Rattle.bf_eager.proofs.Beginning.{given_more}
use Rattle.bf_eager.proofs.starting.by_name.Goals as goal

pub loop-name-preserved-in_ok-insert : goal.loop-name-preserved-in_ok-insert
loop-name-preserved-in_ok-insert c =
    let g : List ℕ × Vec (List Value) = (c.in-Some.name, c.in-Some.rows) in
    let so_far = c.loop-name.yielded in
    let rest = into_iter_items c.next.new.self in
    record {
      left = append_assoc so_far (g ∷ []) rest ∙ (ap (λ (gs : List (List ℕ × Vec (List Value))). so_far ++ gs) (sym c.in-Some.ensures.steps.0) ∙ c.loop-name.invariant.left);
      under = given_more so_far g c.loop-name.by_name c.insert.new.self c.loop-name.invariant.under c.in_ok-insert.ensures.updates.0;
    }

pub loop-name-preserved : goal.loop-name-preserved
loop-name-preserved c =
    let g : List ℕ × Vec (List Value) = (c.in-Some.name, c.in-Some.rows) in
    let so_far = c.loop-name.yielded in
    let rest = into_iter_items c.next.new.self in
    record {
      left = append_assoc so_far (g ∷ []) rest ∙ (ap (λ (gs : List (List ℕ × Vec (List Value))). so_far ++ gs) (sym c.in-Some.ensures.steps.0) ∙ c.loop-name.invariant.left);
      under = given_more so_far g c.loop-name.by_name c.insert.new.self c.loop-name.invariant.under c.in_ok-insert.ensures.updates.0;
    }
