use Rattle.std.proofs.Common.{◌≡◌, ◌++◌, List, [], ◌∷◌, None, Some, get_or, sym, ap, ◌∙◌, take, ℕ}
use Rattle.std.specs.Global.{Vec}
use Rattle.std.proofs.lemmas.List.{append-nil}
use Rattle.bf_transpose.specs.Positions.{positions_under}
use Rattle.bf_transpose.proofs.Chosen.{positions_more}
use Rattle.bf_transpose.proofs.bounds.positions_of.Goals.{in-Some+in_ok-push, in_default}
use Rattle.bf_transpose.proofs.bounds.positions_of.Goals as goal

pub loop-key-preserved : goal.loop-key-preserved
loop-key-preserved c =
    let entries = c.args.heap.now in
    let keys = c.args.keys.now in
    let n = c.loop-key.key-index in
    let key = c.key-item.result in
    let here : get_or keys n key ≡ key = sym c.key-item.is in
    elim c.match-position.branch [
      | in-Some+in_ok-push w ↦
          ap (λ (ps : Vec ℕ). ps.items) w.positions-is
          ∙ (w.in_ok-push.ensures.items
          ∙ (ap (λ (ps : List ℕ). ps ++ w.in-Some.position ∷ []) c.loop-key.invariant
          ∙ sym (positions_more entries keys n c.loop-key-test.true key (Some w.in-Some.position) here (sym w.in-Some.ensures))))
      | in_default w ↦
          ap (λ (ps : Vec ℕ). ps.items) w.positions-is
          ∙ (c.loop-key.invariant
          ∙ (sym (append-nil (positions_under entries (take n keys))) ∙ sym (positions_more entries keys n c.loop-key-test.true key None here (sym w.in_default.ensures))))
    ]
