use Rattle.std.proofs.Common.{◌≡◌, ◌+◌, ◌++◌, ◌∷◌, [], ℕ, List, Some, None, map, get_or, take, sym, ap, ap₂, ◌∙◌, arith}
use Rattle.std.specs.Prelude.{slice_get}
use Rattle.std.specs.List.{flat_map}
use Rattle.std.specs.Option.{option_to_list}
use Rattle.std.proofs.lemmas.List.{append-nil, map-append}
use Rattle.bf_base.specs.declared.value.Value.{Value}
use Rattle.bf_heap.specs.Heaps.{Entry}
use Rattle.bf_image.proofs.parting.Blocks.{one_more_block, listed_at}
use Rattle.bf_image.proofs.parts.rows_at_all.Goals as goal
use Rattle.bf_image.proofs.parts.rows_at_all.Goals.{in-Some+in_ok-push, in_default}

pub loop-position-preserved : goal.loop-position-preserved
loop-position-preserved c =
    let positions = c.args.positions.now in
    let rows = c.args.table.now.rows in
    let i = c.loop-position.position-index in
    let here : ℕ → List (List Value) = λ at. option_to_list (slice_get (map (λ (e : Entry). e.1) rows) at) in
    let more : flat_map here (take (i + 1) positions) ≡ flat_map here (take i positions) ++ here (get_or positions i 0) = one_more_block here positions i 0 (omega arith) in
    elim c.match-at.branch [
      | in-Some+in_ok-push w ↦
          let found : here (get_or positions i 0) ≡ w.in-Some.row.now ∷ [] = listed_at (λ (e : Entry). e.1) rows (get_or positions i 0) (Some (w.in-Some.field-0-0.now, w.in-Some.row.now)) (sym w.in-Some.ensures) in
          ap (λ v. map (λ row. row.now) v.items) w.rows-is ∙ ap (map (λ row. row.now)) w.in_ok-push.ensures.items ∙ map-append (λ row. row.now) c.loop-position.rows.items (w.in-Some.row ∷ [])
          ∙ ap₂ (λ (xs ys : List (List Value)). xs ++ ys) c.loop-position.invariant (sym found) ∙ sym more
      | in_default w ↦
          let none : here (get_or positions i 0) ≡ [] = listed_at (λ (e : Entry). e.1) rows (get_or positions i 0) None (sym w.in_default.ensures) in
          ap (λ v. map (λ row. row.now) v.items) w.rows-is ∙ c.loop-position.invariant ∙ sym (append-nil (flat_map here (take i positions))) ∙ ap (λ ys. flat_map here (take i positions) ++ ys) (sym none) ∙ sym more
    ]
