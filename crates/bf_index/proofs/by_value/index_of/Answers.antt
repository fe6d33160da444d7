use Rattle.std.proofs.Common.{◌≡◌, ◌+◌, ◌<◌, ◌++◌, ◌∷◌, [], List, ℕ, nat_lt, cond, length, get_or, take, drop, Option, Some, unwrap_or, sym, ap, ap₂, subst, ◌∙◌, arith, slice_get, IsTrue}
use Rattle.std.specs.List.{list_all}
use Rattle.std.proofs.lemmas.List.{take_all, length-take-le, length-map, drop-drop}
use Rattle.bf_base.specs.declared.value.Value.{Value}
use Rattle.bf_base.specs.Lists.{same_key}
use Rattle.bf_base.specs.Tables.{cells}
use Rattle.bf_base.proofs.Order.{same_from_some}
use Rattle.bf_heap.specs.Heaps.{Entry}
use Rattle.bf_index.specs.ByValues.{values_at}
use Rattle.bf_index.proofs.Indexed.{noted, noted_added, index_is, row_here, within_here, one_more_value}
use Rattle.bf_index.proofs.by_value.index_of.Goals as goal

pub value_at-requires : goal.value_at-requires
value_at-requires c =
    let rows = c.args.heap.now in
    let places = c.args.places.now in
    let i = c.loop-position.position in
    let d : Entry = ([], []) in
    let within : i < length rows = omega (arith, c.loop-position-test.true, c.len-position-end.ensures.count) in
    let here : Entry = (c.in-Some.field-0-0.now, c.in-Some.row.now) in
    let found : Some here ≡ Some (get_or rows i d) = c.in-Some.ensures ∙ ap (λ (rs : List Entry). slice_get rs 0) c.loop-position.invariant.left ∙ row_here rows i d within in
    let row_is : c.in-Some.row.now ≡ (get_or rows i d).1 = ap (λ (e : Entry). e.1) (same_from_some here (get_or rows i d) found) in
    subst (λ (row : List Value). IsTrue (list_all (λ place. nat_lt place (length row)) places)) (sym row_is) (within_here places rows i d c.requires within)

pub loop-position-preserved : goal.loop-position-preserved
loop-position-preserved c =
    let rows = c.args.heap.now in
    let places = c.args.places.now in
    let i = c.loop-position.position in
    let d : Entry = ([], []) in
    let within : i < length rows = omega (arith, c.loop-position-test.true, c.len-position-end.ensures.count) in
    let here : Entry = (c.in-Some.field-0-0.now, c.in-Some.row.now) in
    let found : Some here ≡ Some (get_or rows i d) = c.in-Some.ensures ∙ ap (λ (rs : List Entry). slice_get rs 0) c.loop-position.invariant.left ∙ row_here rows i d within in
    let row_is : c.in-Some.row.now ≡ (get_or rows i d).1 = ap (λ (e : Entry). e.1) (same_from_some here (get_or rows i d) found) in
    let so_far = take i (values_at places rows) in
    let value_is : c.in_ok-value.value ≡ cells places (get_or rows i d).1 = c.in_ok-value.ensures ∙ ap (cells places) row_is in
    let next : take (i + 1) (values_at places rows) ≡ so_far ++ c.in_ok-value.value ∷ [] = one_more_value places rows i d within ∙ ap (λ (v : List Value). so_far ++ v ∷ []) (sym value_is) in
    let counted : length so_far ≡ i = length-take-le i (values_at places rows) (omega (arith, within, length-map rows (λ (e : Entry). cells places e.1))) in
    record {
      left = c.advance.ensures ∙ ap (drop 1) c.loop-position.invariant.left ∙ drop-drop 1 i rows;
      ordered = c.in_ok-add.ensures.ordered;
      so_far = λ value.
          c.in_ok-add.ensures.added value
          ∙ ap₂ (λ (of_it of_value : Option (List ℕ)). cond (same_key c.in_ok-value.value value) (Some (unwrap_or of_it [] ++ i ∷ [])) of_value) (c.loop-position.invariant.so_far c.in_ok-value.value) (c.loop-position.invariant.so_far value)
          ∙ noted_added c.in_ok-value.value value so_far i counted
          ∙ ap (noted value) (sym next);
    }

pub returns : goal.returns
returns c =
    let values = values_at c.args.places.now c.args.heap.now in
    let all : take c.loop-position.position values ≡ values = take_all c.loop-position.position values (omega (arith, c.loop-position-test.false, c.len-position-end.ensures.count, length-map c.args.heap.now (λ (e : Entry). cells c.args.places.now e.1))) in
    index_is values c.loop-position.index.entries c.loop-position.invariant.ordered (λ value. c.loop-position.invariant.so_far value ∙ ap (noted value) all)
