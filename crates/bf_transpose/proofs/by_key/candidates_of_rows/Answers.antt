use Rattle.std.proofs.Common.{◌++◌, List, flat_map, map, take, [], sym, ap, ◌∙◌, arith}
use Rattle.std.specs.Option.{option_map_or}
use Rattle.std.proofs.lemmas.List.{take_all}
use Rattle.std.proofs.lemmas.List.Folds.{flat_map-map}
use Rattle.bf_base.specs.declared.granule.Granule.{Granule}
use Rattle.bf_base.specs.declared.value.Value.{Value}
use Rattle.bf_base.specs.Tables.{key_of}
use Rattle.bf_transpose.specs.Candidates.{candidates_in}
use Rattle.bf_transpose.proofs.Possible.{blocks_next}
use Rattle.bf_transpose.proofs.by_key.candidates_of_rows.Goals as goal

-- the table is no target
pub returns-in_default : goal.returns-in_default
returns-in_default c =
    let keys = map (key_of c.args.table.now) c.args.rows.now in
    c.new-found.ensures.items ∙ ap (λ o. option_map_or (λ target. flat_map (candidates_in c.args.migration.now target) keys) o []) c.in_default.ensures.place

pub loop-row-preserved : goal.loop-row-preserved
loop-row-preserved c =
    let m = c.args.migration.now in
    let own : List Value → List Value = key_of c.args.table.now in
    let target = c.in-Some.target in
    let f : List Value → List Granule = λ row. candidates_in m target (own row) in
    let rows = c.args.rows.now in
    let i = c.loop-row.row-index in
    c.in_ok-add_candidates.ensures
    ∙ ap (λ gs. gs ++ candidates_in m target c.in_ok-key.key) c.loop-row.invariant
    ∙ ap (λ key. flat_map f (take i rows) ++ candidates_in m target key) (c.in_ok-key.ensures ∙ ap own c.row-item.is)
    ∙ blocks_next f rows i c.row-item.result c.loop-row-test.true

pub returns : goal.returns
returns c =
    let m = c.args.migration.now in
    let own : List Value → List Value = key_of c.args.table.now in
    let rows = c.args.rows.now in
    let f : List Value → List Granule = λ row. candidates_in m c.in-Some.target (own row) in
    c.loop-row.invariant
    ∙ ap (flat_map f) (take_all c.loop-row.row-index rows (omega (arith, c.loop-row-test.false)))
    ∙ sym (flat_map-map (candidates_in m c.in-Some.target) own rows)
    ∙ ap (λ o. option_map_or (λ target. flat_map (candidates_in m target) (map own rows)) o []) c.in-Some.ensures.place
