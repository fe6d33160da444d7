-- A unit without an arm of the target gives nothing.
use Rattle.std.proofs.Common.{◌≡◌, false, List, ◌++◌, None, Option, filter, slice_get, sym, ap, ◌∙◌}
use Rattle.std.specs.Option.{option_and_then}
use Rattle.std.proofs.lemmas.List.{append-nil}
use Rattle.std.proofs.lemmas.Result.{on_ok_weaker}
use Rattle.bf_base.specs.declared.granule.Granule.{Granule}
use Rattle.bf_image.specs.Migrations.{value_indexes}
use Rattle.bf_image.specs.declared.value_indexes.UnitIndex.{UnitIndex}
use Rattle.bf_transpose.specs.Scans.{gives, has_arm}
use Rattle.bf_transpose.proofs.Sought.{none_in_unit}
use Rattle.bf_transpose.proofs.Units.{rows_of_unit}
use Rattle.bf_transpose.proofs.scan.Search.add_unit.Goals as goal

pub returns-then-not-has_arm : goal.returns-then-not-has_arm
returns-then-not-has_arm c =
    let s = c.args.self.now in
    let m = s.migration.now in
    let before = c.args.granules.now.items in
    let none : has_arm m s.target c.args.unit ≡ false = sym c.has_arm.ensures ∙ c.if-not-has_arm.true in
    sym (append-nil before) ∙ ap (λ (gs : List Granule). before ++ gs) (none_in_unit m c.requires.lawful s.target c.requires.there s.cond.now c.args.unit none)

pub add_indexed-requires-clause-of_unit : goal.add_indexed-requires-clause-of_unit
add_indexed-requires-clause-of_unit c =
    c.in-Some.ensures ∙ ap (λ (is : List (Option UnitIndex)). option_and_then (λ (i : Option UnitIndex). i) (slice_get is c.args.unit)) c.requires.indexed

pub returns-in-None : goal.returns-in-None
returns-in-None c =
    let s = c.args.self.now in
    let m = s.migration.now in
    let before = c.args.granules.now.items in
    let none : None ≡ option_and_then (λ (i : Option UnitIndex). i) (slice_get (value_indexes m) c.args.unit) =
    c.in-None.ensures ∙ ap (λ (is : List (Option UnitIndex)). option_and_then (λ (i : Option UnitIndex). i) (slice_get is c.args.unit)) c.requires.indexed in
    on_ok_weaker c.add_rows.result
    (λ added. added ∙ ap (λ (gs : List Granule). before ++ filter (gives m s.target s.cond.now) gs) (rows_of_unit m c.args.unit none))
    c.add_rows.ensures
