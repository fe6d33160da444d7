use Rattle.std.proofs.Common.{◌≡◌, ◌<◌, List, length, get_or, Equal, Less, Greater, Some, sym, ap, subst, ◌∙◌}
use Rattle.std.specs.List.{HoldsAt}
use Rattle.std.specs.List.Sorted.{IsPartitionPoint, IsNonDecreasingBy}
use Rattle.std.specs.Ordering.{ordering_index}
use Rattle.bf_base.specs.Lists.{name_cmp}
use Rattle.bf_image.specs.declared.migration.Frozen.{Frozen}
use Rattle.bf_image.proofs.planning.Sourced.{source_found, source_missing}
use Rattle.bf_image.proofs.migration.Migration.source.Goals as goal

pub returns-in-Ok : goal.returns-in-Ok
returns-in-Ok c =
    let m = c.args.self.now in
    let name = c.args.name.now in
    let place = c.in-Ok.place in
    let d = c.index-frozen-place.result in
    let same = c.as_slice-frozen.ensures in
    let within : place < length m.frozen = subst (λ (fs : List Frozen). place < length fs) same c.in-Ok.ensures.bound in
    let tied : HoldsAt (λ (f : Frozen). name_cmp f.table.name name ≡ Equal) m.frozen place = subst (λ (fs : List Frozen). HoldsAt (λ (f : Frozen). name_cmp f.table.name name ≡ Equal) fs place) same c.in-Ok.ensures.position in
    ap Some (c.index-frozen-place.is ∙ ap (λ (fs : List Frozen). get_or fs place d) same)
    ∙ sym (source_found m name c.requires.lawful place d within (tied d))

pub returns-in-Err : goal.returns-in-Err
returns-in-Err c =
    let m = c.args.self.now in
    let name = c.args.name.now in
    let place = c.in-Err.field-0 in
    let parted = subst (λ (fs : List Frozen). IsNonDecreasingBy (λ (f : Frozen). ordering_index (name_cmp f.table.name name)) fs → IsPartitionPoint (λ (f : Frozen). name_cmp f.table.name name ≡ Less) (λ (f : Frozen). name_cmp f.table.name name ≡ Greater) fs place) c.as_slice-frozen.ensures c.in-Err.ensures.position in
    sym (source_missing m name c.requires.lawful place parted)
