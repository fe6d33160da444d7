use Rattle.std.proofs.Common.{◌≡◌, ◌<◌, [], List, length, get_or, Equal, Less, Greater, Option, None, option_map, unwrap_or, sym, ap, subst, ◌∙◌}
use Rattle.std.specs.List.{HoldsAt}
use Rattle.std.specs.List.Sorted.{IsPartitionPoint, IsNonDecreasingBy}
use Rattle.std.specs.Ordering.{ordering_index}
use Rattle.std.proofs.lemmas.List.{get_or_default}
use Rattle.bf_base.specs.Values.{key_cmp, key_cmp_total}
use Rattle.bf_base.specs.Maps.{entry_at}
use Rattle.bf_base.proofs.Maps.{entry_at-found, entry_at-gap}
use Rattle.bf_base.proofs.Order.{searchable_from_rises}
use Rattle.bf_index.specs.ByValues.{Valued, value_of, positions_under}
use Rattle.bf_index.proofs.by_value.ByValue.positions.Goals as goal

pub returns-in-Ok : goal.returns-in-Ok
returns-in-Ok c =
    let entries = c.self.inside.entries.items in
    let value = c.args.value.now in
    let place = c.in-Ok.place in
    let d : Valued = ([], []) in
    let within : place < length entries = subst (λ (es : List Valued). place < length es) c.deref.ensures.value c.in-Ok.ensures.bound in
    let tied : HoldsAt (λ (e : Valued). key_cmp e.0 value ≡ Equal) entries place = subst (λ (es : List Valued). HoldsAt (λ (e : Valued). key_cmp e.0 value ≡ Equal) es place) c.deref.ensures.value c.in-Ok.ensures.position in
    let entry_is : c.index.result.now ≡ get_or entries place d = c.index.ensures ∙ get_or_default entries place c.index.result.now d within in
    c.as_slice.ensures
    ∙ ap (λ (e : Valued). e.1) entry_is
    ∙ ap (λ (o : Option Valued). unwrap_or (option_map (λ (e : Valued). e.1) o) []) (sym (entry_at-found key_cmp_total value_of entries place value d c.self.invariant within (tied d)))
    ∙ ap (λ (es : List Valued). positions_under es value) c.self.view_is

pub returns-in-Err : goal.returns-in-Err
returns-in-Err c =
    let entries = c.self.inside.entries.items in
    let value = c.args.value.now in
    let place = c.in-Err.field-0 in
    let parted = subst (λ (es : List Valued). IsNonDecreasingBy (λ (e : Valued). ordering_index (key_cmp e.0 value)) es → IsPartitionPoint (λ (e : Valued). key_cmp e.0 value ≡ Less) (λ (e : Valued). key_cmp e.0 value ≡ Greater) es place) c.deref.ensures.value c.in-Err.ensures.position in
    let none : entry_at key_cmp value_of entries value ≡ None = entry_at-gap key_cmp_total value_of entries place value (parted (searchable_from_rises key_cmp_total value_of entries value c.self.invariant)) in
    ap (λ (o : Option Valued). unwrap_or (option_map (λ (e : Valued). e.1) o) []) (sym none)
    ∙ ap (λ (es : List Valued). positions_under es value) c.self.view_is
