use Rattle.std.proofs.Common.{◌≡◌, ◌≤◌, List, Option, None, Some, Bor, length, slice_get, refl, sym, ap, subst, ◌∙◌, arith}
use Rattle.std.specs.Option.{option_map}
use Rattle.std.proofs.lemmas.Option.{slice_get_past, slice_get_read}
use Rattle.bf_image.specs.declared.frozen_unit.FrozenUnit.{FrozenUnit}
use Rattle.bf_transpose.specs.Scans.{IsUnitFor}
use Rattle.bf_transpose.proofs.Looked.{IsUnitAt}
use Rattle.bf_transpose.proofs.scan.Search.unit.Goals as goal

pub returns-in_err-get : goal.returns-in_err-get
returns-in_err-get c =
    let s = c.args.self.now in
    let m = s.migration.now in
    let n = c.args.number in
    let past : length s.units.items ≤ n = omega (arith, c.in_err-get.ensures.lookup.3, ap (λ (us : List (Option FrozenUnit)). length us) c.deref.ensures.value) in
    let none : IsUnitAt m s.target n None = subst (λ (found : Option (Option FrozenUnit)). IsUnitAt m s.target n found) (slice_get_past s.units.items n past) (c.requires.units n) in
    subst (λ (o : Option (Bor FrozenUnit)). IsUnitFor m s.target n (option_map (λ (unit : Bor FrozenUnit). unit.now) o)) (sym c.from_residual.ensures) none

pub returns : goal.returns
returns c =
    let s = c.args.self.now in
    let m = s.migration.now in
    let n = c.args.number in
    let here = c.in_ok-get.field-0.now in
    let lookup = c.in_ok-get.ensures.lookup in
    let at : slice_get s.units.items n ≡ Some here = ap (λ (us : List (Option FrozenUnit)). slice_get us n) (sym c.deref.ensures.value) ∙ slice_get_read c.deref.result.now _ n _ refl lookup.3.0 lookup.1 in
    let is : IsUnitFor m s.target n here = subst (λ (found : Option (Option FrozenUnit)). IsUnitAt m s.target n found) at (c.requires.units n) in
    subst (λ (o : Option FrozenUnit). IsUnitFor m s.target n o) (sym c.as_ref.ensures.value) is
