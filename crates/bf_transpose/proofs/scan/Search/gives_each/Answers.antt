-- Where the one arm of the target makes a row of each row of FROM, each row of the driver gives one.
use Rattle.std.proofs.Common.{◌≡◌, true, Some, slice_get, refl, sym, ap, ◌∙◌}
use Rattle.std.proofs.lemmas.Option.{slice_get_read}
use Rattle.bf_transpose.proofs.Each.{each_gives}
use Rattle.bf_transpose.specs.Transposed.{is_always}
use Rattle.bf_transpose.proofs.scan.Search.gives_each.Goals as goal

pub returns-in-Some-get : goal.returns-in-Some-get
returns-in-Some-get c =
    let s = c.args.self.now in
    let m = s.migration.now in
    let unit = c.args.unit in
    let planned = c.in-Some-get.planned.now in
    let here : slice_get m.plan.units unit ≡ Some planned = ap (λ us. slice_get us unit) (sym c.as_slice.ensures) ∙ slice_get_read c.as_slice.result.now _ unit _ refl c.in-Some-get.ensures.lookup.3.0 c.in-Some-get.ensures.lookup.1 in
    let is_true : is_always s.cond.now ≡ true = sym c.is_always.ensures ∙ c.if-not-is_always.false in
    λ yes at below. each_gives m c.requires.lawful s.cond.now is_true s.target c.requires.there unit planned here _ c.in-Some.ensures (c.only_makes_each.ensures yes) at below
