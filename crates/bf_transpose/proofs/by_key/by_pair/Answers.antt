use Rattle.std.proofs.Common.{◌≡◌, ℕ, List, length, min, take, sym, ap, ap₂, ◌∙◌, arith}
use Rattle.std.specs.Option.{option_to_list}
use Rattle.std.proofs.lemmas.List.{take_min}
use Rattle.std.proofs.lemmas.Result.{IfOk-weaker}
use Rattle.bf_base.specs.declared.value.Value.{Value}
use Rattle.bf_transpose.proofs.Paired.{by_pair, none_by_pair}
use Rattle.bf_transpose.proofs.by_key.by_pair.Goals as goal

pub returns-in-Some : goal.returns-in-Some
returns-in-Some c =
    let bound = c.args.arm.now in
    let key = c.args.key.now in
    let width : c.min-width.result ≡ min (length bound.from.now.table.key) (length key) = omega (arith, c.min-width.ensures, c.len.ensures, ap (λ (vs : List Value). length vs) c.as_slice-values.ensures) in
    let begins : c.in_ok-front.front ≡ take (length bound.from.now.table.key) key =
    c.in_ok-front.ensures ∙ ap₂ (λ (n : ℕ) (vs : List Value). take n vs) width c.as_slice-values.ensures ∙ take_min (length bound.from.now.table.key) key in
    let stands = by_pair c.args.migration.now c.requires.lawful c.args.unit bound c.requires.of_unit key c.requires.pairs c.in_ok-front.front begins c.in-Some.position (sym c.in-Some.ensures) in
    IfOk-weaker c.granule_of.result _ _ (λ found is. ap option_to_list is ∙ stands) c.granule_of.ensures

pub returns : goal.returns
returns c =
    let bound = c.args.arm.now in
    let key = c.args.key.now in
    let width : c.min-width.result ≡ min (length bound.from.now.table.key) (length key) = omega (arith, c.min-width.ensures, c.len.ensures, ap (λ (vs : List Value). length vs) c.as_slice-values.ensures) in
    let begins : c.in_ok-front.front ≡ take (length bound.from.now.table.key) key =
    c.in_ok-front.ensures ∙ ap₂ (λ (n : ℕ) (vs : List Value). take n vs) width c.as_slice-values.ensures ∙ take_min (length bound.from.now.table.key) key in
    none_by_pair c.args.migration.now c.requires.lawful c.args.unit bound c.requires.of_unit key c.requires.pairs c.in_ok-front.front begins (sym c.in-None.ensures)
