use Rattle.std.proofs.Common.{◌≡◌, ℕ, List, length, min, take, sym, ap, ap₂, ◌∙◌, arith}
use Rattle.std.proofs.lemmas.List.{take_min}
use Rattle.bf_base.specs.declared.value.Value.{Value}
use Rattle.bf_base.specs.Tables.{cells}
use Rattle.bf_image.proofs.owning.Valued.{no_value, one_value}
use Rattle.bf_image.proofs.owners.place_by_value.Goals as goal

pub returns-in_default : goal.returns-in_default
returns-in_default c =
    let bound = c.args.arm.now in
    let key = c.args.key.now in
    let width : c.min-width.result ≡ min (length bound.from.now.table.key) (length key) = omega (arith, c.min-width.ensures, c.len.ensures, ap (λ (vs : List Value). length vs) c.as_slice-values.ensures) in
    let begins : c.in_ok-front-in-ByPair.front ≡ take (length bound.from.now.table.key) key =
    c.in_ok-front-in-ByPair.ensures ∙ ap₂ (λ (n : ℕ) (vs : List Value). take n vs) width c.as_slice-values.ensures ∙ take_min (length bound.from.now.table.key) key in
    λ m target raw lawful is. no_value m target raw bound is lawful key c.in_ok-front-in-ByPair.front c.in-ByPair.is begins (sym c.in_default.ensures)

pub returns-in_ok-value-in-ByPair : goal.returns-in_ok-value-in-ByPair
returns-in_ok-value-in-ByPair c =
    let bound = c.args.arm.now in
    let key = c.args.key.now in
    let width : c.min-width.result ≡ min (length bound.from.now.table.key) (length key) = omega (arith, c.min-width.ensures, c.len.ensures, ap (λ (vs : List Value). length vs) c.as_slice-values.ensures) in
    let begins : c.in_ok-front-in-ByPair.front ≡ take (length bound.from.now.table.key) key =
    c.in_ok-front-in-ByPair.ensures ∙ ap₂ (λ (n : ℕ) (vs : List Value). take n vs) width c.as_slice-values.ensures ∙ take_min (length bound.from.now.table.key) key in
    let made = c.in_ok-value-in-ByPair.ensures ∙ ap (λ places. cells places c.in-Some.row.now) (c.as_slice.ensures.value ∙ c.in_ok-places-in-ByPair.ensures) in
    λ m target raw lawful is. one_value m target raw bound is lawful key c.in_ok-front-in-ByPair.front c.in-ByPair.is begins c.in-Some.row.now c.in_ok-value-in-ByPair.value (sym c.in-Some.ensures) made
