use Rattle.std.proofs.Common.{◌≡◌, length, sym, ◌∙◌, arith}
use Rattle.std.proofs.lemmas.Grind.{common_steps}
use Rattle.bf_bind.proofs.Columns.{qualifiers}
use Rattle.bf_bind.proofs.scope.is_qualifier.Goals as goal

pub returns-then-not-is_empty : goal.returns-then-not-is_empty
returns-then-not-is_empty c =
    let some : length c.args.table.now.columns ≡ 0 → ⊥ = λ e. grind (arith, common_steps) in
    c.eq.ensures ∙ sym (qualifiers c.args.table.now c.args.qualifier.now some)
