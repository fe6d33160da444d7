use Rattle.std.proofs.Common.{ℕ, ◌-◌, List, length, sym, ap, drop, ◌∙◌}
use Rattle.std.specs.List.{list_any}
use Rattle.std.specs.Option.{option_copied}
use Rattle.bf_base.specs.declared.table.Column.{Column}
use Rattle.bf_sql.specs.Scopes.{Scope}
use Rattle.bf_bind.specs.Parts.{means}
use Rattle.bf_bind.proofs.Scopes.{any-alone, any-from, any-join, not_there, there}
use Rattle.bf_bind.proofs.scope.Scope.is_meant_from.Goals as goal

pub returns-then-is_meant_from : goal.returns-then-is_meant_from
returns-then-is_meant_from c =
    let ref = c.args.reference.now in
    let meant = sym c.if-is_meant_from.ensures in
    sym (ap (λ (s : Scope). list_any (means ref) (drop c.args.place s)) (sym c.self.view_is) ∙ any-from c.self.inside.from.now ref (option_copied c.self.inside.join) c.args.place meant)

pub returns-in-Some : goal.returns-in-Some
returns-in-Some c =
    let ref = c.args.reference.now in
    let meant = sym c.if-is_meant_from.ensures in
    let other = c.is_meant_from-in-Some.ensures ∙ ap (λ (n : ℕ). list_any (λ (x : Column). means ref (c.in-Some.join.now.name, x)) (drop n c.in-Some.join.now.columns)) (c.saturating_sub.ensures ∙ ap (λ (columns : List Column). c.args.place - length columns) c.as_slice-width.ensures) in
    other
    ∙ sym (ap (λ (s : Scope). list_any (means ref) (drop c.args.place s)) (sym c.self.view_is) ∙ any-join c.self.inside.from.now ref (option_copied c.self.inside.join) c.in-Some.join.now c.args.place (there c.self.inside.join c.in-Some.join c.in-Some.is) meant)

pub returns-in-None : goal.returns-in-None
returns-in-None c =
    let ref = c.args.reference.now in
    let meant = sym c.if-is_meant_from.ensures in
    sym (ap (λ (s : Scope). list_any (means ref) (drop c.args.place s)) (sym c.self.view_is) ∙ any-alone c.self.inside.from.now ref (option_copied c.self.inside.join) c.args.place (not_there c.self.inside.join c.in-None.is) meant)
