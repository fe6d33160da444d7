use Rattle.std.proofs.Common.{◌≡◌, length, Option, Some, None, sym, ap, ◌∙◌}
use Rattle.std.specs.Option.{option_copied, option_map}
use Rattle.bf_sql.specs.Scopes.{Scope, scope_of}
use Rattle.bf_bind.specs.Parts.{first_meant}
use Rattle.bf_bind.specs.declared.scope.ColumnPlace.{ColumnPlace}
use Rattle.bf_bind.proofs.Columns.{behind}
use Rattle.bf_bind.proofs.Scopes.{first-from, first-join, there}
use Rattle.bf_bind.proofs.scope.Scope.first_meant.Goals as goal

pub returns-in-Some : goal.returns-in-Some
returns-in-Some c =
    let ref = c.args.reference.now in
    sym (ap (λ (s : Scope). first_meant s ref) (sym c.self.view_is) ∙ first-from c.self.inside.from.now ref (option_copied c.self.inside.join) c.in-Some.found (sym c.in-Some.ensures.first))

pub returns-in_err-found : goal.returns-in_err-found
returns-in_err-found c =
    let ref = c.args.reference.now in
    let from = c.self.inside.from.now in
    let join = c.in_ok-self.field-0.now in
    let none : first_meant (scope_of from) ref ≡ None = sym c.in_default.ensures.first in
    let no_more : first_meant (scope_of join) ref ≡ None = sym c.in_err-found.ensures.first in
    c.from_residual-in_err-found.ensures
    ∙ sym (ap (λ (s : Scope). first_meant s ref) (sym c.self.view_is) ∙ first-join from ref (option_copied c.self.inside.join) join (there c.self.inside.join c.in_ok-self.field-0 c.in_ok-self.was) none
    ∙ ap (λ (o : Option ColumnPlace). option_map (behind (length from.columns)) o) no_more)

pub returns : goal.returns
returns c =
    let ref = c.args.reference.now in
    let from = c.self.inside.from.now in
    let join = c.in_ok-self.field-0.now in
    let none : first_meant (scope_of from) ref ≡ None = sym c.in_default.ensures.first in
    let found : first_meant (scope_of join) ref ≡ Some c.in_ok-found.found = sym c.in_ok-found.ensures.first in
    rw c.as_slice.ensures
    (sym (ap (λ (s : Scope). first_meant s ref) (sym c.self.view_is) ∙ first-join from ref (option_copied c.self.inside.join) join (there c.self.inside.join c.in_ok-self.field-0 c.in_ok-self.was) none
    ∙ ap (λ (o : Option ColumnPlace). option_map (behind (length from.columns)) o) found))
