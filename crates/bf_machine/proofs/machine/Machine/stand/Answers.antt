-- What it reads of a session is what is seen of it.
use Rattle.std.proofs.Common.{◌≡◌, false, sym, ap, ◌∙◌}
use Rattle.std.proofs.lemmas.Bool.{false≢true}
use Rattle.bf_tree.specs.declared.script.Script.{Script}
use Rattle.bf_tree.specs.declared.script.Session.{Session}
use Rattle.bf_machine.proofs.keeping.Current.{has_ended}
use Rattle.bf_machine.proofs.keeping.Stands.{is_there, none_open, not_ended, own_there, some_left, some_open}
use Rattle.bf_machine.proofs.machine.Machine.stand.Goals as goal

pub returns-then-not-is_current : goal.returns-then-not-is_current
returns-then-not-is_current g c =
    let there = is_there c.self.invariant.0 c.self.view_is c.requires c.index-so_far.ensures in
    let y : Session = c.index-as_slice-place.result in
    let own = own_there there (c.as_slice.ensures ∙ ap (λ (script : Script). script.sessions) c.deref.ensures) c.index-as_slice-place.is (ap (λ (x : Session). x.statements) c.index-as_slice-place.is) in
    let not_yet : has_ended y c.index-so_far.result.now ≡ false = sym c.has_ended.ensures ∙ c.if-has_ended.false in
    (not_ended there y own not_yet, λ current. false≢true (sym c.if-not-is_current.true ∙ c.is_current.ensures.1 current))

pub stand_in_group-requires-clause-opened : goal.stand_in_group-requires-clause-opened
stand_in_group-requires-clause-opened g c =
    let there = is_there c.self.invariant.0 c.self.view_is c.requires c.index-so_far.ensures in
    some_open there (sym c.is_some.ensures ∙ c.if-is_some.true)

pub stand_between_groups-requires-clause-closed : goal.stand_between_groups-requires-clause-closed
stand_between_groups-requires-clause-closed g c =
    let there = is_there c.self.invariant.0 c.self.view_is c.requires c.index-so_far.ensures in
    none_open there (sym c.is_some.ensures ∙ c.if-is_some.false)

pub stand_between_groups-requires-clause-left : goal.stand_between_groups-requires-clause-left
stand_between_groups-requires-clause-left g c =
    let there = is_there c.self.invariant.0 c.self.view_is c.requires c.index-so_far.ensures in
    let y : Session = c.index-as_slice-place.result in
    let own = own_there there (c.as_slice.ensures ∙ ap (λ (script : Script). script.sessions) c.deref.ensures) c.index-as_slice-place.is (ap (λ (x : Session). x.statements) c.index-as_slice-place.is) in
    let not_yet : has_ended y c.index-so_far.result.now ≡ false = sym c.has_ended.ensures ∙ c.if-has_ended.false in
    some_left there y own not_yet (sym c.is_some.ensures ∙ c.if-is_some.false)
