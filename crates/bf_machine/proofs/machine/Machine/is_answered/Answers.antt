-- A group has all its replies where its last statement has one.
use Rattle.std.proofs.Common.{◌≡◌, length, arith}
use Rattle.bf_machine.proofs.keeping.PlacesInGroup.{answered_there, not_answered}
use Rattle.bf_machine.proofs.keeping.Stands.{is_there}
use Rattle.bf_machine.proofs.machine.Machine.is_answered.Goals as goal

pub returns-in-Some : goal.returns-in-Some
returns-in-Some g c =
    let there = is_there c.self.invariant.0 c.self.view_is c.requires c.index-so_far.ensures in
    let count : c.len.result ≡ length c.index-so_far.result.now.replies.items = omega (arith, c.len.ensures, c.index-so_far.result.now.replies.ok.0) in
    answered_there there c.in-Some.group c.in-Some.is c.len.result count

pub returns-in-None : goal.returns-in-None
returns-in-None g c = not_answered (is_there c.self.invariant.0 c.self.view_is c.requires c.index-so_far.ensures) c.in-None.is
