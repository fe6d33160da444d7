-- In a block stands what has a reply of its group before it.
use Rattle.std.proofs.Common.{◌≡◌, length, arith}
use Rattle.bf_machine.proofs.keeping.PlacesInGroup.{block_there, in_no_block}
use Rattle.bf_machine.proofs.keeping.Stands.{bounds, is_there}
use Rattle.bf_machine.proofs.machine.Machine.is_in_block.Goals as goal

pub returns-in-Some : goal.returns-in-Some
returns-in-Some g c =
    let there = is_there c.self.invariant.0 c.self.view_is c.requires c.index-so_far.ensures in
    let count : c.len.result ≡ length c.index-so_far.result.now.replies.items = omega (arith, c.len.ensures, c.index-so_far.result.now.replies.ok.0) in
    block_there there c.in-Some.group c.in-Some.is c.len.result count (bounds there c.in-Some.group c.in-Some.is).0

pub returns-in-None : goal.returns-in-None
returns-in-None g c = in_no_block (is_there c.self.invariant.0 c.self.view_is c.requires c.index-so_far.ensures) c.in-None.is
