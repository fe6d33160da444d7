-- A session is read at its place.
use Rattle.std.proofs.Common.{ap, ap₂, sym, ◌∙◌}
use Rattle.std.specs.Prelude.{nat_le}
use Rattle.bf_tree.specs.declared.script.Session.{Session}
use Rattle.bf_machine.proofs.keeping.LeastLeft.{phase_read}
use Rattle.bf_machine.proofs.so_far.is_no_later.Goals as goal

pub returns : goal.returns
returns c =
    let xs = c.args.sessions.now in
    let own = phase_read xs c.args.place c.index-sessions-place.result c.requires.place c.index-sessions-place.is in
    let other = phase_read xs c.args.other c.index-sessions-other.result c.requires.other c.index-sessions-other.is in
    ap₂ nat_le (ap (λ (x : Session). x.phase) (sym c.index-sessions-place.is) ∙ sym own) (ap (λ (x : Session). x.phase) (sym c.index-sessions-other.is) ∙ sym other)
