use Rattle.std.proofs.Common.{ℕ, Option, None, false, List, ap, subst}
use Rattle.bf_disk.specs.Shelves.{Puts}
use Rattle.bullfrog.specs.Lending.{Lending, taken_of}
use Rattle.bullfrog.proofs.Lending.{puts}
use Rattle.bullfrog.proofs.shelving.FileShelfShelf.put_back.Goals as goal

pub returns-clause-taken : goal.returns-clause-taken
returns-clause-taken g c =
    let path = c.args.path.now in
    let now = c.saturating_add-self-inside.result in
    let after : Lending = record { lent = c.remove.new.self.keys; faults = now } in
    subst (λ (before : List ℕ → Option ℕ). Puts path None before (taken_of after)) (ap taken_of c.self.view_is)
    (puts path c.self.inside.lent c.remove.new.self false c.remove.ensures.updates c.self.inside.faults now)
