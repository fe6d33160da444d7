use Rattle.std.proofs.Common.{List, sym, ap, ◌∙◌}
use Rattle.bf_txn.specs.declared.putting.Former.{Former}
use Rattle.bf_txn.specs.Formers.{undone}
use Rattle.bf_txn.proofs.Taking.{undone_last}
use Rattle.bf_txn.proofs.putting.undo.Goals as goal

pub loop-former-preserved : goal.loop-former-preserved
loop-former-preserved c =
    ap (undone c.pop.new.self.items) c.restore.ensures
    ∙ sym (undone_last c.pop.new.self.items c.in-Some.former c.loop-former.rows.entries)
    ∙ ap (λ (formers : List Former). undone formers c.loop-former.rows.entries) (sym c.in-Some.ensures.items)
    ∙ c.loop-former.invariant
