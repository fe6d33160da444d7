use Rattle.std.proofs.Common.{List, Option, sym, ap, ◌∙◌}
use Rattle.bf_base.specs.declared.value.Value.{Value}
use Rattle.bf_txn.specs.Formers.{restored_at}
use Rattle.bf_txn.proofs.Taking.{set_nowhere}
use Rattle.bf_txn.proofs.putting.restore.Goals as goal

-- a key that is not there stays away
pub returns-in-Some : goal.returns-in-Some
returns-in-Some c =
    ap (λ m. m.entries) c.get_mut.follows.holds-at-none ∙ sym (set_nowhere _ _ c.in-Some.row (sym c.in_default.ensures.value))
    ∙ ap (λ (row : Option (Option (List Value))). restored_at row c.args.former.key c.args.rows.now.entries) (sym c.in-Some.is)
