use Rattle.std.proofs.Common.{subst, sym}
use Rattle.bf_live.specs.Drafts.{AreNamedApart, Drafted, staying, with_more}
use Rattle.bf_live.specs.Live.{held_in}
use Rattle.bf_live.proofs.Drafts.{first_apart}
use Rattle.bf_live.proofs.draft.Draft.of.Goals as goal

pub with_new-requires : goal.with_new-requires
with_new-requires c =
    let new = held_in c.args.new.items in
    subst (λ (d : Drafted). AreNamedApart (with_more d.tables new)) (sym c.new.ensures)
    (first_apart new (staying c.args.gone.now c.args.old.now.tables) c.requires)
