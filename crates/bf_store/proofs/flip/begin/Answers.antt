-- A migration that the registry does not take comes back as it was, and so do the rows.
use Rattle.std.proofs.Common.{List, sym, ap, subst, ◌∙◌}
use Rattle.std.specs.Prelude.{fold}
use Rattle.bf_image.specs.declared.migration.Frozen.{Frozen}
use Rattle.bf_image.specs.declared.migration.Migration.{Migration as Kept}
use Rattle.bf_store.specs.Flips.{MayComeBack, with_back}
use Rattle.bf_store.proofs.flip.begin.Goals as goal

pub put_back-requires : goal.put_back-requires
put_back-requires g c =
    let same = c.into_vec.ensures ∙ ap (λ (m : Kept). m.frozen) c.in-Err.ensures.back in
    subst (λ (fs : List Frozen). MayComeBack c.args.live.now fs) (sym same) c.requires.back

pub returns-in-Err-clause-err : goal.returns-in-Err-clause-err
returns-in-Err-clause-err g c =
    let same = c.into_vec.ensures ∙ ap (λ (m : Kept). m.frozen) c.in-Err.ensures.back in
    c.put_back.ensures ∙ ap (λ (fs : List Frozen). fold with_back c.args.live.now fs) same
