-- The granule at an anchor, if there is one, goes among those so far.
use Rattle.std.proofs.Common.{◌≡◌, ◌≢◌, length, sym, subst, ◌∙◌, arith, Some}
use Rattle.bf_image.specs.Migrations.{anchored_at}
use Rattle.bf_serve.proofs.Anchoring.{AreSoFar, one_more}
use Rattle.bf_serve.proofs.ahead.granules_between.Goals as goal
use Rattle.bf_serve.proofs.ahead.granules_between.Goals.{in-Some+in_ok-add_in_order, in_default}

pub loop-anchor-preserved : goal.loop-anchor-preserved
loop-anchor-preserved c =
    let m = c.args.migration.now in
    let unit = c.args.anchors.now.unit in
    let before = c.loop-anchor.granules.items in
    elim c.match-branch-2.branch [
      | in-Some+in_ok-add_in_order w ↦
          let few : length before ≢ c.args.most = λ all. c.if-len-most.false (c.len.ensures ∙ omega (arith, c.loop-anchor.granules.ok.0, all)) in
          let at : anchored_at m unit c.loop-anchor.anchor ≡ Some w.in-Some.granule = sym c.in_ok-granule.ensures ∙ w.in-Some.is in
          subst (AreSoFar m unit c.args.most) (sym ((λ i. (w.granules-is i).items) ∙ w.in_ok-add_in_order.ensures.added))
          (one_more m unit c.args.most c.loop-anchor.anchor before w.in-Some.granule c.loop-anchor.invariant few at)
      | in_default w ↦ subst (AreSoFar m unit c.args.most) (sym (λ i. (w.granules-is i).items)) c.loop-anchor.invariant
    ]
