use Rattle.std.proofs.Common.{◌≡◌, List, [], ◌∷◌, ◌++◌, ◌∙◌, sym, ap, subst}
use Rattle.bf_base.specs.declared.granule.Granule.{Granule}
use Rattle.bf_drive.specs.Lists.{IsSkip}
use Rattle.bf_drive.specs.Keeping.{values_in}
use Rattle.bf_drive.proofs.Places.{values_in-snoc, kept-snoc}
use Rattle.bf_drive.proofs.Rows.{skip-snoc}
use Rattle.bf_drive.proofs.skip.Skip.push.Goals as goal

-- the list after the push
after : (c : goal.After-push_reserved) → values_in c.push_reserved.new.self.items ≡ c.args.self.now ++ c.args.granule ∷ []
after c = ap values_in c.push_reserved.ensures.items ∙ (values_in-snoc c.self.inside.granules.items c.args.granule ∙ ap (λ (xs : List Granule). xs ++ c.args.granule ∷ []) c.self.view_is)

sound : (c : goal.After-push_reserved) → IsSkip (values_in c.push_reserved.new.self.items)
sound c = subst IsSkip (sym (after c)) (skip-snoc c.args.self.now c.args.granule (subst IsSkip c.self.view_is c.self.invariant.1) c.requires.few c.requires.different)

pub invariant_of-self : goal.invariant_of-self
invariant_of-self c = (kept-snoc c.self.inside.granules c.push_reserved.new.self c.args.granule c.self.invariant.0 c.push_reserved.ensures.items c.push_reserved.ensures.capacity, sound c)

pub returns-clause-pushed : goal.returns-clause-pushed
returns-clause-pushed c = after c

pub returns-clause-sound : goal.returns-clause-sound
returns-clause-sound c = sound c
