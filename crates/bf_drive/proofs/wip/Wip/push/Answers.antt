use Rattle.std.proofs.Common.{◌≡◌, List, [], ◌∷◌, ◌++◌, ◌∙◌, sym, ap, subst}
use Rattle.bf_drive.specs.Lists.{Entry, IsWip}
use Rattle.bf_drive.specs.Keeping.{values_in}
use Rattle.bf_drive.proofs.Places.{values_in-snoc, kept-snoc}
use Rattle.bf_drive.proofs.Rows.{wip-snoc}
use Rattle.bf_drive.proofs.wip.Wip.push.Goals as goal

-- the list after the push
after : (c : goal.After-push_reserved) → values_in c.push_reserved.new.self.items ≡ c.args.self.now ++ (c.args.granule, c.args.claim) ∷ []
after c = ap values_in c.push_reserved.ensures.items ∙ (values_in-snoc c.self.inside.entries.items (c.args.granule, c.args.claim) ∙ ap (λ (xs : List Entry). xs ++ (c.args.granule, c.args.claim) ∷ []) c.self.view_is)

sound : (c : goal.After-push_reserved) → IsWip (values_in c.push_reserved.new.self.items)
sound c = subst IsWip (sym (after c)) (wip-snoc c.args.self.now (c.args.granule, c.args.claim) (subst IsWip c.self.view_is c.self.invariant.1) c.requires.few c.requires.different c.requires.own)

pub invariant_of-self : goal.invariant_of-self
invariant_of-self c = (kept-snoc c.self.inside.entries c.push_reserved.new.self (c.args.granule, c.args.claim) c.self.invariant.0 c.push_reserved.ensures.items c.push_reserved.ensures.capacity, sound c)

pub returns-clause-pushed : goal.returns-clause-pushed
returns-clause-pushed c = after c

pub returns-clause-sound : goal.returns-clause-sound
returns-clause-sound c = sound c
