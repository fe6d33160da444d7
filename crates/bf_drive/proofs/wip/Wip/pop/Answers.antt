use Rattle.std.proofs.Common.{◌≡◌, ◌-◌, length, take, List, ◌∙◌, sym, ap, subst}
use Rattle.std.specs.List.{slice_get}
use Rattle.std.specs.Option.{option_flatten}
use Rattle.bf_drive.specs.Lists.{Entry, IsWip}
use Rattle.bf_drive.specs.Keeping.{values_in}
use Rattle.bf_drive.proofs.Places.{values_in-take, length-values_in, kept-take, popped}
use Rattle.bf_drive.proofs.Rows.{wip-take}
use Rattle.bf_drive.proofs.wip.Wip.pop.Goals as goal

-- the list after the pop
after : (c : goal.After-flatten) → values_in c.pop.new.self.items ≡ take (length c.args.self.now - 1) c.args.self.now
after c =
    let entries = c.self.inside.entries.items in let full = c.self.invariant.0.full in
    ap values_in c.pop.ensures.rest ∙ (ap (λ n. values_in (take (n - 1) entries)) (length-values_in entries (values_in entries) full)
    ∙ (values_in-take (length (values_in entries) - 1) entries (values_in entries) full ∙ ap (λ (xs : List Entry). take (length xs - 1) xs) c.self.view_is))

sound : (c : goal.After-flatten) → IsWip (values_in c.pop.new.self.items)
sound c = subst IsWip (sym (after c)) (wip-take (length c.args.self.now - 1) c.args.self.now (subst IsWip c.self.view_is c.self.invariant.1))

pub invariant_of-self : goal.invariant_of-self
invariant_of-self c = (kept-take c.self.inside.entries c.pop.new.self _ c.self.invariant.0 c.pop.ensures.rest c.pop.ensures.capacity, sound c)

pub returns-clause-last : goal.returns-clause-last
returns-clause-last c =
    c.flatten.ensures ∙ (ap option_flatten c.pop.ensures.value ∙ (popped c.self.inside.entries.items (values_in c.self.inside.entries.items) c.self.invariant.0.full
    ∙ ap (λ (xs : List Entry). slice_get xs (length xs - 1)) c.self.view_is))

pub returns-clause-rest : goal.returns-clause-rest
returns-clause-rest c = after c

pub returns-clause-sound : goal.returns-clause-sound
returns-clause-sound c = sound c
