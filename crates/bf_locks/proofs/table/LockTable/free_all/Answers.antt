use Rattle.std.proofs.Common.{◌≡◌, None, Contains, refl, inl, inr, sym, ap, subst, ◌∙◌}
use Rattle.std.proofs.lemmas.Bool.{cases_eq}
use Rattle.bf_locks.specs.Locks.{held, without_owner, IsConsistent}
use Rattle.bf_locks.specs.Table.{locks_of, names_of}
use Rattle.bf_locks.proofs.Held.{consistent_without}
use Rattle.bf_locks.proofs.Freed.{all_freed}
use Rattle.bf_locks.proofs.Holders.{no_entries}
use Rattle.bf_locks.proofs.Sound.{none_among, names_in, lists_without, sound_kept, sound_freed, nothing_left}
use Rattle.bf_locks.proofs.table.LockTable.free_all.Goals.{After-drop-names-2}
use Rattle.bf_locks.proofs.table.LockTable.free_all.Goals as goal

-- an owner with no list still has none
pub invariant_of-self : goal.invariant_of-self
invariant_of-self c =
    let lists = lists_without c.self.inside.owned c.remove.new.self c.args.owner c.remove.ensures.updates.0 in
    sound_kept c.self.inside.holders c.self.inside.holders c.self.inside.owned c.remove.new.self c.self.invariant c.self.invariant.ordered
    (λ by. elim (cases_eq by c.args.owner) [
      | inl same ↦ ap (names_of c.remove.new.self) same ∙ lists.0 ∙ sym (names_in c.self.inside.owned c.args.owner None (sym c.in_default.ensures.value)) ∙ ap (names_of c.self.inside.owned) (sym same)
      | inr apart ↦ lists.1 by apart
    ])
    (λ at by. refl) c.self.invariant.consistent

-- an owner with no list holds nothing
pub returns-in_default-clause-freed : goal.returns-in_default-clause-freed
returns-in_default-clause-freed c =
    all_freed c.args.self.now (locks_of c.self.inside.holders) c.args.owner
    (λ at by apart. ap (λ m. held m at by) c.self.view_is)
    (λ at some. none_among at (subst (λ names. Contains names at) (names_in c.self.inside.owned c.args.owner None (sym c.in_default.ensures.value)) ((c.self.invariant.listed c.args.owner at).1 some)))

-- others hold something
pub invariant_of-self-then-not-is_empty : goal.invariant_of-self-then-not-is_empty
invariant_of-self-then-not-is_empty c =
    let lists = lists_without c.self.inside.owned c.remove.new.self c.args.owner c.remove.ensures.updates.0 in
    sound_freed c.self.inside.holders c.free_each.new.holders c.self.inside.owned c.remove.new.self c.self.invariant c.free_each.ensures.ordered c.args.owner
    lists.0 lists.1 c.free_each.ensures.freed

pub returns-then-not-is_empty-clause-consistent : goal.returns-then-not-is_empty-clause-consistent
returns-then-not-is_empty-clause-consistent c =
    subst IsConsistent (sym c.free_each.ensures.freed) (consistent_without (locks_of c.self.inside.holders) c.args.owner c.self.invariant.consistent)

-- nobody else holds anything
all_gone : (c : After-drop-names-2) → locks_of c.clear.new.self ≡ without_owner (locks_of c.self.inside.holders) c.args.owner
all_gone c =
    let lists = lists_without c.self.inside.owned c.remove.new.self c.args.owner c.remove.ensures.updates.0 in
    nothing_left c.self.inside.holders c.clear.new.self c.self.inside.owned c.remove.new.self c.self.invariant c.clear.ensures.ordered c.args.owner
    lists.1 (no_entries c.remove.new.self.entries (c.is_empty.ensures.0 c.if-not-is_empty.false)) c.clear.ensures.empty

pub invariant_of-self-2 : goal.invariant_of-self-2
invariant_of-self-2 c =
    let lists = lists_without c.self.inside.owned c.remove.new.self c.args.owner c.remove.ensures.updates.0 in
    sound_freed c.self.inside.holders c.clear.new.self c.self.inside.owned c.remove.new.self c.self.invariant c.clear.ensures.ordered c.args.owner
    lists.0 lists.1 (all_gone c)

pub returns-clause-freed : goal.returns-clause-freed
returns-clause-freed c = all_gone c ∙ ap (λ m. without_owner m c.args.owner) c.self.view_is

pub returns-clause-consistent : goal.returns-clause-consistent
returns-clause-consistent c =
    subst IsConsistent (sym (all_gone c)) (consistent_without (locks_of c.self.inside.holders) c.args.owner c.self.invariant.consistent)
