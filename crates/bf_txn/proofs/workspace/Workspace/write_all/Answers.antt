use Rattle.std.proofs.Common.{ℕ, cond, is_eq, List, [], Option, Some, refl, sym, ap, subst, ◌∙◌, unwrap_or, fold}
use Rattle.std.specs.BTreeMap.{BTreeMap, is_at}
use Rattle.std.specs.Map.{lookup}
use Rattle.std.specs.Option.{IsSome}
use Rattle.std.proofs.lemmas.Map.Steps.{set_value_same}
use Rattle.std.proofs.lemmas.Result.{on_err_weaker, on_ok_weaker}
use Rattle.bf_base.specs.Lists.{name_cmp}
use Rattle.bf_base.specs.Values.{key_cmp_total}
use Rattle.bf_txn.specs.declared.write.Write.{Write}
use Rattle.bf_txn.specs.Writes.{AreKeyWrites, AreWrites, KeyWrite, all_writes, with_write, writes_at, writes_in}
use Rattle.bf_txn.proofs.KeyWrites.{rises_from_sorted}
use Rattle.bf_txn.proofs.Tables.{are_writes, noted_first, noted_over, still_tables}
use Rattle.bf_txn.proofs.workspace.Workspace.write_all.Goals as goal

-- the table has writes
pub invariant_of-self : goal.invariant_of-self
invariant_of-self c =
    let followed = c.get_mut.follows.holds c.write_all.new.self in
    let there = subst (λ (o : Option (List KeyWrite)). IsSome o) c.in-Some.ensures.value refl in
    (still_tables c.self.inside.tables.entries _ c.args.table.now c.write_all.new.self c.self.invariant.0 followed.4 c.write_all.ensures.sorted (followed.3 there).0, c.self.invariant.1)

pub returns-in-Some-clause-ok : goal.returns-in-Some-clause-ok
returns-in-Some-clause-ok c =
    let followed = c.get_mut.follows.holds c.write_all.new.self in
    let there = subst (λ (o : Option (List KeyWrite)). IsSome o) c.in-Some.ensures.value refl in
    let before = ap (λ (o : Option (List KeyWrite)). unwrap_or o []) c.in-Some.ensures.value in
    on_ok_weaker c.write_all.result
    (λ ok. noted_over c.self.inside.tables.entries _ c.args.table.now c.write_all.new.self c.self.invariant.0 followed.4 c.write_all.ensures.sorted (followed.3 there).0 c.in-Some.before.now c.args.writes
    (rises_from_sorted key_cmp_total c.args.writes c.write_all.ensures.more_sorted) before ok
    ∙ ap (λ (ws : List Write). fold with_write ws (writes_in c.args.table.now c.args.writes)) c.self.view_is)
    c.write_all.ensures.ok

pub returns-in-Some-clause-err : goal.returns-in-Some-clause-err
returns-in-Some-clause-err c =
    let followed = c.get_mut.follows.holds c.write_all.new.self in
    on_err_weaker c.write_all.result
    (λ err. ap all_writes (followed.0 ∙ set_value_same _ c.self.inside.tables.entries c.write_all.new.self (sym c.in-Some.ensures.value ∙ ap Some (sym err))) ∙ c.self.view_is)
    c.write_all.ensures.err

-- the table's writes are taken over
abbrev among : List ℕ → List KeyWrite → List ℕ → BTreeMap (List ℕ) (List KeyWrite) → Option (List KeyWrite)
among table ws n tables = cond (is_eq (name_cmp table n)) (Some ws) (lookup (is_at (name_cmp n)) tables.entries)

pub invariant_of-self-2 : goal.invariant_of-self-2
invariant_of-self-2 c =
    let named = c.in_ok-copy.field-0 in (
      still_tables c.self.inside.tables.entries c.insert.new.self.entries named c.args.writes c.self.invariant.0 c.insert.ensures.ordered (subst AreKeyWrites c.writes.view_is c.writes.invariant)
          (λ n. c.in_ok-insert.ensures.updates.0 n ∙ ap (among named c.args.writes n) c.get_mut.follows.holds-at-none),
      c.self.invariant.1,
    )

pub returns-clause-ok : goal.returns-clause-ok
returns-clause-ok c =
    let named = c.in_ok-copy.field-0 in
    let sorted = subst AreKeyWrites c.writes.view_is c.writes.invariant in
    let before = ap (λ (o : Option (List KeyWrite)). unwrap_or o []) c.in_default.ensures.value ∙ ap (writes_at c.self.inside.tables.entries) (sym c.in_ok-copy.ensures) in
    noted_first c.self.inside.tables.entries c.insert.new.self.entries named c.args.writes c.self.invariant.0 c.insert.ensures.ordered sorted
    (λ n. c.in_ok-insert.ensures.updates.0 n ∙ ap (among named c.args.writes n) c.get_mut.follows.holds-at-none)
    (rises_from_sorted key_cmp_total c.args.writes sorted) before
    ∙ ap (λ (n : List ℕ). fold with_write (all_writes c.self.inside.tables.entries) (writes_in n c.args.writes)) c.in_ok-copy.ensures
    ∙ ap (λ (ws : List Write). fold with_write ws (writes_in c.args.table.now c.args.writes)) c.self.view_is

pub returns-in-Some-clause-sorted : goal.returns-in-Some-clause-sorted
returns-in-Some-clause-sorted c = subst AreWrites c.self.view_is (are_writes c.self.inside.tables.entries c.self.invariant.0)

pub returns-clause-sorted : goal.returns-clause-sorted
returns-clause-sorted c = subst AreWrites c.self.view_is (are_writes c.self.inside.tables.entries c.self.invariant.0)

pub returns-in_err-copy-clause-sorted : goal.returns-in_err-copy-clause-sorted
returns-in_err-copy-clause-sorted c = subst AreWrites c.self.view_is (are_writes c.self.inside.tables.entries c.self.invariant.0)

pub returns-in_err-insert-clause-sorted : goal.returns-in_err-insert-clause-sorted
returns-in_err-insert-clause-sorted c = subst AreWrites c.self.view_is (are_writes c.self.inside.tables.entries c.self.invariant.0)
