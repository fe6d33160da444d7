use Rattle.std.proofs.Common.{ℕ, cond, is_eq, List, [], ◌∷◌, Option, Some, refl, sym, ap, subst, ◌∙◌, unwrap_or}
use Rattle.std.specs.BTreeMap.{BTreeMap, is_at}
use Rattle.std.specs.Map.{lookup}
use Rattle.std.specs.Option.{IsSome}
use Rattle.bf_base.specs.Lists.{name_cmp}
use Rattle.std.proofs.lemmas.Map.Steps.{set_value_same}
use Rattle.std.proofs.lemmas.Result.{on_err_weaker, on_ok_weaker}
use Rattle.bf_txn.specs.declared.write.Write.{Write}
use Rattle.bf_txn.specs.Writes.{KeyWrite, all_writes, with_key_write, with_write}
use Rattle.bf_txn.proofs.Tables.{noted_over, still_tables}
use Rattle.bf_txn.proofs.workspace.Workspace.write.Goals as goal

-- the table has writes
pub invariant_of-self : goal.invariant_of-self
invariant_of-self c =
    let old = c.self.inside.tables.entries in
    let followed = c.get_mut.follows.holds c.write.new.self in
    let there = subst (λ (o : Option (List KeyWrite)). IsSome o) c.in-Some.ensures.value refl in
    (still_tables old _ c.args.table c.write.new.self c.self.invariant.0 followed.4 c.write.ensures.sorted (followed.3 there).0, c.self.invariant.1)

pub returns-in-Some-clause-ok : goal.returns-in-Some-clause-ok
returns-in-Some-clause-ok c =
    let old = c.self.inside.tables.entries in
    let followed = c.get_mut.follows.holds c.write.new.self in
    let there = subst (λ (o : Option (List KeyWrite)). IsSome o) c.in-Some.ensures.value refl in
    let before = ap (λ (o : Option (List KeyWrite)). unwrap_or o []) c.in-Some.ensures.value in
    let write : Write = record { table = c.args.table; key = c.args.key; row = c.args.row } in
    on_ok_weaker c.write.result
    (λ ok. noted_over old _ c.args.table c.write.new.self c.self.invariant.0 followed.4 c.write.ensures.sorted (followed.3 there).0 c.in-Some.writes.now ((c.args.key, c.args.row) ∷ []) refl before ok
    ∙ ap (λ (ws : List Write). with_write ws write) c.self.view_is)
    c.write.ensures.ok

pub returns-in-Some-clause-err : goal.returns-in-Some-clause-err
returns-in-Some-clause-err c =
    let followed = c.get_mut.follows.holds c.write.new.self in
    on_err_weaker c.write.result
    (λ err. ap all_writes (followed.0 ∙ set_value_same _ c.self.inside.tables.entries c.write.new.self (sym c.in-Some.ensures.value ∙ ap Some (sym err))) ∙ c.self.view_is)
    c.write.ensures.err

-- the table gets its first write
abbrev among : List ℕ → List KeyWrite → List ℕ → BTreeMap (List ℕ) (List KeyWrite) → Option (List KeyWrite)
among table ws n tables = cond (is_eq (name_cmp table n)) (Some ws) (lookup (is_at (name_cmp n)) tables.entries)

pub invariant_of-self-2 : goal.invariant_of-self-2
invariant_of-self-2 c =
    (still_tables c.self.inside.tables.entries c.insert.new.self.entries c.args.table c.write-2.new.self c.self.invariant.0 c.insert.ensures.ordered c.write-2.ensures.sorted (λ n. c.in_ok-insert.ensures.updates.0 n ∙ ap (among c.args.table c.write-2.new.self n) c.get_mut.follows.holds-at-none), c.self.invariant.1)

pub returns-clause-ok : goal.returns-clause-ok
returns-clause-ok c =
    let write : Write = record { table = c.args.table; key = c.args.key; row = c.args.row } in
    let before = ap (λ (o : Option (List KeyWrite)). unwrap_or o []) c.in_default.ensures.value in
    let now_is = c.in_ok-write.ensures.ok ∙ ap (λ (ws : List KeyWrite). with_key_write ws (c.args.key, c.args.row)) c.new-writes.ensures in
    noted_over c.self.inside.tables.entries c.insert.new.self.entries c.args.table c.write-2.new.self c.self.invariant.0 c.insert.ensures.ordered c.write-2.ensures.sorted (λ n. c.in_ok-insert.ensures.updates.0 n ∙ ap (among c.args.table c.write-2.new.self n) c.get_mut.follows.holds-at-none)
    [] ((c.args.key, c.args.row) ∷ []) refl before now_is
    ∙ ap (λ (ws : List Write). with_write ws write) c.self.view_is
