-- No statement replies that its group died, and so nothing that a group replies on its database tells that.
use Rattle.std.proofs.Common.{◌≡◌, ℕ, ◌≤◌, Bool, true, false, List, [], ◌∷◌, ◌++◌, length, refl, sym, subst, arith}
use Rattle.std.specs.List.{AllByRecursion}
use Rattle.bf_locks.specs.Locks.{Locks}
use Rattle.bf_tree.specs.declared.history.Entry.{Entry}
use Rattle.bf_tree.specs.declared.history.Outcome.{Outcome}
use Rattle.bf_tree.specs.declared.history.Outcome.TheVariants.{Committed, RolledBack}
use Rattle.bf_tree.specs.declared.reply.Cause.TheVariants.{Died, DiskFault, Halted, LogFull, TooLarge}
use Rattle.bf_tree.specs.declared.reply.Refusal.{Refusal}
use Rattle.bf_tree.specs.declared.reply.Reply.{Reply}
use Rattle.bf_tree.specs.declared.reply.Reply.TheVariants as reply
use Rattle.bf_tree.specs.declared.script.Script.{Script}
use Rattle.bf_tree.specs.declared.statement.Statement.{Statement}
use Rattle.bf_tree.specs.declared.statement.Statement.TheVariants.{Begin, Commit, CreateIndex, CreateTable, Delete, Insert, Migrate, Rollback, Select, Update}
use Rattle.bf_sql.specs.Database.{Database}
use Rattle.bf_sql.specs.Groups.{statements_of}
use Rattle.bf_sql.specs.History.{commits_with, replayed_behind, run_group, settled}
use Rattle.bf_sql.specs.Meaning.{effect, executed, unless_refused}
use Rattle.bf_sql.specs.Objections.{objections}
use Rattle.bf_sql.specs.RowObjections.{row_objections}
use Rattle.bf_live.specs.OpenGroups.{Answered, Replays}
use Rattle.bf_machine.specs.interleaving.Groups.{Flip, HasRun, NewIndex, NewTable, Nothing, Pending, Rows, answered_by}
use Rattle.bf_txn.specs.declared.write.Write.{Write}
use Rattle.bf_run.specs.Deaths.{is_death}

abbrev pub IsNoDeath : Reply → Type 0
IsNoDeath r = is_death r ≡ false

-- a reply that tells a death
pub record IsTold (r : Reply) : Type 0 where
  pub number : ℕ
  pub is : r ≡ reply.Ended (Died number)

pub death_is : (r : Reply) → is_death r ≡ true → IsTold r
death_is (reply.Ended (Died h)) is = record { number = h; is = refl }
death_is (reply.Ended DiskFault) is = absurd cc
death_is (reply.Ended (Halted n)) is = absurd cc
death_is (reply.Ended (LogFull n k)) is = absurd cc
death_is (reply.Ended (TooLarge n)) is = absurd cc
death_is reply.Created is = absurd cc
death_is (reply.Inserted n) is = absurd cc
death_is (reply.Updated n) is = absurd cc
death_is (reply.Deleted n) is = absurd cc
death_is (reply.Rows rows) is = absurd cc
death_is (reply.Migrated n) is = absurd cc
death_is reply.Begun is = absurd cc
death_is (reply.Committed n) is = absurd cc
death_is reply.RolledBack is = absurd cc
death_is (reply.Refused refusal) is = absurd cc

effect_tells_none : (n : ℕ) (db : Database) (s : Statement) → IsNoDeath (effect n db s).0
effect_tells_none n db (CreateTable name rules key) = refl
effect_tells_none n db (CreateIndex name table columns) = refl
effect_tells_none n db (Insert table tuples) = refl
effect_tells_none n db (Select list table cond) = refl
effect_tells_none n db (Update table sets cond) = refl
effect_tells_none n db (Delete table cond) = refl
effect_tells_none n db Begin = refl
effect_tells_none n db Commit = refl
effect_tells_none n db Rollback = refl
effect_tells_none n db (Migrate migrate) = refl

unless_tells_none : (rs : List Refusal) (n : ℕ) (db : Database) (s : Statement) → IsNoDeath (unless_refused rs db (λ _. effect n db s)).0
unless_tells_none [] n db s = effect_tells_none n db s
unless_tells_none (r ∷ rs) n db s = refl

pub executed_tells_none : (n : ℕ) (db : Database) (inside : Bool) (s : Statement) → IsNoDeath (executed n db inside s).0
executed_tells_none n db inside s = unless_tells_none (objections db inside s ++ row_objections db s) n db s

abbrev pub NoDeaths : List Reply → Type 0
NoDeaths replies = AllByRecursion IsNoDeath replies

group_tells_none : (n : ℕ) (inside : Bool) (db : Database) (ss : List Statement) → NoDeaths (run_group n inside db ss).0
group_tells_none n inside db [] = tt
group_tells_none n inside db (s ∷ ss) = (executed_tells_none n db inside s, group_tells_none n true (executed n db inside s).1 ss)

settled_tells_none : (n : ℕ) (db : Database) (outcome : Outcome) (ss : List Statement) → NoDeaths (settled n db outcome ss).0
settled_tells_none n db (Committed number) ss = group_tells_none n false db ss
settled_tells_none n db RolledBack ss = group_tells_none n false db ss

pub replayed_tells_none : (n : ℕ) (script : Script) (db : Database) (history : List Entry) → AllByRecursion NoDeaths (replayed_behind n script db history).0
replayed_tells_none n script db [] = tt
replayed_tells_none n script db (e ∷ es) =
    let commit = commits_with n e.outcome in
    (settled_tells_none commit db e.outcome (statements_of script e), replayed_tells_none commit script (settled commit db e.outcome (statements_of script e)).1 es)

-- nor does an open group
abbrev NoneTold : List Answered → Type 0
NoneTold told = AllByRecursion (λ (a : Answered). IsNoDeath a.reply) told

replays_tell_none : (locks : Locks) (owner : ℕ) (db : Database) (before : List Write) (told : List Answered) (after : List Write) → Replays locks owner db before told after → NoneTold told
replays_tell_none locks owner db before [] after replays = tt
replays_tell_none locks owner db before (a ∷ more) after replays =
    (subst (λ (p : Reply × Database). IsNoDeath p.0) (replays.4.meant 0) (executed_tells_none 0 _ a.in_block a.statement), replays_tell_none locks owner db replays.1 more after replays.5)

run_tells_none : (locks : Locks) (owner : ℕ) (db : Database) (told : List Answered) (pending : Pending) → HasRun locks owner db told pending → NoneTold told
run_tells_none locks owner db told (Rows writes) run = replays_tell_none locks owner db [] told writes run
run_tells_none locks owner db told (NewTable table) run = subst NoneTold (sym run.alone) (subst (λ (p : Reply × Database). IsNoDeath p.0) (run.meant 0) (executed_tells_none 0 db false run.statement), tt)
run_tells_none locks owner db told (NewIndex index) run = subst NoneTold (sym run.alone) (subst (λ (p : Reply × Database). IsNoDeath p.0) (run.meant 0) (executed_tells_none 0 db false run.statement), tt)
run_tells_none locks owner db told (Flip plan) run = subst NoneTold (sym run.alone) (subst (λ (p : Reply × Database). IsNoDeath p.0) (run.meant 0) (executed_tells_none 0 db false run.statement), tt)
run_tells_none locks owner db told Nothing run = subst NoneTold (sym run.alone) (subst (λ (p : Reply × Database). IsNoDeath p.0) (run.meant 0) (executed_tells_none 0 db false run.statement), tt)

answered_replies : (inside : Bool) (replies : List Reply) (ss : List Statement) → length replies ≤ length ss → NoneTold (answered_by inside replies ss) → NoDeaths replies
answered_replies inside [] ss within all = tt
answered_replies inside (r ∷ rs) [] within all = absurd (omega (arith, within))
answered_replies inside (r ∷ rs) (s ∷ ss) within all = (all.0, answered_replies true rs ss (omega (arith, within)) all.1)

pub open_tells_none : (locks : Locks) (owner : ℕ) (db : Database) (replies : List Reply) (ss : List Statement) (pending : Pending) → length replies ≤ length ss
    → HasRun locks owner db (answered_by false replies ss) pending → NoDeaths replies
open_tells_none locks owner db replies ss pending within run = answered_replies false replies ss within (run_tells_none locks owner db (answered_by false replies ss) pending run)
