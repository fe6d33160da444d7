-- While a flip is pending nothing is left to move, and no other open group is to leave anything.
use Rattle.std.proofs.Common.{◌≡◌, ◌≢◌, ℕ, List, [], Some, sym, ap, subst}
use Rattle.bf_locks.specs.declared.mode.Mode.TheVariants.{X}
use Rattle.bf_locks.specs.declared.name.LockName.TheVariants.{Catalog}
use Rattle.bf_locks.specs.Locks.{IsConsistent, Locks}
use Rattle.bf_tree.specs.declared.plan.Plan.{Plan}
use Rattle.bf_sql.specs.Database.{Database, IsDatabase}
use Rattle.bf_sql.specs.migrations.Lazy.{pending_of}
use Rattle.bf_live.specs.OpenGroups.{Answered, HoldsIn}
use Rattle.bf_live.proofs.locking.Groups.{may_write_all}
use Rattle.bf_live.proofs.locking.Isolation.{no_writes, none_held_beside}
use Rattle.bf_live.proofs.statements.Seeing.{begun}
use Rattle.bf_machine.specs.interleaving.Groups.{Pending, Rows, NewTable, NewIndex, Flip, Nothing, HasRun}
use Rattle.bf_machine.specs.interleaving.Kept.{CanBePutInto, IsKept}
use Rattle.bf_machine.specs.interleaving.Machines.{Machine, Open, answered_in, open_at}
use Rattle.bf_machine.proofs.interleaving.Others.{starts_differ}

-- beside an owner that has the catalog to itself
nothing_beside : (locks : Locks) → IsConsistent locks → (owner other : ℕ) → owner ≢ other → (db : Database) → IsDatabase db → HoldsIn locks other Catalog X
    → (told : List Answered) (p : Pending) → HasRun locks owner db told p → p ≡ Rows []
nothing_beside locks consistent owner other apart db is whole told (Rows writes) run =
    ap Rows (no_writes locks other owner consistent (λ e. apart (sym e)) whole writes (may_write_all locks owner db told [] writes (begun db is) tt run))
nothing_beside locks consistent owner other apart db is whole told (NewTable table) run = absurd (none_held_beside locks owner other consistent apart Catalog X run.holds whole)
nothing_beside locks consistent owner other apart db is whole told (NewIndex index) run = absurd (none_held_beside locks owner other consistent apart Catalog X run.holds whole)
nothing_beside locks consistent owner other apart db is whole told (Flip plan) run = absurd (none_held_beside locks owner other consistent apart Catalog X run.holds whole)
nothing_beside locks consistent owner other apart db is whole told Nothing run = absurd (none_held_beside locks owner other consistent apart Catalog X run.holds whole)

module _ (start : Database) (m : Machine) (kept : IsKept start m) (s : ℕ) (o : Open) (plan : Plan) (there : open_at m s ≡ Some o) (flips : o.pending ≡ Flip plan) where
  pub flip_is_whole : pending_of m.lazy.last ≡ []
  flip_is_whole = (subst (CanBePutInto m.lazy) flips (kept.store_valid.puts s o there)).may.complete

  pub flip_is_alone : (t : ℕ) (other : Open) → t ≢ s → open_at m t ≡ Some other → other.pending ≡ Rows []
  flip_is_alone t other apart is_open =
      let own = kept.open_groups_replay.each s o there in
      let run : HasRun m.locks o.start m.db (answered_in m.script s o) (Flip plan) = subst (HasRun m.locks o.start m.db (answered_in m.script s o)) flips own.run in
      let its = kept.open_groups_replay.each t other is_open in
      let starts = starts_differ m.began s t o.group other.group o.start other.start apart (kept.locks_consistent.starts t other is_open) (kept.locks_consistent.starts s o there) in
      nothing_beside m.locks kept.locks_consistent.apart other.start o.start starts m.db kept.history_legal.database run.holds (answered_in m.script t other) other.pending its.run
