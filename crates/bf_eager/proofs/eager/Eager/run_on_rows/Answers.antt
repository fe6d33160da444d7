-- A group that leaves the catalog leaves what it has written, where it commits.
use Rattle.std.proofs.Common.{◌≡◌, false, List, [], sym, ap, subst, ◌∙◌}
use Rattle.bf_tree.specs.Limits.{HasNarrowTables}
use Rattle.bf_sql.specs.Bound.{catalog_of}
use Rattle.bf_sql.specs.Database.{Database, IsDatabase}
use Rattle.bf_sql.specs.History.{run_group}
use Rattle.bf_txn.specs.declared.write.Write.{Write}
use Rattle.bf_live.specs.Live.{committed}
use Rattle.bf_live.specs.Open.{IsOpen}
use Rattle.bf_live.proofs.statements.Seeing.{begun}
use Rattle.bf_eager.specs.Eager.{Ran, ran_entry}
use Rattle.bf_eager.proofs.Running.{leaves_database, leaves_narrow, ran_as}
use Rattle.bf_eager.proofs.eager.Eager.run_on_rows.Goals as goal

pub replies_on_rows-requires-clause-opened : goal.replies_on_rows-requires-clause-opened
replies_on_rows-requires-clause-opened c = subst (IsOpen c.self.inside.live) (sym c.new-writes.ensures) (begun c.self.inside.live c.self.invariant.0)

pub invariant_of-self-2 : goal.invariant_of-self-2
invariant_of-self-2 c =
    let db = c.self.inside.live in
    let writes = c.replies_on_rows.new.writes in
    let left = c.in_ok-settle.ensures.ok in (
      subst IsDatabase (sym left) (leaves_database c.args.committed db writes c.self.invariant.0 c.in_ok-replies.ensures.opened),
      subst (λ (db : Database). HasNarrowTables (catalog_of db)) (sym left) (leaves_narrow c.args.committed db writes c.self.invariant.1),
    )

pub returns-clause-ok : goal.returns-clause-ok
returns-clause-ok c =
    let ran : Ran = record { commits = c.self.inside.commits; database = c.self.inside.live } in
    let ss = c.args.statements.now in
    let n = c.in_ok-commits.commits in
    let writes = c.replies_on_rows.new.writes in
    let is : run_group n false (committed ran.database []) ss ≡ (c.in_ok-replies.replies.items, committed ran.database writes) =
    ap (λ (ws : List Write). run_group n false (committed ran.database ws) ss) (sym c.new-writes.ensures) ∙ c.in_ok-replies.ensures.ran in
    ran_as ran c.args.committed n writes ss c.in_ok-replies.replies.items c.settle.new.live c.in_ok-commits.ensures.ok is c.in_ok-settle.ensures.ok
    ∙ ap (λ (r : Ran). ran_entry r c.args.committed ss) c.self.view_is
