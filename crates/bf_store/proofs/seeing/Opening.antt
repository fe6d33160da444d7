-- A transaction begins open, and a statement that the catalog refuses is refused on what is seen.
use Rattle.std.proofs.Common.{◌≡◌, Bool, false, List, [], ◌∷◌, Some, sym, ◌∙◌}
use Rattle.std.specs.List.{AllByRecursion}
use Rattle.bf_tree.specs.declared.bound.Action.TheVariants as action
use Rattle.bf_tree.specs.declared.bound.Bound.{Bound}
use Rattle.bf_tree.specs.declared.catalog.Catalog.{Catalog}
use Rattle.bf_tree.specs.declared.reply.Refusal.{Refusal}
use Rattle.bf_tree.specs.declared.reply.Reply.TheVariants as reply
use Rattle.bf_tree.specs.declared.statement.Statement.{Statement}
use Rattle.bf_txn.specs.declared.write.Write.{Write}
use Rattle.bf_sql.specs.Bound.{is_planned, without_rows, bound_of, catalog_of}
use Rattle.bf_sql.specs.Database.{Stored}
use Rattle.bf_sql.specs.migrations.Lazy.{LazyState, view_of}
use Rattle.bf_live.specs.Live.{committed}
use Rattle.bf_live.specs.Open.{IsStep}
use Rattle.bf_live.proofs.statements.Outcomes.{IsBoundIn, bound_in, refused, refused_writes}
use Rattle.bf_live.proofs.statements.Seeing.{begun, same_catalog}
use Rattle.bf_store.specs.States.{IsLazy, IsOpenLazily, AreFree}
use Rattle.bf_store.proofs.seeing.Stepping.{open_over_view}
use Rattle.bf_store.proofs.seeing.Viewing.{same_catalog_seen}

pub begins : (lazy : LazyState) → IsLazy lazy → IsOpenLazily lazy []
begins lazy is = record { over_live = begun lazy.live is.live; free = each lazy.live.tables }
  where
    each : (ss : List Stored) → AllByRecursion (λ s. AreFree lazy.last [] s.table) ss
    each [] = tt
    each (s ∷ ss) = (tt, each ss)

pub refused_is_seen : (lazy : LazyState) (before : List Write) (in_block : Bool) (s : Statement) (catalog : Catalog) (bound : Bound) (r : Refusal) → IsLazy lazy → IsOpenLazily lazy before → is_planned in_block s ≡ false
    → catalog ≡ catalog_of lazy.live → bound_of (without_rows catalog) in_block s ≡ Some bound → bound.action ≡ action.Refused r → IsStep (view_of lazy) before before in_block s (reply.Refused r)
refused_is_seen lazy before in_block s catalog bound r is opened planned same found act =
    let shown = committed (view_of lazy) before in
    let over = open_over_view lazy is before opened in
    let within : IsBoundIn shown in_block s bound = bound_in shown in_block s bound catalog (same ∙ sym (same_catalog_seen lazy is) ∙ sym (same_catalog (view_of lazy) before)) over.database planned found in
    record {
      meant = refused shown in_block s bound r within act;
      writes = refused_writes shown in_block s bound r within act before;
      is_open = over;
    }
