-- The calls of a store keep its state lazy, and are seen as what they stand for.
use Rattle.std.proofs.Common.{◌≡◌, ℕ, map, ◌∷◌, List, [], Option, Some, None, sym, subst, ◌∙◌}
use Rattle.std.specs.List.{AllByRecursion}
use Rattle.bf_base.specs.declared.granule.Granule.{Granule}
use Rattle.bf_tree.specs.declared.bound.Bound.{Bound}
use Rattle.bf_tree.specs.declared.migration.Migrate.{Migrate}
use Rattle.bf_txn.specs.declared.write.Write.{Write}
use Rattle.bf_sql.specs.Database.{Stored}
use Rattle.bf_sql.specs.migrations.Images.{flipped}
use Rattle.bf_sql.specs.migrations.Lazy.{Migration, LazyState, view_of}
use Rattle.bf_sql.specs.migrations.Need.{needed_for}
use Rattle.bf_live.specs.Live.{committed, written_to}
use Rattle.bf_live.specs.Open.{IsOpen}
use Rattle.bf_store.specs.Calls.{cover_of, IsNeedOf, IsMoveOf, MayFlip, IsFlipOf, IsLegalCommit, IsCommitOf, with_commit}
use Rattle.bf_store.specs.States.{AreFree, IsLazy, IsSeenAs, IsOpenLazily, IsQuiet, AreGranulesIfAny, HaveMoved, to_move}
use Rattle.bf_store.proofs.changing.Keeping.{flip_lawful, flips_frozen}
use Rattle.bf_store.specs.declared.moved.Moved.{Moved}
use Rattle.bf_store.proofs.moving.Ordered.{moves_in_order}
use Rattle.bf_store.proofs.moving.Needing.{done_if_none_left}
use Rattle.bf_store.proofs.seeing.Committing.{commits}

pub move_call : (lazy after : LazyState) (gs : List Granule) (told : Moved) → IsLazy lazy → AreGranulesIfAny lazy.last gs
    → IsMoveOf lazy after gs told → IsQuiet lazy after
move_call lazy after gs told is are call = subst (IsQuiet lazy) (sym call.state) (moves_in_order lazy gs is are)

pub flip_call : (lazy after : LazyState) (m : Migrate) (number : ℕ) → IsLazy lazy → MayFlip lazy m → IsFlipOf lazy after m number
    → IsSeenAs (flipped (view_of lazy) m) after
flip_call lazy after m number is may call = subst (IsSeenAs (flipped (view_of lazy) m)) (sym call.state) (flips_frozen lazy m is may.complete (flip_lawful lazy m is may))

pub commit_seen : (lazy : LazyState) (writes : List Write) → IsLazy lazy → IsOpenLazily lazy writes
    → IsSeenAs (committed (view_of lazy) writes) (with_commit lazy writes)
commit_seen lazy writes is opened =
    let seen_as = commits lazy is writes opened in
    record {
      lazy_state = record { live = seen_as.lazy_state.live; last = seen_as.lazy_state.last; valid = seen_as.lazy_state.valid };
      view = seen_as.view;
    }

pub commit_call : (lazy after : LazyState) (writes : List Write) (number : ℕ) → IsLazy lazy → IsLegalCommit lazy writes
    → IsCommitOf lazy after writes number → IsSeenAs (committed (view_of lazy) writes) after
commit_call lazy after writes number is legal call = subst (IsSeenAs (committed (view_of lazy) writes)) (sym call.state) (commit_seen lazy writes is legal.opened)

-- where nothing is left of the cover of a bound statement, its need has moved, as its step asks
pub cover_has_moved : (lazy : LazyState) (bound : Bound) (answer : List Granule) → IsNeedOf lazy (cover_of lazy.last bound) answer
    → answer ≡ [] → HaveMoved lazy.last (λ last. needed_for last.old last.migrate bound.action)
cover_has_moved lazy bound answer call empty = on lazy.last (sym call ∙ empty)
  where
    on : (last : Option Migration) → to_move last (cover_of last bound) ≡ []
        → HaveMoved last (λ last. needed_for last.old last.migrate bound.action)
    on None e = tt
    on (Some last) e = done_if_none_left last (needed_for last.old last.migrate bound.action) e

-- another's commit leaves keys free, so a transaction that is open over the live tables then is open still
pub open_behind_commit : (lazy : LazyState) (writes others : List Write) → IsOpenLazily lazy others
    → IsOpen (with_commit lazy writes).live others → IsOpenLazily (with_commit lazy writes) others
open_behind_commit lazy writes others opened over_live = record { over_live = over_live; free = each lazy.live.tables opened.free }
  where
    each : (ss : List Stored) → AllByRecursion (λ s. AreFree lazy.last others s.table) ss
        → AllByRecursion (λ s. AreFree lazy.last others s.table) (map (written_to writes) ss)
    each [] free = tt
    each (s ∷ ss) free = (free.0, each ss free.1)
