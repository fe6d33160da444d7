-- Worked rows of lazy movement, by computing.
use Rattle.std.specs.Prelude.{◌≡◌, ℕ, true, false, List, [], ◌∷◌, map, Some, None, codes, refl}
use Rattle.bf_base.specs.declared.granule.Granule.{Granule}
use Rattle.bf_base.specs.declared.granule.Place.TheVariants.{Group}
use Rattle.bf_base.specs.declared.value.Value.TheVariants.{Text}
use Rattle.bf_tree.specs.declared.compare.Compare.TheVariants as compare
use Rattle.bf_tree.specs.declared.history.Sweep.TheVariants.{Running}
use Rattle.bf_tree.specs.declared.items.Items.TheVariants as items
use Rattle.bf_tree.specs.declared.migration.Item.TheVariants as item
use Rattle.bf_tree.specs.declared.migration.Migrate.{Migrate}
use Rattle.bf_tree.specs.declared.raw.Ref.{Ref}
use Rattle.bf_tree.specs.declared.reply.Refusal.TheVariants as refusal
use Rattle.bf_tree.specs.declared.reply.Reply.TheVariants as reply
use Rattle.bf_tree.specs.declared.statement.Statement.{Statement}
use Rattle.bf_tree.specs.declared.statement.Statement.TheVariants as statement
use Rattle.bf_tree.specs.Trees.{Cond, plus, both, literal, column, compared, joined}
use Rattle.bf_txn.specs.declared.write.Write.{Write}
use Rattle.bf_sql.specs.Meaning.{executed}
use Rattle.bf_sql.specs.Scopes.{unqualified}
use Rattle.bf_sql.specs.migrations.Granules.{granule}
use Rattle.bf_sql.specs.migrations.Images.{flipped}
use Rattle.bf_sql.specs.migrations.Lazy.{LazyState, pending_of, view_of, flipped_lazily, moved, sweep_of}
use Rattle.bf_sql.specs.migrations.Need.{needed_by}
use Rattle.bf_sql.proofs.GroupedTotalsMoves as totals
use Rattle.bf_sql.proofs.Spelling.{one, number, given, arm, target, migration, at_rest}
use Rattle.bf_sql.proofs.SplitTableMoves as split
use Rattle.bf_image.specs.Lawful.{IsLawful}
use Rattle.bf_live.specs.Live.{committed}
use Rattle.bf_store.specs.Calls.{after_commit, moved_by, told_of, with_commit}
use Rattle.bf_store.specs.States.{IsSeenAs, need_of_all, under}
use Rattle.bf_store.proofs.changing.Flipping.{flips}

-- the totals of three customers, lazily: nothing has moved
abbrev flip : LazyState
flip = flipped_lazily (at_rest totals.old) totals.migrate

abbrev group : ℕ → Granule
group n = granule 0 (Group (one (number n)))

-- WHERE total > 30 AND cust < 9
abbrev rich : Cond Ref
rich = both (compared compare.Greater (column (unqualified (codes "total"))) (literal (number 30))) (compared compare.Less (column (unqualified (codes "cust"))) (literal (number 9)))

-- UPDATE tot SET cnt = cnt + 1 WHERE total > 30 AND cust < 9: the conjunct on a total counts as true
abbrev update : Statement
update = statement.Update (codes "tot") (one (codes "cnt", plus (column (unqualified (codes "cnt"))) (literal (number 1)))) (Some rich)

need : needed_by totals.old totals.migrate (view_of flip) true update ≡ group 7 ∷ group 8 ∷ []
need = refl

-- without the move the live tables reply otherwise than what is seen
too_early : (executed 1 flip.live true update).0 ≡ reply.Updated 0
too_early = refl

seen_reply : (executed 1 (view_of flip) true update).0 ≡ reply.Updated 1
seen_reply = refl

-- what it needs moves by one record: nobody sees it
abbrev ready : LazyState
ready = moved flip (group 7 ∷ group 8 ∷ [])

quiet : view_of ready ≡ view_of flip
quiet = refl

after_need : (executed 1 ready.live true update).0 ≡ (executed 1 (view_of flip) true update).0
after_need = refl

-- granules that have moved stay, each with its record's number; the same cover moves none again
numbers : map (moved_by ready.last) (group 7 ∷ group 8 ∷ group 9 ∷ []) ≡ Some 7 ∷ Some 7 ∷ None ∷ []
numbers = refl

again : moved ready (group 7 ∷ group 8 ∷ []) ≡ ready
again = refl

sweep : sweep_of ready.last ≡ Running 1 2 0 3
sweep = refl

-- a transaction's own writes: the new total of customer 7, and the row of customer 8 removed
abbrev writes : List Write
writes =
    record { table = codes "tot"; key = one (number 7); row = Some (number 7 ∷ number 3 ∷ number 40 ∷ []) }
    ∷ record { table = codes "tot"; key = one (number 8); row = None }
    ∷ []

-- under them the live tables are seen as the view under them, now and when they are committed
under_writes : view_of (under ready writes) ≡ committed (view_of flip) writes
under_writes = refl

then_committed : view_of (with_commit ready writes) ≡ committed (view_of flip) writes
then_committed = refl

-- a removal of a key that has no row is not told, and alone it makes no record
abbrev absent : Write
absent = record { table = codes "tot"; key = one (number 5); row = None }

left_out : told_of ready (absent ∷ writes) ≡ writes
left_out = refl

no_record : after_commit ready (one absent) ≡ ready
no_record = refl

-- in the same block a SELECT needs nothing more, and sees them
abbrev select : Statement
select = statement.Select items.All (codes "tot") (Some (compared compare.Less (column (unqualified (codes "cust"))) (literal (number 9))))

own_writes : (executed 1 (under ready writes).live true select).0 ≡ reply.Rows (one (given 7 ∷ given 3 ∷ given 40 ∷ []))
own_writes = refl

own_writes_seen : (executed 1 (committed (view_of flip) writes) true select).0 ≡ (executed 1 (under ready writes).live true select).0
own_writes_seen = refl

-- customer 9 moves while the block is open: what it sees stays
others_move : view_of (under (moved ready (one (group 9))) writes) ≡ view_of (under ready writes)
others_move = refl

-- the removed row does not come back when its granule is asked for again
not_again : view_of (moved (with_commit ready writes) (group 8 ∷ group 9 ∷ [])) ≡ committed (view_of flip) writes
not_again = refl

-- an INSERT that does not move the owner of its key: it is not refused, and the later move meets its row
abbrev insert : Statement
insert = statement.Insert (codes "tot") (one (number 9 ∷ number 0 ∷ number 0 ∷ []))

not_refused : (executed 1 ready.live false insert).0 ≡ reply.Inserted 1
not_refused = refl

refused : (executed 1 (view_of ready) false insert).0 ≡ reply.Refused (refusal.DuplicateKey (one (number 9)))
refused = refl

-- a second migration while the first runs: all that is left moves, and then it flips
abbrev first : LazyState
first = flipped_lazily (at_rest split.old) split.migrate

abbrev whole : LazyState
whole = moved first (need_of_all first.last)

none_pending : pending_of whole.last ≡ []
none_pending = refl

-- MIGRATE (CREATE TABLE pub AS SELECT id, name || '!' AS name FROM pub)
abbrev second : Migrate
second = migration (one (target (codes "pub") (one (arm (
    item.Column (unqualified (codes "id"))
    ∷ item.Named (joined (column (unqualified (codes "name"))) (literal (Text (codes "!")))) (codes "name")
    ∷ []
    ) (codes "pub") None None []))))

second_flip : view_of (flipped_lazily whole second) ≡ flipped (view_of first) second
second_flip = refl

-- flipped too early, rows of the first would be lost
lost : (executed 1 (view_of (flipped_lazily first second)) false (statement.Select items.All (codes "pub") None)).0 ≡ reply.Rows []
lost = refl

-- both migrations are lawful, and what comes of them is lazy: the premises of the laws can be met
totals_lawful : IsLawful totals.old totals.migrate
totals_lawful = record {
  database = record { tables_by_name = refl; indexes_by_name = refl; rows_by_key = refl; rows_admitted = refl; keys_within = refl; indexes_on_tables = refl };
  unobjected = refl;
  few = refl;
}

split_lawful : IsLawful split.old split.migrate
split_lawful = record {
  database = record { tables_by_name = refl; indexes_by_name = refl; rows_by_key = refl; rows_admitted = refl; keys_within = refl; indexes_on_tables = refl };
  unobjected = refl;
  few = refl;
}

totals_seen : IsSeenAs (flipped totals.old totals.migrate) flip
totals_seen = flips (at_rest totals.old) totals.migrate (record { live = totals_lawful.database; last = tt; valid = refl }) refl totals_lawful

split_seen : IsSeenAs (flipped split.old split.migrate) first
split_seen = flips (at_rest split.old) split.migrate (record { live = split_lawful.database; last = tt; valid = refl }) refl split_lawful
