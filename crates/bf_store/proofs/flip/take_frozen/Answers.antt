-- What was taken is given back where there is no memory to freeze it.
use Rattle.std.proofs.Common.{◌≡◌, Some, ap, ◌∙◌}
use Rattle.bf_heap.specs.Heaps.{Rows}
use Rattle.bf_sql.specs.Database.{stored_at}
use Rattle.bf_store.proofs.aside.Back.{database_again, entries_at, given_back, own_again}
use Rattle.bf_store.proofs.flip.take_frozen.Goals as goal

pub put_rows-requires-clause-own_keys : goal.put_rows-requires-clause-own_keys
put_rows-requires-clause-own_keys c =
    let db = c.args.live.now in
    let own : Some c.in-Err.heap.entries ≡ entries_at (stored_at db c.args.name.now) = ap (λ (heap : Rows). Some heap.entries) c.in-Err.ensures.err ∙ c.in-Some.ensures.rows in
    own_again db c.requires.database c.args.name.now c.in-Err.heap.entries own c.take_rows.new.self c.take_rows.ensures.live

pub put_rows-requires-clause-database : goal.put_rows-requires-clause-database
put_rows-requires-clause-database c =
    let db = c.args.live.now in
    let own : Some c.in-Err.heap.entries ≡ entries_at (stored_at db c.args.name.now) = ap (λ (heap : Rows). Some heap.entries) c.in-Err.ensures.err ∙ c.in-Some.ensures.rows in
    database_again db c.requires.database c.args.name.now c.in-Err.heap.entries own c.take_rows.new.self c.take_rows.ensures.live

pub returns-in-Err-clause-err : goal.returns-in-Err-clause-err
returns-in-Err-clause-err c =
    let db = c.args.live.now in
    let own : Some c.in-Err.heap.entries ≡ entries_at (stored_at db c.args.name.now) = ap (λ (heap : Rows). Some heap.entries) c.in-Err.ensures.err ∙ c.in-Some.ensures.rows in
    c.put_rows.ensures ∙ given_back db c.requires.database c.args.name.now c.in-Err.heap.entries own c.take_rows.new.self c.take_rows.ensures.live
