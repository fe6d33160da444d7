-- A table's rows are taken after those before it, and all come back where one cannot be taken.
use Rattle.std.proofs.Common.{◌≡◌, ℕ, List, [], ◌∷◌, ◌++◌, is_some, length, sym, ap, subst, ◌∙◌, append_assoc, arith, rules}
use Rattle.std.specs.Vec.Iter.{into_iter_items}
use Rattle.std.proofs.lemmas.List.{map-append}
use Rattle.bf_base.specs.declared.table.Table.{Table}
use Rattle.bf_sql.specs.Database.{Database, IsDatabase, stored_at, with_rows}
use Rattle.bf_live.specs.Aside.{set_aside as without_rows_of}
use Rattle.bf_live.proofs.Aside.{keeps_aside, none_aside}
use Rattle.bf_store.specs.Flips.{AreTablesOf, names_in}
use Rattle.bf_store.proofs.aside.Back.{all_are_back, entries_at, frozen_more, may_be_back, next_is_there, next_rows, one_more_behind, stands_left}
use Rattle.bf_store.proofs.flip.set_aside.Goals as goal

pub loop-table-init : goal.loop-table-init
loop-table-init c =
    let left : into_iter_items c.into_iter-table-iterator.result ≡ c.args.tables.items = search rules in
    record {
      can = tt;
      ends = tt;
      left = left;
      room = omega (arith, c.in_ok-frozen.ensures.len, c.in_ok-frozen.ensures.exact, c.len.ensures, c.args.tables.ok.0, ap (λ (ts : List Table). length ts) left);
      frozen = c.in_ok-frozen.ensures.items;
      aside = sym (none_aside c.args.live.now);
    }

pub take_frozen-requires-clause-database : goal.take_frozen-requires-clause-database
take_frozen-requires-clause-database c =
    subst IsDatabase (sym c.loop-table.invariant.aside) (keeps_aside c.args.live.now (names_in c.loop-table.yielded) c.requires.database)

pub take_frozen-requires-clause-there : goal.take_frozen-requires-clause-there
take_frozen-requires-clause-there c =
    let db = c.args.live.now in
    let t = c.in-Some.table in
    let so_far = c.loop-table.yielded in
    let rest = into_iter_items c.next.new.self in
    let whole : so_far ++ t ∷ rest ≡ c.args.tables.items = ap (λ (ts : List Table). so_far ++ ts) (sym c.in-Some.ensures.steps.0) ∙ c.loop-table.invariant.left in
    let are : AreTablesOf db (so_far ++ t ∷ rest) = subst (AreTablesOf db) (sym whole) c.requires.tables in
    ap (λ (live : Database). is_some (stored_at live t.name)) c.loop-table.invariant.aside ∙ next_is_there db so_far rest t are

pub loop-table-preserved : goal.loop-table-preserved
loop-table-preserved c =
    let db = c.args.live.now in
    let t = c.in-Some.table in
    let so_far = c.loop-table.yielded in
    let rest = into_iter_items c.next.new.self in
    let inv = c.loop-table.invariant in
    let steps : into_iter_items c.loop-table.table-iterator ≡ t ∷ rest = c.in-Some.ensures.steps.0 in
    let whole : so_far ++ t ∷ rest ≡ c.args.tables.items = ap (λ (ts : List Table). so_far ++ ts) (sym steps) ∙ inv.left in
    let are : AreTablesOf db (so_far ++ t ∷ rest) = subst (AreTablesOf db) (sym whole) c.requires.tables in
    let push = c.push_reserved.ensures in
    record {
      can = tt;
      ends = tt;
      left = append_assoc so_far (t ∷ []) rest ∙ whole;
      room = omega (arith, push.len, push.capacity, inv.room, ap (λ (ts : List Table). length ts) steps);
      frozen = push.items ∙ frozen_more db so_far t c.loop-table.frozen.items c.in-Ok.rows inv.frozen
          (c.in-Ok.ensures.rows ∙ ap (λ (live : Database). entries_at (stored_at live t.name)) inv.aside ∙ next_rows db so_far rest t are);
      aside =
          c.in-Ok.ensures.taken ∙ ap (λ (live : Database). with_rows live t.name []) inv.aside ∙ one_more_behind db (names_in so_far) t.name
          ∙ ap (λ (names : List (List ℕ)). without_rows_of names db) (sym (map-append (λ (t : Table). t.name) so_far (t ∷ [])));
    }

pub put_back-requires : goal.put_back-requires
put_back-requires c =
    let db = c.args.live.now in
    let t = c.in-Some.table in
    let so_far = c.loop-table.yielded in
    let rest = into_iter_items c.next.new.self in
    let inv = c.loop-table.invariant in
    let whole : so_far ++ t ∷ rest ≡ c.args.tables.items = ap (λ (ts : List Table). so_far ++ ts) (sym c.in-Some.ensures.steps.0) ∙ inv.left in
    let are = stands_left db so_far (t ∷ rest) (subst (AreTablesOf db) (sym whole) c.requires.tables) in
    may_be_back db c.requires.database so_far are c.take_frozen.new.live c.loop-table.frozen.items (c.in-Err.ensures.err ∙ inv.aside) inv.frozen

pub returns-in-Err-clause-err : goal.returns-in-Err-clause-err
returns-in-Err-clause-err c =
    let db = c.args.live.now in
    let t = c.in-Some.table in
    let so_far = c.loop-table.yielded in
    let rest = into_iter_items c.next.new.self in
    let inv = c.loop-table.invariant in
    let whole : so_far ++ t ∷ rest ≡ c.args.tables.items = ap (λ (ts : List Table). so_far ++ ts) (sym c.in-Some.ensures.steps.0) ∙ inv.left in
    let are = stands_left db so_far (t ∷ rest) (subst (AreTablesOf db) (sym whole) c.requires.tables) in
    c.put_back.ensures ∙ all_are_back db c.requires.database so_far are c.take_frozen.new.live c.loop-table.frozen.items (c.in-Err.ensures.err ∙ inv.aside) inv.frozen
