use Rattle.std.proofs.Common.{◌≡◌, ℕ, ◌+◌, [], ◌∷◌, sym, ap, subst}
use Rattle.bf_sql.specs.Database.{Database, IsDatabase, stored_in_order, with_tables}
use Rattle.bf_sql.specs.Meaning.{next_number}
use Rattle.bf_store.specs.Stores.{IsStore, Store}
use Rattle.bf_store.proofs.Storing.{one_more, table_keeps_store}
use Rattle.bf_store.proofs.store.Store.create_table.Goals as goal

pub invariant_of-self-2 : goal.invariant_of-self-2
invariant_of-self-2 c =
    let inside = c.self.inside in
    let table = c.args.table in
    let n : c.in_ok-records.records ≡ inside.records + 1 = one_more c.checked_add.result c.in_ok-records.records inside.records c.checked_add.ensures c.in_ok-records.ensures.ok_part in
    let live : c.create_table.new.self ≡ next_number (with_tables (stored_in_order table [] ∷ []) inside.live) = c.in_ok-create_table.ensures.ok in
    let database : IsDatabase (next_number (with_tables (stored_in_order table [] ∷ []) inside.live)) = subst (λ (db : Database). IsDatabase (next_number (with_tables (stored_in_order table [] ∷ []) db))) (sym (ap (λ (s : Store). s.lazy.live) c.self.view_is)) c.requires.database in
    subst (λ (p : Database × ℕ). IsStore p.0 inside.last p.1) (λ i. (sym live i, sym n i)) (table_keeps_store inside.live inside.last inside.records table c.self.invariant c.requires.narrow database)
