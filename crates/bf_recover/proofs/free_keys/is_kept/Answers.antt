use Rattle.std.proofs.Common.{◌≡◌, Option, Some, None, option_map, is_some, refl, sym, ap, ◌∙◌}
use Rattle.bf_sql.specs.Database.{Database, Stored, stored_at}
use Rattle.bf_live.specs.Meanings.{entries_of}
use Rattle.bf_recover.proofs.Freeing.{kept_in_heap}
use Rattle.bf_recover.proofs.free_keys.is_kept.Goals as goal

some_mapped : {A B : Type 0} (f : A → B) (o : Option A) → is_some (option_map f o) ≡ is_some o
some_mapped f None = refl
some_mapped f (Some x) = refl

pub returns-in-Some : goal.returns-in-Some
returns-in-Some c =
    let live = c.args.store.now.lazy.live in
    let name = c.args.table.now in
    let heap = c.in-Some.ensures ∙ ap (λ (db : Database). option_map (λ (s : Stored). entries_of s.table s.rows) (stored_at db name)) c.live.ensures.live in
    c.is_some.ensures
    ∙ sym (some_mapped (λ row. row.now) c.get.result)
    ∙ ap is_some c.get.ensures
    ∙ kept_in_heap (stored_at live name) c.in-Some.heap.now.entries c.args.key.now heap
