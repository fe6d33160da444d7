-- Each table takes its rows out of those that are given.
use Rattle.std.proofs.Common.{◌≡◌, List, [], ◌∷◌, ◌++◌, Option, map, option_map, unwrap_or, sym, ap, ap₂, ◌∙◌, append_assoc}
use Rattle.std.specs.Global.{Vec}
use Rattle.std.specs.Map.Iter.{deref}
use Rattle.std.proofs.lemmas.List.{map-append}
use Rattle.bf_base.specs.declared.table.Table.{Table}
use Rattle.bf_base.specs.declared.value.Value.{Value}
use Rattle.bf_base.specs.Lists.{has, same_name}
use Rattle.bf_heap.specs.Heaps.{Entry, Rows}
use Rattle.bf_live.specs.Live.{TableRows, held_in}
use Rattle.bf_eager.specs.Starting.{entries_in_order, named_tables, rows_named}
use Rattle.bf_eager.proofs.Beginning.{called, keys_are_different, keys_are_within, named_apart, stays_under, taken_out, with_own}
use Rattle.bf_eager.proofs.starting.heaps_of.Goals as goal

pub heap_of-requires-clause-within : goal.heap_of-requires-clause-within
heap_of-requires-clause-within c =
    let given = named_tables c.args.given.items in
    let t = c.in-Some.table.now in
    let so_far = map deref c.loop-table.yielded in
    let rest = c.next.new.self in
    let inv = c.loop-table.invariant in
    let whole : so_far ++ t ∷ rest ≡ c.args.catalog.now.tables = ap (λ (ts : List Table). so_far ++ ts) (sym c.in-Some.ensures.steps) ∙ inv.left in
    let own_rows : c.unwrap_or-rows.result.items ≡ rows_named given t.name =
    ap (λ (own : Vec (List Value)). own.items) c.unwrap_or-rows.ensures ∙ (taken_out c.remove.result c.new.result c.new.ensures.items
    ∙ (ap (λ (o : Option (Vec (List Value))). unwrap_or (option_map (λ own. own.items) o) []) c.remove.ensures.value ∙ inv.under t.name (named_apart c.args.catalog.now given c.requires so_far rest t whole))) in
    keys_are_within c.args.catalog.now given c.requires so_far rest t whole c.unwrap_or-rows.result.items own_rows

pub heap_of-requires-clause-keys : goal.heap_of-requires-clause-keys
heap_of-requires-clause-keys c =
    let given = named_tables c.args.given.items in
    let t = c.in-Some.table.now in
    let so_far = map deref c.loop-table.yielded in
    let rest = c.next.new.self in
    let inv = c.loop-table.invariant in
    let whole : so_far ++ t ∷ rest ≡ c.args.catalog.now.tables = ap (λ (ts : List Table). so_far ++ ts) (sym c.in-Some.ensures.steps) ∙ inv.left in
    let own_rows : c.unwrap_or-rows.result.items ≡ rows_named given t.name =
    ap (λ (own : Vec (List Value)). own.items) c.unwrap_or-rows.ensures ∙ (taken_out c.remove.result c.new.result c.new.ensures.items
    ∙ (ap (λ (o : Option (Vec (List Value))). unwrap_or (option_map (λ own. own.items) o) []) c.remove.ensures.value ∙ inv.under t.name (named_apart c.args.catalog.now given c.requires so_far rest t whole))) in
    keys_are_different c.args.catalog.now given c.requires so_far rest t whole c.unwrap_or-rows.result.items own_rows

pub loop-table-preserved : goal.loop-table-preserved
loop-table-preserved c =
    let given = named_tables c.args.given.items in
    let t = c.in-Some.table.now in
    let so_far = map deref c.loop-table.yielded in
    let rest = c.next.new.self in
    let inv = c.loop-table.invariant in
    let whole : so_far ++ t ∷ rest ≡ c.args.catalog.now.tables = ap (λ (ts : List Table). so_far ++ ts) (sym c.in-Some.ensures.steps) ∙ inv.left in
    let own_rows : c.unwrap_or-rows.result.items ≡ rows_named given t.name =
    ap (λ (own : Vec (List Value)). own.items) c.unwrap_or-rows.ensures ∙ (taken_out c.remove.result c.new.result c.new.ensures.items
    ∙ (ap (λ (o : Option (Vec (List Value))). unwrap_or (option_map (λ own. own.items) o) []) c.remove.ensures.value ∙ inv.under t.name (named_apart c.args.catalog.now given c.requires so_far rest t whole))) in
    let more : map deref (c.loop-table.yielded ++ c.in-Some.table ∷ []) ≡ so_far ++ t ∷ [] = map-append deref c.loop-table.yielded (c.in-Some.table ∷ []) in
    let heap = c.in_ok-heap.heap in
    let here : Table × List Entry = (t, entries_in_order t (rows_named given t.name)) in
    let pair : (c.in_ok-copy.field-0, heap.entries) ≡ here =
    ap₂ (λ (t : Table) (es : List Entry). let held : TableRows = (t, es) in held) c.in_ok-copy.ensures (c.in_ok-heap.ensures ∙ ap (entries_in_order t) own_rows) in
    let added : Table × Rows = (c.in_ok-copy.field-0, heap) in
    record {
      can = tt;
      ends = tt;
      left = ap (λ (ts : List Table). ts ++ rest) more ∙ (append_assoc so_far (t ∷ []) rest ∙ whole);
      held =
          ap held_in c.in_ok-push.ensures.items ∙ (map-append (λ (t : Table × Rows). (t.0, t.1.entries)) c.loop-table.tables.items (added ∷ [])
          ∙ (ap₂ (λ (hs : List TableRows) (h : TableRows). hs ++ h ∷ []) inv.held pair
          ∙ (sym (map-append (λ (t : Table). (t, entries_in_order t (rows_named given t.name))) so_far (t ∷ [])) ∙ ap (with_own given) (sym more))));
      under = λ name none.
          stays_under so_far t given c.loop-table.by_name c.remove.new.self inv.under c.remove.ensures.updates.2 name (ap (λ (ts : List Table). has same_name (map called ts) name) (sym more) ∙ none);
    }
