-- A key is taken where a row or an earlier tuple has it.
use Rattle.std.proofs.Common.{◌≡◌, Bool, true, false, ◌||◌, cond, List, [], ◌∷◌, ◌++◌, map, fold, Option, Some, None, is_some, option_map, refl, sym, ap, ap₂, ◌∙◌}
use Rattle.std.specs.List.{list_any}
use Rattle.std.proofs.lemmas.List.{map-append}
use Rattle.std.proofs.lemmas.List.Folds.{list_any-append}
use Rattle.bf_base.specs.declared.value.Value.{Value}
use Rattle.bf_base.specs.declared.table.Table.{Table}
use Rattle.bf_base.specs.Lists.{has, same_key}
use Rattle.bf_base.specs.Maps.{entry_at}
use Rattle.bf_base.specs.Tables.{key_of}
use Rattle.bf_base.specs.Values.{key_cmp, key_cmp_total}
use Rattle.bf_base.proofs.Maps.{entry_at-with_entry}
use Rattle.bf_base.proofs.Order.{is_some-look_up, symmetric}
use Rattle.bf_heap.specs.Heaps.{Entry, key_of_entry, has_row}
use Rattle.bf_txn.specs.declared.write.Write.{Write}
use Rattle.bf_txn.specs.Writes.{KeyWrite, gathered, key_of_write, key_write_of, row_written_at, with_key_write}
use Rattle.bf_live.specs.Replies.{write_of, is_taken}
use Rattle.bf_live.specs.Merged.{entries_under, rows_under, StandUnderOwnKeys}
use Rattle.bf_live.proofs.querying.Merging.{rows_of}
use Rattle.bf_index.proofs.Rising.{keys_of}
use Rattle.bf_live.proofs.querying.OwnKeys.{OwnKeys, own_keys}

is_some-map : {A B : Type 0} (f : A → B) (o : Option A) → is_some (option_map f o) ≡ is_some o
is_some-map f None = refl
is_some-map f (Some x) = refl

own_keys_are : (table : Table) (entries : List Entry) → OwnKeys table entries → keys_of entries ≡ map (key_of table) (rows_of entries)
own_keys_are table [] own = refl
own_keys_are table (e ∷ entries) own = ap₂ (λ k ks. k ∷ ks) (sym own.0.1) (own_keys_are table entries own.1)

row_has : (table : Table) (entries : List Entry) (key : List Value) → OwnKeys table entries → has_row entries key ≡ has same_key (map (key_of table) (rows_of entries)) key
row_has table entries key own =
    is_some-map (λ (e : Entry). e.1) (entry_at key_cmp key_of_entry entries key)
    ∙ is_some-look_up key_cmp_total key_of_entry entries key
    ∙ ap (λ (keys : List (List Value)). has same_key keys key) (own_keys_are table entries own)

-- the write of a tuple
abbrev pub write_of_tuple : Table → List Value → Write
write_of_tuple table tuple = write_of table (key_of table tuple) (Some tuple)

noted_has : (table : Table) (key : List Value) (before : List (List Value)) (noted : List KeyWrite)
    → is_some (entry_at key_cmp key_of_write (fold (λ ws w. with_key_write ws (key_write_of w)) noted (map (write_of_tuple table) before)) key) ≡ (is_some (entry_at key_cmp key_of_write noted key) || has same_key (map (key_of table) before) key)
noted_has table key [] noted = sym (or_false (is_some (entry_at key_cmp key_of_write noted key)))
  where
    or_false : (b : Bool) → (b || false) ≡ b
    or_false true = refl
    or_false false = refl
noted_has table key (t ∷ before) noted =
    let now = with_key_write noted (key_write_of (write_of_tuple table t)) in
    noted_has table key before now
    ∙ ap (λ (found : Option KeyWrite). is_some found || has same_key (map (key_of table) before) key) (entry_at-with_entry key_cmp_total key_of_write noted (key_write_of (write_of_tuple table t)) key)
    ∙ ap (λ (b : Bool). is_some (cond b (Some (key_write_of (write_of_tuple table t))) (entry_at key_cmp key_of_write noted key)) || has same_key (map (key_of table) before) key) (symmetric key_cmp_total (key_of table t) key)
    ∙ either (key_write_of (write_of_tuple table t)) (same_key key (key_of table t)) (entry_at key_cmp key_of_write noted key) (has same_key (map (key_of table) before) key)
  where
    either : (x : KeyWrite) (here : Bool) (found : Option KeyWrite) (later : Bool) → (is_some (cond here (Some x) found) || later) ≡ (is_some found || (here || later))
    either x true None later = refl
    either x true (Some y) later = refl
    either x false found later = refl

-- a key is taken exactly where it is a key of the rows or of the tuples whose keys are noted
pub taken : (table : Table) (entries : List Entry) (writes : List Write) (noted : List KeyWrite) (before : List (List Value)) (key : List Value) → StandUnderOwnKeys table entries writes → noted ≡ gathered (map (write_of_tuple table) before)
    → is_taken entries writes noted table.name key ≡ has same_key (map (key_of table) (rows_under entries writes table.name ++ before)) key
taken table entries writes noted before key stand is =
    let rows = rows_under entries writes table.name in
    let in_rows = row_has table (entries_under entries writes table.name) key (own_keys table entries writes stand) in
    let in_notes : is_some (row_written_at noted key) ≡ has same_key (map (key_of table) before) key =
    is_some-map (λ (w : KeyWrite). w.1) (entry_at key_cmp key_of_write noted key) ∙ ap (λ (ws : List KeyWrite). is_some (entry_at key_cmp key_of_write ws key)) is ∙ noted_has table key before [] in
    ap₂ (λ (a b : Bool). a || b) in_rows in_notes
    ∙ sym (ap (list_any (same_key key)) (map-append (key_of table) rows before) ∙ list_any-append (same_key key) (map (key_of table) rows) (map (key_of table) before))
