-- The rows that satisfy a condition are among those whose keys are in the range that it leaves.
use Rattle.std.proofs.Common.{◌≡◌, ℕ, Bool, true, false, cond, List, [], ◌∷◌, filter, fold, map, refl, sym, ap, ap₂, subst, ◌∙◌, inl, inr}
use Rattle.std.proofs.lemmas.Bool.{cases_Bool, false≢true}
use Rattle.bf_base.specs.declared.table.Table.{Table}
use Rattle.bf_base.specs.declared.value.Value.{Value}
use Rattle.bf_base.specs.Maps.{is_map}
use Rattle.bf_base.specs.Tables.{cell}
use Rattle.bf_base.specs.Values.{key_cmp}
use Rattle.bf_heap.specs.Heaps.{Entry, key_of_entry}
use Rattle.bf_heap.specs.KeyRanges.{is_within}
use Rattle.bf_tree.specs.Evaluation.{holds_on}
use Rattle.bf_tree.specs.Trees.{Cond}
use Rattle.bf_sql.specs.Queries.{selected}
use Rattle.bf_txn.specs.declared.write.Write.{Write}
use Rattle.bf_txn.specs.Writes.{KeyWrite, key_write_of, key_writes_to, writes_to}
use Rattle.bf_live.specs.Merged.{applied, entries_under, rows_ahead, rows_under, StandUnderOwnKeys}
use Rattle.bf_access.specs.Ranges.{key_range_of}
use Rattle.bf_live.proofs.querying.Merging.{rows_of, without_name}
use Rattle.bf_live.proofs.querying.OwnKeys.{OwnKeys, own_keys}
use Rattle.bf_query.proofs.Restricting.{kept, kept_writes, kept-fold}
use Rattle.bf_access.proofs.Within.{key_within}

module _ (table : Table) (c : Cond ℕ) where
  abbrev holds : List Value → Bool
  holds row = holds_on (cell row) c

  -- whether a key is in the range that the condition leaves
  abbrev pub in_range : List Value → Bool
  in_range = is_within (key_range_of table c)

  none_outside : (entries : List Entry) → OwnKeys table entries → filter holds (rows_of (kept in_range entries)) ≡ filter holds (rows_of entries)
  none_outside [] own = refl
  none_outside (e ∷ es) own =
      let rest = none_outside es own.1 in
      elim (cases_Bool (in_range e.0)) [
        | inl inside ↦ elim (cases_Bool (holds e.1)) [
          | inl true_of ↦ rw (inside, true_of) (ap (λ rows. e.1 ∷ rows) rest)
          | inr false_of ↦ rw (inside, false_of) rest
        ]
        | inr outside ↦ elim (cases_Bool (holds e.1)) [
          | inl true_of ↦ absurd (false≢true (sym outside ∙ subst (λ key. in_range key ≡ true) own.0.1 (key_within table c e.1 true_of)))
          | inr false_of ↦ rw (outside, false_of) rest
        ]
      ]

  pub range_selected : (entries : List Entry) (writes : List Write) → is_map key_cmp key_of_entry entries ≡ true → StandUnderOwnKeys table entries writes
      → selected cell c (rows_of (fold applied (kept in_range entries) (kept_writes in_range (writes_to table.name writes)))) ≡ selected cell c (rows_under entries writes table.name)
  range_selected entries writes in_order stand =
      ap (λ (es : List Entry). filter holds (rows_of es)) (sym (kept-fold in_range (writes_to table.name writes) entries in_order))
      ∙ none_outside (entries_under entries writes table.name) (own_keys table entries writes stand)

  pub kept-named : (writes : List Write) → filter (λ (w : KeyWrite). in_range w.0) (map key_write_of writes) ≡ map key_write_of (kept_writes in_range writes)
  kept-named [] = refl
  kept-named (w ∷ writes) = elim (in_range w.key) as (λ b. cond b (key_write_of w ∷ filter (λ (w : KeyWrite). in_range w.0) (map key_write_of writes)) (filter (λ (w : KeyWrite). in_range w.0) (map key_write_of writes)) ≡ map key_write_of (cond b (w ∷ kept_writes in_range writes) (kept_writes in_range writes))) [
    | true ↦ ap (λ ws. key_write_of w ∷ ws) (kept-named writes)
    | false ↦ kept-named writes
  ]

  -- a pass over the entries and the writes in the range selects all
  pub range_ahead : (entries some : List Entry) (writes : List Write) (noted : List KeyWrite) → is_map key_cmp key_of_entry entries ≡ true → StandUnderOwnKeys table entries writes
      → some ≡ kept in_range entries → noted ≡ filter (λ (w : KeyWrite). in_range w.0) (key_writes_to table.name writes)
      → selected cell c (rows_ahead some noted) ≡ selected cell c (rows_under entries writes table.name)
  range_ahead entries some writes noted in_order stand some_is noted_is =
      ap₂ (λ (es : List Entry) (ws : List KeyWrite). selected cell c (rows_ahead es ws)) some_is (noted_is ∙ kept-named (writes_to table.name writes))
      ∙ ap (λ (es : List Entry). selected cell c (rows_of es)) (without_name (kept in_range entries) (kept_writes in_range (writes_to table.name writes)))
      ∙ range_selected entries writes in_order stand
