-- The tuples of an INSERT, one after the other.
use Rattle.std.proofs.Common.{◌≡◌, ℕ, ◌+◌, ◌<◌, List, [], ◌∷◌, ◌++◌, map, length, get_or, take, drop, Option, Some, None, sym, ap, ◌∙◌}
use Rattle.std.specs.Prelude.{flat_map}
use Rattle.std.proofs.lemmas.List.{take_more}
use Rattle.bf_base.specs.declared.value.Value.{Value}
use Rattle.bf_base.specs.declared.table.Table.{Table}
use Rattle.bf_base.specs.Lists.{with_before_from, when}
use Rattle.bf_base.specs.Tables.{key_of}
use Rattle.bf_heap.specs.Heaps.{Entry}
use Rattle.bf_tree.specs.declared.reply.Refusal.{Refusal}
use Rattle.bf_tree.specs.declared.reply.Refusal.TheVariants.{DuplicateKey}
use Rattle.bf_sql.specs.RowObjections.{unfit_row_objections, taken_key_objections}
use Rattle.bf_txn.specs.declared.write.Write.{Write}
use Rattle.bf_txn.specs.Writes.{KeyWrite, gathered}
use Rattle.bf_live.specs.Replies.{is_taken}
use Rattle.bf_live.specs.Merged.{rows_under, StandUnderOwnKeys}
use Rattle.bf_tree.specs.Settling.{first_of}
use Rattle.bf_tree.proofs.Stopping.{behind_item, none_first, first_ahead}
use Rattle.bf_live.proofs.querying.Taken.{taken, write_of_tuple}

-- what is objected to a tuple behind others
abbrev pub objections_to : Table → List (List Value) → List (List Value) × List Value → List Refusal
objections_to table rows p = unfit_row_objections table p.1 ++ taken_key_objections table (rows ++ p.0) p.1

module _ (table : Table) (entries : List Entry) (writes : List Write) (stand : StandUnderOwnKeys table entries writes) (tuples : List (List Value)) (i : ℕ) (tuple : List Value) (in_range : i < length tuples) (is : tuple ≡ get_or tuples i tuple) where
  abbrev rows : List (List Value)
  rows = rows_under entries writes table.name

  one_more : take (i + 1) tuples ≡ take i tuples ++ tuple ∷ []
  one_more = take_more tuples i tuple in_range ∙ ap (λ (t : List Value). take i tuples ++ t ∷ []) (sym is)

  module _ (noted : List KeyWrite) (is_noted : noted ≡ gathered (map (write_of_tuple table) (take i tuples))) (key : List Value) (key_is : key ≡ key_of table tuple) (found : Option Refusal)
      (found_is : found ≡ first_of (unfit_row_objections table tuple ++ when (is_taken entries writes noted table.name key) (DuplicateKey key)))
      (all : List Refusal) (ahead : flat_map (objections_to table rows) (with_before_from (take i tuples) (drop i tuples)) ≡ all) where
    here : found ≡ first_of (objections_to table rows (take i tuples, tuple))
    here =
        found_is
        ∙ ap (λ (k : List Value). first_of (unfit_row_objections table tuple ++ when (is_taken entries writes noted table.name k) (DuplicateKey k))) key_is
        ∙ ap (λ b. first_of (unfit_row_objections table tuple ++ when b (DuplicateKey (key_of table tuple)))) (taken table entries writes noted (take i tuples) (key_of table tuple) stand is_noted)

    split : all ≡ objections_to table rows (take i tuples, tuple) ++ flat_map (objections_to table rows) (with_before_from (take (i + 1) tuples) (drop (i + 1) tuples))
    split =
        sym ahead
        ∙ ap (λ (ts : List (List Value)). flat_map (objections_to table rows) (with_before_from (take i tuples) ts)) (behind_item (λ (t : List Value). t) tuples i tuple in_range is)
        ∙ ap (λ (ts : List (List Value)). objections_to table rows (take i tuples, tuple) ++ flat_map (objections_to table rows) (with_before_from ts (drop (i + 1) tuples))) (sym one_more)

    pub next_tuple : found ≡ None → flat_map (objections_to table rows) (with_before_from (take (i + 1) tuples) (drop (i + 1) tuples)) ≡ all
    next_tuple none =
        let nothing = none_first (objections_to table rows (take i tuples, tuple)) (sym here ∙ none) in
        sym (split ∙ ap (λ (rs : List Refusal). rs ++ flat_map (objections_to table rows) (with_before_from (take (i + 1) tuples) (drop (i + 1) tuples))) nothing)

    pub refused_at : (r : Refusal) → found ≡ Some r → first_of all ≡ Some r
    refused_at r some = ap first_of split ∙ first_ahead (objections_to table rows (take i tuples, tuple)) _ r (sym here ∙ some)
