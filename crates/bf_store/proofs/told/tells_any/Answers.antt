-- The writes to the table of a step, and those to the tables behind it.
use Rattle.std.proofs.Common.{◌≡◌, ◌||◌, ℕ, List, ◌++◌, Option, Some, None, option_map, refl, sym, ap, ◌∙◌}
use Rattle.std.specs.List.{list_any}
use Rattle.std.proofs.lemmas.Option.{same_Some}
use Rattle.bf_heap.specs.Heaps.{Entry}
use Rattle.bf_txn.specs.declared.write.Write.{Write}
use Rattle.bf_txn.specs.Writes.{KeyWrite, all_writes, writes_in}
use Rattle.bf_sql.specs.Database.{Database, Stored, stored_at}
use Rattle.bf_live.specs.Meanings.{entries_of}
use Rattle.bf_store.specs.Calls.{is_told}
use Rattle.bf_store.specs.Told.{is_told_in}
use Rattle.bf_store.proofs.seeing.Telling.{any_in_front, none_in_front}
use Rattle.bf_store.proofs.told.tells_any.Goals as goal

module _ (live : Database) (name : List ℕ) (ws : List KeyWrite) (rest : List Write) where
  abbrev rows_of : Option Stored → Option (List Entry)
  rows_of = option_map (λ (s : Stored). entries_of s.table s.rows)

  first_told : (rows : List Entry) → Some rows ≡ rows_of (stored_at live name)
      → list_any (is_told live) (writes_in name ws ++ rest) ≡ (list_any (is_told_in rows) ws || list_any (is_told live) rest)
  first_told rows here = on (stored_at live name) here (λ o e. e)
    where
      on : (o : Option Stored) → Some rows ≡ rows_of o → ((s : Stored) → o ≡ Some s → stored_at live name ≡ Some s)
          → list_any (is_told live) (writes_in name ws ++ rest) ≡ (list_any (is_told_in rows) ws || list_any (is_told live) rest)
      on None here there = absurd cc
      on (Some s) here there =
          any_in_front live name s (there s refl) ws rest
          ∙ ap (λ es. list_any (is_told_in es) ws || list_any (is_told live) rest) (sym (same_Some rows (entries_of s.table s.rows) here))

  first_untold : None ≡ rows_of (stored_at live name) → list_any (is_told live) (writes_in name ws ++ rest) ≡ list_any (is_told live) rest
  first_untold here = on (stored_at live name) here (λ e. e)
    where
      on : (o : Option Stored) → None ≡ rows_of o → (o ≡ None → stored_at live name ≡ None)
          → list_any (is_told live) (writes_in name ws ++ rest) ≡ list_any (is_told live) rest
      on None here there = none_in_front live name (there refl) ws rest
      on (Some s) here there = absurd cc

pub returns-then-tells_in : goal.returns-then-tells_in
returns-then-tells_in c =
    let rest = all_writes c.next.new.self in
    let first = first_told c.args.live.now c.in-Some.table.now c.in-Some.written.now rest c.in-Some-heap.heap.now.entries c.in-Some-heap.ensures in
    sym (ap (λ b. b || list_any (is_told c.args.live.now) rest) (sym c.tells_in.ensures ∙ c.if-tells_in.true))
    ∙ sym first ∙ sym (ap (λ ts. list_any (is_told c.args.live.now) (all_writes ts)) c.in-Some.ensures.steps) ∙ c.loop-table.invariant

pub loop-table-preserved-else-tells_in : goal.loop-table-preserved-else-tells_in
loop-table-preserved-else-tells_in c =
    let rest = all_writes c.next.new.self in
    let first = first_told c.args.live.now c.in-Some.table.now c.in-Some.written.now rest c.in-Some-heap.heap.now.entries c.in-Some-heap.ensures in
    sym (ap (λ b. b || list_any (is_told c.args.live.now) rest) (sym c.tells_in.ensures ∙ c.if-tells_in.false))
    ∙ sym first ∙ sym (ap (λ ts. list_any (is_told c.args.live.now) (all_writes ts)) c.in-Some.ensures.steps) ∙ c.loop-table.invariant

pub loop-table-preserved : goal.loop-table-preserved
loop-table-preserved c =
    let first = first_untold c.args.live.now c.in-Some.table.now c.in-Some.written.now (all_writes c.next.new.self) c.in_default.ensures in
    sym first ∙ sym (ap (λ ts. list_any (is_told c.args.live.now) (all_writes ts)) c.in-Some.ensures.steps) ∙ c.loop-table.invariant
