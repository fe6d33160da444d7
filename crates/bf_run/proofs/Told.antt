-- What is told of the writes to one table before those to others.
use Rattle.std.proofs.Common.{◌≡◌, ℕ, true, false, ◌||◌, List, [], ◌∷◌, ◌++◌, append_assoc, Option, None, Some, option_map, is_some, refl, sym, ap, ◌∙◌, inl, inr}
use Rattle.std.proofs.lemmas.Bool.{cases_Bool}
use Rattle.std.proofs.lemmas.Option.{same_Some}
use Rattle.bf_heap.specs.Heaps.{Entry}
use Rattle.bf_record.specs.declared.writes.TableWrite.{TableWrite}
use Rattle.bf_txn.specs.declared.write.Write.{Write}
use Rattle.bf_txn.specs.Writes.{KeyWrite, writes_in}
use Rattle.bf_sql.specs.Database.{Database, Stored, stored_at}
use Rattle.bf_live.specs.Meanings.{entries_of}
use Rattle.bf_store.specs.Calls.{is_told}
use Rattle.bf_store.specs.Told.{is_told_in}
use Rattle.bf_store.proofs.seeing.Telling.{has_row_of}
use Rattle.bf_run.specs.Records.{told_in, write_told, writes_told}

module _ (live : Database) (name : List ℕ) where
  abbrev to_it : KeyWrite → Write
  to_it w = record { table = name; key = w.0; row = w.1 }

  told_at : (s : Stored) → stored_at live name ≡ Some s → (w : KeyWrite) → is_told live (to_it w) ≡ is_told_in (entries_of s.table s.rows) w
  told_at s there w = rw there (ap (λ b. is_some w.1 || b) (has_row_of s.table s.rows w.0))

  untold_at : stored_at live name ≡ None → (w : KeyWrite) → is_told live (to_it w) ≡ false
  untold_at none w = rw none refl

  -- where the table is there
  pub told_in_front : (s : Stored) → stored_at live name ≡ Some s → (ws : List KeyWrite) (rest : List Write)
      → writes_told live (writes_in name ws ++ rest) ≡ told_in (entries_of s.table s.rows) name ws ++ writes_told live rest
  told_in_front s there [] rest = refl
  told_in_front s there (w ∷ ws) rest = elim (cases_Bool (is_told_in (entries_of s.table s.rows) w)) [
    | inl told ↦
        let is = told_at s there w ∙ told in
        rw (is, told) (ap (λ (ts : List TableWrite). write_told name w ∷ ts) (told_in_front s there ws rest))
    | inr untold ↦
        let is = told_at s there w ∙ untold in
        rw (is, untold) (told_in_front s there ws rest)
  ]

  -- and where it is not
  pub none_in_front : stored_at live name ≡ None → (ws : List KeyWrite) (rest : List Write) → writes_told live (writes_in name ws ++ rest) ≡ writes_told live rest
  none_in_front none [] rest = refl
  none_in_front none (w ∷ ws) rest = rw (untold_at none w) (none_in_front none ws rest)

-- STEPS of a loop over writes: those of them that have been told, and what is told of the rest, are what is told of all
module _ (entries : List Entry) (name : List ℕ) (w : KeyWrite) (rest : List KeyWrite) (so_far all : List TableWrite) where
  pub one_told : (told : TableWrite) → is_told_in entries w ≡ true → told ≡ write_told name w → so_far ++ told_in entries name (w ∷ rest) ≡ all
      → (so_far ++ told ∷ []) ++ told_in entries name rest ≡ all
  one_told told is same before =
      let first : told_in entries name (w ∷ rest) ≡ write_told name w ∷ told_in entries name rest = rw is refl in
      append_assoc so_far (told ∷ []) (told_in entries name rest)
      ∙ ap (λ (t : TableWrite). so_far ++ t ∷ told_in entries name rest) same
      ∙ ap (λ (ts : List TableWrite). so_far ++ ts) (sym first)
      ∙ before

  pub one_untold : is_told_in entries w ≡ false → so_far ++ told_in entries name (w ∷ rest) ≡ all → so_far ++ told_in entries name rest ≡ all
  one_untold is before =
      let first : told_in entries name (w ∷ rest) ≡ told_in entries name rest = rw is refl in
      ap (λ (ts : List TableWrite). so_far ++ ts) (sym first) ∙ before

module _ (live : Database) (name : List ℕ) (ws : List KeyWrite) (rest : List Write) (so_far all : List TableWrite) where
  abbrev rows_of : Option Stored → Option (List Entry)
  rows_of = option_map (λ (s : Stored). entries_of s.table s.rows)

  pub table_told : (rows : List Entry) (now : List TableWrite) → Some rows ≡ rows_of (stored_at live name) → now ≡ so_far ++ told_in rows name ws
      → so_far ++ writes_told live (writes_in name ws ++ rest) ≡ all → now ++ writes_told live rest ≡ all
  table_told rows now here is before = on (stored_at live name) refl here
    where
      on : (o : Option Stored) → stored_at live name ≡ o → Some rows ≡ rows_of o → now ++ writes_told live rest ≡ all
      on None at here = absurd cc
      on (Some s) at here =
          ap (λ (ts : List TableWrite). ts ++ writes_told live rest) is
          ∙ append_assoc so_far (told_in rows name ws) (writes_told live rest)
          ∙ ap (λ (es : List Entry). so_far ++ (told_in es name ws ++ writes_told live rest)) (same_Some rows (entries_of s.table s.rows) here)
          ∙ ap (λ (ts : List TableWrite). so_far ++ ts) (sym (told_in_front live name s at ws rest))
          ∙ before

  pub table_untold : None ≡ rows_of (stored_at live name) → so_far ++ writes_told live (writes_in name ws ++ rest) ≡ all → so_far ++ writes_told live rest ≡ all
  table_untold here before = on (stored_at live name) refl here
    where
      on : (o : Option Stored) → stored_at live name ≡ o → None ≡ rows_of o → so_far ++ writes_told live rest ≡ all
      on None at here = ap (λ (ts : List TableWrite). so_far ++ ts) (sym (none_in_front live name at ws rest)) ∙ before
      on (Some s) at here = absurd cc
