-- Of entries under writes, those whose rows pass a test depend on such entries alone.
use Rattle.std.proofs.Common.{◌≡◌, Bool, true, false, cond, List, [], ◌∷◌, map, filter, fold, Less, Equal, Greater, Option, Some, None, refl, sym, ap, ◌∙◌, inl, inr, is_lt, is_eq}
use Rattle.std.specs.List.{AllByRecursion}
use Rattle.std.proofs.lemmas.Bool.{and_from, cases_Bool}
use Rattle.bf_base.specs.declared.value.Value.{Value}
use Rattle.bf_base.specs.Maps.{is_map, beside}
use Rattle.bf_base.specs.Values.{key_cmp, key_cmp_total}
use Rattle.bf_base.proofs.Apart.{rises-filter}
use Rattle.bf_base.proofs.Order.{rises_alike, rises_tail, turned, turned_equal}
use Rattle.bf_heap.specs.Heaps.{Entry, key_of_entry, with_row, without_row}
use Rattle.bf_txn.specs.declared.write.Write.{Write}
use Rattle.bf_live.specs.Merged.{changed_by, applied}
use Rattle.bf_live.proofs.querying.Keyed.{is_map-fold}
use Rattle.bf_live.proofs.querying.Merging.{nothing_below, rows_of}
use Rattle.bf_query.proofs.Restricting.{put_first}

module _ (test : List Value → Bool) where
  -- the entries whose rows pass
  abbrev pub chosen : List Entry → List Entry
  chosen entries = filter (λ e. test e.1) entries

  pub rows_of-chosen : (entries : List Entry) → filter test (rows_of entries) ≡ rows_of (chosen entries)
  rows_of-chosen [] = refl
  rows_of-chosen (e ∷ es) = elim (test e.1) as (λ b. cond b (e.1 ∷ filter test (rows_of es)) (filter test (rows_of es)) ≡ rows_of (cond b (e ∷ chosen es) (chosen es))) [
    | true ↦ ap (λ rows. e.1 ∷ rows) (rows_of-chosen es)
    | false ↦ rows_of-chosen es
  ]

  -- what a write makes of chosen entries: a row that does not pass only takes out the one under its key
  abbrev written_over : Option (List Value) → List Value → List Entry → List Entry
  written_over None key entries = without_row entries key
  written_over (Some row) key entries = cond (test row) (with_row entries key row) (without_row entries key)

  chosen-without_row : (entries : List Entry) (key : List Value) → chosen (without_row entries key) ≡ without_row (chosen entries) key
  chosen-without_row [] key = refl
  chosen-without_row (e ∷ es) key =
      let rest = chosen-without_row es key in
      elim (cases_Bool (is_eq (key_cmp e.0 key))) [
        | inl tied ↦ elim (cases_Bool (test e.1)) [
          | inl passes ↦ rw (tied, passes, tied) rest
          | inr fails ↦ rw (tied, fails) rest
        ]
        | inr apart ↦ elim (cases_Bool (test e.1)) [
          | inl passes ↦ rw (apart, passes, apart) (ap (λ es. e ∷ es) rest)
          | inr fails ↦ rw (apart, fails) rest
        ]
      ]

  chosen-with_row : (entries : List Entry) (x : Entry) → is_map key_cmp key_of_entry entries ≡ true → chosen (with_row entries x.0 x.1) ≡ written_over (Some x.1) x.0 (chosen entries)
  chosen-with_row [] x h = elim (test x.1) as (λ b. ◌≡◌ {A = List Entry} (cond b (x ∷ []) []) (cond b (x ∷ []) [])) [ true ↦ refl | false ↦ refl ]
  chosen-with_row (e ∷ es) x h = elim (key_cmp x.0 e.0) as (λ r. key_cmp x.0 e.0 ≡ r → chosen (beside r e es x (with_row es x.0 x.1)) ≡ written_over (Some x.1) x.0 (chosen (e ∷ es))) [
    | Less ↦ λ less.
        let first : is_map key_cmp key_of_entry (x ∷ e ∷ es) ≡ true = and_from _ _ (ap is_lt less) h in
        elim (cases_Bool (test x.1)) [
          | inl passes ↦
              let rest : is_map key_cmp key_of_entry (x ∷ chosen (e ∷ es)) ≡ true = rw passes at (rises-filter key_cmp_total key_of_entry (λ (e : Entry). test e.1) (x ∷ e ∷ es) first) in
              rw passes (sym (put_first x (chosen (e ∷ es)) rest))
          | inr fails ↦ rw fails (sym (sym (chosen-without_row (e ∷ es) x.0) ∙ ap chosen (nothing_below x.0 (e ∷ es) first)))
        ]
    | Equal ↦ λ tied.
        let back : key_cmp e.0 x.0 ≡ Equal = turned_equal key_cmp_total x.0 e.0 tied in
        let later : is_map key_cmp key_of_entry (x ∷ es) ≡ true = rises_alike key_cmp_total e.0 x.0 (map key_of_entry es) back h in
        elim (cases_Bool (test x.1)) [
          | inl passes ↦ elim (cases_Bool (test e.1)) [
            | inl first ↦ rw (passes, first, tied) refl
            | inr out ↦
                let rest : is_map key_cmp key_of_entry (x ∷ chosen es) ≡ true = rw passes at (rises-filter key_cmp_total key_of_entry (λ (e : Entry). test e.1) (x ∷ es) later) in
                rw (passes, out) (sym (put_first x (chosen es) rest))
          ]
          | inr fails ↦
              let gone : without_row (e ∷ es) x.0 ≡ es = rw back (nothing_below x.0 es later) in
              rw fails (sym (sym (chosen-without_row (e ∷ es) x.0) ∙ ap chosen gone))
        ]
    | Greater ↦ λ greater.
        let less : key_cmp e.0 x.0 ≡ Less = turned key_cmp_total x.0 e.0 greater in
        let rest = chosen-with_row es x (rises_tail key_cmp_total e.0 (map key_of_entry es) h) in
        elim (cases_Bool (test x.1)) [
          | inl passes ↦ elim (cases_Bool (test e.1)) [
            | inl first ↦ rw (passes, first, greater) (ap (λ zs. e ∷ zs) (rw passes at rest))
            | inr out ↦ rw (passes, out) (rw passes at rest)
          ]
          | inr fails ↦ elim (cases_Bool (test e.1)) [
            | inl first ↦ rw (fails, first, less) (ap (λ zs. e ∷ zs) (rw fails at rest))
            | inr out ↦ rw (fails, out) (rw fails at rest)
          ]
        ]
  ] refl

  chosen-applied : (entries : List Entry) (w : Write) → is_map key_cmp key_of_entry entries ≡ true → chosen (applied entries w) ≡ written_over w.row w.key (chosen entries)
  chosen-applied entries w h = elim (w.row) as (λ row. chosen (changed_by row w.key entries) ≡ written_over row w.key (chosen entries)) [
    | Some row ↦ chosen-with_row entries (w.key, row) h
    | None ↦ chosen-without_row entries w.key
  ]

  -- so entries with the same chosen ones have the same chosen ones under writes
  pub chosen-fold : (writes : List Write) (entries others : List Entry) → is_map key_cmp key_of_entry entries ≡ true → is_map key_cmp key_of_entry others ≡ true → chosen entries ≡ chosen others → chosen (fold applied entries writes) ≡ chosen (fold applied others writes)
  chosen-fold [] entries others h g same = same
  chosen-fold (w ∷ writes) entries others h g same =
      chosen-fold writes (applied entries w) (applied others w) (is_map-fold (w ∷ []) entries h) (is_map-fold (w ∷ []) others g)
      (chosen-applied entries w h ∙ ap (written_over w.row w.key) same ∙ sym (chosen-applied others w g))

  pub chosen_rows : (writes : List Write) (entries others : List Entry) → is_map key_cmp key_of_entry entries ≡ true → is_map key_cmp key_of_entry others ≡ true → chosen entries ≡ chosen others → filter test (rows_of (fold applied entries writes)) ≡ filter test (rows_of (fold applied others writes))
  chosen_rows writes entries others h g same =
      rows_of-chosen (fold applied entries writes) ∙ ap rows_of (chosen-fold writes entries others h g same) ∙ sym (rows_of-chosen (fold applied others writes))

  -- a filter that keeps each entry whose row passes leaves the chosen ones
  pub chosen-filter : (keep : Entry → Bool) (entries : List Entry) → AllByRecursion (λ e. test e.1 ≡ true → keep e ≡ true) entries → chosen (filter keep entries) ≡ chosen entries
  chosen-filter keep [] kept = refl
  chosen-filter keep (e ∷ es) kept =
      let rest = chosen-filter keep es kept.1 in
      elim (cases_Bool (test e.1)) [
        | inl passes ↦ rw (kept.0 passes, passes) (ap (λ es. e ∷ es) rest)
        | inr fails ↦ elim (cases_Bool (keep e)) [
          | inl stays ↦ rw (stays, fails) rest
          | inr goes ↦ rw (goes, fails) rest
        ]
      ]
