-- A test of keys keeps of entries under writes what the writes that it keeps make of the entries that it keeps.
use Rattle.std.proofs.Common.{◌≡◌, Bool, true, false, cond, List, [], ◌∷◌, map, filter, fold, Less, Equal, Greater, Some, None, refl, sym, ap, ◌∙◌, inl, inr, is_lt, is_eq}
use Rattle.std.proofs.lemmas.Bool.{and_from, cases_Bool}
use Rattle.bf_base.specs.declared.value.Value.{Value}
use Rattle.bf_base.specs.Maps.{is_map, beside}
use Rattle.bf_base.specs.Values.{key_cmp, key_cmp_total, key_cmp-IsAntisymmetric}
use Rattle.bf_base.proofs.Apart.{rises-filter}
use Rattle.bf_base.proofs.Order.{rises_tail, rises_first, less_from_test, equal_from_test}
use Rattle.bf_heap.specs.Heaps.{Entry, key_of_entry, with_row, without_row}
use Rattle.bf_txn.specs.declared.write.Write.{Write}
use Rattle.bf_live.specs.Merged.{changed_by, applied}
use Rattle.bf_live.proofs.querying.Keyed.{is_map-fold}

-- a row that is put before all entries
pub put_first : (x : Entry) (entries : List Entry) → is_map key_cmp key_of_entry (x ∷ entries) ≡ true → with_row entries x.0 x.1 ≡ x ∷ entries
put_first x [] h = refl
put_first x (e ∷ es) h =
    let less : key_cmp x.0 e.0 ≡ Less = less_from_test _ (rises_first key_cmp_total x.0 (map key_of_entry (e ∷ es)) h) in
    rw less refl

module _ (test : List Value → Bool) where
  abbrev pub kept : List Entry → List Entry
  kept entries = filter (λ e. test e.0) entries

  abbrev pub kept_writes : List Write → List Write
  kept_writes writes = filter (λ w. test w.key) writes

  -- a row that is put among entries in order
  kept-with_row : (entries : List Entry) (x : Entry) → is_map key_cmp key_of_entry entries ≡ true → kept (with_row entries x.0 x.1) ≡ cond (test x.0) (with_row (kept entries) x.0 x.1) (kept entries)
  kept-with_row [] x h = elim (test x.0) as (λ b. cond b (x ∷ []) [] ≡ cond b (x ∷ []) []) [ true ↦ refl | false ↦ refl ]
  kept-with_row (e ∷ es) x h = elim (key_cmp x.0 e.0) as (λ r. key_cmp x.0 e.0 ≡ r → kept (beside r e es x (with_row es x.0 x.1)) ≡ cond (test x.0) (with_row (kept (e ∷ es)) x.0 x.1) (kept (e ∷ es))) [
    | Less ↦ λ less. elim (cases_Bool (test x.0)) [
      | inl passes ↦
          let first : is_map key_cmp key_of_entry (x ∷ e ∷ es) ≡ true = and_from _ _ (ap is_lt less) h in
          let rest : is_map key_cmp key_of_entry (x ∷ kept (e ∷ es)) ≡ true = rw passes at (rises-filter key_cmp_total key_of_entry (λ (e : Entry). test e.0) (x ∷ e ∷ es) first) in
          rw passes (sym (put_first x (kept (e ∷ es)) rest))
      | inr fails ↦ rw fails refl
    ]
    | Equal ↦ λ tied.
        let same : x.0 ≡ e.0 = key_cmp-IsAntisymmetric x.0 e.0 tied in
        let alike : test x.0 ≡ test e.0 = ap test same in
        elim (cases_Bool (test e.0)) [
          | inl passes ↦ rw (alike, passes, tied) refl
          | inr fails ↦ rw (alike, fails) refl
        ]
    | Greater ↦ λ greater.
        let rest = kept-with_row es x (rises_tail key_cmp_total e.0 (map key_of_entry es) h) in
        elim (cases_Bool (test x.0)) [
          | inl passes ↦ elim (cases_Bool (test e.0)) [
            | inl first ↦ rw (passes, first, greater) (ap (λ zs. e ∷ zs) (rw passes at rest))
            | inr out ↦ rw (passes, out) (rw passes at rest)
          ]
          | inr fails ↦ elim (cases_Bool (test e.0)) [
            | inl first ↦ rw (fails, first) (ap (λ zs. e ∷ zs) (rw fails at rest))
            | inr out ↦ rw (fails, out) (rw fails at rest)
          ]
        ]
  ] refl

  -- the entry of a key that is taken out
  kept-without_row : (entries : List Entry) (key : List Value) → kept (without_row entries key) ≡ cond (test key) (without_row (kept entries) key) (kept entries)
  kept-without_row [] key = elim (test key) as (λ b. ◌≡◌ {A = List Entry} [] (cond b [] [])) [ true ↦ refl | false ↦ refl ]
  kept-without_row (e ∷ es) key =
      let rest = kept-without_row es key in
      elim (cases_Bool (is_eq (key_cmp e.0 key))) [
        | inl tied ↦
            let alike : test e.0 ≡ test key = ap test (key_cmp-IsAntisymmetric e.0 key (equal_from_test _ tied)) in
            elim (cases_Bool (test key)) [
              | inl passes ↦ rw (alike, passes, tied) (rw passes at rest)
              | inr fails ↦ rw (alike, fails, tied) (rw fails at rest)
            ]
        | inr apart ↦ elim (cases_Bool (test key)) [
          | inl passes ↦ elim (cases_Bool (test e.0)) [
            | inl first ↦ rw (passes, first, apart) (rw first (ap (λ zs. e ∷ zs) (rw passes at rest)))
            | inr out ↦ rw (passes, out, apart) (rw out (rw passes at rest))
          ]
          | inr fails ↦ elim (cases_Bool (test e.0)) [
            | inl first ↦ rw (fails, first, apart) (rw first (ap (λ zs. e ∷ zs) (rw fails at rest)))
            | inr out ↦ rw (fails, out, apart) (rw out (rw fails at rest))
          ]
        ]
      ]

  kept-applied : (entries : List Entry) (w : Write) → is_map key_cmp key_of_entry entries ≡ true → kept (applied entries w) ≡ cond (test w.key) (applied (kept entries) w) (kept entries)
  kept-applied entries w h = elim (w.row) as (λ row. kept (changed_by row w.key entries) ≡ cond (test w.key) (changed_by row w.key (kept entries)) (kept entries)) [
    | Some row ↦ kept-with_row entries (w.key, row) h
    | None ↦ kept-without_row entries w.key
  ]

  pub kept-fold : (writes : List Write) (entries : List Entry) → is_map key_cmp key_of_entry entries ≡ true → kept (fold applied entries writes) ≡ fold applied (kept entries) (kept_writes writes)
  kept-fold [] entries h = refl
  kept-fold (w ∷ writes) entries h =
      let rest = kept-fold writes (applied entries w) (is_map-fold (w ∷ []) entries h) in
      let here = kept-applied entries w h in
      elim (cases_Bool (test w.key)) [
        | inl passes ↦ rw passes (rest ∙ ap (λ now. fold applied now (kept_writes writes)) (rw passes at here))
        | inr fails ↦ rw fails (rest ∙ ap (λ now. fold applied now (kept_writes writes)) (rw fails at here))
      ]
