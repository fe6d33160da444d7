-- One pass over entries and writes, both in the order of their keys, makes what applying the writes makes.
use Rattle.std.proofs.Common.{◌≡◌, ℕ, true, filter, List, [], ◌∷◌, map, fold, drop, Less, Equal, Greater, Option, Some, None, refl, sym, ap, subst, ◌∙◌, is_lt}
use Rattle.std.specs.List.{slice_get}
use Rattle.std.proofs.lemmas.Bool.{and_parts, and_from}
use Rattle.bf_base.specs.declared.value.Value.{Value}
use Rattle.bf_base.specs.Lists.{rises}
use Rattle.bf_base.specs.Values.{key_cmp, key_cmp_total}
use Rattle.bf_base.proofs.Order.{less_from_test, turned, turned_less, turned_equal, rises_alike, rises_tail, rises_skip}
use Rattle.std.specs.declared.ops.Bound.TheVariants.{Unbounded}
use Rattle.bf_heap.specs.KeyRanges.{is_within}
use Rattle.bf_heap.specs.Heaps.{Entry, with_row, without_row}
use Rattle.bf_txn.specs.declared.write.Write.{Write}
use Rattle.bf_txn.specs.Writes.{KeyWrite, key_of_write, key_write_of, key_writes_to, writes_to}
use Rattle.bf_index.proofs.Rising.{RisesFrom, keys_of}
use Rattle.bf_live.specs.Merged.{changed_by, applied, applied_to, rows_stepped, rows_ahead, rows_under}

abbrev pub write_keys : List Write → List (List Value)
write_keys writes = map (λ write. write.key) writes

abbrev pub rows_of : List Entry → List (List Value)
rows_of entries = map (λ entry. entry.1) entries

-- nothing is taken out of entries whose keys are all greater
pub nothing_below : (key : List Value) (entries : List Entry) → RisesFrom key (keys_of entries) → without_row entries key ≡ entries
nothing_below key [] h = refl
nothing_below key (e ∷ es) h =
    let later = turned_less key_cmp_total key e.0 (less_from_test _ (and_parts _ _ h).0) in
    rw (later, nothing_below key es (rises_skip key_cmp_total key e.0 (keys_of es) h)) refl

-- a row goes before entries whose keys are all greater
first_below : (key row : List Value) (entries : List Entry) → RisesFrom key (keys_of entries) → with_row entries key row ≡ (key, row) ∷ entries
first_below key row [] h = refl
first_below key row (e ∷ es) h =
    let less : key_cmp key e.0 ≡ Less = less_from_test _ (and_parts _ _ h).0 in
    rw less refl

-- writes of some type, by their keys and rows
module _ {W : Type 0} (key : W → List Value) (row : W → Option (List Value)) where
  abbrev change : List Entry → W → List Entry
  change entries w = changed_by (row w) (key w) entries

  -- a write behind an entry leaves it first
  behind_first : (e : Entry) (es : List Entry) (w : W) → key_cmp e.0 (key w) ≡ Less → change (e ∷ es) w ≡ e ∷ change es w
  behind_first e es w less = elim (row w) as (λ r. changed_by r (key w) (e ∷ es) ≡ e ∷ changed_by r (key w) es) [
    | Some r ↦ rw (turned_less key_cmp_total e.0 (key w) less) refl
    | None ↦ rw less refl
  ]

  -- and so do writes that are all behind it
  pub all_behind : (e : Entry) (es : List Entry) (writes : List W) → RisesFrom e.0 (map key writes) → fold change (e ∷ es) writes ≡ e ∷ fold change es writes
  all_behind e es [] h = refl
  all_behind e es (w ∷ writes) h =
      ap (λ now. fold change now writes) (behind_first e es w (less_from_test _ (and_parts _ _ h).0))
      ∙ all_behind e (change es w) writes (rises_skip key_cmp_total e.0 (key w) (map key writes) h)

all_later : (e : Entry) (es : List Entry) (writes : List KeyWrite) → RisesFrom e.0 (map key_of_write writes) → fold applied_to (e ∷ es) writes ≡ e ∷ fold applied_to es writes
all_later = all_behind key_of_write (λ (w : KeyWrite). w.1)

-- the first step is a write whose key no entry has
pub write_first : (entries : List Entry) (w : KeyWrite) (writes : List KeyWrite) → RisesFrom w.0 (keys_of entries) → RisesFrom w.0 (map key_of_write writes)
    → rows_stepped (Some w.1) (rows_of (fold applied_to entries writes)) ≡ rows_of (fold applied_to entries (w ∷ writes))
write_first entries w writes below h =
    elim (w.1) as (λ row. rows_stepped (Some row) (rows_of (fold applied_to entries writes)) ≡ rows_of (fold applied_to (changed_by row w.0 entries) writes)) [
      | Some row ↦ sym (ap (λ now. rows_of (fold applied_to now writes)) (first_below w.0 row entries below) ∙ ap rows_of (all_later (w.0, row) entries writes h))
      | None ↦ sym (ap (λ now. rows_of (fold applied_to now writes)) (nothing_below w.0 entries below))
    ]

-- the first step is a write to the first entry's key
pub write_over : (e : Entry) (es : List Entry) (w : KeyWrite) (writes : List KeyWrite) → key_cmp w.0 e.0 ≡ Equal → RisesFrom e.0 (keys_of es) → RisesFrom w.0 (map key_of_write writes)
    → rows_stepped (Some w.1) (rows_of (fold applied_to es writes)) ≡ rows_of (fold applied_to (e ∷ es) (w ∷ writes))
write_over e es w writes tied below h =
    elim (w.1) as (λ row. rows_stepped (Some row) (rows_of (fold applied_to es writes)) ≡ rows_of (fold applied_to (changed_by row w.0 (e ∷ es)) writes)) [
      | Some row ↦ rw tied (sym (ap rows_of (all_later (w.0, row) es writes h)))
      | None ↦
          let back = turned_equal key_cmp_total w.0 e.0 tied in
          let rest = nothing_below w.0 es (rises_alike key_cmp_total e.0 w.0 (keys_of es) back below) in
          rw back (sym (ap (λ now. rows_of (fold applied_to now writes)) rest))
    ]

-- the first step is an entry before all writes
pub entry_first : (e : Entry) (es : List Entry) (w : KeyWrite) (writes : List KeyWrite) → key_cmp w.0 e.0 ≡ Greater → RisesFrom w.0 (map key_of_write writes)
    → e.1 ∷ rows_of (fold applied_to es (w ∷ writes)) ≡ rows_of (fold applied_to (e ∷ es) (w ∷ writes))
entry_first e es w writes greater h = sym (ap rows_of (all_later e es (w ∷ writes) (and_from _ _ (ap is_lt (turned key_cmp_total w.0 e.0 greater)) h)))

-- the first of a list and those behind it, or that there is none
first_of : {X : Type 0} (xs : List X) (x : X) → slice_get xs 0 ≡ Some x → xs ≡ x ∷ drop 1 xs
first_of [] x e = absurd cc
first_of (y ∷ ys) x e = let same : y ≡ x = cc in ap (λ z. z ∷ ys) same

pub none_of : {X : Type 0} (xs : List X) → slice_get xs 0 ≡ None → xs ≡ []
none_of [] e = refl
none_of (y ∷ ys) e = absurd cc

pub head_of : {X : Type 0} (xs now : List X) (x : X) → Some x ≡ slice_get xs 0 → now ≡ drop 1 xs → xs ≡ x ∷ now
head_of xs now x there is = first_of xs x (sym there) ∙ ap (λ ys. x ∷ ys) (sym is)

-- the steps of a pass that has these entries ahead
module _ (entries : List Entry) (in_order : rises key_cmp (keys_of entries) ≡ true) where
  pub at_end : None ≡ slice_get entries 0 → (writes : List KeyWrite) → writes ≡ [] → [] ≡ rows_ahead entries writes
  at_end none writes is = sym (ap (rows_ahead entries) is ∙ ap rows_of (none_of entries (sym none)))

  pub below_none : (key : List Value) → None ≡ slice_get entries 0 → RisesFrom key (keys_of entries)
  below_none key none = subst (λ es. RisesFrom key (keys_of es)) (sym (none_of entries (sym none))) refl

  pub below_first : (key : List Value) (e : Entry) → Some e ≡ slice_get entries 0 → key_cmp key e.0 ≡ Less → RisesFrom key (keys_of entries)
  below_first key e there less =
      let split = first_of entries e (sym there) in
      subst (λ es. RisesFrom key (keys_of es)) (sym split) (and_from _ _ (ap is_lt less) (subst (λ es. rises key_cmp (keys_of es) ≡ true) split in_order))

  module _ (w : KeyWrite) (later writes : List KeyWrite) (is : writes ≡ w ∷ later) (by_key : rises key_cmp (map key_of_write writes) ≡ true) where
    behind : RisesFrom w.0 (map key_of_write later)
    behind = subst (λ ws. rises key_cmp (map key_of_write ws) ≡ true) is by_key

    -- a write to a key before all entries
    pub write_ahead : (row : Option (List Value)) → row ≡ w.1 → RisesFrom w.0 (keys_of entries) → rows_stepped (Some row) (rows_ahead entries later) ≡ rows_ahead entries writes
    write_ahead row row_is below =
        ap (λ r. rows_stepped (Some r) (rows_ahead entries later)) row_is ∙ write_first entries w later below behind ∙ ap (rows_ahead entries) (sym is)

  -- the pass goes over the first entry
  module _ (e : Entry) (there : Some e ≡ slice_get entries 0) (now : List Entry) (now_is : now ≡ drop 1 entries) where
    split : entries ≡ e ∷ now
    split = first_of entries e (sym there) ∙ ap (λ es. e ∷ es) (sym now_is)

    below : RisesFrom e.0 (keys_of now)
    below = subst (λ es. rises key_cmp (keys_of es) ≡ true) split in_order

    pub now_in_order : rises key_cmp (keys_of now) ≡ true
    now_in_order = rises_tail key_cmp_total e.0 (keys_of now) below

    module _ (w : KeyWrite) (later writes : List KeyWrite) (is : writes ≡ w ∷ later) (by_key : rises key_cmp (map key_of_write writes) ≡ true) where
      rest : RisesFrom w.0 (map key_of_write later)
      rest = subst (λ ws. rises key_cmp (map key_of_write ws) ≡ true) is by_key

      both : rows_of (fold applied_to (e ∷ now) (w ∷ later)) ≡ rows_ahead entries writes
      both = ap (λ es. rows_of (fold applied_to es (w ∷ later))) (sym split) ∙ ap (rows_ahead entries) (sym is)

      pub write_replaces : (row : Option (List Value)) → row ≡ w.1 → key_cmp w.0 e.0 ≡ Equal → rows_stepped (Some row) (rows_ahead now later) ≡ rows_ahead entries writes
      write_replaces row row_is tied = ap (λ r. rows_stepped (Some r) (rows_ahead now later)) row_is ∙ write_over e now w later tied below rest ∙ both

      pub entry_before : key_cmp w.0 e.0 ≡ Greater → e.1 ∷ rows_ahead now writes ≡ rows_ahead entries writes
      entry_before greater = ap (λ ws. e.1 ∷ rows_ahead now ws) is ∙ entry_first e now w later greater rest ∙ both

-- where no writes are ahead
pub rows_alone : (entries now : List Entry) (e : Entry) (writes : List KeyWrite) → entries ≡ e ∷ now → writes ≡ [] → e.1 ∷ rows_ahead now writes ≡ rows_ahead entries writes
rows_alone entries now e writes split none = ap (λ ws. e.1 ∷ rows_ahead now ws) none ∙ ap rows_of (sym split) ∙ ap (rows_ahead entries) (sym none)

-- the writes to a table, without its name
pub without_name : (entries : List Entry) (writes : List Write) → fold applied_to entries (map key_write_of writes) ≡ fold applied entries writes
without_name entries [] = refl
without_name entries (w ∷ writes) = without_name (applied entries w) writes

pub all_ahead : (entries : List Entry) (writes : List Write) (table : List ℕ) → rows_ahead entries (key_writes_to table writes) ≡ rows_under entries writes table
all_ahead entries writes table = ap rows_of (without_name entries (writes_to table writes))

-- what a pass over all writes goes over
pub every_key : (writes : List KeyWrite) → filter (λ (w : KeyWrite). is_within (record { low = Unbounded; high = Unbounded }) w.0) writes ≡ writes
every_key [] = refl
every_key (w ∷ writes) = ap (λ (ws : List KeyWrite). w ∷ ws) (every_key writes)

-- the writes behind the first are in their order
pub next_by_key : (writes now : List KeyWrite) → now ≡ drop 1 writes → rises key_cmp (map key_of_write writes) ≡ true → rises key_cmp (map key_of_write now) ≡ true
next_by_key [] now is h = rw is refl
next_by_key (w ∷ writes) now is h = rw is (rises_tail key_cmp_total w.0 (map key_of_write writes) h)
