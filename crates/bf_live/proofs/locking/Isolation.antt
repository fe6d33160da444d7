-- A commit of what one owner holds in X leaves what another owner's footprint reads.
use Rattle.std.proofs.Common.{◌≡◌, ◌≢◌, ℕ, true, false, if◌then◌else◌, List, [], ◌∷◌, map, Some, None, refl, sym, ap, subst, ◌∙◌, inl, inr, is_eq}
use Rattle.std.specs.Prelude.{IsSomeAnd}
use Rattle.std.specs.List.{AllByRecursion}
use Rattle.std.proofs.lemmas.Bool.{cases_Bool}
use Rattle.bf_base.specs.declared.value.Value.{Value}
use Rattle.bf_base.specs.Lists.{same_name}
use Rattle.bf_base.specs.Tables.{key_of}
use Rattle.bf_locks.specs.declared.mode.Mode.{Mode}
use Rattle.bf_locks.specs.declared.mode.Mode.TheVariants.{IS, IX, S, SIX, X}
use Rattle.bf_locks.specs.declared.name.LockName.{LockName}
use Rattle.bf_locks.specs.declared.name.LockName.TheVariants.{Catalog, Whole, One}
use Rattle.bf_locks.specs.Locks.{Locks, held, IsConsistent}
use Rattle.bf_locks.specs.Modes.{are_compatible, covers, reads_all}
use Rattle.bf_tree.specs.declared.bound.Action.{Action}
use Rattle.bf_tree.specs.declared.bound.Action.TheVariants as action
use Rattle.bf_tree.specs.declared.bound.Bound.{Bound}
use Rattle.bf_tree.specs.declared.reply.Refusal.{Refusal}
use Rattle.bf_tree.specs.declared.reply.Refusal.TheVariants.{NoTransaction, InTransaction, MustBeAlone}
use Rattle.bf_sql.specs.Database.{Database}
use Rattle.bf_live.specs.Live.{committed}
use Rattle.bf_txn.specs.declared.write.Write.{Write}
use Rattle.bf_txn.specs.Writes.{table_key_cmp, table_key_of}
use Rattle.bf_live.proofs.querying.Binding.{one_name}
use Rattle.bf_live.proofs.querying.OwnKeys.{by_recursion, each, weakened}
use Rattle.bf_live.specs.Open.{IsOpen}
use Rattle.bf_live.proofs.statements.Seeing.{nothing_written, same_catalog}
use Rattle.bf_sql.specs.Agreement.{AgreeAt, AgreeOn}
use Rattle.bf_sql.specs.Footprints.{Lock, action_locks, catalog_change, footprint_of, in_key_order, refusal_locks}
use Rattle.bf_live.specs.OpenGroups.{Holds, HoldsIn, MayWrite}
use Rattle.bf_live.proofs.locking.Beside.{intends, no_reader_beside, no_writer_beside, none_beside, reads_on, writes_parts_too}
use Rattle.bf_live.proofs.locking.Keeping.{one_spot, row_stays, rows_stay}

module _ (locks : Locks) (owner : ℕ) where
  -- an owner that holds a name holds it in a mode
  pub record HeldAs (name : LockName) (mode : Mode) : Type 0 where
    pub mine : Mode
    pub is : held locks name owner ≡ Some mine
    pub over : covers mine mode ≡ true

  pub held_as : (name : LockName) (mode : Mode) → HoldsIn locks owner name mode → HeldAs name mode
  held_as name mode has =
      elim (held locks name owner) as (λ o. held locks name owner ≡ o → IsSomeAnd o (λ mine. covers mine mode ≡ true) → HeldAs name mode) [
        | None ↦ λ is has. absurd has
        | Some mine ↦ λ is has. record { mine = mine; is = is; over = has }
      ] refl has

  pub holds_other : (name : LockName) (mode other : Mode) → ((mine : Mode) → covers mine mode ≡ true → covers mine other ≡ true) → HoldsIn locks owner name mode → HoldsIn locks owner name other
  holds_other name mode other weaker has =
      elim (held locks name owner) as (λ o. IsSomeAnd o (λ mine. covers mine mode ≡ true) → IsSomeAnd o (λ mine. covers mine other ≡ true)) [
        | None ↦ λ has. has
        | Some mine ↦ λ has. weaker mine has
      ] has

  -- a key is held with its table above it
  abbrev pub IsHeld : LockName → Mode → Type 0
  IsHeld (One table key) mode = HoldsIn locks owner (One table key) mode × HoldsIn locks owner (Whole table) IS
  IsHeld name mode = HoldsIn locks owner name mode

  abbrev pub AreHeld : List Lock → Type 0
  AreHeld footprint = AllByRecursion (λ lock. IsHeld lock.0 lock.1) footprint

  abbrev AreHeldAlone : List Lock → Type 0
  AreHeldAlone footprint = AllByRecursion (λ lock. HoldsIn locks owner lock.0 lock.1) footprint

  keys_held : (table : List ℕ) → HoldsIn locks owner (Whole table) IS → (keys : List (List Value)) → AreHeldAlone (map (λ key. (One table key, X)) keys) → AreHeld (map (λ key. (One table key, X)) keys)
  keys_held table above [] all = tt
  keys_held table above (key ∷ keys) all = ((all.0, above), keys_held table above keys all.1)

  refusal_held : (r : Refusal) → AreHeldAlone (refusal_locks r) → AreHeld (refusal_locks r)
  refusal_held NoTransaction all = tt
  refusal_held InTransaction all = tt
  refusal_held MustBeAlone all = tt
  refusal_held other all = all

  action_held : (act : Action) → AreHeldAlone (action_locks act) → AreHeld (action_locks act)
  action_held (action.Refused r) all = refusal_held r all
  action_held (action.CreateTable table) all = all
  action_held (action.CreateIndex rule) all = all
  action_held (action.Insert t tuples) all =
      (all.0, (all.1.0, keys_held t.name (holds_other (Whole t.name) IX IS (λ mine over. intends mine IX over) all.1.0) (in_key_order (map (key_of t) tuples)) all.1.1))
  action_held (action.Select t items c (Some key)) all = (all.0, (all.1.0, ((all.1.1.0, all.1.0), tt)))
  action_held (action.Select t items c None) all = all
  action_held (action.Update t sets c (Some key)) all = (all.0, (all.1.0, ((all.1.1.0, holds_other (Whole t.name) IX IS (λ mine over. intends mine IX over) all.1.0), tt)))
  action_held (action.Update t sets c None) all = all
  action_held (action.Delete t c (Some key)) all = (all.0, (all.1.0, ((all.1.1.0, holds_other (Whole t.name) IX IS (λ mine over. intends mine IX over) all.1.0), tt)))
  action_held (action.Delete t c None) all = all
  action_held (action.Migrate plan) all = all
  action_held action.Begin all = tt
  action_held action.Commit all = tt
  action_held action.Rollback all = tt

  pub footprint_held : (bound : Bound) → Holds locks owner (footprint_of bound) → AreHeld (footprint_of bound)
  footprint_held bound holds =
      elim (bound.schema_change) as (λ b. AreHeldAlone (if b then catalog_change else action_locks bound.action) → AreHeld (if b then catalog_change else action_locks bound.action)) [
        | true ↦ λ all. all
        | false ↦ λ all. action_held bound.action all
      ] (by_recursion (λ lock. HoldsIn locks owner lock.0 lock.1) (footprint_of bound) holds)

module _ (locks : Locks) (owner other : ℕ) (consistent : IsConsistent locks) (apart : owner ≢ other) where
  -- what two owners hold of one name goes together
  beside : (name : LockName) (mode theirs : Mode) (mine : HeldAs locks owner name mode) (its : HeldAs locks other name theirs) → are_compatible mine.mine its.mine ≡ true
  beside name mode theirs mine its = consistent.apart name owner other mine.mine its.mine apart mine.is its.is

  pub none_held_beside : (name : LockName) (mode : Mode) → HoldsIn locks owner name mode → HoldsIn locks other name X → ⊥
  none_held_beside name mode mine its =
      let a = held_as locks owner name mode mine in
      let b = held_as locks other name X its in
      none_beside a.mine b.mine b.over (beside name mode X a b)

  -- whoever holds the catalog in X is alone with it
  pub no_writes : HoldsIn locks owner Catalog X → (writes : List Write) → AllByRecursion (MayWrite locks other) writes → writes ≡ []
  no_writes mine [] all = refl
  no_writes mine (w ∷ writes) all =
      let a = held_as locks owner Catalog X mine in
      let b = held_as locks other Catalog S all.0.catalog in
      absurd (no_reader_beside a.mine b.mine a.over b.over (beside Catalog X S a b))

  pub alone : (db : Database) (writes : List Write) → HoldsIn locks owner Catalog X → AllByRecursion (MayWrite locks other) writes → committed db writes ≡ db
  alone db writes mine may = ap (committed db) (no_writes mine writes may) ∙ nothing_written db

  module _ (db : Database) (writes : List Write) (opened : IsOpen db writes) (may : AllByRecursion (MayWrite locks other) writes) where
    -- whoever reads a whole table has no writer in it
    elsewhere : (table : List ℕ) (mode : Mode) → reads_all mode ≡ true → HoldsIn locks owner (Whole table) mode → (w : Write) → MayWrite locks other w → same_name w.table table ≡ false
    elsewhere table mode reads mine w may = elim (cases_Bool (same_name w.table table)) [
      | inr unlike ↦ unlike
      | inl same ↦
          let is : w.table ≡ table = one_name w.table table same in
          let a = held_as locks owner (Whole table) mode mine in
          let there : HoldsIn locks other (Whole w.table) IX = elim (may.place) [
            | inl whole ↦ holds_other locks other (Whole w.table) X IX writes_parts_too whole
            | inr parts ↦ parts.0
          ] in
          let b = held_as locks other (Whole table) IX (subst (λ n. HoldsIn locks other (Whole n) IX) is there) in
          absurd (no_writer_beside a.mine b.mine (reads_on a.mine mode a.over reads) b.over (beside (Whole table) mode IX a b))
    ]

    -- and whoever holds a key has no writer at it
    another_key : (table : List ℕ) (key : List Value) (mode : Mode) → HoldsIn locks owner (One table key) mode → HoldsIn locks owner (Whole table) IS → (w : Write) → MayWrite locks other w
        → is_eq (table_key_cmp (table_key_of w) (table, key)) ≡ false
    another_key table key mode mine above w may = elim (cases_Bool (is_eq (table_key_cmp (table_key_of w) (table, key)))) [
      | inr unlike ↦ unlike
      | inl same ↦
          let is = one_spot w.table table w.key key same in
          absurd (elim (may.place) [
            | inl whole ↦ none_held_beside (Whole table) IS above (subst (λ n. HoldsIn locks other (Whole n) X) is.0 whole)
            | inr parts ↦ none_held_beside (One table key) mode mine (subst (λ k. HoldsIn locks other (One table k) X) is.1 (subst (λ n. HoldsIn locks other (One n w.key) X) is.0 parts.1))
          ])
    ]

    agree_held : (name : LockName) (mode : Mode) → IsHeld locks owner name mode → AgreeAt db (committed db writes) name mode
    agree_held Catalog IS mine = sym (same_catalog db writes)
    agree_held Catalog IX mine = sym (same_catalog db writes)
    agree_held Catalog S mine = sym (same_catalog db writes)
    agree_held Catalog SIX mine = sym (same_catalog db writes)
    agree_held Catalog X mine = sym (alone db writes mine may)
    agree_held (Whole table) mode mine = λ reads.
        rows_stay db writes table (weakened (MayWrite locks other) (λ w. same_name w.table table ≡ false) (elsewhere table mode reads mine) writes may)
    agree_held (One table key) mode mine =
        row_stays db writes opened table key (weakened (MayWrite locks other) (λ w. is_eq (table_key_cmp (table_key_of w) (table, key)) ≡ false) (another_key table key mode mine.0 mine.1) writes may)

    pub commit_keeps : (bound : Bound) → Holds locks owner (footprint_of bound) → AgreeOn db (committed db writes) (footprint_of bound)
    commit_keeps bound holds =
        each (λ lock. AgreeAt db (committed db writes) lock.0 lock.1) (footprint_of bound)
        (weakened (λ lock. IsHeld locks owner lock.0 lock.1) (λ lock. AgreeAt db (committed db writes) lock.0 lock.1) (λ lock. agree_held lock.0 lock.1) (footprint_of bound) (footprint_held locks owner bound holds))
