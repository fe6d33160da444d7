-- That a lock table stays sound when it grants and when it frees.
use Rattle.std.proofs.Common.{◌≡◌, ◌≢◌, ◌⊎◌, ◌↔◌, ℕ, zero, suc, List, [], ◌∷◌, ◌++◌, IsSome, Contains, Bool, true, false, not, cond, Option, None, refl, sym, ap, subst, ◌∙◌, inl, inr, arith}
use Rattle.std.specs.Global.{Vec}
use Rattle.std.specs.FinMap as map
use Rattle.std.specs.BTreeMap as tree
use Rattle.std.specs.BTreeMap.{BTreeMap}
use Rattle.std.specs.Option.{is_some, option_map_or}
use Rattle.std.specs.Map.{lookup}
use Rattle.std.specs.BTreeMap.{is_at}
use Rattle.std.specs.Ordering.{nat_cmp}
use Rattle.std.specs.FinMap.{get-empty}
use Rattle.std.proofs.lemmas.Bool.{cases_eq, cond-true, cond-false, eq-eqb, ne_eqb, false≢true}
use Rattle.std.specs.Cmp.{unsigned_tied}
use Rattle.std.proofs.lemmas.List.{get_or_default}
use Rattle.std.proofs.lemmas.List.Elements.{Contains-append_left, Contains-append_right, Contains-append_cases}
use Rattle.std.proofs.lemmas.List.Quantifiers.{all_pairs_push}
use Rattle.bf_locks.specs.declared.mode.Mode.{Mode}
use Rattle.bf_locks.specs.declared.name.LockName.{LockName}
use Rattle.bf_locks.specs.LockNames.{lock_name_cmp}
use Rattle.bf_locks.specs.Locks.{Locks, held, IsConsistent, holding_cmp, without_owner}
use Rattle.bf_locks.specs.Table.{Holders, locks_of, names_of, AreDifferent, IsSound}
use Rattle.bf_locks.proofs.Held.{insert_cases, held_inserted, consistent_empty, consistent_without, held_without_own, held_without_other}
use Rattle.bf_locks.proofs.Holders.{locks_of_empty}
use Rattle.bf_locks.proofs.Freed.{not_some, all_freed}

-- the one name of a list
only_one : (name at : LockName) → Contains (name ∷ []) at → name ≡ at
only_one name at (zero, within, is) = is
only_one name at (suc k, within, is) = absurd (omega (arith, within))

-- nothing stands in an empty list
pub none_among : {A : Type 0} (x : A) → ¬ Contains [] x
none_among x among = omega (arith, among.1)

none_twice : AreDifferent []
none_twice i j d before within = absurd (omega (arith, within))

-- lists of one owner are the same where the table has the same at it
pub names_in : (owned : BTreeMap ℕ (Vec LockName)) (owner : ℕ) (found : Option (Vec LockName)) → tree.get nat_cmp owned owner ≡ found → names_of owned owner ≡ option_map_or (λ names. names.items) found []
names_in owned owner found is = ap (λ found. option_map_or (λ names. names.items) found []) is

-- an owner that is taken from the lists has none, and the others keep theirs
pub lists_without : (before later : BTreeMap ℕ (Vec LockName)) (owner : ℕ) → ((by : ℕ) → tree.get nat_cmp later by ≡ cond (is_at (nat_cmp owner) by) None (tree.get nat_cmp before by))
    → (names_of later owner ≡ []) × ((by : ℕ) → by ≢ owner → names_of later by ≡ names_of before by)
lists_without before later owner updates = (
  names_in later owner None (updates owner ∙ cond-true _ _ _ (unsigned_tied owner owner ∙ eq-eqb owner owner refl)),
  λ by apart. names_in later by (tree.get nat_cmp before by) (updates by ∙ cond-false _ _ _ (unsigned_tied owner by ∙ ne_eqb owner by (λ e. apart (sym e)))),
)

-- what is new to an owner it did not hold, and all else it did
pub held_not : (old locks : Locks) (name : LockName) (owner : ℕ) (is_new : Bool) → old ≡ locks → is_some (held locks name owner) ≡ not is_new → is_new ≡ true → ¬ IsSome (held old name owner)
held_not old locks name owner is_new seen new is some = false≢true (sym (ap (λ m. is_some (held m name owner)) seen ∙ new ∙ ap not is) ∙ some)

pub held_was : (old locks : Locks) (name : LockName) (owner : ℕ) (is_new : Bool) → old ≡ locks → is_some (held locks name owner) ≡ not is_new → is_new ≡ false → IsSome (held old name owner)
held_was old locks name owner is_new seen new is = ap (λ m. is_some (held m name owner)) seen ∙ new ∙ ap not is

-- a name that was not there comes on a list of names that differ
different_more : (names : List LockName) (name : LockName) → AreDifferent names → ¬ Contains names name → AreDifferent (names ++ name ∷ [])
different_more names name different missing = all_pairs_push (λ one other. one ≢ other) names name different (λ k d within is. missing (k, within, get_or_default names k name d within ∙ is))

-- where there are no lists, each owner's is empty
no_names : (owned : BTreeMap ℕ (Vec LockName)) → owned.entries ≡ [] → (owner : ℕ) → names_of owned owner ≡ []
no_names owned none owner = ap (λ es. option_map_or (λ names. names.items) (lookup (is_at (nat_cmp owner)) es) []) none

-- nobody holds anything in an empty table
nobody : (holders : Holders) → holders.entries ≡ [] → (at : LockName) (by : ℕ) → held (locks_of holders) at by ≡ None
nobody holders none at by = ap (λ m. held m at by) (locks_of_empty holders none) ∙ get-empty holding_cmp (at, by)

-- an empty table is sound
pub sound_empty : (holders : Holders) (owned : BTreeMap ℕ (Vec LockName)) → tree.IsOrdered lock_name_cmp holders → holders.entries ≡ [] → owned.entries ≡ [] → IsSound holders owned
sound_empty holders owned ordered no_holders no_lists =
    record {
      ordered = ordered;
      consistent = subst IsConsistent (sym (locks_of_empty holders no_holders)) consistent_empty;
      listed = λ owner name. (
        λ among. absurd (none_among name (subst (λ names. Contains names name) (no_names owned no_lists owner) among)),
        λ some. absurd (false≢true (subst (λ o. IsSome o) (nobody holders no_holders name owner) some)),
      );
      once = λ owner. subst AreDifferent (sym (no_names owned no_lists owner)) none_twice;
    }

module _ (old new : Holders) (before later : BTreeMap ℕ (Vec LockName)) (sound : IsSound old before) (ordered : tree.IsOrdered lock_name_cmp new) where
  -- a table that keeps its pairs, in whatever modes, and its lists stays sound
  pub sound_kept : ((by : ℕ) → names_of later by ≡ names_of before by)
      → ((at : LockName) (by : ℕ) → is_some (held (locks_of new) at by) ≡ is_some (held (locks_of old) at by))
      → IsConsistent (locks_of new)
      → IsSound new later
  sound_kept lists same consistent = record {
    ordered = ordered;
    consistent = consistent;
    listed = λ by at. (
      λ among. same at by ∙ (sound.listed by at).0 (subst (λ names. Contains names at) (lists by) among),
      λ some. subst (λ names. Contains names at) (sym (lists by)) ((sound.listed by at).1 (sym (same at by) ∙ some)),
    );
    once = λ by. subst AreDifferent (sym (lists by)) (sound.once by);
  }

  -- a first grant keeps the table sound, where the name comes on the owner's list
  module _ (owner : ℕ) (name : LockName) (mode : Mode) (put : locks_of new ≡ map.insert (locks_of old) (name, owner) mode) where
    -- what was held still is
    still_held : (at : LockName) (by : ℕ) → IsSome (held (locks_of old) at by) → IsSome (held (locks_of new) at by)
    still_held at by some = ap (λ m. is_some (held m at by)) put ∙ elim (insert_cases (locks_of old) name owner mode at by) [
      | inl here ↦ ap is_some here.2
      | inr kept ↦ ap is_some kept ∙ some
    ]

    -- and nothing else is but the name by the owner
    held_before : (at : LockName) (by : ℕ) → IsSome (held (locks_of new) at by) → ((at ≡ name) × (by ≡ owner)) ⊎ IsSome (held (locks_of old) at by)
    held_before at by some = elim (insert_cases (locks_of old) name owner mode at by) [
      | inl here ↦ inl (here.0, here.1)
      | inr kept ↦ inr (sym (ap (λ m. is_some (held m at by)) put ∙ ap is_some kept) ∙ some)
    ]

    -- a grant of what the owner held keeps the table sound, where the lists stay
    pub sound_regranted : ((by : ℕ) → names_of later by ≡ names_of before by)
        → IsSome (held (locks_of old) name owner)
        → IsConsistent (map.insert (locks_of old) (name, owner) mode)
        → IsSound new later
    sound_regranted lists was consistent = sound_kept lists
        (λ at by. ap (λ m. is_some (held m at by)) put ∙ elim (insert_cases (locks_of old) name owner mode at by) [
          | inl here ↦ ap is_some here.2 ∙ sym ((λ i. is_some (held (locks_of old) (here.0 i) (here.1 i))) ∙ was)
          | inr kept ↦ ap is_some kept
        ])
        (subst IsConsistent (sym put) consistent)

    pub sound_granted : names_of later owner ≡ names_of before owner ++ name ∷ []
        → ((by : ℕ) → by ≢ owner → names_of later by ≡ names_of before by)
        → ¬ IsSome (held (locks_of old) name owner)
        → IsConsistent (map.insert (locks_of old) (name, owner) mode)
        → IsSound new later
    sound_granted listed others first consistent = record {
      ordered = ordered;
      consistent = subst IsConsistent (sym put) consistent;
      listed = λ by at. elim (cases_eq by owner) [
        | inl same ↦ subst (λ b. Contains (names_of later b) at ↔ IsSome (held (locks_of new) at b)) (sym same) (
          λ among. elim (Contains-append_cases (names_of before owner) (name ∷ []) at (subst (λ names. Contains names at) listed among)) [
            | inl was ↦ still_held at owner ((sound.listed owner at).0 was)
            | inr this ↦ subst (λ n. IsSome (held (locks_of new) n owner)) (only_one name at this) (ap (λ m. is_some (held m name owner)) put ∙ ap is_some (held_inserted (locks_of old) name owner mode))
          ],
          λ some. subst (λ names. Contains names at) (sym listed) (elim (held_before at owner some) [
            | inl this ↦ Contains-append_right (names_of before owner) (name ∷ []) at (0, omega arith, sym this.0)
            | inr was ↦ Contains-append_left (names_of before owner) (name ∷ []) at ((sound.listed owner at).1 was)
          ]),
        )
        | inr apart ↦ (
          λ among. still_held at by ((sound.listed by at).0 (subst (λ names. Contains names at) (others by apart) among)),
          λ some. subst (λ names. Contains names at) (sym (others by apart)) (elim (held_before at by some) [
            | inl this ↦ absurd (apart this.1)
            | inr was ↦ (sound.listed by at).1 was
          ]),
        )
      ];
      once = λ by. elim (cases_eq by owner) [
        | inl same ↦ subst (λ b. AreDifferent (names_of later b)) (sym same) (subst AreDifferent (sym listed) (different_more (names_of before owner) name (sound.once owner) (λ among. first ((sound.listed owner name).0 among))))
        | inr apart ↦ subst AreDifferent (sym (others by apart)) (sound.once by)
      ];
    }

  -- where no list is left, nobody but the owner held anything
  pub nothing_left : (owner : ℕ)
      → ((by : ℕ) → by ≢ owner → names_of later by ≡ names_of before by)
      → later.entries ≡ [] → new.entries ≡ []
      → locks_of new ≡ without_owner (locks_of old) owner
  nothing_left owner lists no_lists no_holders = all_freed (locks_of old) (locks_of new) owner
      (λ at by apart.
      nobody new no_holders at by
      ∙ sym (not_some (held (locks_of old) at by) (λ some. none_among at (subst (λ names. Contains names at) (sym (lists by apart) ∙ no_names later no_lists by) ((sound.listed by at).1 some)))))
      (λ at some. false≢true (subst (λ o. IsSome o) (nobody new no_holders at owner) some))

  -- freeing keeps the table sound, where the owner's list goes and the others' lists stay
  pub sound_freed : (owner : ℕ)
      → names_of later owner ≡ []
      → ((by : ℕ) → by ≢ owner → names_of later by ≡ names_of before by)
      → locks_of new ≡ without_owner (locks_of old) owner
      → IsSound new later
  sound_freed owner gone lists freed = record {
    ordered = ordered;
    consistent = subst IsConsistent (sym freed) (consistent_without (locks_of old) owner sound.consistent);
    listed = λ by at. elim (cases_eq by owner) [
      | inl same ↦ subst (λ b. Contains (names_of later b) at ↔ IsSome (held (locks_of new) at b)) (sym same) (
        λ among. absurd (none_among at (subst (λ names. Contains names at) gone among)),
        λ some. absurd (false≢true (subst (λ o. IsSome o) (ap (λ m. held m at owner) freed ∙ held_without_own (locks_of old) owner at) some)),
      )
      | inr apart ↦
          let kept : held (locks_of new) at by ≡ held (locks_of old) at by = ap (λ m. held m at by) freed ∙ held_without_other (locks_of old) owner at by apart in (
            λ among. ap is_some kept ∙ (sound.listed by at).0 (subst (λ names. Contains names at) (lists by apart) among),
            λ some. subst (λ names. Contains names at) (sym (lists by apart)) ((sound.listed by at).1 (sym (ap is_some kept) ∙ some)),
          )
    ];
    once = λ by. elim (cases_eq by owner) [
      | inl same ↦ subst (λ b. AreDifferent (names_of later b)) (sym same) (subst AreDifferent (sym gone) none_twice)
      | inr apart ↦ subst AreDifferent (sym (lists by apart)) (sound.once by)
    ];
  }
