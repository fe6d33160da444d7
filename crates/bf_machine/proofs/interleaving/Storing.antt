-- What the store keeps beside the database: what is to be put into it, and a new lazy state of the same database.
use Rattle.std.proofs.Common.{◌≡◌, ◌≢◌, ℕ, ◌-◌, ◌≤◌, List, ◌∷◌, length, Option, Some, None, sym, ap, subst, ◌∙◌, inl, inr}
use Rattle.std.specs.Prelude.{slice_index_or, slice_set}
use Rattle.std.proofs.lemmas.Bool.{cases_eq}
use Rattle.boxcar.specs.Table.{Where}
use Rattle.bf_image.specs.declared.migration.Migration.{Migration}
use Rattle.bf_sql.specs.Database.{Database}
use Rattle.bf_sql.specs.migrations.Lazy.{LazyState}
use Rattle.bf_machine.specs.interleaving.Kept.{CanBePutInto, CausesAllowed, HistoryLegal, IsKept, IsShaped, IsWithinLimits, LocksConsistent, OpenGroupsReplay, StoreValid}
use Rattle.bf_machine.specs.interleaving.Machines.{Machine, Open}
use Rattle.bf_machine.proofs.interleaving.Places.{set_other, set_same}

-- all that is kept but what is of the store
pub record KeepsRest (start : Database) (m : Machine) : Type 0 where
  pub within : IsWithinLimits m.script
  pub shaped : IsShaped m
  pub history_legal : HistoryLegal start m
  pub open_groups_replay : OpenGroupsReplay start m
  pub locks_consistent : LocksConsistent start m
  pub causes_allowed : CausesAllowed start m

pub rest_of_kept : (start : Database) (m : Machine) → IsKept start m → KeepsRest start m
rest_of_kept start m kept = record {
  within = kept.within;
  shaped = kept.shaped;
  history_legal = kept.history_legal;
  open_groups_replay = kept.open_groups_replay;
  locks_consistent = kept.locks_consistent;
  causes_allowed = kept.causes_allowed;
}

pub kept_with : (start : Database) (m : Machine) → KeepsRest start m → StoreValid start m → IsKept start m
kept_with start m rest valid = record {
  within = rest.within;
  shaped = rest.shaped;
  store_valid = valid;
  history_legal = rest.history_legal;
  open_groups_replay = rest.open_groups_replay;
  locks_consistent = rest.locks_consistent;
  causes_allowed = rest.causes_allowed;
}

-- the rest does not look at the lazy state, nor at the pass
module _ (start : Database) (m : Machine) (rest : KeepsRest start m) (lazy : LazyState) (pass : Option (Where Migration)) where
  abbrev stored : Machine
  stored = record m { lazy = lazy; pass = pass }

  pub rest_still : KeepsRest start stored
  rest_still = record {
    within = rest.within;
    shaped = record { opens = rest.shaped.opens; told = rest.shaped.told };
    history_legal = record {
      legal = rest.history_legal.legal;
      replay = rest.history_legal.replay;
      database = rest.history_legal.database;
      placed = rest.history_legal.placed;
      in_turn = rest.history_legal.in_turn;
    };
    open_groups_replay = record {
      each = λ s o is_open.
          let group = rest.open_groups_replay.each s o is_open in
          record { whole = group.whole; next = group.next; within = group.within; run = group.run };
    };
    locks_consistent = record {
      apart = rest.locks_consistent.apart;
      owners = rest.locks_consistent.owners;
      starts = rest.locks_consistent.starts;
      once = rest.locks_consistent.once;
      in_turn = rest.locks_consistent.in_turn;
      begun = λ t g n has. let was = rest.locks_consistent.begun t g n has in record { whole = was.whole; goes = was.goes };
      numbered = rest.locks_consistent.numbered;
      by_session = rest.locks_consistent.by_session;
      by_phase = rest.locks_consistent.by_phase;
    };
    causes_allowed = record {
      deaths = λ n b is.
          let was = rest.causes_allowed.deaths n b is in record {
            each = was.each;
            sessions_differ = was.sessions_differ;
            ended = was.ended;
            last_ended = was.last_ended;
            later = was.later;
            most = was.most;
            retried = was.retried;
          };
    };
  }

  pub stored_kept : StoreValid start stored → IsKept start stored
  stored_kept valid = kept_with start stored rest_still valid

-- WHAT IS OPEN in a list of open groups of which one has changed
module _ (opens : List (Option Open)) (s : ℕ) (low : 1 ≤ s) (high : s ≤ length opens) where
  -- has a property, where the new one has it, and each other
  pub each_with : (P : Open → Type 0) (p : Open) → P p → ((t : ℕ) (q : Open) → slice_index_or (None ∷ opens) t None ≡ Some q → P q)
      → (t : ℕ) (q : Open) → slice_index_or (None ∷ slice_set opens (s - 1) (Some p)) t None ≡ Some q → P q
  each_with P p new old t q is_open = elim (cases_eq t s) as (λ _. P q) [
    | inl same ↦
        let both : Some p ≡ Some q = sym (set_same None None opens s (Some p) low high) ∙ (ap (λ (t : ℕ). slice_index_or (None ∷ slice_set opens (s - 1) (Some p)) t None) (sym same) ∙ is_open) in
        let one : p ≡ q = cc in
        subst P one new
    | inr apart ↦ old t q (sym (set_other None None opens s t (Some p) low apart) ∙ is_open)
  ]

  pub each_without : (t : ℕ) (q : Open) → slice_index_or (None ∷ slice_set opens (s - 1) None) t None ≡ Some q → (t ≢ s) × (slice_index_or (None ∷ opens) t None ≡ Some q)
  each_without t q is_open = elim (cases_eq t s) as (λ _. (t ≢ s) × (slice_index_or (None ∷ opens) t None ≡ Some q)) [
    | inl same ↦
        let none : slice_index_or (None ∷ slice_set opens (s - 1) None) t None ≡ None =
        ap (λ (t : ℕ). slice_index_or (None ∷ slice_set opens (s - 1) None) t None) same ∙ set_same None None opens s None low high in
        let clash : None ≡ Some q = sym none ∙ is_open in
        absurd cc
    | inr apart ↦ (apart, sym (set_other None None opens s t None low apart) ∙ is_open)
  ]

-- THE STORE stays as it is where a group ends: what is open then was open before
pub puts_without : (start : Database) (m : Machine) → StoreValid start m → (s : ℕ) → 1 ≤ s → s ≤ length m.opens
    → (t : ℕ) (q : Open) → slice_index_or (None ∷ slice_set m.opens (s - 1) None) t None ≡ Some q → CanBePutInto m.lazy q.pending
puts_without start m valid s low high t q is_open = valid.puts t q (each_without m.opens s low high t q is_open).1
