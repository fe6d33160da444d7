-- The records of a log that reopens spell one list of changes, each legal in the state that those before it give.
use Rattle.std.proofs.Common.{◌≡◌, ℕ, List, [], ◌∷◌, map, Some, refl, sym, ap₂, subst, ◌∙◌}
use Rattle.std.specs.List.{AllByRecursion}
use Rattle.bf_log.specs.Format.{IsLog}
use Rattle.bf_log.proofs.OneReading.{one_log}
use Rattle.bf_record.specs.Changes.{HasRecord, record_bytes}
use Rattle.bf_record.specs.declared.change.Change.{Change}
use Rattle.bf_sql.specs.migrations.Lazy.{LazyState}
use Rattle.bf_journal.specs.Reopening.{After, ReopensTo}
use Rattle.bf_recover.specs.Legal.{first_state}
use Rattle.bf_recover.specs.MovedOnce.{AreLegalInTurn, AreRecordedIn, MoveOnce}
use Rattle.bf_recover.specs.Once.{one_change}
use Rattle.bf_recover.specs.Steps.{StepsTo}
use Rattle.bf_recover.proofs.MovingOnce.{once}

-- payloads that are legal records one after the other spell changes that are
record Spells (payloads : List (List ℕ)) (lazy after : LazyState) : Type 0 where
  pub changes : List Change
  pub have_records : AllByRecursion HasRecord changes
  pub spelled : payloads ≡ map record_bytes changes
  pub legal : AreLegalInTurn lazy changes after

spell : (payloads : List (List ℕ)) (lazy after : LazyState) → After StepsTo lazy payloads after → Spells payloads lazy after
spell [] lazy after same = record { changes = []; have_records = tt; spelled = refl; legal = same }
spell (payload ∷ payloads) lazy after steps =
    let step = steps.1 in
    let rest = spell payloads steps.0 after steps.2 in
    record {
      changes = step.change ∷ rest.changes;
      have_records = (step.has_record, rest.have_records);
      spelled = ap₂ (λ (one : List ℕ) (more : List (List ℕ)). one ∷ more) step.spelled rest.spelled;
      legal = (step.legal, subst (λ next. AreLegalInTurn next rest.changes after) step.made rest.legal);
    }

-- records are of one list of changes
one_list : (changes others : List Change) → AllByRecursion HasRecord changes → AllByRecursion HasRecord others → map record_bytes changes ≡ map record_bytes others → changes ≡ others
one_list [] [] have too same = refl
one_list [] (d ∷ others) have too same = absurd cc
one_list (c ∷ changes) [] have too same = absurd cc
one_list (c ∷ changes) (d ∷ others) have too same =
    ap₂ (λ (one : Change) (more : List Change). one ∷ more) (one_change c d (record_bytes c) have.0 too.0 refl cc) (one_list changes others have.1 too.1 cc)

-- a log that reopens to a state
module _ (file : List ℕ) (last : LazyState) (reopens : ReopensTo first_state StepsTo file (Some last)) where
  spells : Spells reopens.0 first_state last
  spells = spell reopens.0 first_state last reopens.2

  pub recorded : (changes : List Change) × AreRecordedIn file changes × AreLegalInTurn first_state changes last
  recorded = (spells.changes, record { have_records = spells.have_records; is_log = subst (λ payloads. IsLog payloads file) spells.spelled reopens.1 }, spells.legal)

  pub recorded_once : (changes : List Change) → AreRecordedIn file changes → MoveOnce changes
  recorded_once changes are =
      let same : spells.changes ≡ changes =
      one_list spells.changes changes spells.have_records are.have_records (sym spells.spelled ∙ one_log file reopens.0 (map record_bytes changes) reopens.1 are.is_log) in
      subst MoveOnce same (once spells.changes first_state last spells.legal)
