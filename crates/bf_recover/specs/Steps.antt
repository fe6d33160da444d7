-- STEP: what the payload of a record makes of a lazy state, by the change that it spells; and what an entry of a history makes of
-- its view.
use Rattle.std.specs.Prelude.{◌≡◌, ℕ, true, false, List}
use Rattle.bf_record.specs.Changes.{HasRecord, record_bytes}
use Rattle.bf_record.specs.declared.change.Change.{Change}
use Rattle.bf_tree.specs.declared.history.Entry.{Entry}
use Rattle.bf_tree.specs.declared.history.Outcome.{Outcome}
use Rattle.bf_tree.specs.declared.script.Script.{Script}
use Rattle.bf_tree.specs.declared.statement.Statement.{Statement}
use Rattle.bf_sql.specs.Database.{Database}
use Rattle.bf_sql.specs.Groups.{statements_of}
use Rattle.bf_sql.specs.History.{settled}
use Rattle.bf_sql.specs.migrations.Lazy.{LazyState}
use Rattle.bf_recover.specs.Legal.{changed, is_legal}

-- the payload spells a change, which is legal, and makes this of the state
pub record StepsTo (lazy : LazyState) (payload : List ℕ) (after : LazyState) : Type 0 where
  pub change : Change
  pub has_record : HasRecord change
  pub spelled : payload ≡ record_bytes change
  pub legal : is_legal lazy change ≡ true
  pub made : after ≡ changed lazy change

-- the payload spells no change that is legal
abbrev pub IsNoStep : LazyState → List ℕ → Type 0
IsNoStep lazy payload = (change : Change) → HasRecord change → payload ≡ record_bytes change → is_legal lazy change ≡ false

-- ENTRY: the statements of a group, and how it ended; a replay settles it. (The number of a commit stands in replies alone.)
abbrev pub run_entry : Database → List Statement × Outcome → Database
run_entry db entry = (settled 0 db entry.1 entry.0).1

-- an entry of a history over a script
abbrev pub entry_of : Script → Entry → List Statement × Outcome
entry_of script e = (statements_of script e, e.outcome)
