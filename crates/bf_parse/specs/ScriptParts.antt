-- What private functions promise of the parts of a script.
use Rattle.std.specs.Prelude.{ℕ, ◌+◌}
use Rattle.bf_tree.specs.declared.statement.Statement.{Statement}
use Rattle.bf_tree.specs.declared.statement.Statement.TheVariants.{Migrate}
use Rattle.bf_tree.specs.declared.script.Script.{Script}
use Rattle.bf_parse.specs.declared.session.SoFar.{SoFar}
use Rattle.bf_phrase.specs.Steps.{Migration}
use Rattle.bf_phrase.specs.Rules.{Rule, Return, Marked, Either, Then}
use Rattle.bf_parse.specs.Statements.{OrdinaryRule}
use Rattle.bf_parse.specs.Migrations.{MigrateRule}
use Rattle.bf_parse.specs.Scripts.{Progress}

-- a statement, and how many MIGRATEs have come with it; `m` came before
abbrev pub StatementRule : ℕ → Rule (Statement × ℕ)
StatementRule m = Either (Then OrdinaryRule (λ s. Return (s, m))) (Marked (Migration (m + 1)) (Then MigrateRule (λ t. Return (Migrate t, m + 1))))

-- how far a script has come, by what the code keeps
abbrev pub progress_of : SoFar → Progress
progress_of s = record { phases = s.phases; sessions = s.sessions.items; of_phase = s.of_phase; migrations = s.migrations }

-- the script that phases make
abbrev pub script_of : Progress → Script
script_of p = record { phases = p.phases; sessions = p.sessions }
