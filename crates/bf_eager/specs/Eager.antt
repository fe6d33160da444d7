-- The one-thread database that has replayed the entries of a history so far, and what one more entry makes of it.
use Rattle.std.specs.Prelude.{◌≡◌, ℕ, Bool, true, false, List, [], ◌∷◌, length, IsTrue}
use Rattle.std.specs.List.{AllByRecursion, list_all}
use Rattle.bf_tree.specs.Limits.{is_narrow_statement, IsNarrowIfMigrate}
use Rattle.bf_tree.specs.declared.history.Outcome.{Outcome}
use Rattle.bf_tree.specs.declared.history.Outcome.TheVariants.{Committed, RolledBack}
use Rattle.bf_tree.specs.declared.reply.Reply.{Reply}
use Rattle.bf_tree.specs.declared.statement.Statement.{Statement}
use Rattle.bf_sql.specs.Database.{Database}
use Rattle.bf_sql.specs.Groups.{commits, groups_of}
use Rattle.bf_sql.specs.History.{commits_with, settled}

-- how many groups have committed, and the database
pub record Ran : Type 0 where
  pub commits : ℕ
  pub database : Database

-- an outcome whose number nothing reads
abbrev pub outcome_of : Bool → Outcome
outcome_of true = Committed 0
outcome_of false = RolledBack

-- RUN OF AN ENTRY, as a replay has it: the replies to its group, and what stands behind it
abbrev pub ran_entry : Ran → Bool → List Statement → List Reply × Ran
ran_entry ran committed ss =
    let n = commits_with ran.commits (outcome_of committed) in
    let (replies, next) = settled n ran.database (outcome_of committed) ss in
    (replies, record { commits = n; database = next })

-- statements that are one whole group, which commits or not, each within the limits of the language
pub record IsWholeGroup (committed : Bool) (ss : List Statement) : Type 0 where
  pub whole : groups_of ss ≡ (1, length ss) ∷ []
  pub ends : commits ss ≡ committed
  pub narrow : IsTrue (list_all is_narrow_statement ss)
  pub migrates : AllByRecursion IsNarrowIfMigrate ss
