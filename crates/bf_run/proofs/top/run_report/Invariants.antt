use Rattle.std.proofs.Common.{false}
use Rattle.bf_sql.specs.Database.{empty_database}
use Rattle.bf_run.proofs.top.run_report.Given as goal

-- the run begins with the empty database, a new registry and the script
abbrev pub ghosts-serve : goal.ghosts-serve
ghosts-serve g a = record { opening = empty_database; registry = a.registry.now; script = a.script; logged = false }
