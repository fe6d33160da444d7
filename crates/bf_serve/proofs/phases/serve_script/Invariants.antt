use Rattle.std.proofs.Common.{◌≡◌}
use Rattle.bf_sql.specs.migrations.Lazy.{view_of}
use Rattle.bf_machine.specs.interleaving.Kept.{fresh}
use Rattle.bf_serve.proofs.phases.serve_script.Given as goal

-- the run begins with what the store gives, the registry of its migrations, and the script
abbrev pub ghosts-serve_over-N-Opened : goal.ghosts-serve_over-N-Opened
ghosts-serve_over-N-Opened g a = record { opening = view_of a.store.lazy; registry = a.registry.now; script = a.script; logged = g.J.Journal.ends }

-- with the new machine over them, beside the journal that was given
abbrev pub ghosts-serve_over-N-Beginning : goal.ghosts-serve_over-N-Beginning
ghosts-serve_over-N-Beginning g a = record { begins = λ m j. (m ≡ fresh g.J.Journal.ends a.store a.script a.crew.retries) × (j ≡ a.journal) }
