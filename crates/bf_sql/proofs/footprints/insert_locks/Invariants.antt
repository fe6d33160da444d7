use Rattle.std.proofs.Common.{◌≡◌, ◌∷◌, map}
use Rattle.bf_locks.specs.declared.mode.Mode.TheVariants.{IX, X}
use Rattle.bf_locks.specs.declared.name.LockName.TheVariants.{Whole, One}
use Rattle.bf_sql.specs.Footprints.{catalog_read}
use Rattle.bf_sql.proofs.footprints.insert_locks.Given as goal

-- the keys so far have their locks
abbrev pub invariant-loop-key : goal.invariant-loop-key
invariant-loop-key l = l.locks.items ≡ catalog_read ∷ (Whole l.table.name, IX) ∷ map (λ key. (One l.table.name key, X)) l.yielded
