-- A statement of the script keeps the limits in the present catalog, in which no table is wide.
use Rattle.std.proofs.Common.{ℕ, zero, suc, List, [], ◌∷◌, length, ◌<◌, subst, arith}
use Rattle.std.specs.List.{slice_index_or}
use Rattle.std.proofs.lemmas.Bool.Decides.{nat_tests}
use Rattle.bf_tree.specs.Limits.{KeepsLimits}
use Rattle.bf_tree.specs.declared.statement.Statement.{Statement}
use Rattle.bf_sql.specs.Bound.{catalog_of}
use Rattle.bf_sql.specs.Database.{Database}
use Rattle.bf_sql.specs.Groups.{session_at}
use Rattle.bf_machine.specs.interleaving.Kept.{IsKept}
use Rattle.bf_machine.specs.interleaving.Machines.{Machine}
use Rattle.bf_machine.proofs.interleaving.Narrow.{AreNarrow, IsNarrow, IsNarrowStatement, narrow_session}
use Rattle.bf_machine.proofs.interleaving.Settled.{narrow_view}

module _ {start : Database} (m : Machine) (kept : IsKept start m) where
  pub narrow_now : IsNarrow m.db
  narrow_now = let valid = kept.store_valid in subst IsNarrow valid.seen_as.view (narrow_view m.lazy valid.seen_as.lazy_state valid.narrow)

  -- the statement at a place of a session
  pub narrow_at : (s n : ℕ) (d : Statement) → n < length (session_at m.script s).statements → IsNarrowStatement (slice_index_or (session_at m.script s).statements n d)
  narrow_at s n d within = at_place (session_at m.script s).statements n (narrow_session m.script kept.within s) within
    where
      at_place : (ss : List Statement) (n : ℕ) → AreNarrow ss → n < length ss → IsNarrowStatement (slice_index_or ss n d)
      at_place [] n all within = absurd (omega (arith, within))
      at_place (s ∷ ss) zero all within = all.0
      at_place (s ∷ ss) (suc n) all within = at_place ss n all.1 (omega (arith, within))

  pub keeps_limits : (statement : Statement) → IsNarrowStatement statement → KeepsLimits (catalog_of m.db) statement
  keeps_limits statement is = record { tables = narrow_now; declared = grind (arith, nat_tests, is.few) }
