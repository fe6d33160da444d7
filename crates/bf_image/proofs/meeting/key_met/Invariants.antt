use Rattle.std.proofs.Common.{◌≡◌, ◌+◌, ◌-◌, List, map, take}
use Rattle.bf_base.specs.Tables.{cell}
use Rattle.bf_tree.specs.declared.raw.Ref.{Ref}
use Rattle.bf_sql.specs.Scopes.{Scope}
use Rattle.bf_sql.specs.migrations.Placed.{placed_pair}
use Rattle.bf_image.specs.Lookup.{partner}
use Rattle.bf_image.proofs.meeting.key_met.Given as goal

abbrev pub invariant-loop-place : goal.invariant-loop-place
invariant-loop-place l = (scope : Scope) (pairs : List (Ref × Ref)) → l.on ≡ map (placed_pair scope) pairs
    → l.values.items ≡ map (λ place. cell l.row (partner scope pairs (l.ahead.other + place) - l.ahead.driver)) (take l.place-index l.key)
