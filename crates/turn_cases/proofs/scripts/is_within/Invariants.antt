-- All are small where those that are left are.
use Rattle.std.proofs.Common.{◌≡◌, true, drop}
use Rattle.std.specs.List.{AllByRecursion, list_all}
use Rattle.bf_tree.specs.Limits.{IsNarrowIfMigrate, is_narrow_statement}
use Rattle.turn_cases.proofs.scripts.is_within.Given as goal

abbrev pub invariant-loop-session : goal.invariant-loop-session
invariant-loop-session l =
    let left = drop l.session-index l.sessions in
    record {
      columns : list_all (λ s. list_all is_narrow_statement s.statements) left ≡ true → list_all (λ s. list_all is_narrow_statement s.statements) l.sessions ≡ true;
      migrates : AllByRecursion (λ s. AllByRecursion IsNarrowIfMigrate s.statements) left → AllByRecursion (λ s. AllByRecursion IsNarrowIfMigrate s.statements) l.sessions;
    }
