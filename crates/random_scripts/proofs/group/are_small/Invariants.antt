-- All are small where those that are left are.
use Rattle.std.proofs.Common.{◌≡◌, true, drop}
use Rattle.std.specs.List.{AllByRecursion, list_all}
use Rattle.bf_tree.specs.Limits.{IsNarrowIfMigrate, is_narrow_statement}
use Rattle.random_scripts.proofs.group.are_small.Given as goal

abbrev pub invariant-loop-statement : goal.invariant-loop-statement
invariant-loop-statement l =
    let left = drop l.statement-index l.statements in
    record {
      columns : list_all is_narrow_statement left ≡ true → list_all is_narrow_statement l.statements ≡ true;
      migrates : AllByRecursion IsNarrowIfMigrate left → AllByRecursion IsNarrowIfMigrate l.statements;
    }
