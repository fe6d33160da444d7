-- Expressions and conditions that have few nodes, as those of each script that is read.
use Rattle.std.specs.Prelude.{ℕ, ◌≤◌, List, All, IfSome}
use Rattle.bf_tree.specs.Trees.{Expr, Cond, tests}
use Rattle.bf_tree.specs.declared.items.Aggregate.{Aggregate}
use Rattle.bf_tree.specs.declared.items.Aggregate.TheVariants.{Count, Sum, Min, Max}
use Rattle.bf_tree.specs.declared.migration.Arm.{Arm}
use Rattle.bf_tree.specs.declared.migration.Item.{Item}
use Rattle.bf_tree.specs.declared.migration.Item.TheVariants as item
use Rattle.bf_tree.specs.declared.migration.Migrate.{Migrate}
use Rattle.bf_tree.specs.declared.migration.Target.{Target}
use Rattle.bf_tree.specs.declared.raw.Ref.{Ref}
use Rattle.bf_record.specs.declared.change.Change.{Change}
use Rattle.bf_record.specs.declared.change.Change.TheVariants.{Commit, Schema, Flip, Move}
use Rattle.bf_record.specs.Expressions.{operators}
use Rattle.bf_record.specs.Within.{most_nodes}

abbrev pub IsShallowExpr : Expr Ref → Type 0
IsShallowExpr e = operators e ≤ most_nodes

abbrev pub IsShallowCond : Cond Ref → Type 0
IsShallowCond c = tests c ≤ most_nodes

abbrev pub IsShallowTotal : Aggregate (Expr Ref) → Type 0
IsShallowTotal Count = Unit {0}
IsShallowTotal (Sum e) = IsShallowExpr e
IsShallowTotal (Min e) = IsShallowExpr e
IsShallowTotal (Max e) = IsShallowExpr e

abbrev pub IsShallowItem : Item → Type 0
IsShallowItem (item.Column r) = Unit {0}
IsShallowItem (item.Named e name) = IsShallowExpr e
IsShallowItem (item.Total t name) = IsShallowTotal t

abbrev pub IsShallowArm : Arm → Type 0
IsShallowArm a = All IsShallowItem a.items × IfSome a.cond IsShallowCond

abbrev pub IsShallowTarget : Target → Type 0
IsShallowTarget t = All IsShallowArm t.arms

abbrev pub IsShallowMigrate : Migrate → Type 0
IsShallowMigrate m = All IsShallowTarget m.targets

-- each expression and each condition of a change has few nodes
abbrev pub AreShallow : Change → Type 0
AreShallow (Commit writes) = Unit {0}
AreShallow (Schema change) = Unit {0}
AreShallow (Flip migrate) = IsShallowMigrate migrate
AreShallow (Move migration unit places) = Unit {0}
