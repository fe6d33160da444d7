-- How migrations are spelled as bytes, and which have a spelling.
use Rattle.std.specs.Prelude.{ℕ, ◌≤◌, List, [], ◌∷◌, ◌++◌}
use Rattle.bf_tree.specs.Trees.{Expr, Cond, tests}
use Rattle.bf_tree.specs.declared.items.Aggregate.{Aggregate}
use Rattle.bf_tree.specs.declared.items.Aggregate.TheVariants.{Count, Sum, Min, Max}
use Rattle.bf_tree.specs.declared.migration.Arm.{Arm}
use Rattle.bf_tree.specs.declared.migration.Item.{Item}
use Rattle.bf_tree.specs.declared.migration.Item.TheVariants as item
use Rattle.bf_tree.specs.declared.migration.Join.{Join}
use Rattle.bf_tree.specs.declared.migration.Migrate.{Migrate}
use Rattle.bf_tree.specs.declared.migration.Target.{Target}
use Rattle.bf_tree.specs.declared.raw.Ref.{Ref}
use Rattle.bf_wire.specs.Spellings.{IsName, name_spelling, IsListed, list_spelling, IsPair, pair_spelling}
use Rattle.bf_record.specs.Options.{IsOptional, optional_spelling}
use Rattle.bf_record.specs.Within.{IsWithin, most_nodes}
use Rattle.bf_record.specs.Expressions.{IsRef, ref_spelling, IsExpr, expr_spelling, operators}
use Rattle.bf_record.specs.Conditions.{IsCond, cond_spelling}

-- an expression and a condition of an arm have few nodes
abbrev pub IsShortExpr : Expr Ref → Type 0
IsShortExpr e = IsWithin IsExpr operators most_nodes e

abbrev pub IsShortCond : Cond Ref → Type 0
IsShortCond c = IsWithin IsCond tests most_nodes c

abbrev pub IsTotal : Aggregate (Expr Ref) → Type 0
IsTotal Count = Unit {0}
IsTotal (Sum e) = IsShortExpr e
IsTotal (Min e) = IsShortExpr e
IsTotal (Max e) = IsShortExpr e

abbrev pub total_spelling : Aggregate (Expr Ref) → List ℕ
total_spelling Count = 1 ∷ []
total_spelling (Sum e) = 2 ∷ expr_spelling e
total_spelling (Min e) = 3 ∷ expr_spelling e
total_spelling (Max e) = 4 ∷ expr_spelling e

abbrev pub IsItem : Item → Type 0
IsItem (item.Column r) = IsRef r
IsItem (item.Named e name) = IsShortExpr e × IsName name
IsItem (item.Total t name) = IsTotal t × IsName name

abbrev pub item_spelling : Item → List ℕ
item_spelling (item.Column r) = 1 ∷ ref_spelling r
item_spelling (item.Named e name) = 2 ∷ expr_spelling e ++ name_spelling name
item_spelling (item.Total t name) = 3 ∷ total_spelling t ++ name_spelling name

-- the columns that JOIN compares
abbrev pub ArePairs : List (Ref × Ref) → Type 0
ArePairs pairs = IsListed (IsPair IsRef IsRef) pairs

abbrev pub pairs_spelling : List (Ref × Ref) → List ℕ
pairs_spelling pairs = list_spelling (pair_spelling ref_spelling ref_spelling) pairs

abbrev pub IsJoin : Join → Type 0
IsJoin j = IsName j.table × ArePairs j.on

abbrev pub join_spelling : Join → List ℕ
join_spelling j = name_spelling j.table ++ pairs_spelling j.on

abbrev pub AreItems : List Item → Type 0
AreItems items = IsListed IsItem items

abbrev pub items_spelling : List Item → List ℕ
items_spelling items = list_spelling item_spelling items

abbrev pub AreRefs : List Ref → Type 0
AreRefs refs = IsListed IsRef refs

abbrev pub refs_spelling : List Ref → List ℕ
refs_spelling refs = list_spelling ref_spelling refs

pub record IsArm (a : Arm) : Type 0 where
  pub items : AreItems a.items
  pub from : IsName a.from
  pub join : IsOptional IsJoin a.join
  pub cond : IsOptional IsShortCond a.cond
  pub group : AreRefs a.group

abbrev pub arm_spelling : Arm → List ℕ
arm_spelling a = items_spelling a.items ++ name_spelling a.from ++ optional_spelling join_spelling a.join
    ++ optional_spelling cond_spelling a.cond ++ refs_spelling a.group

abbrev pub AreArms : List Arm → Type 0
AreArms arms = IsListed IsArm arms

abbrev pub arms_spelling : List Arm → List ℕ
arms_spelling arms = list_spelling arm_spelling arms

abbrev pub IsTarget : Target → Type 0
IsTarget t = IsName t.name × AreArms t.arms

abbrev pub target_spelling : Target → List ℕ
target_spelling t = name_spelling t.name ++ arms_spelling t.arms

abbrev pub IsMigrate : Migrate → Type 0
IsMigrate m = IsListed IsTarget m.targets

abbrev pub migrate_spelling : Migrate → List ℕ
migrate_spelling m = list_spelling target_spelling m.targets
