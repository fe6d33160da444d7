-- A MIGRATE that a script spells within the limits: no name is a keyword, each list is neither empty nor too long, and each tree has few nodes.
use Rattle.std.proofs.Common.{◌≡◌, ℕ, suc, ◌≤◌, true, ◌&&◌, List, [], ◌∷◌, ◌++◌, length, refl, sym, subst, arith, length-append}
use Rattle.std.specs.List.{list_all, All, AllByRecursion}
use Rattle.std.proofs.lemmas.Bool.{le-leb}
use Rattle.std.proofs.lemmas.List.Elements.{All-from_recursion, All-weaker}
use Rattle.bf_lex.specs.declared.keyword.Keyword.TheVariants as keyword
use Rattle.bf_lex.specs.declared.sign.Sign.TheVariants as sign
use Rattle.bf_tree.specs.declared.items.Aggregate.{Aggregate}
use Rattle.bf_tree.specs.declared.migration.Arm.{Arm}
use Rattle.bf_tree.specs.declared.migration.Item.{Item}
use Rattle.bf_tree.specs.declared.migration.Migrate.{Migrate}
use Rattle.bf_tree.specs.declared.migration.Target.{Target}
use Rattle.bf_tree.specs.declared.raw.Ref.{Ref}
use Rattle.bf_tree.specs.Trees.{Expr}
use Rattle.bf_phrase.specs.Words as word
use Rattle.bf_phrase.specs.Steps.{Step, Say, Part, Target as TargetMark}
use Rattle.bf_phrase.specs.Rules.{Listed}
use Rattle.bf_phrase.specs.Expressions.{Counted, RefRule}
use Rattle.bf_phrase.specs.Phrases.{AggregateRule}
use Rattle.bf_phrase.specs.Items.{AsRule, BareRule, ItemRule}
use Rattle.bf_parse.specs.Migrations.{EqualityRule, Equalities, no_other, other, JoinRule, GroupRule, ArmRule, Arms, no_arm, arm, TargetRule, Targets, no_target, target, MigrateRule}
use Rattle.bf_record.specs.Shallow.{IsShallowTotal, IsShallowItem, IsShallowArm, IsShallowTarget, IsShallowMigrate}
use Rattle.bf_recover.specs.Spoken.{is_plain, is_plain_ref, totals_plain_refs, is_spoken_item, is_spoken_join, is_spoken_arm, is_spoken_target, is_spoken_migrate}
use Rattle.bf_run.proofs.Migrates.{all_one_more, target_within}
use Rattle.bf_run.proofs.Parsed.{part_within}
use Rattle.bf_run.proofs.saying.Gives.{AreGood, good_parts, good_behind, further, Gives, of_return, of_after, of_named, of_marked, of_either, of_then, of_enclosed, of_listed, ◌and◌, all_pass, AreParts, first_part, next_part, is_list_parts}
use Rattle.bf_run.proofs.saying.Nodes.{ref_plain, IsSayableExpr, of_sum, of_expr, of_where}

-- the same of each item, by its place
all_so : {X : Type 0} {P Q : X → Type 0} (xs : List X) → ((x : X) → P x → Q x) → AllByRecursion P xs → All Q xs
all_so {P = P} {Q = Q} xs f all = All-weaker P Q f xs (All-from_recursion P xs all)

-- ---- items

-- no keyword as a name, and few operators
record IsSayableTotal (t : Aggregate (Expr Ref)) : Type 0 where
  plain : totals_plain_refs t ≡ true
  shallow : IsShallowTotal t

of_aggregate : Gives AggregateRule IsSayableTotal
of_aggregate =
    of_either (of_after (of_after (of_after (of_after (of_return (record { plain = refl; shallow = tt }))))))
    (of_either (of_after (of_enclosed of_expr (λ e fine. of_return (record { plain = fine.plain; shallow = fine.shallow }))))
    (of_either (of_after (of_enclosed of_expr (λ e fine. of_return (record { plain = fine.plain; shallow = fine.shallow }))))
    (of_after (of_enclosed of_expr (λ e fine. of_return (record { plain = fine.plain; shallow = fine.shallow }))))))

record IsSayableItem (i : Item) : Type 0 where
  spoken : is_spoken_item i ≡ true
  shallow : IsShallowItem i

of_as : Gives AsRule (λ name. is_plain name ≡ true)
of_as = of_after (of_named (λ name plain. of_return plain))

of_bare : (x : Counted) → IsSayableExpr x.0 → Gives (BareRule x) IsSayableItem
of_bare x fine = record { of = λ steps i h good. subst IsSayableItem (sym h.2.1) (record { spoken = (subst (λ (y : Counted). IsSayableExpr y.0) h.1 fine).plain; shallow = tt }) }

of_item : Gives ItemRule IsSayableItem
of_item =
    of_either
    (of_then of_sum (λ x fine. of_either
    (of_then of_as (λ name plain. of_return (record { spoken = fine.plain and plain; shallow = fine.shallow })))
    (of_bare x fine)))
    (of_then of_aggregate (λ total fine. of_then of_as (λ name plain. of_return (record { spoken = fine.plain and plain; shallow = fine.shallow }))))

-- ---- arms

abbrev IsPlainPair : Ref × Ref → Type 0
IsPlainPair p = (is_plain_ref p.0 && is_plain_ref p.1) ≡ true

of_equality : Gives EqualityRule IsPlainPair
of_equality = of_then ref_plain (λ a plain. of_after (of_then ref_plain (λ b also. of_return (plain and also))))

-- ( AND equality )* behind equalities that are so
equalities_parts : (n : ℕ) (before : List (Ref × Ref)) (steps : List Step) (all : List (Ref × Ref)) → Equalities n before steps all → n ≡ suc (length before) → AreGood steps
    → AreParts IsPlainPair 16 before → AreParts IsPlainPair 16 all
equalities_parts n before steps all (no_other e f) here good parts = subst (AreParts IsPlainPair 16) (sym f) parts
equalities_parts n before steps all (other front back p one more e) here good parts =
    let found = further (word.Keyword keyword.And) (Part n) steps front back e good in
    let low : n ≤ 16 = part_within n found.inside in
    equalities_parts (suc n) (before ++ p ∷ []) back all more (omega (arith, length-append before (p ∷ []))) found.rest
    (next_part before p parts (of_equality.of front p one found.part) (omega arith))

of_equalities : (p : Ref × Ref) → IsPlainPair p → Gives (Equalities 2 (p ∷ [])) (AreParts IsPlainPair 16)
of_equalities p plain = record { of = λ steps all h good. equalities_parts 2 (p ∷ []) steps all h refl good (first_part p plain (omega arith)) }

of_join : Gives JoinRule (λ join. is_spoken_join join ≡ true)
of_join =
    of_either (of_return refl)
    (of_after (of_named (λ table plain. of_after (of_then (of_marked of_equality) (λ p one. of_then (of_equalities p one) (λ on parts.
    of_return (plain and is_list_parts on parts and all_pass _ (λ q pair. pair) on parts.each)))))))

-- at most 16 refs, with no keyword
record IsPlainGroup (group : List Ref) : Type 0 where
  few : length group ≤ 16
  plain : list_all is_plain_ref group ≡ true

plain_group : Gives (Listed RefRule) IsPlainGroup
plain_group = record {
  of = λ steps group h good.
      let parts = (of_listed ref_plain).of steps group h good in
      record { few = parts.few; plain = all_pass is_plain_ref (λ r plain. plain) group parts.each };
}

of_group : Gives GroupRule IsPlainGroup
of_group =
    of_either (of_return (record { few = omega arith; plain = refl }))
    (of_after (of_after plain_group))

record IsSayableArm (a : Arm) : Type 0 where
  spoken : is_spoken_arm a ≡ true
  shallow : IsShallowArm a

of_arm : Gives ArmRule IsSayableArm
of_arm =
    of_after (of_then (of_listed of_item) (λ items parts. of_after (of_named (λ from plain. of_then of_join (λ join joins. of_then of_where (λ cond tests. of_then of_group (λ group groups.
    of_return (record {
      spoken =
          is_list_parts items parts
          and all_pass is_spoken_item (λ i fine. fine.spoken) items parts.each
          and plain
          and joins
          and tests.plain
          and le-leb _ _ groups.few
          and groups.plain;
      shallow = (all_so items (λ i fine. fine.shallow) parts.each, tests.shallow);
    }))))))))

-- ---- targets

-- ( UNION ALL arm )* behind arms that are so
arms_sayable : (before : List Arm) (steps : List Step) (all : List Arm) → Arms before steps all → AreGood steps → 1 ≤ length before
    → AllByRecursion IsSayableArm before → (1 ≤ length all) × AllByRecursion IsSayableArm all
arms_sayable before steps all (no_arm e f) good some fine = subst (λ (arms : List Arm). (1 ≤ length arms) × AllByRecursion IsSayableArm arms) (sym f) (some, fine)
arms_sayable before steps all (arm front back a one more e) good some fine =
    let union = good_behind steps (Say (word.Keyword keyword.All) ∷ (front ++ back)) (Say (word.Keyword keyword.Union)) e good in
    let both = good_parts (front ++ back) front back refl (good_behind _ (front ++ back) (Say (word.Keyword keyword.All)) refl union.1).1 in
    arms_sayable (before ++ a ∷ []) back all more both.1 (omega (arith, length-append before (a ∷ []))) (all_one_more IsSayableArm before a fine (of_arm.of front a one both.0))

record IsSayableTarget (t : Target) : Type 0 where
  spoken : is_spoken_target t ≡ true
  shallow : IsShallowTarget t

of_target : Gives TargetRule IsSayableTarget
of_target =
    of_after (of_after (of_named (λ name plain. of_after (of_then of_arm (λ a one. of_then
    (record { of = λ steps all h good. arms_sayable (a ∷ []) steps all h good (omega arith) (one, tt) })
    (λ arms all. of_return (record {
      spoken = plain and le-leb _ _ all.0 and all_pass is_spoken_arm (λ b fine. fine.spoken) arms all.1;
      shallow = all_so arms (λ b fine. fine.shallow) all.1;
    })))))))

-- ( ; target )* behind targets that are so
targets_parts : (n : ℕ) (before : List Target) (steps : List Step) (all : List Target) → Targets n before steps all → n ≡ suc (length before) → AreGood steps
    → AreParts IsSayableTarget 8 before → AreParts IsSayableTarget 8 all
targets_parts n before steps all (no_target e f) here good parts = subst (AreParts IsSayableTarget 8) (sym f) parts
targets_parts n before steps all (target front back t one more e) here good parts =
    let found = further (word.Sign sign.Semicolon) (TargetMark n) steps front back e good in
    let low : n ≤ 8 = target_within n found.inside in
    targets_parts (suc n) (before ++ t ∷ []) back all more (omega (arith, length-append before (t ∷ []))) found.rest
    (next_part before t parts (of_target.of front t one found.part) (omega arith))

pub record IsSayableMigrate (m : Migrate) : Type 0 where
  pub spoken : is_spoken_migrate m ≡ true
  pub shallow : IsShallowMigrate m

sayable_migrate : (m : Migrate) → AreParts IsSayableTarget 8 m.targets → IsSayableMigrate m
sayable_migrate m parts = record {
  spoken = le-leb _ _ parts.some and le-leb _ _ parts.few and all_pass is_spoken_target (λ t fine. fine.spoken) m.targets parts.each;
  shallow = all_so m.targets (λ t fine. fine.shallow) parts.each;
}

pub of_migrate : Gives MigrateRule IsSayableMigrate
of_migrate =
    of_after (of_enclosed
    (of_then (of_marked of_target) (λ t one. record { of = λ steps all h good. targets_parts 2 (t ∷ []) steps all h refl good (first_part t one (omega arith)) }))
    (λ targets parts. of_return (sayable_migrate _ parts)))
