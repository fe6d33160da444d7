-- What MIGRATEs and their parts can be.
use Rattle.std.proofs.Common.{ℕ, List, [], refl}
use Rattle.bf_tree.specs.declared.raw.Ref.{Ref}
use Rattle.bf_tree.specs.declared.migration.Arm.{Arm}
use Rattle.bf_tree.specs.declared.migration.Target.{Target}
use Rattle.bf_parse.specs.Migrations.{EqualityRule, Equalities, no_other, JoinRule, GroupRule, ArmRule, Arms, no_arm, TargetRule, Targets, no_target, MigrateRule}
use Rattle.bf_phrase.proofs.Moves.{Can, return_can, after_can, named_can, then_can, marked_can, left_can, others_can}
use Rattle.bf_phrase.proofs.Phrases.{where_can}
use Rattle.bf_phrase.proofs.Shapes.{ref_can, item_can}

pub equality_can : Can EqualityRule
equality_can = then_can ref_can (λ a. after_can (then_can ref_can (λ b. return_can)))

pub equalities_can : {n : ℕ} {before : List (Ref × Ref)} → Can (Equalities n before)
equalities_can {n = n} {before = before} = record { it = ([], before, no_other refl refl) }

pub join_can : Can JoinRule
join_can = left_can return_can

pub group_can : Can GroupRule
group_can = left_can return_can

pub arm_can : Can ArmRule
arm_can = after_can (then_can (then_can (marked_can item_can) (λ a. others_can)) (λ items. after_can (named_can (λ from. then_can join_can (λ join. then_can where_can (λ cond. then_can group_can (λ group. return_can)))))))

pub arms_can : {before : List Arm} → Can (Arms before)
arms_can {before = before} = record { it = ([], before, no_arm refl refl) }

pub target_can : Can TargetRule
target_can = after_can (after_can (named_can (λ name. after_can (then_can arm_can (λ a. then_can arms_can (λ arms. return_can))))))

pub targets_can : {n : ℕ} {before : List Target} → Can (Targets n before)
targets_can {n = n} {before = before} = record { it = ([], before, no_target refl refl) }

pub migrate_can : Can MigrateRule
migrate_can = after_can (after_can (then_can (then_can (marked_can target_can) (λ t. targets_can)) (λ targets. after_can return_can)))
