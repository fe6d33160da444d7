-- The statements of a block, one more in front.
use Rattle.std.proofs.Common.{◌≡◌, ℕ, ◌+◌, false, List, [], ◌∷◌, length, refl, sym, ap, ◌∙◌, arith, Some}
use Rattle.std.proofs.lemmas.Bool.{false≢true}
use Rattle.bf_tree.specs.declared.statement.Statement.{Statement}
use Rattle.bf_tree.specs.declared.statement.Statement.TheVariants.{Begin, Commit, Rollback}
use Rattle.bf_sql.specs.Groups.{groups_from, groups_of, ends_block, last_is_commit}
use Rattle.random_scripts.specs.Blocks.{IsInBlock}

pub nothing : IsInBlock []
nothing = record { group = λ n began. ap (λ (m : ℕ). (began, m) ∷ []) (omega arith) }

-- a statement that does not end its block stands in the block's group
inner : (n began : ℕ) (s : Statement) (ss : List Statement) → ends_block s ≡ false
    → groups_from n (Some began) (s ∷ ss) ≡ groups_from (n + 1) (Some began) ss
inner n began Commit ss goes_on = absurd (false≢true (sym goes_on))
inner n began Rollback ss goes_on = absurd (false≢true (sym goes_on))
inner n began s ss goes_on = refl

pub one_more : (s : Statement) (ss : List Statement) → ends_block s ≡ false → IsInBlock ss → IsInBlock (s ∷ ss)
one_more s ss goes_on rest = record {
  group = λ n began. inner (n + 1) began s ss goes_on ∙ (rest.group (n + 1) began ∙ ap (λ (m : ℕ). (began, m) ∷ []) (omega arith));
}

pub the_last : (s : Statement) → IsInBlock (s ∷ [])
the_last Commit = record { group = λ n began. refl }
the_last Rollback = record { group = λ n began. refl }
the_last s = one_more s [] refl nothing

-- BEGIN and what goes on with its block
pub begun : (ss : List Statement) → IsInBlock ss → groups_of (Begin ∷ ss) ≡ (1, length (Begin ∷ ss)) ∷ []
begun ss rest = rest.group 1 1 ∙ ap (λ (m : ℕ). (1, m) ∷ []) (omega arith)

-- the last of a block whose first statement does not end it
pub last_behind : (s : Statement) (ss : List Statement) → ends_block s ≡ false → last_is_commit (s ∷ ss) ≡ last_is_commit ss
last_behind Commit ss goes_on = absurd (false≢true (sym goes_on))
last_behind s [] goes_on = refl
last_behind s (t ∷ ss) goes_on = refl
