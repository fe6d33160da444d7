-- The statements in a block.
use Rattle.std.proofs.Common.{◌≡◌, ℕ, ◌+◌, false, List, [], ◌∷◌, ◌++◌, length, refl, sym, ◌∙◌, arith, Some}
use Rattle.std.specs.List.{list_any}
use Rattle.std.proofs.lemmas.Bool.{false≢true, or_parts}
use Rattle.bf_tree.specs.declared.statement.Statement.{Statement}
use Rattle.bf_tree.specs.declared.statement.Statement.TheVariants.{Commit, Rollback}
use Rattle.bf_sql.specs.Groups.{groups_from, ends_block, last_is_commit}

-- no statement of a list ends a block
abbrev pub NoEnd : List Statement → Type 0
NoEnd ss = list_any ends_block ss ≡ false

-- a statement that does not end its block stands in the block's group
inner_group : (n began : ℕ) (s : Statement) (ss : List Statement) → ends_block s ≡ false
    → groups_from n (Some began) (s ∷ ss) ≡ groups_from (n + 1) (Some began) ss
inner_group n began Commit ss goes_on = absurd (false≢true (sym goes_on))
inner_group n began Rollback ss goes_on = absurd (false≢true (sym goes_on))
inner_group n began s ss goes_on = refl

-- statements that do not end their block stand in the block's group
pub inner_groups : (n m began : ℕ) (body rest : List Statement) → NoEnd body → m ≡ n + length body
    → groups_from n (Some began) (body ++ rest) ≡ groups_from m (Some began) rest
inner_groups n m began [] rest inner e =
    let same : m ≡ n = omega arith in
    rw same refl
inner_groups n m began (s ∷ body) rest inner e =
    let parts = or_parts (ends_block s) (list_any ends_block body) inner in
    inner_group n began s (body ++ rest) parts.0 ∙ inner_groups (n + 1) m began body rest parts.1 (omega arith)

-- statements that do not end their block do not commit it
pub no_commit : (body : List Statement) → NoEnd body → last_is_commit body ≡ false
no_commit [] inner = refl
no_commit (Commit ∷ body) inner = absurd (false≢true (sym inner))
no_commit (s ∷ []) inner = refl
no_commit (s ∷ t ∷ body) inner = no_commit (t ∷ body) (or_parts (ends_block s) (list_any ends_block (t ∷ body)) inner).1

-- the last statement says whether a group commits
pub last_says : (body : List Statement) (s : Statement) → last_is_commit (body ++ s ∷ []) ≡ last_is_commit (s ∷ [])
last_says [] s = refl
last_says (t ∷ []) s = refl
last_says (t ∷ u ∷ body) s = last_says (u ∷ body) s
