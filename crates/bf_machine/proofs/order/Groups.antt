-- A session's text as a run of groups and of strays.
use Rattle.std.proofs.Common.{◌≡◌, ℕ, ◌+◌, ◌-◌, ◌≤◌, Bool, true, false, List, [], ◌∷◌, ◌++◌, length, refl, sym, ap, subst, arith, append_assoc, length-append, None}
use Rattle.std.proofs.lemmas.Bool.{false≢true}
use Rattle.std.proofs.lemmas.List.Folds.{list_any-append}
use Rattle.bf_tree.specs.declared.statement.Statement.{Statement}
use Rattle.bf_tree.specs.declared.statement.Statement.TheVariants.{Begin, Commit, Rollback}
use Rattle.bf_sql.specs.Groups.{groups_from, commits, ends_block}
use Rattle.bf_machine.proofs.order.Blocks.{NoEnd, inner_groups, no_commit, last_says}

-- statements that begin with a whole group
pub record IsGroup (text rest whole : List Statement) (committing : Bool) : Type 0 where
  pub split : whole ≡ text ++ rest
  pub not_empty : 1 ≤ length text
  pub commits_so : commits text ≡ committing
  pub group : (n last : ℕ) → last + 1 ≡ n + length text → groups_from n None whole ≡ (n, last) ∷ groups_from (last + 1) None rest

-- statements that begin with a COMMIT or ROLLBACK outside a block: it is in no group
pub record IsStray (s : Statement) (rest whole : List Statement) : Type 0 where
  pub split : whole ≡ s ∷ rest
  pub ends : ends_block s ≡ true
  pub group : (n : ℕ) → groups_from n None whole ≡ groups_from (n + 1) None rest

commit_is_stray : (rest : List Statement) → IsStray Commit rest (Commit ∷ rest)
commit_is_stray rest = record { split = refl; ends = refl; group = λ n. refl }

rollback_is_stray : (rest : List Statement) → IsStray Rollback rest (Rollback ∷ rest)
rollback_is_stray rest = record { split = refl; ends = refl; group = λ n. refl }

-- a statement that outside a block is a transaction of its own
abbrev stands_alone : Statement → Bool
stands_alone Begin = false
stands_alone Commit = false
stands_alone Rollback = false
stands_alone other = true

alone_is_group : (s : Statement) (rest : List Statement) → stands_alone s ≡ true → IsGroup (s ∷ []) rest (s ∷ rest) true
alone_is_group Begin rest autocommit = absurd (false≢true autocommit)
alone_is_group Commit rest autocommit = absurd (false≢true autocommit)
alone_is_group Rollback rest autocommit = absurd (false≢true autocommit)
alone_is_group s rest autocommit = record {
  split = refl;
  not_empty = omega arith;
  commits_so = refl;
  group = λ n last e.
      let here : last ≡ n = omega arith in
      rw here refl;
}

-- a block with its COMMIT
committed_is_group : (body rest : List Statement) → NoEnd body → IsGroup (Begin ∷ body ++ Commit ∷ []) rest (Begin ∷ body ++ Commit ∷ rest) true
committed_is_group body rest inner = record {
  split = ap (λ (ss : List Statement). Begin ∷ ss) (sym (append_assoc body (Commit ∷ []) rest));
  not_empty = omega arith;
  commits_so = last_says body Commit;
  group = λ n last e. inner_groups (n + 1) last n body (Commit ∷ rest) inner (omega (arith, length-append body (Commit ∷ [])));
}

-- a block with its ROLLBACK
rolled_back_is_group : (body rest : List Statement) → NoEnd body → IsGroup (Begin ∷ body ++ Rollback ∷ []) rest (Begin ∷ body ++ Rollback ∷ rest) false
rolled_back_is_group body rest inner = record {
  split = ap (λ (ss : List Statement). Begin ∷ ss) (sym (append_assoc body (Rollback ∷ []) rest));
  not_empty = omega arith;
  commits_so = last_says body Rollback;
  group = λ n last e. inner_groups (n + 1) last n body (Rollback ∷ rest) inner (omega (arith, length-append body (Rollback ∷ [])));
}

-- a block that the session's end cuts off
open_is_group : (body : List Statement) → NoEnd body → IsGroup (Begin ∷ body) [] (Begin ∷ body ++ []) false
open_is_group body inner = record {
  split = refl;
  not_empty = omega arith;
  commits_so = no_commit body inner;
  group = λ n last e.
      let here : (last + 1) - 1 ≡ last = omega arith in
      rw (inner_groups (n + 1) (last + 1) n body [] inner (omega arith), here) refl;
}

-- what holds of no statements, and with those behind it of what begins with a stray or a group, holds of all
module _ (P : List Statement → Type 0) (nothing : P [])
    (stray : (s : Statement) (rest whole : List Statement) → IsStray s rest whole → P rest → P whole)
    (group : (text rest whole : List Statement) (committing : Bool) → IsGroup text rest whole committing → P rest → P whole) where
  -- it holds where a block is open behind BEGIN and a body
  abbrev InBlock : List Statement → Type 0
  InBlock ss = (body : List Statement) → NoEnd body → P (Begin ∷ body ++ ss)

  one_more_in_block : (s : Statement) (ss : List Statement) → ends_block s ≡ false → InBlock ss → InBlock (s ∷ ss)
  one_more_in_block s ss goes_on later body inner =
      let more : NoEnd (body ++ s ∷ []) = rw (list_any-append ends_block body (s ∷ []), inner, goes_on) refl in
      subst (λ (ts : List Statement). P (Begin ∷ ts)) (append_assoc body (s ∷ []) ss) (later (body ++ s ∷ []) more)

  begun : (ss : List Statement) → P ss × InBlock ss → P (Begin ∷ ss) × InBlock (Begin ∷ ss)
  begun ss later = (later.1 [] refl, one_more_in_block Begin ss refl later.1)

  committed : (ss : List Statement) → P ss × InBlock ss → P (Commit ∷ ss) × InBlock (Commit ∷ ss)
  committed ss later = (
    stray Commit ss (Commit ∷ ss) (commit_is_stray ss) later.0,
    λ body inner. group (Begin ∷ body ++ Commit ∷ []) ss (Begin ∷ body ++ Commit ∷ ss) true (committed_is_group body ss inner) later.0,
  )

  rolled_back : (ss : List Statement) → P ss × InBlock ss → P (Rollback ∷ ss) × InBlock (Rollback ∷ ss)
  rolled_back ss later = (
    stray Rollback ss (Rollback ∷ ss) (rollback_is_stray ss) later.0,
    λ body inner. group (Begin ∷ body ++ Rollback ∷ []) ss (Begin ∷ body ++ Rollback ∷ ss) false (rolled_back_is_group body ss inner) later.0,
  )

  autocommit : (s : Statement) (ss : List Statement) → stands_alone s ≡ true → ends_block s ≡ false → P ss × InBlock ss → P (s ∷ ss) × InBlock (s ∷ ss)
  autocommit s ss is_autocommit goes_on later = (group (s ∷ []) ss (s ∷ ss) true (alone_is_group s ss is_autocommit) later.0, one_more_in_block s ss goes_on later.1)

  outside_and_in_block : (ss : List Statement) → P ss × InBlock ss
  outside_and_in_block [] = (nothing, λ body inner. group (Begin ∷ body) [] (Begin ∷ body ++ []) false (open_is_group body inner) nothing)
  outside_and_in_block (Begin ∷ ss) = begun ss (outside_and_in_block ss)
  outside_and_in_block (Commit ∷ ss) = committed ss (outside_and_in_block ss)
  outside_and_in_block (Rollback ∷ ss) = rolled_back ss (outside_and_in_block ss)
  outside_and_in_block (s ∷ ss) = autocommit s ss refl refl (outside_and_in_block ss)

  pub by_groups : (ss : List Statement) → P ss
  by_groups ss = (outside_and_in_block ss).0
