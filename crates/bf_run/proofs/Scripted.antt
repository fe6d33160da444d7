-- The script of the demonstration is within the limits of the language, and a log can keep what it makes.
use Rattle.std.proofs.Common.{◌≡◌, ℕ, suc, zero, ◌+◌, ◌*◌, true, List, [], ◌∷◌, map, flat_map, refl, arith}
use Rattle.std.proofs.lemmas.List.Elements.{All-from_recursion}
use Rattle.std.specs.List.{AllByRecursion, list_all, range_with_len}
use Rattle.bf_lex.specs.Words.{keyword_of}
use Rattle.bf_machine.specs.interleaving.Kept.{IsWithinLimits}
use Rattle.bf_record.specs.Shallow.{IsShallowArm, IsShallowItem, IsShallowTarget}
use Rattle.bf_tree.specs.Limits.{IsNarrowIfMigrate, is_narrow_script, is_narrow_statement}
use Rattle.bf_demo.specs.Script.{acct, bal, credit, demonstration, from_acct, half, kept_items, new_table, opening, owner, split, who}
use Rattle.bf_run.specs.Sayable.{IsSayable, IsSayableScript}

-- WITHIN LIMITS: nothing but the first statement declares columns, and nothing but the second session migrates
narrow_openings : (m b : ℕ) → list_all is_narrow_statement (map opening (range_with_len b m)) ≡ true
narrow_openings zero b = refl
narrow_openings (suc m) b = narrow_openings m (b + 1)

narrow_credits : (s base m b : ℕ) → list_all is_narrow_statement (flat_map (λ j. credit s (base + j)) (range_with_len b m)) ≡ true
narrow_credits s base zero b = refl
narrow_credits s base (suc m) b = narrow_credits s base m (b + 1)

narrow : (n : ℕ) → is_narrow_script (demonstration n) ≡ true
narrow n =
    rw (narrow_openings n 1, narrow_credits 1 (4 * n * 0) n 1, narrow_credits 2 (4 * n * 1) n 1, narrow_credits 3 (4 * n * 2) n 1, narrow_credits 4 (4 * n * 3) n 1) refl

few_openings : (m b : ℕ) → AllByRecursion IsNarrowIfMigrate (map opening (range_with_len b m))
few_openings zero b = tt
few_openings (suc m) b = (tt, few_openings m (b + 1))

few_credits : (s base m b : ℕ) → AllByRecursion IsNarrowIfMigrate (flat_map (λ j. credit s (base + j)) (range_with_len b m))
few_credits s base zero b = tt
few_credits s base (suc m) b = (tt, (tt, (tt, few_credits s base m (b + 1))))

pub is_within : (n : ℕ) → IsWithinLimits (demonstration n)
is_within n = record {
  narrow = narrow n;
  migrates = (
    (tt, few_openings n 1),
    (
      (record { targets = omega arith; arms = omega arith; items = refl }, tt),
      (few_credits 1 (4 * n * 0) n 1, (few_credits 2 (4 * n * 1) n 1, (few_credits 3 (4 * n * 2) n 1, (few_credits 4 (4 * n * 3) n 1, ((tt, (tt, tt)), tt))))),
    ),
  );
}

-- SAYABLE: of the table that is made no name is a keyword, and it has three columns and one of them as its key
said_table : IsSayable new_table
unfolding keyword_of
said_table = refl

-- no item of an arm has an expression, and no arm has a condition
shallow_arm : (kept : List ℕ) → IsShallowArm (from_acct kept)
shallow_arm kept = (All-from_recursion IsShallowItem (kept_items kept) (tt, (tt, tt)), tt)

shallow_half : (name kept : List ℕ) → IsShallowTarget (half name kept)
shallow_half name kept = All-from_recursion IsShallowArm (from_acct kept ∷ []) (shallow_arm kept, tt)

-- of the split no name is a keyword either; it has two targets, each of one arm with two items
said_split : IsSayable split
unfolding keyword_of
said_split = (refl, All-from_recursion IsShallowTarget (half acct bal ∷ half who owner ∷ []) (shallow_half acct bal, (shallow_half who owner, tt)))

said_openings : (m b : ℕ) → AllByRecursion IsSayable (map opening (range_with_len b m))
said_openings zero b = tt
said_openings (suc m) b = (tt, said_openings m (b + 1))

said_credits : (s base m b : ℕ) → AllByRecursion IsSayable (flat_map (λ j. credit s (base + j)) (range_with_len b m))
said_credits s base zero b = tt
said_credits s base (suc m) b = (tt, (tt, (tt, said_credits s base m (b + 1))))

pub is_sayable : (n : ℕ) → IsSayableScript (demonstration n)
is_sayable n = (
  (said_table, said_openings n 1),
  (
    (said_split, tt),
    (said_credits 1 (4 * n * 0) n 1, (said_credits 2 (4 * n * 1) n 1, (said_credits 3 (4 * n * 2) n 1, (said_credits 4 (4 * n * 3) n 1, ((tt, (tt, tt)), tt))))),
  ),
)
