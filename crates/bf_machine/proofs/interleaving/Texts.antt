-- The groups of a text lie within it, apart from one another, and each is one statement or a block.
use Rattle.std.proofs.Common.{◌≡◌, ℕ, zero, suc, ◌+◌, ◌-◌, ◌≤◌, Bool, true, false, List, [], ◌∷◌, ◌++◌, length, Option, Some, None, refl, sym, ap, subst, ◌∙◌, arith, length-append}
use Rattle.std.specs.Prelude.{Contains, find}
use Rattle.std.specs.List.{AllByRecursion}
use Rattle.bf_base.specs.Lists.{part}
use Rattle.bf_tree.specs.declared.script.Script.{Script}
use Rattle.bf_tree.specs.declared.statement.Statement.{Statement}
use Rattle.bf_tree.specs.declared.statement.Statement.TheVariants.{Begin, Commit, Rollback}
use Rattle.std.proofs.lemmas.Bool.Decides.{nat_tests}
use Rattle.std.proofs.lemmas.Option.{same_Some}
use Rattle.bf_sql.specs.Groups.{ends_block, groups_from, groups_in, has_statement, session_at, statements_in}
use Rattle.bf_machine.specs.interleaving.Machines.{Group}
use Rattle.bf_machine.proofs.order.Places.{IsAt, at_start, at_behind, part_at}
use Rattle.bf_machine.proofs.order.Groups.{IsGroup, IsStray, by_groups}

-- the statements of a group: one that ends no block, or BEGIN and what follows it
pub data IsText : List Statement → Type 0 where
  lone : (s : Statement) → ends_block s ≡ false → IsText (s ∷ [])
  block : (ss : List Statement) → IsText (Begin ∷ ss)

-- no group begins before the statements that it is made of
abbrev pub From : ℕ → List Group → Type 0
From m groups = AllByRecursion (λ g. m ≤ g.0) groups

pub low : (m n : ℕ) (began : Option ℕ) (ss : List Statement) → m ≤ n → ((b : ℕ) → began ≡ Some b → m ≤ b) → From m (groups_from n began ss)
low m n None [] h hb = tt
low m n (Some b) [] h hb = (hb b refl, tt)
low m n None (Begin ∷ ss) h hb = low m (n + 1) (Some n) ss (omega arith) (λ b e. let same : n ≡ b = cc in omega arith)
low m n None (Commit ∷ ss) h hb = low m (n + 1) None ss (omega arith) (λ b e. absurd cc)
low m n None (Rollback ∷ ss) h hb = low m (n + 1) None ss (omega arith) (λ b e. absurd cc)
low m n None (s ∷ ss) h hb = (h, low m (n + 1) None ss (omega arith) (λ b e. absurd cc))
low m n (Some b) (Commit ∷ ss) h hb = (hb b refl, low m (n + 1) None ss (omega arith) (λ b e. absurd cc))
low m n (Some b) (Rollback ∷ ss) h hb = (hb b refl, low m (n + 1) None ss (omega arith) (λ b e. absurd cc))
low m n (Some b) (s ∷ ss) h hb = low m (n + 1) (Some b) ss (omega arith) hb

-- a group that begins at a statement does not begin behind it
not_behind : (n : ℕ) (ss : List Statement) (g : Group) (rest : List Group) → groups_from (n + 1) None ss ≡ g ∷ rest → g.0 ≡ n → ⊥
not_behind n ss g rest is at =
    let all : From (n + 1) (g ∷ rest) = subst (From (n + 1)) is (low (n + 1) (n + 1) None ss (omega arith) (λ b e. absurd cc)) in
    omega (arith, all.0, at)

same_last : (k : ℕ) (xs ys : List Group) → (1, 1) ∷ xs ≡ (1, k) ∷ ys → 1 ≡ k
same_last k xs ys is =
    let head : ◌≡◌ {A = Group} (1, 1) (1, k) = cc in
    ap (λ (g : Group). g.1) head

-- the statements of a group
module _ (rest whole : List Statement) (committing : Bool) where
  shape_of : (text : List Statement) → IsGroup text rest whole committing → IsText text
  shape_of [] g = absurd (omega (arith, g.not_empty))
  shape_of (Begin ∷ ss) g = block ss
  shape_of (Commit ∷ ss) g =
      absurd (not_behind 1 (ss ++ rest) (1, 1 + length ss) _ (sym (ap (groups_from 1 None) g.split) ∙ g.group 1 (1 + length ss) (omega arith)) refl)
  shape_of (Rollback ∷ ss) g =
      absurd (not_behind 1 (ss ++ rest) (1, 1 + length ss) _ (sym (ap (groups_from 1 None) g.split) ∙ g.group 1 (1 + length ss) (omega arith)) refl)
  shape_of (s ∷ []) g = lone s refl
  shape_of (s ∷ t ∷ ss) g =
      let e = sym (ap (groups_from 1 None) g.split) ∙ g.group 1 (2 + length ss) (omega arith) in
      let one : 1 ≡ 2 + length ss = same_last (2 + length ss) _ _ e in
      absurd (omega arith)

-- what is so of a group in a text
pub record IsIn (n : ℕ) (all : List Statement) (g : Group) : Type 0 where
  pub from : n ≤ g.0
  pub rises : g.0 ≤ g.1
  pub within : g.1 ≤ length all
  pub text : IsText (part g.0 g.1 all)

abbrev HasGroups : List Statement → Type 0
HasGroups ss = (n : ℕ) (all : List Statement) → IsAt n all ss → (g : Group) → Contains (groups_from n None ss) g → IsIn n all g

later : (m n : ℕ) (all : List Statement) (g : Group) → m ≤ n → IsIn n all g → IsIn m all g
later m n all g h is = record { from = omega (arith, is.from); rises = is.rises; within = is.within; text = is.text }

stray_so : (s : Statement) (rest whole : List Statement) → IsStray s rest whole → HasGroups rest → HasGroups whole
stray_so s rest whole st behind n all at g among =
    later n (n + 1) all g (omega arith)
    (behind (n + 1) all (at_behind n n all (s ∷ []) rest whole at st.split refl) g (subst (λ (gs : List Group). Contains gs g) (st.group n) among))

group_so : (text rest whole : List Statement) (committing : Bool) → IsGroup text rest whole committing → HasGroups rest → HasGroups whole
group_so text rest whole committing gr behind n all at g among =
    let last = n + length text - 1 in
    let e : last + 1 ≡ n + length text = omega (arith, gr.not_empty) in
    let here : IsIn n all (n, last) = record {
      from = omega arith;
      rises = omega (arith, gr.not_empty);
      within = omega (arith, ap (λ (ss : List Statement). length ss) at.split, ap (λ (ss : List Statement). length ss) gr.split, length-append at.front whole, length-append text rest, at.here);
      text = subst IsText (sym (part_at n last all text rest whole at gr.split e)) (shape_of rest whole committing text gr);
    } in
    let all_rest : (g : Group) → Contains (groups_from (last + 1) None rest) g → IsIn n all g = λ g among.
    later n (last + 1) all g (omega (arith, gr.not_empty)) (behind (last + 1) all (at_behind n last all text rest whole at gr.split e) g among) in
    first_or_later (groups_from (last + 1) None rest) g (subst (λ (gs : List Group). Contains gs g) (gr.group n last e) among) here all_rest
  where
    first_or_later : {x : Group} (gs : List Group) (g : Group) → Contains (x ∷ gs) g → IsIn n all x → ((g : Group) → Contains gs g → IsIn n all g) → IsIn n all g
    first_or_later gs g (zero, within, is) here others = subst (IsIn n all) is here
    first_or_later gs g (suc k, within, is) here others = others g (k, omega (arith, within), is)

all_so : (ss : List Statement) → HasGroups ss
all_so = by_groups HasGroups (λ n all at g among. absurd (omega (arith, among.1))) stray_so group_so

from_of : (m : ℕ) (gs : List Group) → From m gs → (g : Group) → Contains gs g → m ≤ g.0
from_of m [] all g among = absurd (omega (arith, among.1))
from_of m (x ∷ gs) all g (zero, within, is) = subst (λ (g : Group). m ≤ g.0) is all.0
from_of m (x ∷ gs) all g (suc k, within, is) = from_of m gs all.1 g (k, omega (arith, within), is)

-- the group that has a statement is the first that has it
abbrev AreFound : List Statement → Type 0
AreFound ss = (n : ℕ) (g : Group) → Contains (groups_from n None ss) g → (k : ℕ) → g.0 ≤ k → k ≤ g.1 → find (has_statement k) (groups_from n None ss) ≡ Some g

stray_found : (s : Statement) (rest whole : List Statement) → IsStray s rest whole → AreFound rest → AreFound whole
stray_found s rest whole st behind n g among k from to =
    ap (find (has_statement k)) (st.group n) ∙ behind (n + 1) g (subst (λ (gs : List Group). Contains gs g) (st.group n) among) k from to

group_found : (text rest whole : List Statement) (committing : Bool) → IsGroup text rest whole committing → AreFound rest → AreFound whole
group_found text rest whole committing gr behind n g among k from to =
    let last = n + length text - 1 in
    let e : last + 1 ≡ n + length text = omega (arith, gr.not_empty) in
    let groups = groups_from (last + 1) None rest in
    ap (find (has_statement k)) (gr.group n last e)
    ∙ first_or_later last groups (low (last + 1) (last + 1) None rest (omega arith) (λ b e. absurd cc)) (subst (λ (gs : List Group). Contains gs g) (gr.group n last e) among)
    (λ among. behind (last + 1) g among k from to)
  where
    first_or_later : (last : ℕ) (gs : List Group) → From (last + 1) gs → Contains ((n, last) ∷ gs) g → (Contains gs g → find (has_statement k) gs ≡ Some g)
        → find (has_statement k) ((n, last) ∷ gs) ≡ Some g
    first_or_later last gs all (zero, within, is) later =
        let same : ◌≡◌ {A = Group} (n, last) g = is in
        let begins : n ≤ k = subst (λ (g : Group). g.0 ≤ k) (sym same) from in
        let ends : k ≤ last = subst (λ (g : Group). k ≤ g.1) (sym same) to in
        let here : has_statement k (n, last) ≡ true = grind (arith, nat_tests, begins, ends) in
        rw here (ap Some same)
    first_or_later last gs all (suc i, within, is) later =
        let there : Contains gs g = (i, omega (arith, within), is) in
        let above : last + 1 ≤ g.0 = from_of (last + 1) gs all g there in
        let out : has_statement k (n, last) ≡ false = grind (arith, nat_tests, above, from) in
        rw out (later there)

all_found : (ss : List Statement) → AreFound ss
all_found = by_groups AreFound (λ n g among. absurd (omega (arith, among.1))) stray_found group_found

-- what is so of each group of a script
pub record AreTexts (script : Script) : Type 0 where
  pub bounds : (s : ℕ) (g : Group) → Contains (groups_in script s) g → (1 ≤ g.0) × (g.0 ≤ g.1) × (g.1 ≤ length (session_at script s).statements)
  pub shape : (s : ℕ) (g : Group) → Contains (groups_in script s) g → IsText (statements_in script s g)
  pub found : (s : ℕ) (g : Group) → Contains (groups_in script s) g → (k : ℕ) → g.0 ≤ k → k ≤ g.1 → find (has_statement k) (groups_in script s) ≡ Some g

pub are_texts : (script : Script) → AreTexts script
are_texts script = record {
  bounds = λ s g among.
      let own = (session_at script s).statements in
      let is = all_so own 1 own (at_start own) g among in
      (is.from, is.rises, is.within);
  shape = λ s g among.
      let own = (session_at script s).statements in
      (all_so own 1 own (at_start own) g among).text;
  found = λ s g among k from to. all_found (session_at script s).statements 1 g among k from to;
}

-- groups that have one statement are the same
pub one_group : (script : Script) (s : ℕ) (g h : Group) → Contains (groups_in script s) g → Contains (groups_in script s) h → (k : ℕ) → g.0 ≤ k → k ≤ g.1 → h.0 ≤ k → k ≤ h.1 → g ≡ h
one_group script s g h is_g is_h k from_g to_g from_h to_h =
    let found = (are_texts script).found in
    same_Some g h (sym (found s g is_g k from_g to_g) ∙ found s h is_h k from_h to_h)

-- and so are those that begin at one
pub one_first : (script : Script) (s : ℕ) (g h : Group) → Contains (groups_in script s) g → Contains (groups_in script s) h → g.0 ≡ h.0 → g ≡ h
one_first script s g h is_g is_h same =
    let bounds_g = (are_texts script).bounds s g is_g in
    let bounds_h = (are_texts script).bounds s h is_h in
    one_group script s g h is_g is_h g.0 (omega arith) bounds_g.1 (omega (arith, same)) (omega (arith, same, bounds_h.1))
