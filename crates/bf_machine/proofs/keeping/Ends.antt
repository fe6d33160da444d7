-- A group's text ends at its first COMMIT or ROLLBACK, and each statement that ends no block is of a group.
use Rattle.std.proofs.Common.{◌≡◌, ℕ, zero, suc, ◌+◌, ◌-◌, ◌<◌, ◌≤◌, Bool, true, false, List, [], ◌∷◌, ◌++◌, length, drop, take, Some, None, refl, sym, ap, subst, ◌∙◌, arith, inl, inr}
use Rattle.std.specs.Prelude.{Contains, nat_lt}
use Rattle.std.proofs.Math.Seq.{drop-append_seam}
use Rattle.std.proofs.lemmas.Bool.{cases_Bool, false≢true}
use Rattle.std.proofs.lemmas.Bool.Decides.{nat_tests}
use Rattle.std.proofs.lemmas.List.{drop-drop, take-append-drop}
use Rattle.bf_base.specs.Lists.{part}
use Rattle.bf_tree.specs.declared.script.Script.{Script}
use Rattle.bf_tree.specs.declared.statement.Statement.{Statement}
use Rattle.bf_tree.specs.declared.statement.Statement.TheVariants.{Begin, Commit, Rollback}
use Rattle.bf_sql.specs.Groups.{commits, ends_block, groups_from, groups_in, last_is_commit, session_at, statements_in}
use Rattle.bf_machine.specs.interleaving.Machines.{Group}
use Rattle.bf_machine.proofs.order.Blocks.{last_says}
use Rattle.bf_machine.proofs.order.Groups.{IsGroup, IsStray, by_groups}
use Rattle.bf_machine.proofs.order.Places.{IsAt, at_behind, at_start, part_at}
use Rattle.bf_machine.proofs.interleaving.Texts.{IsText, block, lone, are_texts}

abbrev first_of : Statement → List Statement → Statement
first_of d [] = d
first_of d (s ∷ ss) = s

abbrev behind_first : List Statement → List Statement
behind_first [] = []
behind_first (s ∷ ss) = ss

-- no statements are left of none
none_left : (k : ℕ) (c : Statement) (later : List Statement) → drop k [] ≡ c ∷ later → ⊥
none_left zero c later is = cc
none_left (suc k) c later is = cc

same_end : (b n last : ℕ) (xs ys : List Group) → (b, n) ∷ xs ≡ (b, last) ∷ ys → n ≡ last
same_end b n last xs ys is =
    let head : ◌≡◌ {A = Group} (b, n) (b, last) = cc in
    ap (λ (g : Group). g.1) head

-- the body of a block ends at its first COMMIT or ROLLBACK
here_ends : (n b last : ℕ) (ss rest : List Statement) (tail : List Group) (x : Statement)
    → (b, n) ∷ groups_from (n + 1) None (ss ++ rest) ≡ (b, last) ∷ tail → last + 1 ≡ n + suc (length ss)
    → (k : ℕ) (c : Statement) (later : List Statement) → drop k (x ∷ ss) ≡ c ∷ later → later ≡ []
here_ends n b last [] rest tail x is size zero c later left = sym (ap behind_first left)
here_ends n b last [] rest tail x is size (suc k) c later left = absurd (none_left k c later left)
here_ends n b last (y ∷ ss) rest tail x is size k c later left = absurd (omega (arith, same_end b n last _ tail is, size))

body_ends : (n b last : ℕ) (ss rest : List Statement) (tail : List Group) → groups_from n (Some b) (ss ++ rest) ≡ (b, last) ∷ tail
    → last + 1 ≡ n + length ss
    → (k : ℕ) (c : Statement) (later : List Statement) → drop k ss ≡ c ∷ later → ends_block c ≡ true → later ≡ []
body_ends n b last [] rest tail is size k c later left ends = absurd (none_left k c later left)
body_ends n b last (Commit ∷ ss) rest tail is size k c later left ends = here_ends n b last ss rest tail Commit is size k c later left
body_ends n b last (Rollback ∷ ss) rest tail is size k c later left ends = here_ends n b last ss rest tail Rollback is size k c later left
body_ends n b last (s ∷ ss) rest tail is size zero c later left ends = absurd (false≢true (ap ends_block (ap (first_of s) left) ∙ ends))
body_ends n b last (s ∷ ss) rest tail is size (suc k) c later left ends = body_ends (n + 1) b last ss rest tail is (omega (arith, size)) k c later left ends

-- a statement that ends a block is the last of its group's text, and says whether that commits
abbrev pub EndsOnce : List Statement → Type 0
EndsOnce text = (k : ℕ) (c : Statement) (later : List Statement) → drop k text ≡ c ∷ later → ends_block c ≡ true → (later ≡ []) × (commits text ≡ last_is_commit (c ∷ []))

last_of : (k : ℕ) (ss : List Statement) (c : Statement) → drop k ss ≡ c ∷ [] → last_is_commit ss ≡ last_is_commit (c ∷ [])
last_of k ss c left =
    let whole : take k ss ++ c ∷ [] ≡ ss = ap (λ (more : List Statement). take k ss ++ more) (sym left) ∙ take-append-drop k ss in
    ap last_is_commit (sym whole) ∙ last_says (take k ss) c

text_ends : (text rest whole : List Statement) (committing : Bool) → IsGroup text rest whole committing → IsText text → EndsOnce text
text_ends _ rest whole committing gr (lone s goes_on) zero c later left ends = absurd (false≢true (sym goes_on ∙ (ap ends_block (ap (first_of s) left) ∙ ends)))
text_ends _ rest whole committing gr (lone s goes_on) (suc k) c later left ends = absurd (none_left k c later left)
text_ends _ rest whole committing gr (block ss) zero c later left ends = absurd (false≢true (ap ends_block (ap (first_of Begin) left) ∙ ends))
text_ends _ rest whole committing gr (block ss) (suc k) c later left ends =
    let is : groups_from 2 (Some 1) (ss ++ rest) ≡ (1, 1 + length ss) ∷ groups_from (1 + length ss + 1) None rest =
    sym (ap (groups_from 1 None) gr.split) ∙ gr.group 1 (1 + length ss) (omega arith) in
    let none : later ≡ [] = body_ends 2 1 (1 + length ss) ss rest _ is (omega arith) k c later left ends in
    (none, last_of k ss c (left ∙ ap (λ (more : List Statement). c ∷ more) none))

abbrev EndsIn : List Statement → Group → Type 0
EndsIn all g = IsText (part g.0 g.1 all) → EndsOnce (part g.0 g.1 all)

abbrev HaveEnds : List Statement → Type 0
HaveEnds ss = (n : ℕ) (all : List Statement) → IsAt n all ss → (g : Group) → Contains (groups_from n None ss) g → EndsIn all g

stray_ends : (s : Statement) (rest whole : List Statement) → IsStray s rest whole → HaveEnds rest → HaveEnds whole
stray_ends s rest whole st behind n all at g among =
    behind (n + 1) all (at_behind n n all (s ∷ []) rest whole at st.split refl) g (subst (λ (gs : List Group). Contains gs g) (st.group n) among)

group_ends : (text rest whole : List Statement) (committing : Bool) → IsGroup text rest whole committing → HaveEnds rest → HaveEnds whole
group_ends text rest whole committing gr behind n all at g among =
    let last = n + length text - 1 in
    let e : last + 1 ≡ n + length text = omega (arith, gr.not_empty) in
    let is : part n last all ≡ text = part_at n last all text rest whole at gr.split e in
    first_or_later last (groups_from (last + 1) None rest) g (subst (λ (gs : List Group). Contains gs g) (gr.group n last e) among)
    (λ shape. subst EndsOnce (sym is) (text_ends text rest whole committing gr (subst IsText is shape)))
    (λ among. behind (last + 1) all (at_behind n last all text rest whole at gr.split e) g among)
  where
    first_or_later : (last : ℕ) (gs : List Group) (g : Group) → Contains ((n, last) ∷ gs) g → EndsIn all (n, last) → (Contains gs g → EndsIn all g)
        → EndsIn all g
    first_or_later last gs g (zero, within, is) here others = subst (EndsIn all) is here
    first_or_later last gs g (suc k, within, is) here others = others (k, omega (arith, within), is)

pub ends_once : (script : Script) (s : ℕ) (g : Group) → Contains (groups_in script s) g → EndsOnce (statements_in script s g)
ends_once script s g among =
    let own = (session_at script s).statements in
    by_groups HaveEnds (λ n all at g among. absurd (omega (arith, among.1))) stray_ends group_ends own 1 own (at_start own) g among ((are_texts script).shape s g among)

-- the first statement of a group ends no block
pub first_goes_on : (text : List Statement) → IsText text → (s : Statement) (more : List Statement) → text ≡ s ∷ more → ends_block s ≡ false
first_goes_on _ (lone t goes_on) s more is = sym (ap ends_block (ap (first_of t) is)) ∙ goes_on
first_goes_on _ (block ss) s more is = sym (ap ends_block (ap (first_of Begin) is))

-- each statement that ends no block is of a group
record IsIn (n k : ℕ) (ss : List Statement) : Type 0 where
  pub group : Group
  pub among : Contains (groups_from n None ss) group
  pub from : group.0 ≤ n + k
  pub to : n + k ≤ group.1

abbrev HaveGroups : List Statement → Type 0
HaveGroups ss = (n k : ℕ) (s : Statement) (later : List Statement) → drop k ss ≡ s ∷ later → ends_block s ≡ false → IsIn n k ss

stray_in : (s : Statement) (rest whole : List Statement) → IsStray s rest whole → HaveGroups rest → HaveGroups whole
stray_in x rest whole st behind n zero s later left goes_on =
    absurd (false≢true (sym goes_on ∙ (sym (ap ends_block (ap (first_of x) (sym st.split ∙ left))) ∙ st.ends)))
stray_in x rest whole st behind n (suc k) s later left goes_on =
    let there = behind (n + 1) k s later (sym (ap (drop (suc k)) st.split) ∙ left) goes_on in
    record {
      group = there.group;
      among = subst (λ (gs : List Group). Contains gs there.group) (sym (st.group n)) there.among;
      from = omega (arith, there.from);
      to = omega (arith, there.to);
    }

group_in : (text rest whole : List Statement) (committing : Bool) → IsGroup text rest whole committing → HaveGroups rest → HaveGroups whole
group_in text rest whole committing gr behind n k s later left goes_on =
    let last = n + length text - 1 in
    let e : last + 1 ≡ n + length text = omega (arith, gr.not_empty) in
    let groups = groups_from (last + 1) None rest in
    elim (cases_Bool (nat_lt k (length text))) as (λ _. IsIn n k whole) [
      | inl low ↦
          let below : k < length text = grind (arith, nat_tests, low) in
          let first : Contains ((n, last) ∷ groups) (n, last) = (0, omega arith, refl) in
          record {
            group = (n, last);
            among = subst (λ (gs : List Group). Contains gs (n, last)) (sym (gr.group n last e)) first;
            from = omega arith;
            to = omega (arith, below, e);
          }
      | inr high ↦
          let above : length text ≤ k = grind (arith, nat_tests, high) in
          let j = k - length text in
          let split : length text + j ≡ k = omega (arith, above) in
          let rest_left : drop j rest ≡ s ∷ later =
          ap (drop j) (sym (drop-append_seam text rest)) ∙ (drop-drop j (length text) (text ++ rest) ∙ (ap (λ (i : ℕ). drop i (text ++ rest)) split ∙ (sym (ap (drop k) gr.split) ∙ left))) in
          let there = behind (last + 1) j s later rest_left goes_on in
          let later_on : Contains ((n, last) ∷ groups) there.group = (suc there.among.0, omega (arith, there.among.1), there.among.2) in
          record {
            group = there.group;
            among = subst (λ (gs : List Group). Contains gs there.group) (sym (gr.group n last e)) later_on;
            from = omega (arith, there.from, split, e);
            to = omega (arith, there.to, split, e);
          }
    ]

pub record IsOfGroup (script : Script) (s n : ℕ) : Type 0 where
  pub group : Group
  pub whole : Contains (groups_in script s) group
  pub from : group.0 ≤ n
  pub to : n ≤ group.1

pub has_group : (script : Script) (s k : ℕ) (statement : Statement) (later : List Statement)
    → drop k (session_at script s).statements ≡ statement ∷ later → ends_block statement ≡ false → IsOfGroup script s (1 + k)
has_group script s k statement later left goes_on =
    let own = (session_at script s).statements in
    let there = by_groups HaveGroups (λ n k s later left goes_on. absurd (none_left k s later left)) stray_in group_in own 1 k statement later left goes_on in
    record { group = there.group; whole = there.among; from = there.from; to = there.to }
