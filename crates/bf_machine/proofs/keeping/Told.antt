-- What is told of a session lies in its text: each told statement is a stray, or is of a group that has ended.
use Rattle.std.proofs.Common.{◌≡◌, ◌⊎◌, ℕ, zero, suc, ◌+◌, ◌-◌, ◌<◌, ◌≤◌, Bool, true, false, not, ◌&&◌, ◌||◌, ◌==◌, cond, List, [], ◌∷◌, length, filter, drop, take, Some, refl, sym, ap, subst, ◌∙◌, arith, inl, inr}
use Rattle.std.specs.Prelude.{Contains, IsTrue, find, nat_lt}
use Rattle.std.specs.List.{AllByRecursion, list_all, list_any, slice_index_or}
use Rattle.std.proofs.lemmas.Bool.{and_parts, cases_Bool, false≢true}
use Rattle.std.proofs.lemmas.Bool.Decides.{nat_tests}
use Rattle.std.proofs.lemmas.List.{drop_all, length-map}
use Rattle.std.proofs.lemmas.List.Elements.{filter-append}
use Rattle.bf_base.specs.Lists.{part}
use Rattle.bf_tree.specs.declared.history.Entry.{Entry}
use Rattle.bf_tree.specs.declared.reply.Reply.{Reply}
use Rattle.bf_tree.specs.declared.reply.Reply.TheVariants.{Ended}
use Rattle.bf_tree.specs.declared.statement.Statement.{Statement}
use Rattle.bf_sql.specs.Database.{Database}
use Rattle.bf_sql.specs.Groups.{ends_block, groups_in, has_statement, is_stray, session_at, statements_in}
use Rattle.bf_sql.specs.History.{IsApart, is_whole_group, replies_to, stands_in}
use Rattle.bf_machine.specs.InOrder.{none_open}
use Rattle.bf_machine.specs.interleaving.Kept.{AllowedNow, IsKept}
use Rattle.bf_machine.specs.interleaving.Machines.{Group, Machine, told_at}
use Rattle.bf_machine.proofs.interleaving.Answers.{Told, all_of_back, all_of_front, told_from, told_in}
use Rattle.bf_machine.proofs.interleaving.Entries.{any_of}
use Rattle.bf_machine.proofs.interleaving.Telling.{length-part}
use Rattle.bf_machine.proofs.interleaving.Texts.{are_texts, one_group}

-- what is so of all that a test keeps is so of each that it keeps
module _ (P : Told → Type 0) (q : Told → Bool) where
  behind : (a : Told) (xs : List Told) → AllByRecursion P (filter q (a ∷ xs)) → AllByRecursion P (filter q xs)
  behind a xs all = elim (q a) as (λ b. AllByRecursion P (cond b (a ∷ filter q xs) (filter q xs)) → AllByRecursion P (filter q xs)) [ true ↦ λ h. h.1 | false ↦ λ h. h ] all

  here : (a : Told) (xs : List Told) → q a ≡ true → AllByRecursion P (filter q (a ∷ xs)) → P a
  here a xs keeps all =
      let both : AllByRecursion P (a ∷ filter q xs) = rw keeps at all in
      both.0

  in_session : (k n j : ℕ) (rs : List Reply) → j < length rs → ((r : Reply) → q (k, n + j, r) ≡ true) → AllByRecursion P (filter q (told_in k n rs))
      → (r : Reply) × P (k, n + j, r)
  in_session k n j [] below keeps all = absurd (omega (arith, below))
  in_session k n zero (r ∷ rs) below keeps all =
      let first : n + 0 ≡ n = omega arith in
      (r, subst (λ (i : ℕ). P (k, i, r)) (sym first) (here (k, n, r) (told_in k (n + 1) rs) (subst (λ (i : ℕ). q (k, i, r) ≡ true) first (keeps r)) all))
  in_session k n (suc j) (r ∷ rs) below keeps all =
      let next : n + suc j ≡ n + 1 + j = omega arith in
      subst (λ (i : ℕ). (r : Reply) × P (k, i, r)) (sym next)
      (in_session k (n + 1) j rs (omega (arith, below)) (λ r. subst (λ (i : ℕ). q (k, i, r) ≡ true) next (keeps r)) (behind (k, n, r) (told_in k (n + 1) rs) all))

  in_sessions : (k i j : ℕ) (told : List (List Reply)) → j < length (slice_index_or told i []) → ((r : Reply) → q (k + i, 1 + j, r) ≡ true)
      → AllByRecursion P (filter q (told_from k told))
      → (r : Reply) × P (k + i, 1 + j, r)
  in_sessions k i j [] below keeps all = absurd (omega (arith, below))
  in_sessions k zero j (x ∷ xs) below keeps all =
      let first : k + 0 ≡ k = omega arith in
      let split = rw filter-append at all in
      subst (λ (n : ℕ). (r : Reply) × P (n, 1 + j, r)) (sym first)
      (in_session k 1 j x below (λ r. subst (λ (n : ℕ). q (n, 1 + j, r) ≡ true) first (keeps r)) (all_of_front P (filter q (told_in k 1 x)) _ split))
  in_sessions k (suc i) j (x ∷ xs) below keeps all =
      let next : k + suc i ≡ k + 1 + i = omega arith in
      let split = rw filter-append at all in
      subst (λ (n : ℕ). (r : Reply) × P (n, 1 + j, r)) (sym next)
      (in_sessions (k + 1) i j xs below (λ r. subst (λ (n : ℕ). q (n, 1 + j, r) ≡ true) next (keeps r)) (all_of_back P (filter q (told_in k 1 x)) _ split))

-- what is found is there, and passes the test
found : (p : Group → Bool) (gs : List Group) (g : Group) → find p gs ≡ Some g → Contains gs g × (p g ≡ true)
found p [] g is = absurd cc
found p (x ∷ gs) g is = elim (cases_Bool (p x)) as (λ _. Contains (x ∷ gs) g × (p g ≡ true)) [
  | inl first ↦
      let e : Some x ≡ Some g = rw first at is in
      let same : x ≡ g = cc in
      ((0, omega arith, same), subst (λ (h : Group). p h ≡ true) same first)
  | inr other ↦
      let e : find p gs ≡ Some g = rw other at is in
      let later = found p gs g e in
      ((suc later.0.0, omega (arith, later.0.1), later.0.2), later.1)
]

-- an entry is one of the groups
whole_there : (first last : ℕ) (gs : List Group) → list_any (λ g. first == g.0 && last == g.1) gs ≡ true → Contains gs (first, last)
whole_there first last [] has = absurd (false≢true has)
whole_there first last (g ∷ gs) has = elim (cases_Bool (first == g.0 && last == g.1)) as (λ _. Contains (g ∷ gs) (first, last)) [
  | inl both ↦
      let parts = and_parts (first == g.0) (last == g.1) both in
      let from : g.0 ≡ first = grind (arith, nat_tests, parts.0) in
      let to : g.1 ≡ last = grind (arith, nat_tests, parts.1) in
      (0, omega arith, ap (λ (n : ℕ). (n, g.1)) from ∙ ap (λ (n : ℕ). (first, n)) to)
  | inr other ↦
      let rest : list_any (λ g. first == g.0 && last == g.1) gs ≡ true = rw other at has in
      let later = whole_there first last gs rest in
      (suc later.0, omega (arith, later.1), later.2)
]

none_in_part : (n : ℕ) (all : List Statement) → drop (n - 1) all ≡ [] → list_any ends_block (part n n all) ≡ false
none_in_part n all nothing = ap (λ (ss : List Statement). list_any ends_block (take (n - (n - 1)) ss)) nothing ∙ none_of (n - (n - 1))
  where
    none_of : (k : ℕ) → list_any ends_block (take k []) ≡ false
    none_of zero = refl
    none_of (suc k) = refl

-- no group is open in what is told
none_open_in : (a : Told) (gs : List Group) → list_any (λ g. none_open a.0 g && has_statement a.1 g) gs ≡ false
none_open_in a [] = refl
none_open_in a (g ∷ gs) = none_open_in a gs

module _ (start : Database) (m : Machine) (kept : IsKept start m) where
  -- a statement is of a group that has ended
  pub record IsOfEnded (s n : ℕ) : Type 0 where
    pub group : Group
    pub whole : Contains (groups_in m.script s) group
    pub from : group.0 ≤ n
    pub to : n ≤ group.1
    pub ended : group.1 ≤ length (told_at m s)

  in_entry : (s n : ℕ) (history : List Entry) → list_all (is_whole_group m.script) history ≡ true
      → AllByRecursion (λ e. e.last ≤ length (told_at m e.session)) history
      → list_any (stands_in s n) history ≡ true → IsOfEnded s n
  in_entry s n [] whole placed has = absurd (false≢true has)
  in_entry s n (e ∷ history) whole placed has =
      let wholes = and_parts (is_whole_group m.script e) (list_all (is_whole_group m.script) history) whole in
      elim (cases_Bool (stands_in s n e)) as (λ _. IsOfEnded s n) [
        | inr other ↦
            let rest : list_any (stands_in s n) history ≡ true = rw other at has in
            in_entry s n history wholes.1 placed.1 rest
        | inl this ↦
            let parts = and_parts (e.session == s) (has_statement n (e.first, e.last)) this in
            let same : e.session ≡ s = grind (arith, nat_tests, parts.0) in
            let from : e.first ≤ n = grind (arith, nat_tests, parts.1) in
            let to : n ≤ e.last = grind (arith, nat_tests, parts.1) in
            let among : Contains (groups_in m.script e.session) (e.first, e.last) =
            whole_there e.first e.last (groups_in m.script e.session) wholes.0 in
            record {
              group = (e.first, e.last);
              whole = subst (λ (t : ℕ). Contains (groups_in m.script t) (e.first, e.last)) same among;
              from = from;
              to = to;
              ended = subst (λ (t : ℕ). e.last ≤ length (told_at m t)) same placed.0;
            }
      ]

  told_is : (s j : ℕ) → j < length (told_at m s) → IsTrue (is_stray m.script s (1 + j)) ⊎ IsOfEnded s (1 + j)
  told_is zero j below = absurd (omega (arith, below))
  told_is (suc i) j below = elim (cases_Bool (list_any (stands_in (suc i) (1 + j)) m.history)) as (λ _. IsTrue (is_stray m.script (suc i) (1 + j)) ⊎ IsOfEnded (suc i) (1 + j)) [
    | inl entered ↦ inr (in_entry (suc i) (1 + j) m.history kept.history_legal.legal.whole_groups kept.history_legal.placed entered)
    | inr out ↦
        let kept_by : Told → Bool =
        λ a. not (list_any (stands_in a.0 a.1) m.history || list_any (λ g. none_open a.0 g && has_statement a.1 g) (groups_in m.script a.0)) in
        let next : 1 + i ≡ suc i = omega arith in
        let keeps : (r : Reply) → kept_by (suc i, 1 + j, r) ≡ true =
        λ r. rw (out, none_open_in (suc i, 1 + j, r) (groups_in m.script (suc i))) refl in
        let apart = in_sessions (IsApart m.script (AllowedNow start m) m.told) kept_by 1 i j m.told below
        (λ r. subst (λ (n : ℕ). kept_by (n, 1 + j, r) ≡ true) (sym next) (keeps r)) kept.history_legal.legal.others in
        let here : IsApart m.script (AllowedNow start m) m.told (suc i, 1 + j, apart.0) =
        subst (λ (n : ℕ). IsApart m.script (AllowedNow start m) m.told (n, 1 + j, apart.0)) next apart.1 in
        elim here as (λ _. IsTrue (is_stray m.script (suc i) (1 + j)) ⊎ IsOfEnded (suc i) (1 + j)) [
          | inl stray ↦ inl stray.0
          | inr caused ↦
              let g = caused.0 in
              let at = found (has_statement (1 + j)) (groups_in m.script (suc i)) g caused.2 in
              let b = (are_texts m.script).bounds (suc i) g at.0 in
              let sizes : length (replies_to m.told (suc i) g) ≡ length (statements_in m.script (suc i) g) =
              ap (λ (rs : List Reply). length rs) caused.4 ∙ length-map (statements_in m.script (suc i) g) (λ _. Ended caused.1) in
              let from : g.0 ≤ 1 + j = grind (arith, nat_tests, at.1) in
              let to : 1 + j ≤ g.1 = grind (arith, nat_tests, at.1) in
              inr (record {
                group = g;
                whole = at.0;
                from = from;
                to = to;
                ended = omega (arith, sizes, length-part g.0 g.1 (told_at m (suc i)), length-part g.0 g.1 (session_at m.script (suc i)).statements, b.0, b.1, b.2);
              })
        ]
  ]

  -- a group of which a statement is told has ended
  pub told_whole : (s : ℕ) (g : Group) → Contains (groups_in m.script s) g → g.0 ≤ length (told_at m s) → g.1 ≤ length (told_at m s)
  told_whole s g whole begun =
      let b = (are_texts m.script).bounds s g whole in
      let j = g.0 - 1 in
      let at : 1 + j ≡ g.0 = omega (arith, b.0) in
      elim (told_is s j (omega (arith, b.0, begun))) as (λ _. g.1 ≤ length (told_at m s)) [
        | inl stray ↦
            let parts = and_parts (list_any ends_block (statements_in m.script s (1 + j, 1 + j))) (not (list_any (has_statement (1 + j)) (groups_in m.script s))) stray in
            let has : has_statement (1 + j) g ≡ true = grind (arith, nat_tests, at, b.1) in
            let there : list_any (has_statement (1 + j)) (groups_in m.script s) ≡ true =
            any_of (has_statement (1 + j)) (groups_in m.script s) g whole has in
            absurd (false≢true (ap not (sym there) ∙ parts.1))
        | inr own ↦
            let same : own.group ≡ g =
            one_group m.script s own.group g own.whole whole (1 + j) own.from own.to (omega (arith, at)) (omega (arith, at, b.1)) in
            subst (λ (h : Group). h.1 ≤ length (told_at m s)) same own.ended
      ]

  -- no more is told than the session has
  pub told_within : (s : ℕ) → length (told_at m s) ≤ length (session_at m.script s).statements
  told_within s =
      let all = (session_at m.script s).statements in
      elim (cases_Bool (nat_lt 0 (length (told_at m s)))) as (λ _. length (told_at m s) ≤ length all) [
        | inr none ↦ grind (arith, nat_tests, none)
        | inl some ↦
            let above : 0 < length (told_at m s) = grind (arith, nat_tests, some) in
            let j = length (told_at m s) - 1 in
            elim (told_is s j (omega (arith, above))) as (λ _. length (told_at m s) ≤ length all) [
              | inl stray ↦ elim (cases_Bool (nat_lt (length all) (1 + j))) as (λ _. length (told_at m s) ≤ length all) [
                | inr low ↦ grind (arith, nat_tests, low)
                | inl high ↦
                    let behind_all : length all ≤ 1 + j - 1 = grind (arith, nat_tests, high) in
                    let parts = and_parts (list_any ends_block (statements_in m.script s (1 + j, 1 + j))) (not (list_any (has_statement (1 + j)) (groups_in m.script s))) stray in
                    let nothing : drop (1 + j - 1) all ≡ [] = drop_all (1 + j - 1) all behind_all in
                    absurd (false≢true (sym (none_in_part (1 + j) all nothing) ∙ parts.0))
              ]
              | inr own ↦
                  let b = (are_texts m.script).bounds s own.group own.whole in
                  omega (arith, own.to, b.2, above)
            ]
      ]
