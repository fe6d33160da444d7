-- A history with one more entry.
use Rattle.std.proofs.Common.{◌≡◌, ℕ, zero, suc, ◌+◌, ◌-◌, ◌≤◌, Bool, true, false, ◌&&◌, ◌==◌, nat_le, List, [], ◌∷◌, ◌++◌, length, map, drop, refl, sym, ap, ap₂, subst, ◌∙◌, arith, inl, inr, append_assoc}
use Rattle.std.specs.Prelude.{Contains}
use Rattle.std.specs.List.{list_any, list_all}
use Rattle.std.proofs.lemmas.Bool.{or_left, or_right, cases_Bool}
use Rattle.std.proofs.lemmas.Bool.Decides.{nat_tests}
use Rattle.std.proofs.Math.Seq.{drop-append_seam, take-length}
use Rattle.std.proofs.lemmas.List.{append-nil, take-append-le, drop-append-le, length-drop}
use Rattle.std.proofs.lemmas.List.Folds.{list_all-append}
use Rattle.bf_base.specs.Lists.{part, with_before_from}
use Rattle.bf_tree.specs.declared.history.Entry.{Entry}
use Rattle.bf_tree.specs.declared.history.Outcome.{Outcome}
use Rattle.bf_tree.specs.declared.history.Outcome.TheVariants.{Committed, RolledBack}
use Rattle.bf_tree.specs.declared.script.Script.{Script}
use Rattle.bf_tree.specs.declared.statement.Statement.{Statement}
use Rattle.bf_tree.specs.declared.reply.Reply.{Reply}
use Rattle.bf_sql.specs.Database.{Database}
use Rattle.bf_sql.specs.Groups.{groups_in, statements_of, commits, outcome_by, outcomes_from}
use Rattle.bf_sql.specs.History.{is_whole_group, may_precede, commits_with, replayed_behind, run_group, settled}
use Rattle.bf_sql.specs.Meaning.{executed}
use Rattle.bf_machine.specs.interleaving.Events.{commits_behind}

module _ {X : Type 0} where
  -- each item with those before it, and one more
  with_before-end : (seen xs : List X) (x : X) → with_before_from seen (xs ++ x ∷ []) ≡ with_before_from seen xs ++ (seen ++ xs, x) ∷ []
  with_before-end seen [] x = ap (λ (s : List X). (s, x) ∷ []) (sym (append-nil seen))
  with_before-end seen (y ∷ xs) x =
      ap (λ (rest : List (List X × X)). (seen, y) ∷ rest)
      (with_before-end (seen ++ y ∷ []) xs x ∙ ap (λ (s : List X). with_before_from (seen ++ y ∷ []) xs ++ (s, x) ∷ []) (append_assoc seen (y ∷ []) xs))

  -- a test that an item of a list passes
  pub any_of : (p : X → Bool) (xs : List X) (x : X) → Contains xs x → p x ≡ true → list_any p xs ≡ true
  any_of p [] x among so = absurd (omega (arith, among.1))
  any_of p (y ∷ xs) x (zero, within, is) so = or_left (p y) (list_any p xs) (subst (λ (z : X). p z ≡ true) (sym is) so)
  any_of p (y ∷ xs) x (suc k, within, is) so = or_right (p y) (list_any p xs) (any_of p xs x (k, omega (arith, within), is) so)

  -- a part that lies in the front of a list
  pub part_in_front : (first last : ℕ) (xs ys : List X) → last ≤ length xs → part first last (xs ++ ys) ≡ part first last xs
  part_in_front first last xs ys within = elim (cases_Bool (nat_le (first - 1) last)) [
    | inl low ↦
        let below : first - 1 ≤ length xs = grind (arith, nat_tests) in
        let count : last - (first - 1) ≤ length (drop (first - 1) xs) = omega (arith, length-drop (first - 1) xs) in
        rw (drop-append-le (first - 1) xs ys below) (take-append-le (last - (first - 1)) (drop (first - 1) xs) ys count)
    | inr high ↦
        let none : last - (first - 1) ≡ 0 = grind (arith, nat_tests) in
        rw none refl
  ]

  -- the part behind a list
  pub part_behind : (first last : ℕ) (xs ys : List X) → first ≡ length xs + 1 → last + 1 ≡ first + length ys → part first last (xs ++ ys) ≡ ys
  part_behind first last xs ys begins ends =
      let from : first - 1 ≡ length xs = omega arith in
      let count : last - length xs ≡ length ys = omega arith in
      rw (from, drop-append_seam xs ys, count) (take-length ys)

module _ (script : Script) where
  -- one more whole group
  pub whole_end : (history : List Entry) (e : Entry) → list_all (is_whole_group script) history ≡ true → Contains (groups_in script e.session) (e.first, e.last)
      → list_all (is_whole_group script) (history ++ e ∷ []) ≡ true
  whole_end history e all among =
      let itself : (e.first == e.first && e.last == e.last) ≡ true = grind (arith, nat_tests) in
      let here : is_whole_group script e ≡ true = any_of (λ g. e.first == g.0 && e.last == g.1) (groups_in script e.session) (e.first, e.last) among itself in
      rw (list_all-append (is_whole_group script) history (e ∷ []), all, here) refl

  -- one more in its turn
  pub in_order_end : (history : List Entry) (e : Entry) → list_all (λ p. list_all (λ d. may_precede script d p.1) p.0) (with_before_from [] history) ≡ true
      → list_all (λ d. may_precede script d e) history ≡ true
      → list_all (λ p. list_all (λ d. may_precede script d p.1) p.0) (with_before_from [] (history ++ e ∷ [])) ≡ true
  in_order_end history e all before =
      let test : List Entry × Entry → Bool = λ p. list_all (λ d. may_precede script d p.1) p.0 in
      rw (with_before-end [] history e, list_all-append test (with_before_from [] history) ((history, e) ∷ []), all, before) refl

-- one more outcome, by the text
module _ (f : Entry → List Statement) where
  abbrev FollowTexts : ℕ → List Entry → Type 0
  FollowTexts c history = map (λ d. d.outcome) history ≡ outcomes_from (c + 1) (map f history)

  first_follows : (so : Bool) (c : ℕ) (d : Entry) (rest : List Outcome) (texts : List (List Statement))
      → d.outcome ∷ rest ≡ (outcome_by so (c + 1)).0 ∷ outcomes_from (outcome_by so (c + 1)).1 texts
      → (d.outcome ≡ (outcome_by so (c + 1)).0) × (rest ≡ outcomes_from (commits_with c d.outcome + 1) texts)
  first_follows true c d rest texts all =
      let head : d.outcome ≡ Committed (c + 1) = cc in
      let tail : rest ≡ outcomes_from (c + 1 + 1) texts = cc in
      (head, rw head tail)
  first_follows false c d rest texts all =
      let head : d.outcome ≡ RolledBack = cc in
      let tail : rest ≡ outcomes_from (c + 1) texts = cc in
      (head, rw head tail)

  joins : (so : Bool) (c : ℕ) (d : Entry) (rest : List Outcome) (texts : List (List Statement)) → d.outcome ≡ (outcome_by so (c + 1)).0
      → rest ≡ outcomes_from (commits_with c d.outcome + 1) texts → d.outcome ∷ rest ≡ (outcome_by so (c + 1)).0 ∷ outcomes_from (outcome_by so (c + 1)).1 texts
  joins true c d rest texts head tail =
      let e : commits_with c d.outcome ≡ c + 1 = ap (commits_with c) head in
      ap₂ (λ (o : Outcome) (os : List Outcome). o ∷ os) head (tail ∙ ap (λ (n : ℕ). outcomes_from (n + 1) texts) e)
  joins false c d rest texts head tail =
      let e : commits_with c d.outcome ≡ c = ap (commits_with c) head in
      ap₂ (λ (o : Outcome) (os : List Outcome). o ∷ os) head (tail ∙ ap (λ (n : ℕ). outcomes_from (n + 1) texts) e)

  pub outcomes_end : (c : ℕ) (history : List Entry) (e : Entry) → FollowTexts c history
      → e.outcome ≡ (outcome_by (commits (f e)) (commits_behind c history + 1)).0 → FollowTexts c (history ++ e ∷ [])
  outcomes_end c [] e all here = ap (λ (o : Outcome). o ∷ []) here
  outcomes_end c (d ∷ history) e all here =
      let parts = first_follows (commits (f d)) c d (map (λ d. d.outcome) history) (map f history) all in
      joins (commits (f d)) c d (map (λ d. d.outcome) (history ++ e ∷ [])) (map f (history ++ e ∷ [])) parts.0
      (outcomes_end (commits_with c d.outcome) history e parts.1 here)

-- the replay of one entry more
pub replayed-end : (script : Script) (n : ℕ) (db : Database) (es : List Entry) (e : Entry)
    → replayed_behind n script db (es ++ e ∷ [])
    ≡ (let front = replayed_behind n script db es in
    let last = settled (commits_with (commits_behind n es) e.outcome) front.1 e.outcome (statements_of script e) in
    (front.0 ++ last.0 ∷ [], last.1))
replayed-end script n db [] e = refl
replayed-end script n db (d ∷ es) e =
    let commit = commits_with n d.outcome in
    let (answers, next) = settled commit db d.outcome (statements_of script d) in
    ap (λ (r : List (List Reply) × Database). (answers ∷ r.0, r.1)) (replayed-end script commit next es e)

-- a group's run has a reply for each statement
pub length-run_group : (n : ℕ) (inner : Bool) (db : Database) (ss : List Statement) → length (run_group n inner db ss).0 ≡ length ss
length-run_group n inner db [] = refl
length-run_group n inner db (s ∷ ss) = ap suc (length-run_group n true (executed n db inner s).1 ss)
