-- Each event of a session serves it: it leaves the other sessions as they are, no group dies, and only a group of the session ends.
use Rattle.std.proofs.Common.{◌≡◌, ℕ, suc, ◌+◌, ◌<◌, ◌≤◌, List, [], ◌∷◌, ◌++◌, length, map, Option, Some, None, refl, sym, ap, subst, ◌∙◌, arith, inl, inr, append_assoc, append-nil, length-append}
use Rattle.std.specs.Option.{option_map_or}
use Rattle.std.specs.List.{AllByRecursion}
use Rattle.std.proofs.lemmas.List.{length-drop, length-map}
use Rattle.bf_locks.specs.Locks.{Locks}
use Rattle.bf_tree.specs.declared.history.Entry.{Entry}
use Rattle.bf_tree.specs.declared.reply.Reply.{Reply}
use Rattle.bf_tree.specs.declared.statement.Statement.{Statement}
use Rattle.boxcar.specs.Table.{Where}
use Rattle.bf_sql.specs.Database.{Database}
use Rattle.bf_sql.specs.migrations.Lazy.{LazyState}
use Rattle.bf_image.specs.declared.migration.Migration.{Migration}
use Rattle.bf_sql.specs.Groups.{session_at}
use Rattle.bf_machine.specs.interleaving.Calls.{replies_at, statements_at}
use Rattle.bf_machine.specs.interleaving.Events.{Begins, ended, opened, rest_of, text_of, with_open}
use Rattle.bf_machine.specs.interleaving.Kept.{IsKept, IsOpenGroup}
use Rattle.bf_machine.specs.interleaving.Machines.{Began, Group, Machine, Open, began_at, open_at, told_at, with_replies}
use Rattle.bf_machine.specs.interleaving.Serving.{IsBeside, Serves}
use Rattle.bf_machine.proofs.interleaving.Beginning.{began_then, began_was}
use Rattle.bf_machine.proofs.interleaving.Others.{has_place}
use Rattle.bf_machine.proofs.interleaving.Places.{set_same, set_other}
use Rattle.bf_machine.proofs.interleaving.Telling.{length-part}
use Rattle.bf_machine.proofs.interleaving.Texts.{AreTexts}

-- entries of one session behind others of it
pub of_one : (s : ℕ) (xs ys : List Entry) → AllByRecursion (λ (e : Entry). e.session ≡ s) xs → AllByRecursion (λ (e : Entry). e.session ≡ s) ys
    → AllByRecursion (λ (e : Entry). e.session ≡ s) (xs ++ ys)
of_one s [] ys one other = other
of_one s (x ∷ xs) ys one other = (one.0, of_one s xs ys one.1 other)

module _ (m : Machine) (s : ℕ) where
  -- nothing has happened
  pub serves_not : Serves m s m
  serves_not = record { script = refl; beside = λ t apart. (refl, refl); deaths = λ n. refl; entries = ([], tt, sym (append-nil m.history)) }

  -- one thing after the other
  pub serves_both : (now next : Machine) → Serves m s now → Serves now s next → Serves m s next
  serves_both now next one other = record {
    script = other.script ∙ one.script;
    beside = λ t apart. ((other.beside t apart).0 ∙ (one.beside t apart).0, (other.beside t apart).1 ∙ (one.beside t apart).1);
    deaths = λ n. other.deaths n ∙ one.deaths n;
    entries = (
      one.entries.0 ++ other.entries.0,
      of_one s one.entries.0 other.entries.0 one.entries.1 other.entries.1,
      other.entries.2 ∙ (ap (λ (es : List Entry). es ++ other.entries.0) one.entries.2 ∙ append_assoc m.history one.entries.0 other.entries.0),
    );
  }

  -- locks alone change
  pub serves_locks : (locks : Locks) → Serves m s (record m { locks = locks })
  serves_locks locks = record { script = refl; beside = λ t apart. (refl, refl); deaths = λ n. refl; entries = ([], tt, sym (append-nil m.history)) }

  -- another group is open in the session
  module _ (low : 1 ≤ s) (o : Option Open) where
    beside_open : IsBeside m s (with_open m s o)
    beside_open = λ t apart. (set_other None None m.opens s t o low apart, refl)

    pub serves_open : Serves m s (with_open m s o)
    serves_open = record { script = refl; beside = beside_open; deaths = λ n. refl; entries = ([], tt, sym (append-nil m.history)) }

  -- a new group has not died
  module _ (group : Group) (n : ℕ) where
    abbrev fresh_one : Began
    fresh_one = record { session = s; group = group; deaths = [] }

    abbrev deaths_of_one : Option Began → List ℕ
    deaths_of_one found = option_map_or (λ (b : Began). b.deaths) found []

    deaths_new : (found : Option Began) → began_at (m.began ++ fresh_one ∷ []) n ≡ found → began_at m.began n ≡ None → deaths_of_one found ≡ []
    deaths_new None is none = refl
    deaths_new (Some x) is none = elim (began_was m.began fresh_one n x is) as (λ _. x.deaths ≡ []) [
      | inl old ↦
          let clash : None ≡ Some x = sym none ∙ old in
          absurd cc
      | inr new ↦ ap (λ (b : Began). b.deaths) (sym new.1)
    ]

    deaths_more : (was : Option Began) → began_at m.began n ≡ was → deaths_of_one (began_at (m.began ++ fresh_one ∷ []) n) ≡ deaths_of_one was
    deaths_more None is = deaths_new (began_at (m.began ++ fresh_one ∷ []) n) refl is
    deaths_more (Some x) is = ap deaths_of_one (began_then m.began fresh_one n x is)

  pub begin_serves : (next : Machine) → 1 ≤ s → Begins m s next → Serves m s next
  begin_serves next low by = elim by.goes as (λ _. Serves m s next) [
    | inl first ↦ subst (Serves m s) (sym first.1) (record {
      script = refl;
      beside = beside_open low (Some (opened m s (length m.began + 1) by.group));
      deaths = λ n. deaths_more by.group n (began_at m.began n) refl;
      entries = ([], tt, sym (append-nil m.history));
    })
    | inr again ↦ subst (Serves m s) (sym again.3) (serves_open low (Some (opened m s again.0 by.group)))
  ]

-- a session's open group
module _ {start : Database} (m : Machine) (kept : IsKept start m) (texts : AreTexts m.script) (s : ℕ) (o : Open) (is : open_at m s ≡ Some o) where
  pub own : IsOpenGroup start m s o
  own = kept.open_groups_replay.each s o is

  pub replies_are : replies_at m s ≡ told_at m s ++ o.replies
  replies_are = ap (with_replies (told_at m s)) is

  -- a statement of it that is left is one of the session's
  pub left_below : (statement : Statement) (later : List Statement) → rest_of m s o ≡ statement ∷ later → length (replies_at m s) < length (statements_at m s)
  left_below statement later left =
      let bounds = texts.bounds s o.group own.whole in
      let sizes : length (replies_at m s) ≡ length (told_at m s) + length o.replies = ap (λ (rs : List Reply). length rs) replies_are ∙ length-append (told_at m s) o.replies in
      let some : length (rest_of m s o) ≡ suc (length later) = ap (λ (ss : List Statement). length ss) left in
      omega (arith, sizes, some, length-drop (length o.replies) (text_of m s o), length-part o.group.0 o.group.1 (session_at m.script s).statements, own.next, bounds.0, bounds.1, bounds.2)

  -- its end, with replies to what was left, on whatever database and store, and with an entry
  module _ (r : Reply) (db : Database) (lazy : LazyState) (pass : Option (Where Migration)) (e : Entry) (same : e.session ≡ s) where
    abbrev pub over : Machine
    over = record (ended m s o (o.replies ++ map (λ _. r) (rest_of m s o))) { db = db; lazy = lazy; pass = pass; history = m.history ++ e ∷ [] }

    pub end_serves : Serves m s over
    end_serves =
        let place = has_place m s o is in record {
          script = refl;
          beside = λ t apart. (
            set_other None None m.opens s t None place.0 apart,
            set_other [] [] m.told s t (told_at m s ++ (o.replies ++ map (λ _. r) (rest_of m s o))) place.0 apart,
          );
          deaths = λ n. refl;
          entries = (e ∷ [], (same, tt), refl);
        }

    pub closed_then : open_at over s ≡ None
    closed_then = let place = has_place m s o is in set_same None None m.opens s None place.0 place.1

    pub end_answers : length (replies_at over s) ≡ length (replies_at m s) + length (rest_of m s o)
    end_answers =
        let place = has_place m s o is in
        let more = map (λ (_ : Statement). r) (rest_of m s o) in
        let high : s ≤ length m.told = omega (arith, place.1, kept.shaped.opens, kept.shaped.told) in
        let told_then : told_at over s ≡ told_at m s ++ (o.replies ++ more) = set_same [] [] m.told s (told_at m s ++ (o.replies ++ more)) place.0 high in
        let then : replies_at over s ≡ told_at m s ++ (o.replies ++ more) = ap (with_replies (told_at over s)) closed_then ∙ told_then in
        let sizes : length (replies_at over s) ≡ length (told_at m s) + (length o.replies + length more) =
        ap (λ (rs : List Reply). length rs) then ∙ (length-append (told_at m s) (o.replies ++ more) ∙ ap (λ (n : ℕ). length (told_at m s) + n) (length-append o.replies more)) in
        let before : length (replies_at m s) ≡ length (told_at m s) + length o.replies = ap (λ (rs : List Reply). length rs) replies_are ∙ length-append (told_at m s) o.replies in
        omega (arith, sizes, before, length-map (rest_of m s o) (λ (_ : Statement). r))
