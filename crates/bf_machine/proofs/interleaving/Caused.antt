-- A group ends without an entry: no statement of it has a reply, or each is told a cause.
use Rattle.std.proofs.Common.{◌≡◌, ◌⊎◌, ℕ, ◌+◌, ◌-◌, ◌<◌, ◌≤◌, Bool, not, ◌&&◌, ◌||◌, List, [], ◌∷◌, length, map, filter, Some, sym, ap, subst, ◌∙◌, arith, inl, inr}
use Rattle.std.specs.Prelude.{Contains}
use Rattle.std.specs.List.{AllByRecursion, list_any}
use Rattle.std.proofs.lemmas.List.{length-map}
use Rattle.bf_base.specs.Lists.{part}
use Rattle.bf_tree.specs.declared.history.Entry.{Entry}
use Rattle.bf_tree.specs.declared.reply.Cause.{Cause}
use Rattle.bf_tree.specs.declared.reply.Reply.{Reply}
use Rattle.bf_tree.specs.declared.reply.Reply.TheVariants.{Ended}
use Rattle.bf_sql.specs.Database.{Database}
use Rattle.bf_sql.specs.Groups.{session_at, groups_in, has_statement}
use Rattle.bf_sql.specs.History.{IsApart, replies_to, stands_in}
use Rattle.bf_machine.specs.InOrder.{none_open}
use Rattle.bf_machine.specs.interleaving.Machines.{Group, Began, Open, Machine, open_at, told_at}
use Rattle.bf_machine.specs.interleaving.Kept.{IsKept, HistoryLegal, CausesAllowed, HasEnded, IsAllowed, IsCurrent}
use Rattle.bf_machine.specs.interleaving.Events.{ended, text_of}
use Rattle.bf_machine.proofs.interleaving.Answers.{Told, all_so, told_from, told_in}
use Rattle.bf_machine.proofs.interleaving.Entries.{part_behind}
use Rattle.bf_machine.proofs.interleaving.Opens.{unchanged_keeps_open}
use Rattle.bf_machine.proofs.interleaving.Others.{has_place}
use Rattle.bf_machine.proofs.interleaving.Rest.{StaysAtEnd, current_then, end_keeps}
use Rattle.bf_machine.proofs.interleaving.Storing.{kept_with, puts_without}
use Rattle.bf_machine.proofs.interleaving.Telling.{apart_still, entries_alike, length-part, others_told, placed_still, told_here}
use Rattle.bf_machine.proofs.interleaving.Texts.{AreTexts}

module _ (start : Database) (m : Machine) (kept : IsKept start m) (texts : AreTexts m.script) (s : ℕ) (o : Open) (there : open_at m s ≡ Some o) where
  -- the group itself
  pub own_next : o.group.0 ≡ length (told_at m s) + 1
  own_next = (kept.open_groups_replay.each s o there).next

  own_whole : Contains (groups_in m.script s) o.group
  own_whole = (kept.open_groups_replay.each s o there).whole

  pub bounds : (1 ≤ o.group.0) × (o.group.0 ≤ o.group.1) × (o.group.1 ≤ length (session_at m.script s).statements)
  bounds = texts.bounds s o.group own_whole

  length-text : length (text_of m s o) ≡ o.group.1 - (o.group.0 - 1)
  length-text = let whole = length-part o.group.0 o.group.1 (session_at m.script s).statements in omega (arith, whole, bounds.0, bounds.1, bounds.2)

  place : (1 ≤ s) × (s ≤ length m.told)
  place = let p = has_place m s o there in (p.0, omega (arith, p.1, kept.shaped.opens, kept.shaped.told))

  module _ (cause : Cause) where
    -- each of its statements is told the cause
    abbrev pub told_all : List Reply
    told_all = map (λ _. Ended cause) (text_of m s o)

    pub told_size : (answers : List Reply) → answers ≡ told_all → o.group.1 ≡ length (told_at m s) + length answers
    told_size answers all =
        let sizes : length answers ≡ length (text_of m s o) = ap (λ (rs : List Reply). length rs) all ∙ length-map (text_of m s o) (λ _. Ended cause) in
        omega (arith, sizes, length-text, own_next, bounds.0, bounds.1)

    module _ (answers : List Reply) (began : List Began) (stays : StaysAtEnd start m began m.history) where
      abbrev Allowed : ℕ → Group → Cause → Type 0
      Allowed = IsAllowed start m.script m.began m.history m.may_end m.retries

      abbrev AllowedThen : ℕ → Group → Cause → Type 0
      AllowedThen = IsAllowed start m.script began m.history m.may_end m.retries

      abbrev after : Machine
      after = record (ended m s o answers) { began = began }

      -- causes that were told stay allowed, and so is this one, where it is told
      module _ (allowed_then : (t : ℕ) (g : Group) (cause : Cause) → HasEnded m t g → Allowed t g cause → AllowedThen t g cause)
          (ends : (answers ≡ []) ⊎ ((answers ≡ told_all) × AllowedThen s o.group cause)) where
        closes : (answers ≡ []) ⊎ (o.group.1 ≡ length (told_at m s) + length answers)
        closes = elim ends [
          | inl again ↦ inl again
          | inr last ↦ inr (told_size answers last.0)
        ]

        abbrev Apart : Told → Type 0
        Apart = IsApart m.script AllowedThen after.told

        abbrev kept_by : Told → Bool
        kept_by a = not (list_any (stands_in a.0 a.1) m.history || list_any (λ g. none_open a.0 g && has_statement a.1 g) (groups_in m.script a.0))

        still : (a : Told) → IsApart m.script Allowed m.told a → Apart a
        still = apart_still m s answers place.0 place.1 texts Allowed AllowedThen allowed_then

        -- the statements of the group, where they are told the cause
        caused_now : answers ≡ told_all → AllowedThen s o.group cause → (j : ℕ) (r : Reply) → 1 + length (told_at m s) ≤ j → j < 1 + length (told_at m s) + length answers
            → Apart (s, j, r)
        caused_now all allowed j r from to =
            let size = told_size answers all in
            let told : replies_to after.told s o.group ≡ told_all =
            ap (part o.group.0 o.group.1) (told_here m s answers place.0 place.1)
            ∙ (part_behind o.group.0 o.group.1 (told_at m s) answers own_next (omega (arith, size, own_next)) ∙ all) in
            inr (o.group, cause, texts.found s o.group own_whole j (omega (arith, own_next, from)) (omega (arith, size, to)), allowed, told)

        told_so : AllByRecursion Apart (filter kept_by (told_in s (1 + length (told_at m s)) answers))
        told_so = elim ends [
          | inl again ↦ subst (λ (rs : List Reply). AllByRecursion Apart (filter kept_by (told_in s (1 + length (told_at m s)) rs))) (sym again) tt
          | inr last ↦ all_so (IsApart m.script Allowed m.told) Apart kept_by kept_by still (λ a h. h) s (1 + length (told_at m s)) answers (caused_now last.0 last.1)
        ]

        others_still : AllByRecursion Apart (filter kept_by (told_from 1 after.told))
        others_still = others_told m s answers place.0 place.1 (IsApart m.script Allowed m.told) Apart kept_by kept_by still (λ a h. h) told_so kept.history_legal.legal.others

        turns_then : (history : List Entry) → AllByRecursion (λ d. IsCurrent m d.session) history → AllByRecursion (λ d. IsCurrent after d.session) history
        turns_then [] turns = tt
        turns_then (d ∷ history) turns = (current_then start m kept s o there answers closes m.db began m.history stays d.session turns.0, turns_then history turns.1)

        caused_keeps_legal : HistoryLegal start after
        caused_keeps_legal = record {
          legal = record {
            whole_groups = kept.history_legal.legal.whole_groups;
            in_order = kept.history_legal.legal.in_order;
            outcomes = kept.history_legal.legal.outcomes;
            replies = entries_alike m s answers place.0 place.1 m.history kept.history_legal.placed ∙ kept.history_legal.legal.replies;
            others = others_still;
          };
          replay = kept.history_legal.replay;
          database = kept.history_legal.database;
          placed = placed_still m s answers place.0 place.1 m.history kept.history_legal.placed;
          in_turn = turns_then m.history kept.history_legal.in_turn;
        }

        -- ALL is kept, where what deaths named is allowed
        pub caused_keeps : CausesAllowed start after → IsKept start after
        caused_keeps causes =
            let p = has_place m s o there in
            kept_with start after
            (end_keeps start m kept s o there answers closes m.db began m.history stays caused_keeps_legal
            (unchanged_keeps_open start m kept s o there answers began m.history) causes)
            (record {
              seen_as = kept.store_valid.seen_as;
              narrow = kept.store_valid.narrow;
              by_pass = kept.store_valid.by_pass;
              puts = puts_without start m kept.store_valid s p.0 p.1;
            })
