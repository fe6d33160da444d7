-- Each group that a log has ended is told its cause from then on.
use Rattle.std.proofs.Common.{◌≡◌, ◌⊎◌, ℕ, zero, suc, ◌+◌, ◌-◌, ◌≤◌, List, [], ◌∷◌, ◌++◌, length, map, Option, None, Some, Result, refl, sym, ap, subst, ◌∙◌, inl, inr, arith, ⊎_elim}
use Rattle.std.specs.Prelude.{Contains, zip}
use Rattle.std.specs.List.{AllByRecursion, slice_index_or, slice_set}
use Rattle.bf_base.specs.Lists.{part}
use Rattle.bf_locks.specs.declared.answer.LockAnswer.{LockAnswer}
use Rattle.bf_locks.specs.declared.answer.LockAnswer.TheVariants.{Granted, Wait, Die}
use Rattle.bf_locks.specs.declared.mode.Mode.{Mode}
use Rattle.bf_locks.specs.declared.name.LockName.{LockName}
use Rattle.bf_sql.specs.Database.{Database}
use Rattle.bf_sql.specs.Groups.{groups_in}
use Rattle.bf_sql.specs.History.{IsEndedBy}
use Rattle.bf_sql.specs.migrations.Lazy.{LazyState}
use Rattle.bf_tree.specs.declared.reply.Reply.{Reply}
use Rattle.bf_tree.specs.declared.reply.Reply.TheVariants as replies
use Rattle.bf_tree.specs.declared.reply.Refusal.TheVariants.{NoTransaction}
use Rattle.bf_tree.specs.declared.script.Script.{Script}
use Rattle.bf_machine.specs.declared.journal.KeepError.{KeepError}
use Rattle.bf_machine.specs.interleaving.Events.{EndsByLog, Event, aborts, asked, asks, at_once, begins, commits_behind, commits_now, ends_by_log, executes, finishes, moves, one_more, refuses, rest_of, text_of, told_at_death}
use Rattle.bf_machine.specs.interleaving.Journals.{Keeps, ended_by, ended_in, nothing_yet, one_beside, unkept_move}
use Rattle.bf_machine.specs.interleaving.Kept.{IsKept}
use Rattle.bf_machine.specs.interleaving.Machines.{EndedGroup, Group, Machine, Open, open_at, told_at, transcripts_of, with_replies}
use Rattle.bf_machine.proofs.interleaving.Caused.{own_next, told_size}
use Rattle.bf_machine.proofs.interleaving.Entries.{part_behind, part_in_front}
use Rattle.bf_machine.proofs.interleaving.Others.{has_place}
use Rattle.bf_machine.proofs.interleaving.Reaching.{reached_keeps_all}
use Rattle.bf_machine.proofs.interleaving.Telling.{grows, size_here, told_alike, told_here}
use Rattle.bf_machine.proofs.interleaving.Texts.{are_texts}
use Rattle.bf_run.specs.Answers.{AreToldTheirCauses}

-- what is told stays, or grows in one session
abbrev Grown : Machine → Machine → Type 0
Grown now next =
    (next.script ≡ now.script)
    × ((next.told ≡ now.told) ⊎ ((s : ℕ) × (more : List Reply) × (1 ≤ s) × (s ≤ length now.told) × (next.told ≡ slice_set now.told (s - 1) (told_at now s ++ more))))

module _ (start : Database) (now next : Machine) (kept : IsKept start now) where
  rests : (made : Machine) → next ≡ made → made.script ≡ now.script → made.told ≡ now.told → Grown now next
  rests made is script told = (ap (λ (m : Machine). m.script) is ∙ script, inl (ap (λ (m : Machine). m.told) is ∙ told))

  -- an open group ends
  ends : (s : ℕ) (o : Open) → open_at now s ≡ Some o → (made : Machine) (more : List Reply) → next ≡ made → made.script ≡ now.script → made.told ≡ slice_set now.told (s - 1) (told_at now s ++ more) → Grown now next
  ends s o there made more is script told =
      let place = has_place now s o there in
      (ap (λ (m : Machine). m.script) is ∙ script, inr (s, more, place.0, omega (arith, place.1, kept.shaped.opens, kept.shaped.told), ap (λ (m : Machine). m.told) is ∙ told))

  answered : (s : ℕ) (o : Open) → open_at now s ≡ Some o → (name : LockName) (mode : Mode) (answer : LockAnswer) → next ≡ asked now s o name mode answer → Grown now next
  answered s o there name mode Granted is = rests _ is refl refl
  answered s o there name mode (Wait owners) is = rests _ is refl refl
  answered s o there name mode (Die older) is = ends s o there _ (told_at_death now s o older) is refl refl

  grown_by : Event start now next → Grown now next
  grown_by (begins s by) = ⊎_elim (λ first. rests _ first.1 refl refl) (λ again. rests _ again.3 refl refl) by.goes
  grown_by (asks s name mode answer by) = answered s by.o by.is name mode answer by.goes
  grown_by (executes s by) = rests _ by.goes refl refl
  grown_by (refuses s by) = (
    ap (λ (m : Machine). m.script) by.goes,
    inr (s, replies.Refused NoTransaction ∷ [], by.place.0, omega (arith, by.place.1, kept.shaped.told), ap (λ (m : Machine). m.told) by.goes),
  )
  grown_by (commits_now s by) = ends s by.can.o by.can.is _ (by.can.o.replies ++ map (λ _. replies.Committed (commits_behind 0 now.history + 1)) (rest_of now s by.can.o)) by.goes refl refl
  grown_by (aborts s by) = ends s by.o by.is _ (by.o.replies ++ map (λ _. replies.RolledBack) (rest_of now s by.o)) by.goes refl refl
  grown_by (moves granules by) = rests _ by.goes refl refl
  grown_by (ends_by_log s by) = ends s by.o by.is _ (map (λ _. replies.Ended by.cause) (text_of now s by.o)) by.goes refl refl
  grown_by (finishes s same) = rests now same refl refl

-- a group is told its cause, by what is told of groups that have ended
abbrev IsToldIn : Script → List (List Reply) → EndedGroup → Type 0
IsToldIn script told group =
    (group.group.1 ≤ length (slice_index_or ([] ∷ told) group.session [])) × Contains (groups_in script group.session) group.group
    × IsEndedBy script told group.session group.group group.cause

abbrev AreToldIn : Machine → List EndedGroup → Type 0
AreToldIn m groups = AllByRecursion (λ (group : EndedGroup). IsToldIn m.script m.told group) groups

-- from then on
still_told : (now next : Machine) → Grown now next → (group : EndedGroup) → IsToldIn now.script now.told group → IsToldIn next.script next.told group
still_told now next (script, inl same) group told =
    subst (λ (k : Script). IsToldIn k next.told group) (sym script) (subst (λ (ts : List (List Reply)). IsToldIn now.script ts group) (sym same) told)
still_told now next (script, inr (s, more, low, high, same)) group told =
    subst (λ (k : Script). IsToldIn k next.told group) (sym script)
    (subst (λ (ts : List (List Reply)). IsToldIn now.script ts group) (sym same)
    (omega (arith, told.0, grows now s more low high group.session), told.1, told_alike now s more low high group.session group.group told.0 ∙ told.2))

all_told : (now next : Machine) → Grown now next → (groups : List EndedGroup) → AreToldIn now groups → AreToldIn next groups
all_told now next grown [] all = tt
all_told now next grown (group ∷ groups) all = (still_told now next grown group all.0, all_told now next grown groups all.1)

both_told : (m : Machine) (xs ys : List EndedGroup) → AreToldIn m xs → AreToldIn m ys → AreToldIn m (xs ++ ys)
both_told m [] ys one other = other
both_told m (x ∷ xs) ys one other = (one.0, both_told m xs ys one.1 other)

-- when it ends
told_now : (start : Database) (now next : Machine) → IsKept start now → (s : ℕ) (by : EndsByLog now s next) → IsToldIn next.script next.told (record { session = s; group = by.o.group; cause = by.cause })
told_now start now next kept s by =
    let o = by.o in
    let group : EndedGroup = record { session = s; group = o.group; cause = by.cause } in
    let answers : List Reply = map (λ _. replies.Ended by.cause) (text_of now s o) in
    let place = has_place now s o by.is in
    let high : s ≤ length now.told = omega (arith, place.1, kept.shaped.opens, kept.shaped.told) in
    let texts = are_texts now.script in
    let next_is = own_next start now kept texts s o by.is in
    let size = told_size start now kept texts s o by.is by.cause answers refl in
    let here = told_here now s answers place.0 high in
    let sizes = size_here now s answers place.0 high in
    subst (λ (m : Machine). IsToldIn m.script m.told group) (sym by.goes)
    (omega (arith, size, sizes), (kept.open_groups_replay.each s o by.is).whole, ap (part o.group.0 o.group.1) here ∙ part_behind o.group.0 o.group.1 (told_at now s) answers next_is (omega (arith, size, next_is)))

ended_now : (start : Database) (now next : Machine) → IsKept start now → (event : Event start now next) → AreToldIn next (ended_by event)
ended_now start now next kept (ends_by_log s by) = (told_now start now next kept s by, tt)
ended_now start now next kept (begins s by) = tt
ended_now start now next kept (asks s name mode answer by) = tt
ended_now start now next kept (executes s by) = tt
ended_now start now next kept (refuses s by) = tt
ended_now start now next kept (commits_now s by) = tt
ended_now start now next kept (aborts s by) = tt
ended_now start now next kept (moves granules by) = tt
ended_now start now next kept (finishes s same) = tt

-- the transcript of a session has what is told there in front
standing : (ts : List (List Reply)) (os : List (Option Open)) (k : ℕ) → length ts ≡ length os
    → slice_index_or (map (λ p. with_replies p.0 p.1) (zip ts os)) k [] ≡ with_replies (slice_index_or ts k []) (slice_index_or os k None)
standing [] [] k same = refl
standing [] (o ∷ os) k same = absurd (omega (arith, same))
standing (t ∷ ts) [] k same = absurd (omega (arith, same))
standing (t ∷ ts) (o ∷ os) zero same = refl
standing (t ∷ ts) (o ∷ os) (suc k) same = standing ts os k (omega (arith, same))

in_front : (g : Group) (told : List Reply) (o : Option Open) → g.1 ≤ length told → part g.0 g.1 (with_replies told o) ≡ part g.0 g.1 told
in_front g told None within = refl
in_front g told (Some o) within = part_in_front g.0 g.1 told o.replies within

module _ (start : Database) (m : Machine) (kept : IsKept start m) where
  transcript_at : (t : ℕ) → slice_index_or ([] ∷ transcripts_of m) t [] ≡ with_replies (told_at m t) (open_at m t)
  transcript_at zero = refl
  transcript_at (suc t) = standing m.told m.opens t (kept.shaped.told ∙ sym kept.shaped.opens)

  in_transcripts : (groups : List EndedGroup) → AreToldIn m groups → AreToldTheirCauses m.script (transcripts_of m) groups
  in_transcripts [] all = tt
  in_transcripts (group ∷ groups) all = (
    (
      all.0.1,
      ap (part group.group.0 group.group.1) (transcript_at group.session) ∙ (in_front group.group (told_at m group.session) (open_at m group.session) all.0.0 ∙ all.0.2),
    ),
    in_transcripts groups all.1,
  )

module _ {J : Type 0} (Answers : LazyState → LazyState → J → J → Result (Unit {0}) KeepError → Type 0) (start : Database) where
  told_in : (m : Machine) (j : J) (next : Machine) (k : J) → IsKept start m → (keeps : Keeps Answers start m j next k) → IsKept start next × AreToldIn next (ended_in Answers keeps)
  told_in m j _ _ kept nothing_yet = (kept, tt)
  told_in m j _ _ kept (one_beside {now = now} {next = next} {k = k} {l = l} before event beside) =
      let so_far = told_in m j now k kept before in (
        reached_keeps_all start now next so_far.0 (one_more at_once event),
        both_told next (ended_in Answers before) (ended_by event) (all_told now next (grown_by start now next so_far.0 event) (ended_in Answers before) so_far.1)
            (ended_now start now next so_far.0 event),
      )
  told_in m j _ _ kept (unkept_move {now = now} {k = k} {l = l} before cause refused) = told_in m j now k kept before

  -- EACH GROUP that they end is told its cause
  pub told_their_causes : (m : Machine) (j : J) (next : Machine) (k : J) → IsKept start m → (keeps : Keeps Answers start m j next k)
      → AreToldTheirCauses next.script (transcripts_of next) (ended_in Answers keeps)
  told_their_causes m j next k kept keeps =
      let told = told_in m j next k kept keeps in
      in_transcripts start next told.0 (ended_in Answers keeps) told.1
