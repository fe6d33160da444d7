-- A group's end keeps the history legal.
use Rattle.std.proofs.Common.{◌≡◌, ℕ, ◌+◌, ◌-◌, ◌<◌, ◌≤◌, Bool, true, false, not, ◌&&◌, ◌||◌, ◌==◌, nat_lt, nat_le, List, [], ◌∷◌, ◌++◌, length, map, filter, take, Some, None, refl, sym, ap, ap₂, subst, ◌∙◌, arith, inl, inr}
use Rattle.std.specs.Prelude.{Contains, min}
use Rattle.std.specs.List.{AllByRecursion, list_any, list_all}
use Rattle.std.proofs.lemmas.Bool.{cases_eq, cases_Bool, false≢true, or_left, or_right, and_from}
use Rattle.std.proofs.lemmas.Bool.Decides.{nat_tests}
use Rattle.std.proofs.lemmas.List.{map-append, take-append-le, take_min}
use Rattle.std.proofs.lemmas.List.Folds.{list_any-append}
use Rattle.bf_base.specs.Lists.{part}
use Rattle.bf_locks.specs.declared.mode.Mode.{Mode}
use Rattle.bf_locks.specs.declared.name.LockName.{LockName}
use Rattle.bf_tree.specs.declared.history.Entry.{Entry}
use Rattle.bf_tree.specs.declared.history.Outcome.{Outcome}
use Rattle.bf_tree.specs.declared.reply.Cause.{Cause}
use Rattle.bf_tree.specs.declared.reply.Cause.TheVariants.{Died}
use Rattle.bf_tree.specs.declared.reply.Reply.{Reply}
use Rattle.bf_tree.specs.declared.script.Script.{Script}
use Rattle.bf_sql.specs.Database.{Database, IsDatabase}
use Rattle.bf_sql.specs.Groups.{session_at, groups_in, statements_in, statements_of, has_statement, commits, outcome_by}
use Rattle.bf_sql.specs.History.{IsApart, replayed, settled, commits_with, told, stands_in, may_precede}
use Rattle.bf_machine.specs.interleaving.Groups.{footprint_in}
use Rattle.bf_machine.proofs.interleaving.Texts.{AreTexts}
use Rattle.bf_machine.specs.interleaving.Machines.{Group, Began, Open, Machine, open_at, told_at}
use Rattle.bf_machine.specs.InOrder.{none_open}
use Rattle.bf_machine.specs.interleaving.Kept.{IsKept, IsOpenGroup, HistoryLegal, IsAllowed, DiedFor, Clash, Wants, SomeOf, IsCurrent, phase_of}
use Rattle.bf_machine.specs.interleaving.Events.{ended, entry_of, commits_behind, text_of}
use Rattle.bf_machine.proofs.interleaving.Answers.{Told, told_from, none_kept}
use Rattle.bf_machine.proofs.interleaving.Entries.{whole_end, in_order_end, outcomes_end, part_behind, replayed-end}
use Rattle.bf_machine.proofs.interleaving.Places.{set_same, set_other}
use Rattle.bf_machine.proofs.interleaving.Telling.{apart_still, entries_alike, grows, length-part, others_told, size_here, told_here}
use Rattle.bf_machine.proofs.interleaving.Others.{has_place}

-- what a group wants after a prefix of a history it wants after one of a longer one
module _ (start : Database) (script : Script) (history : List Entry) (e : Entry) where
  prefix_alike : (k : ℕ) → take (min k (length history)) (history ++ e ∷ []) ≡ take k history
  prefix_alike k = take-append-le (min k (length history)) history (e ∷ []) (omega arith) ∙ take_min k history

  pub wants_more : (s : ℕ) (group : Group) (name : LockName) (mode : Mode) → Wants start script history s group name mode → Wants start script (history ++ e ∷ []) s group name mode
  wants_more s group name mode wants = (
    min wants.0 (length history),
    subst (λ (front : List Entry). SomeOf (λ inner statement. Contains (footprint_in (replayed script start front).1 inner statement) (name, mode)) false (statements_in script s group))
        (sym (prefix_alike wants.0)) wants.1,
  )

  pub clash_more : (s : ℕ) (one : Group) (t : ℕ) (other : Group) → Clash start script history s one t other → Clash start script (history ++ e ∷ []) s one t other
  clash_more s one t other clash = record {
    name = clash.name;
    mine = clash.mine;
    theirs = clash.theirs;
    first = wants_more s one clash.name clash.mine clash.first;
    second = wants_more t other clash.name clash.theirs clash.second;
    against = clash.against;
  }

  -- so a death that was allowed is
  abbrev pub died_more : (began : List Began) (s : ℕ) (group : Group) (h : ℕ) → DiedFor start script began history s group h → DiedFor start script began (history ++ e ∷ []) s group h
  died_more began s group h died = record {
    own = died.own;
    other = died.other;
    theirs = died.theirs;
    has = died.has;
    named = died.named;
    another = died.another;
    one_phase = died.one_phase;
    older = died.older;
    clash = clash_more s group died.other died.theirs died.clash;
  }

-- a replay of the history with one more entry of an open group
pub replay_with : (start : Database) (m : Machine) (kept : IsKept start m) (s : ℕ) (o : Open) (outcome : Outcome) (answers : List Reply) (next : Database)
    → settled (commits_with (commits_behind 0 m.history) outcome) m.db outcome (text_of m s o) ≡ (answers, next)
    → replayed m.script start (m.history ++ entry_of m s o outcome ∷ []) ≡ ((replayed m.script start m.history).0 ++ answers ∷ [], next)
replay_with start m kept s o outcome answers next settles =
    let front = replayed m.script start m.history in
    replayed-end m.script 0 start m.history (entry_of m s o outcome)
    ∙ (ap (λ (db : Database). let last = settled (commits_with (commits_behind 0 m.history) outcome) db outcome (text_of m s o) in (front.0 ++ last.0 ∷ [], last.1)) (sym kept.history_legal.replay)
    ∙ ap (λ (last : List Reply × Database). (front.0 ++ last.0 ∷ [], last.1)) settles)

-- AN END of a group of session s: its statements have these replies, and its entry stands last
module _ (start : Database) (m : Machine) (kept : IsKept start m) (texts : AreTexts m.script) (s : ℕ) (o : Open) (there : open_at m s ≡ Some o)
    (outcome : Outcome) (answers : List Reply) (next : Database) (is_next : IsDatabase next)
    (turn : IsCurrent m s)
    (by_text : outcome ≡ (outcome_by (commits (text_of m s o)) (commits_behind 0 m.history + 1)).0)
    (settles : settled (commits_with (commits_behind 0 m.history) outcome) m.db outcome (text_of m s o) ≡ (answers, next))
    (each_told : length answers ≡ length (text_of m s o)) where
  abbrev e : Entry
  e = entry_of m s o outcome

  abbrev after : Machine
  after = record (ended m s o answers) { db = next; history = m.history ++ e ∷ [] }

  abbrev own : IsOpenGroup start m s o
  own = kept.open_groups_replay.each s o there

  place : (1 ≤ s) × (s ≤ length m.told)
  place =
      let p = has_place m s o there in
      (p.0, omega (arith, p.1, kept.shaped.opens, kept.shaped.told))

  bounds : (1 ≤ o.group.0) × (o.group.0 ≤ o.group.1) × (o.group.1 ≤ length (session_at m.script s).statements)
  bounds = texts.bounds s o.group own.whole

  -- the text has a statement for each place of the group
  length-text : length (text_of m s o) ≡ o.group.1 - (o.group.0 - 1)
  length-text =
      let whole = length-part o.group.0 o.group.1 (session_at m.script s).statements in
      omega (arith, whole, bounds.0, bounds.1, bounds.2)

  begins : o.group.0 ≡ length (told_at m s) + 1
  begins = own.next

  level : o.group.1 + 1 ≡ o.group.0 + length answers
  level = omega (arith, length-text, each_told, bounds.0, bounds.1)

  -- the entry is told what its statements were
  told_now : told after.told e ≡ answers
  told_now = ap (part o.group.0 o.group.1) (told_here m s answers place.0 place.1) ∙ part_behind o.group.0 o.group.1 (told_at m s) answers begins level

  replay_now : replayed m.script start (m.history ++ e ∷ []) ≡ ((replayed m.script start m.history).0 ++ answers ∷ [], next)
  replay_now = replay_with start m kept s o outcome answers next settles

  replies_now : map (told after.told) (m.history ++ e ∷ []) ≡ (replayed m.script start (m.history ++ e ∷ [])).0
  replies_now =
      map-append (told after.told) m.history (e ∷ [])
      ∙ (ap₂ (λ (rest : List (List Reply)) (rs : List Reply). rest ++ rs ∷ []) (entries_alike m s answers place.0 place.1 m.history kept.history_legal.placed ∙ kept.history_legal.legal.replies) told_now
      ∙ ap (λ (t : List (List Reply) × Database). t.0) (sym replay_now))

  -- entries before it may stand before it
  may_all_precede : (history : List Entry) → AllByRecursion (λ d. d.last ≤ length (told_at m d.session)) history → AllByRecursion (λ d. IsCurrent m d.session) history
      → list_all (λ d. may_precede m.script d e) history ≡ true
  may_all_precede [] placed turns = refl
  may_all_precede (d ∷ history) placed turns = and_from _ _ here (may_all_precede history placed.1 turns.1)
    where
      in_phase : nat_le (phase_of m.script d.session) (phase_of m.script s) ≡ true
      in_phase = elim (cases_Bool (nat_le (phase_of m.script d.session) (phase_of m.script s))) [
        | inl low ↦ low
        | inr high ↦
            let before : phase_of m.script s < phase_of m.script d.session = grind (arith, nat_tests) in
            let closed = (turns.0 s before).1 in
            let clash : None ≡ Some o = sym closed ∙ there in
            absurd cc
      ]

      by_text_order : (not (d.session == s) || nat_lt d.last o.group.0) ≡ true
      by_text_order = elim (cases_eq d.session s) as (λ _. (not (d.session == s) || nat_lt d.last o.group.0) ≡ true) [
        | inl same ↦
            let low : d.last ≤ length (told_at m s) = subst (λ (t : ℕ). d.last ≤ length (told_at m t)) same placed.0 in
            let below : nat_lt d.last o.group.0 ≡ true = grind (arith, nat_tests, begins) in
            or_right (not (d.session == s)) (nat_lt d.last o.group.0) below
        | inr apart ↦
            let out : (d.session == s) ≡ false = grind (arith, nat_tests) in
            rw out refl
      ]

      here : may_precede m.script d e ≡ true
      here = and_from _ _ by_text_order in_phase

  -- causes that were allowed are
  abbrev Allowed : ℕ → Group → Cause → Type 0
  Allowed = IsAllowed start m.script m.began m.history m.may_end m.retries

  abbrev AllowedThen : ℕ → Group → Cause → Type 0
  AllowedThen = IsAllowed start m.script m.began (m.history ++ e ∷ []) m.may_end m.retries

  allowed_still : (t : ℕ) (g : Group) (cause : Cause) → Allowed t g cause → AllowedThen t g cause
  allowed_still t g (Died h) allowed = (died_more start m.script m.history e m.began t g h allowed.0, allowed.1, allowed.2, allowed.3)
  allowed_still t g other allowed = allowed

  abbrev kept_by : List Entry → Told → Bool
  kept_by history a = not (list_any (stands_in a.0 a.1) history || list_any (λ g. none_open a.0 g && has_statement a.1 g) (groups_in m.script a.0))

  fewer : (a : Told) → kept_by (m.history ++ e ∷ []) a ≡ true → kept_by m.history a ≡ true
  fewer a more = elim (cases_Bool (list_any (stands_in a.0 a.1) m.history)) as (λ _. kept_by m.history a ≡ true) [
    | inr out ↦
        let split = list_any-append (stands_in a.0 a.1) m.history (e ∷ []) in
        grind (arith, split, out, more)
    | inl found ↦
        let here : list_any (stands_in a.0 a.1) (m.history ++ e ∷ []) ≡ true = list_any-append (stands_in a.0 a.1) m.history (e ∷ []) ∙ or_left _ _ found in
        absurd (false≢true (rw here at more))
  ]

  in_the_entry : (j : ℕ) (r : Reply) → length (told_at m s) + 1 ≤ j → j < length (told_at m s) + 1 + length answers → kept_by (m.history ++ e ∷ []) (s, j, r) ≡ false
  in_the_entry j r low high =
      let here : stands_in s j e ≡ true = grind (arith, nat_tests, begins, level) in
      let found : list_any (stands_in s j) (m.history ++ e ∷ []) ≡ true =
      list_any-append (stands_in s j) m.history (e ∷ []) ∙ or_right _ _ (or_left _ false here) in
      rw found refl

  -- a session that is closed stays closed
  closed_still : (t : ℕ) → open_at m t ≡ None → open_at after t ≡ None
  closed_still t closed =
      let p = has_place m s o there in
      elim (cases_eq t s) as (λ _. open_at after t ≡ None) [
        | inl same ↦ ap (open_at after) same ∙ set_same None None m.opens s None p.0 p.1
        | inr apart ↦ set_other None None m.opens s t None p.0 apart ∙ closed
      ]

  current_still : (t : ℕ) → IsCurrent m t → IsCurrent after t
  current_still t current = λ u before.
      let was = current u before in
      (omega (arith, was.0, grows m s answers place.0 place.1 u), closed_still u was.1)

  placed_then : (history : List Entry) → AllByRecursion (λ d. d.last ≤ length (told_at m d.session)) history
      → AllByRecursion (λ d. d.last ≤ length (told_at after d.session)) (history ++ e ∷ [])
  placed_then [] placed = (omega (arith, size_here m s answers place.0 place.1, begins, level), tt)
  placed_then (d ∷ history) placed = (omega (arith, placed.0, grows m s answers place.0 place.1 d.session), placed_then history placed.1)

  turns_still : (history : List Entry) → AllByRecursion (λ d. IsCurrent m d.session) history → AllByRecursion (λ d. IsCurrent after d.session) (history ++ e ∷ [])
  turns_still [] turns = (current_still s turn, tt)
  turns_still (d ∷ history) turns = (current_still d.session turns.0, turns_still history turns.1)

  others_still : AllByRecursion (IsApart m.script AllowedThen after.told) (filter (kept_by (m.history ++ e ∷ [])) (told_from 1 after.told))
  others_still =
      let P = IsApart m.script Allowed m.told in
      let Q = IsApart m.script AllowedThen after.told in
      let still = apart_still m s answers place.0 place.1 texts Allowed AllowedThen (λ t g cause within allowed. allowed_still t g cause allowed) in
      others_told m s answers place.0 place.1 P Q (kept_by m.history) (kept_by (m.history ++ e ∷ [])) still fewer
      (none_kept P Q (kept_by m.history) (kept_by (m.history ++ e ∷ [])) still fewer s (1 + length (told_at m s)) answers
      (λ j r low high. in_the_entry j r (omega (arith, low)) (omega (arith, high)))) kept.history_legal.legal.others

  -- KEEPS THE HISTORY LEGAL
  pub end_keeps_legal : HistoryLegal start after
  end_keeps_legal = record {
    legal = record {
      whole_groups = whole_end m.script m.history e kept.history_legal.legal.whole_groups own.whole;
      in_order = in_order_end m.script m.history e kept.history_legal.legal.in_order (may_all_precede m.history kept.history_legal.placed kept.history_legal.in_turn);
      outcomes = outcomes_end (statements_of m.script) 0 m.history e kept.history_legal.legal.outcomes by_text;
      replies = replies_now;
      others = others_still;
    };
    replay = ap (λ (t : List (List Reply) × Database). t.1) (sym replay_now);
    database = is_next;
    placed = placed_then m.history kept.history_legal.placed;
    in_turn = turns_still m.history kept.history_legal.in_turn;
  }
