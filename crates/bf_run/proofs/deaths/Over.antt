-- Sessions that have ended ran over the opening database, and those of their groups that are told that they died are told so by the rule.
use Rattle.std.proofs.Common.{◌≡◌, ℕ, zero, suc, ◌+◌, ◌<◌, ◌≤◌, Bool, true, false, not, List, [], ◌∷◌, length, map, refl, sym, ap, subst, ◌∙◌, arith, inl, inr}
use Rattle.std.specs.Prelude.{Contains, Result}
use Rattle.std.specs.List.{AllByRecursion, slice_index_or}
use Rattle.std.proofs.lemmas.Bool.{false≢true}
use Rattle.bf_base.specs.Lists.{part}
use Rattle.bf_locks.specs.declared.answer.LockAnswer.{LockAnswer}
use Rattle.bf_locks.specs.declared.answer.LockAnswer.TheVariants.{Die, Granted, Wait}
use Rattle.bf_locks.specs.declared.mode.Mode.{Mode}
use Rattle.bf_locks.specs.declared.name.LockName.{LockName}
use Rattle.bf_tree.specs.Answered.{IsAllAnswered}
use Rattle.bf_tree.specs.declared.history.Entry.{Entry}
use Rattle.bf_tree.specs.declared.history.Sweep.{Sweep}
use Rattle.bf_tree.specs.declared.reply.Cause.{Cause}
use Rattle.bf_tree.specs.declared.reply.Cause.TheVariants.{Died, DiskFault, Halted, LogFull, TooLarge}
use Rattle.bf_tree.specs.declared.reply.Reply.{Reply}
use Rattle.bf_tree.specs.declared.reply.Reply.TheVariants.{Ended}
use Rattle.bf_tree.specs.declared.script.Script.{Script}
use Rattle.bf_sql.specs.Database.{Database}
use Rattle.bf_sql.specs.Groups.{groups_in, has_statement, session_at, statements_in}
use Rattle.bf_sql.specs.History.{IsApart, IsEndedBy, IsLegalHistory}
use Rattle.bf_sql.specs.migrations.Lazy.{LazyState, sweep_of}
use Rattle.bf_store.specs.Stores.{Store}
use Rattle.bf_machine.specs.InOrder.{none_open}
use Rattle.bf_machine.specs.RunOver.{EndsByLogAlone, IsRunOver}
use Rattle.bf_machine.specs.declared.journal.KeepError.{KeepError}
use Rattle.bf_machine.specs.interleaving.Calls.{HasSessionEnded, IsPlace}
use Rattle.bf_machine.specs.interleaving.Events.{Event, aborts, asked, asks, begins, commits_now, ends_by_log, executes, finishes, moves, refuses}
use Rattle.bf_machine.specs.interleaving.Journals.{Keeps, ended_in, nothing_yet, one_beside, unkept_move}
use Rattle.bf_machine.specs.interleaving.Kept.{AllowedNow, IsKept, fresh}
use Rattle.bf_machine.specs.interleaving.Machines.{EndedGroup, Group, Machine, Open, these, transcripts_of}
use Rattle.bf_machine.proofs.interleaving.Answers.{Told}
use Rattle.bf_machine.proofs.interleaving.Naming.{named_is_kept, renamed}
use Rattle.bf_machine.proofs.interleaving.Telling.{length-part}
use Rattle.bf_machine.proofs.interleaving.Texts.{are_texts}
use Rattle.bf_machine.proofs.served.Ran.{all_are_answered, transcripts_are_told}
use Rattle.bf_run.specs.Deaths.{EndsByRule, HasFewInPhases, IsRunWithDeaths, MayDie, is_death, tell_no_death, tells_no_death}
use Rattle.bf_run.proofs.deaths.Lists.{first_in, found_in, later_in, of_part, test_at}
use Rattle.bf_run.proofs.deaths.Rivals.{fewer}
use Rattle.bf_run.proofs.deaths.Rule.{may_die}
use Rattle.bf_run.proofs.deaths.Told.{none_tells, told_dead}

-- what is allowed may be said otherwise, given a group of the script and that it is told the cause
otherwise : (script : Script) (Allowed Other : ℕ → Group → Cause → Type 0) (told : List (List Reply))
    → ((s : ℕ) (group : Group) (cause : Cause) → Contains (groups_in script s) group → IsEndedBy script told s group cause → Allowed s group cause → Other s group cause) → (xs : List Told)
    → AllByRecursion (IsApart script Allowed told) xs → AllByRecursion (IsApart script Other told) xs
otherwise script Allowed Other told so [] all = tt
otherwise script Allowed Other told so (x ∷ xs) all = (
  elim all.0 as (λ _. IsApart script Other told x) [
    | inl stray ↦ inl stray
    | inr caused ↦ inr (caused.0, caused.1, caused.2, so x.0 caused.0 caused.1 (found_in (has_statement x.1) (groups_in script x.0) caused.0 caused.2).0 caused.4 caused.3, caused.4)
  ],
  otherwise script Allowed Other told so xs all.1,
)

-- ---- what a run with deaths is where none is told
item_there : (xs : List (List Reply)) (k j : ℕ) → j < length (slice_index_or xs k []) → Contains xs (slice_index_or xs k [])
item_there [] k j below = absurd (omega (arith, below))
item_there (x ∷ xs) zero j below = first_in x xs
item_there (x ∷ xs) (suc k) j below = later_in x (slice_index_or xs k []) xs (item_there xs k j below)

session_there : (xs : List (List Reply)) (s j : ℕ) → j < length (slice_index_or ([] ∷ xs) s []) → Contains xs (slice_index_or ([] ∷ xs) s [])
session_there xs zero j below = absurd (omega (arith, below))
session_there xs (suc k) j below = item_there xs k j below

each_same : {X Y : Type 0} (xs : List X) (y : Y) → 1 ≤ length xs → Contains (map (λ (x : X). y) xs) y
each_same [] y some = absurd (omega (arith, some))
each_same (x ∷ xs) y some = (0, omega arith, refl)

-- a group that is told that it died is told so in a reply
told_in_reply : (script : Script) (transcripts : List (List Reply)) (s : ℕ) (group : Group) (h : ℕ) → Contains (groups_in script s) group → IsEndedBy script transcripts s group (Died h)
    → tell_no_death transcripts ≡ true → ⊥
told_in_reply script transcripts s group h whole is none =
    let bounds = (are_texts script).bounds s group whole in
    let some : 1 ≤ length (statements_in script s group) = omega (arith, length-part group.0 group.1 (session_at script s).statements, bounds.0, bounds.1, bounds.2) in
    let r : Reply = Ended (Died h) in
    let own : List Reply = slice_index_or ([] ∷ transcripts) s [] in
    let among : Contains (part group.0 group.1 own) r = subst (λ (rs : List Reply). Contains rs r) (sym is) (each_same (statements_in script s group) r some) in
    let p = of_part group.0 group.1 own r among in
    let there = session_there transcripts s p.place p.below in
    let all : tells_no_death own ≡ true = test_at tells_no_death transcripts none own there in
    let not_so : false ≡ true = test_at (λ r. not (is_death r)) own all r (p.place, p.below, p.is) in
    false≢true not_so

module _ (retries : ℕ) (start : Database) (script : Script) (ended : List EndedGroup) (transcripts : List (List Reply)) (history : List Entry) (sweep : Sweep)
    (run : IsRunWithDeaths retries start script ended transcripts history sweep) where
  abbrev Rule : ℕ → Group → Cause → Type 0
  Rule = EndsByRule start script history retries transcripts ended

  without : ((s : ℕ) (group : Group) (h : ℕ) → Contains (groups_in script s) group → IsEndedBy script transcripts s group (Died h) → MayDie start script history retries transcripts s group h → ⊥)
      → IsRunOver start script ended transcripts history sweep
  without none = record {
    history_legal = record {
      whole_groups = run.history_legal.whole_groups;
      in_order = run.history_legal.in_order;
      outcomes = run.history_legal.outcomes;
      replies = run.history_legal.replies;
      others = otherwise script Rule (EndsByLogAlone ended) transcripts by_log _ run.history_legal.others;
    };
    all_answered = run.all_answered;
    last = run.last;
    seen_as = run.seen_as;
    swept = run.swept;
  }
    where
      by_log : (s : ℕ) (group : Group) (cause : Cause) → Contains (groups_in script s) group → IsEndedBy script transcripts s group cause → Rule s group cause → EndsByLogAlone ended s group cause
      by_log s group (Died h) whole is allowed = absurd (none s group h whole is allowed)
      by_log s group DiskFault whole is allowed = allowed
      by_log s group (Halted faults) whole is allowed = allowed
      by_log s group (LogFull end need) whole is allowed = allowed
      by_log s group (TooLarge size) whole is allowed = allowed

  pub without_told : tell_no_death transcripts ≡ true → IsRunOver start script ended transcripts history sweep
  without_told none = without (λ s group h whole is allowed. told_in_reply script transcripts s group h whole is none)

  pub without_many : (most : ℕ) → HasFewInPhases most script → most ≤ retries + 1 → IsRunOver start script ended transcripts history sweep
  without_many most few lives = without (λ s group h whole is allowed. (let less = fewer start script history s group most (retries + 1) few allowed.rivals whole in omega (arith, less, lives)))

-- and no reply of one without deaths tells of one
pub tells_none : (start : Database) (script : Script) (ended : List EndedGroup) (transcripts : List (List Reply)) (history : List Entry) (sweep : Sweep)
    → IsRunOver start script ended transcripts history sweep → tell_no_death transcripts ≡ true
tells_none start script ended transcripts history sweep run =
    none_tells transcripts (λ s j h below is. false≢true ((told_dead start script (EndsByLogAlone ended) transcripts history run.history_legal s j h below is).allowed.0))

-- ---- what a machine ran whose sessions have ended
module _ {start : Database} (m : Machine) (groups : List EndedGroup) (kept : IsKept start (renamed (these groups) m)) (ended : (s : ℕ) → IsPlace m.script s → HasSessionEnded m s) where
  abbrev named : Machine
  named = renamed (these groups) m

  abbrev legal : IsLegalHistory m.script (AllowedNow start named) none_open start m.told m.history
  legal = kept.history_legal.legal

  abbrev ByRule : ℕ → Group → Cause → Type 0
  ByRule = EndsByRule start m.script m.history m.retries (transcripts_of m) groups

  by_rule : (s : ℕ) (group : Group) (cause : Cause) → Contains (groups_in m.script s) group → IsEndedBy m.script m.told s group cause → AllowedNow start named s group cause → ByRule s group cause
  by_rule s group (Died h) whole is allowed = may_die named kept s group h allowed
  by_rule s group DiskFault whole is allowed = (refl, allowed)
  by_rule s group (Halted faults) whole is allowed = (refl, allowed)
  by_rule s group (LogFull end need) whole is allowed = (refl, allowed)
  by_rule s group (TooLarge size) whole is allowed = (refl, allowed)

  legal_by_rule : IsLegalHistory m.script ByRule none_open start m.told m.history
  legal_by_rule = record {
    whole_groups = legal.whole_groups;
    in_order = legal.in_order;
    outcomes = legal.outcomes;
    replies = legal.replies;
    others = otherwise m.script (AllowedNow start named) ByRule m.told by_rule _ legal.others;
  }

  ran : IsRunWithDeaths m.retries start m.script groups (transcripts_of m) m.history (sweep_of m.lazy.last)
  ran = record {
    history_legal = subst (λ (ts : List (List Reply)). IsLegalHistory m.script ByRule none_open start ts m.history) (sym (transcripts_are_told named kept ended)) legal_by_rule;
    all_answered = subst (IsAllAnswered m.script) (sym (transcripts_are_told named kept ended)) (all_are_answered named kept ended);
    last = m.lazy;
    seen_as = kept.store_valid.seen_as.view ∙ kept.history_legal.replay;
    swept = refl;
  }

-- ---- the script and the retries stay
abbrev Same : Machine → Machine → Type 0
Same m next = (next.script ≡ m.script) × (next.retries ≡ m.retries)

same_by : (m next other : Machine) → next ≡ other → Same m other → Same m next
same_by m next other is same = (ap (λ (k : Machine). k.script) is ∙ same.0, ap (λ (k : Machine). k.retries) is ∙ same.1)

same_asked : (m : Machine) (s : ℕ) (answer : LockAnswer) (o : Open) (name : LockName) (mode : Mode) → Same m (asked m s o name mode answer)
same_asked m s Granted o name mode = (refl, refl)
same_asked m s (Wait others) o name mode = (refl, refl)
same_asked m s (Die older) o name mode = (refl, refl)

same_event : {start : Database} (m next : Machine) → Event start m next → Same m next
same_event m next (begins s by) = elim by.goes as (λ _. Same m next) [ inl begun ↦ same_by m next _ begun.1 (refl, refl) | inr again ↦ same_by m next _ again.3 (refl, refl) ]
same_event m next (asks s name mode answer by) = same_by m next _ by.goes (same_asked m s answer by.o name mode)
same_event m next (executes s by) = same_by m next _ by.goes (refl, refl)
same_event m next (refuses s by) = same_by m next _ by.goes (refl, refl)
same_event m next (commits_now s by) = same_by m next _ by.goes (refl, refl)
same_event m next (aborts s by) = same_by m next _ by.goes (refl, refl)
same_event m next (moves granules by) = same_by m next _ by.goes (refl, refl)
same_event m next (ends_by_log s by) = same_by m next _ by.goes (refl, refl)
same_event m next (finishes s is) = same_by m next m is (refl, refl)

module _ {J : Type 0} (Answers : LazyState → LazyState → J → J → Result (Unit {0}) KeepError → Type 0) (start : Database) where
  same_kept : (m : Machine) (j : J) (next : Machine) (l : J) → Keeps Answers start m j next l → Same m next
  same_kept m j _ _ nothing_yet = (refl, refl)
  same_kept m j _ _ (one_beside {now = now} {next = next} {k = k} {l = l} before event beside) =
      let so_far = same_kept m j now k before in
      let here = same_event now next event in
      (here.0 ∙ so_far.0, here.1 ∙ so_far.1)
  same_kept m j _ _ (unkept_move {now = now} {k = k} {l = l} before cause refused) = same_kept m j now k before

  -- as they were at the beginning
  same_as_begun : (logged : Bool) (store : Store) (script : Script) (retries : ℕ) (m next : Machine) (j l : J) → Keeps Answers start m j next l → m ≡ fresh logged store script retries
      → (next.script ≡ script) × (next.retries ≡ retries)
  same_as_begun logged store script retries m next j l keeps new =
      let same = same_kept m j next l keeps in
      (same.0 ∙ ap (λ (k : Machine). k.script) new, same.1 ∙ ap (λ (k : Machine). k.retries) new)

  module _ (logged : Bool) (store : Store) (script : Script) (retries : ℕ) (m next : Machine) (j l : J) (keeps : Keeps Answers start m j next l)
      (new : m ≡ fresh logged store script retries) (kept : IsKept start m) (ended : (s : ℕ) → IsPlace next.script s → HasSessionEnded next s) where
    abbrev WithDeaths : ℕ → Script → Type 0
    WithDeaths r k = IsRunWithDeaths r start k (ended_in Answers keeps) (transcripts_of next) next.history (sweep_of next.lazy.last)

    pub ran_with_deaths : WithDeaths retries script
    ran_with_deaths =
        let same = same_as_begun logged store script retries m next j l keeps new in
        let it = named_is_kept Answers start logged store script retries m new kept j next l keeps in
        subst (λ (r : ℕ). WithDeaths r script) same.1 (subst (λ (k : Script). WithDeaths next.retries k) same.0 (ran next (ended_in Answers keeps) it ended))

    -- where none is told, and where no phase has more sessions than a group has lives
    abbrev Over : Type 0
    Over = IsRunOver start script (ended_in Answers keeps) (transcripts_of next) next.history (sweep_of next.lazy.last)

    pub ran_over_told : tell_no_death (transcripts_of next) ≡ true → Over
    ran_over_told none = without_told retries start script (ended_in Answers keeps) (transcripts_of next) next.history (sweep_of next.lazy.last) ran_with_deaths none

    pub ran_over_few : (most : ℕ) → HasFewInPhases most script → most ≤ retries + 1 → Over
    ran_over_few most few lives =
        without_many retries start script (ended_in Answers keeps) (transcripts_of next) next.history (sweep_of next.lazy.last) ran_with_deaths most few lives
