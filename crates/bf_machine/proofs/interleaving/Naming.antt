-- The groups that a log ends are named by the events: the same events come where a log may end these alone.
use Rattle.std.proofs.Common.{◌≡◌, ℕ, Bool, [], refl, sym, ap, subst, ◌∙◌, arith, inl, inr}
use Rattle.std.specs.Prelude.{Contains, Result}
use Rattle.std.proofs.lemmas.List.Elements.{Contains-append_left, Contains-append_right, Contains-push}
use Rattle.bf_locks.specs.declared.answer.LockAnswer.{LockAnswer}
use Rattle.bf_locks.specs.declared.answer.LockAnswer.TheVariants.{Die, Granted, Wait}
use Rattle.bf_locks.specs.declared.mode.Mode.{Mode}
use Rattle.bf_locks.specs.declared.name.LockName.{LockName}
use Rattle.bf_tree.specs.declared.script.Script.{Script}
use Rattle.bf_sql.specs.Database.{Database}
use Rattle.bf_sql.specs.migrations.Lazy.{LazyState}
use Rattle.bf_store.specs.Stores.{Store}
use Rattle.bf_machine.specs.declared.journal.KeepError.{KeepError}
use Rattle.bf_machine.specs.interleaving.Events.{Event, Reaches, aborts, asked, asks, at_once, begins, commits_now, ends_by_log, executes, finishes, moves, one_more, refuses}
use Rattle.bf_machine.specs.interleaving.Journals.{Keeps, ended_by, ended_in, nothing_yet, one_beside, unkept_move}
use Rattle.bf_machine.specs.interleaving.Kept.{IsKept, IsOpening, fresh, fresh_with}
use Rattle.bf_machine.specs.interleaving.Machines.{EndedGroup, IsAmong, Machine, MayEnd, Open, these}
use Rattle.bf_machine.proofs.interleaving.New.{new_is_kept}
use Rattle.bf_machine.proofs.interleaving.Reaching.{reached_keeps_all}

-- none is among no groups
pub none_among : (g : EndedGroup) → IsAmong (these []) g → ⊥
none_among g among = omega (arith, among.1)

-- A MACHINE WHOSE LOG MAY END THESE GROUPS, else as it was
module _ (may : MayEnd) where
  abbrev pub renamed : Machine → Machine
  renamed m = record m { may_end = may }

  asked_renamed : (m : Machine) (s : ℕ) (answer : LockAnswer) (o : Open) (name : LockName) (mode : Mode) → renamed (asked m s o name mode answer) ≡ asked (renamed m) s o name mode answer
  asked_renamed m s Granted o name mode = refl
  asked_renamed m s (Wait others) o name mode = refl
  asked_renamed m s (Die older) o name mode = refl

  event_renamed : {start : Database} (m next : Machine) (event : Event start m next) → ((g : EndedGroup) → Contains (ended_by event) g → IsAmong may g) → Event start (renamed m) (renamed next)
  event_renamed m next (begins s by) so = begins s (record {
    current = by.current;
    closed = by.closed;
    group = by.group;
    whole = by.whole;
    first = by.first;
    goes = elim by.goes [ inl begun ↦ inl (begun.0, ap renamed begun.1) | inr again ↦ inr (again.0, again.1, again.2, ap renamed again.3) ];
  })
  event_renamed m next (asks s name mode answer by) so = asks s name mode answer (record {
    current = by.current;
    o = by.o;
    is = by.is;
    statement = by.statement;
    later = by.later;
    left = by.left;
    prefix = by.prefix;
    asks = by.asks;
    judged = by.judged;
    goes = ap renamed by.goes ∙ asked_renamed m s answer by.o name mode;
  })
  event_renamed m next (executes s by) so = executes s (record {
    current = by.current;
    o = by.o;
    is = by.is;
    statement = by.statement;
    later = by.later;
    left = by.left;
    goes_on = by.goes_on;
    bound = by.bound;
    bound_so = by.bound_so;
    held = by.held;
    moved = by.moved;
    goes = ap renamed by.goes;
  })
  event_renamed m next (refuses s by) so = refuses s (record { place = by.place; current = by.current; closed = by.closed; stray = by.stray; goes = ap renamed by.goes })
  event_renamed m next (commits_now s by) so = commits_now s (record {
    can = record { current = by.can.current; o = by.can.o; is = by.can.is; commits_so = by.can.commits_so; left = by.can.left };
    by_pass = by.by_pass;
    same_pass = by.same_pass;
    goes = ap renamed by.goes;
  })
  event_renamed m next (aborts s by) so = aborts s (record { current = by.current; o = by.o; is = by.is; commits_so = by.commits_so; left = by.left; goes = ap renamed by.goes })
  event_renamed m next (moves granules by) so = moves granules (record { granules_of_it = by.granules_of_it; goes = ap renamed by.goes })
  event_renamed m next (ends_by_log s by) so =
      let group : EndedGroup = record { session = s; group = by.o.group; cause = by.cause } in
      ends_by_log s (record {
        current = by.current;
        o = by.o;
        is = by.is;
        cause = by.cause;
        may = so group (Contains-push [] group);
        of_log = by.of_log;
        goes = ap renamed by.goes;
      })
  event_renamed m next (finishes s same) so = finishes s (ap renamed same)

  -- so they are reached
  reaches_renamed : {J : Type 0} {Answers : LazyState → LazyState → J → J → Result (Unit {0}) KeepError → Type 0} {start : Database} (m : Machine) (j : J) (next : Machine) (l : J) (keeps : Keeps Answers start m j next l)
      → ((g : EndedGroup) → Contains (ended_in Answers keeps) g → IsAmong may g) → Reaches start (renamed m) (renamed next)
  reaches_renamed m j _ _ nothing_yet so = at_once
  reaches_renamed {Answers = Answers} m j _ _ (one_beside {now = now} {next = next} {k = k} {l = l} before event beside) so =
      one_more (reaches_renamed m j now k before (λ g among. so g (Contains-append_left (ended_in Answers before) (ended_by event) g among)))
      (event_renamed now next event (λ g among. so g (Contains-append_right (ended_in Answers before) (ended_by event) g among)))
  reaches_renamed m j _ _ (unkept_move {now = now} {k = k} {l = l} before cause refused) so = reaches_renamed m j now k before so

-- and all is kept of a machine whose log may end those alone that it has ended
pub named_is_kept : {J : Type 0} (Answers : LazyState → LazyState → J → J → Result (Unit {0}) KeepError → Type 0) (start : Database) (logged : Bool) (store : Store) (script : Script) (retries : ℕ) (m : Machine) → m ≡ fresh logged store script retries
    → IsKept start m → (j : J) (next : Machine) (l : J) (keeps : Keeps Answers start m j next l) → IsKept start (renamed (these (ended_in Answers keeps)) next)
named_is_kept Answers start logged store script retries m new kept j next l keeps =
    let may = these (ended_in Answers keeps) in
    let was : IsKept start (fresh logged store script retries) = subst (IsKept start) new kept in
    let seen = was.store_valid.seen_as in
    let opening : IsOpening store = record { lazy_state = seen.lazy_state; narrow = was.store_valid.narrow; by_pass = was.store_valid.by_pass } in
    let begun : IsKept start (fresh_with may store script retries) = subst (λ (db : Database). IsKept db (fresh_with may store script retries)) (was.history_legal.replay) (new_is_kept may store script retries opening was.within) in
    let is : fresh_with may store script retries ≡ renamed may m = sym (ap (renamed may) new) in
    reached_keeps_all start (renamed may m) (renamed may next) (subst (IsKept start) is begun) (reaches_renamed may m j next l keeps (λ g among. among))
