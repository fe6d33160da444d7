-- Sessions that have ended, of which no group died, ran over the opening database.
use Rattle.std.proofs.Common.{◌≡◌, ℕ, Bool, List, [], ◌∷◌, ◌++◌, length, Option, refl, sym, ap, subst, ◌∙◌, arith, inl, inr, length-append}
use Rattle.std.specs.Prelude.{Result}
use Rattle.std.specs.Option.{option_map_or}
use Rattle.std.specs.List.{AllByRecursion}
use Rattle.bf_tree.specs.Answered.{IsAllAnswered}
use Rattle.bf_tree.specs.declared.reply.Cause.{Cause}
use Rattle.bf_tree.specs.declared.reply.Cause.TheVariants.{Died, DiskFault, Halted, LogFull, TooLarge}
use Rattle.bf_tree.specs.declared.reply.Reply.{Reply}
use Rattle.bf_tree.specs.declared.script.Script.{Script}
use Rattle.bf_sql.specs.Database.{Database}
use Rattle.bf_sql.specs.History.{IsApart, IsLegalHistory}
use Rattle.bf_sql.specs.migrations.Lazy.{LazyState, sweep_of}
use Rattle.bf_store.specs.Stores.{Store}
use Rattle.bf_machine.specs.InOrder.{none_open}
use Rattle.bf_machine.specs.RunOver.{EndsByLogAlone, IsRunOver}
use Rattle.bf_machine.specs.interleaving.Calls.{HasSessionEnded, IsPlace}
use Rattle.bf_machine.specs.declared.journal.KeepError.{KeepError}
use Rattle.bf_machine.specs.interleaving.Journals.{Keeps, ended_in}
use Rattle.bf_machine.specs.interleaving.Kept.{AllowedNow, IsKept, fresh}
use Rattle.bf_machine.specs.interleaving.Machines.{Began, EndedGroup, Group, Machine, these, transcripts_of}
use Rattle.bf_machine.specs.interleaving.Serving.{deaths_at}
use Rattle.bf_machine.proofs.interleaving.Answers.{Told}
use Rattle.bf_machine.proofs.interleaving.Naming.{named_is_kept, renamed}
use Rattle.bf_machine.proofs.served.Ran.{all_are_answered, transcripts_are_told}

-- what is allowed may be said otherwise
otherwise : (script : Script) (Allowed Other : ℕ → Group → Cause → Type 0) (told : List (List Reply)) → ((s : ℕ) (group : Group) (cause : Cause) → Allowed s group cause → Other s group cause) → (xs : List Told)
    → AllByRecursion (IsApart script Allowed told) xs → AllByRecursion (IsApart script Other told) xs
otherwise script Allowed Other told weaker [] all = tt
otherwise script Allowed Other told weaker (x ∷ xs) all =
    (elim all.0 as (λ _. IsApart script Other told x) [ inl stray ↦ inl stray | inr caused ↦ inr (caused.0, caused.1, caused.2, weaker x.0 caused.0 caused.1 caused.3, caused.4) ], otherwise script Allowed Other told weaker xs all.1)

module _ {start : Database} (m : Machine) (groups : List EndedGroup) (kept : IsKept start (renamed (these groups) m)) (ended : (s : ℕ) → IsPlace m.script s → HasSessionEnded m s) (no_death : (n : ℕ) → deaths_at m n ≡ []) where
  abbrev named : Machine
  named = renamed (these groups) m

  abbrev legal : IsLegalHistory m.script (AllowedNow start named) none_open start m.told m.history
  legal = kept.history_legal.legal

  by_log : (s : ℕ) (group : Group) (cause : Cause) → AllowedNow start named s group cause → EndsByLogAlone groups s group cause
  by_log s group (Died h) allowed =
      let has = allowed.0.has in
      let alive : deaths_at m allowed.0.own ≡ has.deaths = ap (λ (found : Option Began). option_map_or (λ (b : Began). b.deaths) found []) has.is in
      let size : length (allowed.1 ++ h ∷ []) ≡ 0 = ap (λ (ds : List ℕ). length ds) (sym allowed.2 ∙ (sym alive ∙ no_death allowed.0.own)) in
      absurd (omega (arith, size, length-append allowed.1 (h ∷ [])))
  by_log s group DiskFault allowed = (refl, allowed)
  by_log s group (Halted faults) allowed = (refl, allowed)
  by_log s group (LogFull end need) allowed = (refl, allowed)
  by_log s group (TooLarge size) allowed = (refl, allowed)

  legal_by_log : IsLegalHistory m.script (EndsByLogAlone groups) none_open start m.told m.history
  legal_by_log = record {
    whole_groups = legal.whole_groups;
    in_order = legal.in_order;
    outcomes = legal.outcomes;
    replies = legal.replies;
    others = otherwise m.script (AllowedNow start named) (EndsByLogAlone groups) m.told by_log _ legal.others;
  }

  ran : IsRunOver start m.script groups (transcripts_of m) m.history (sweep_of m.lazy.last)
  ran = record {
    history_legal = subst (λ (ts : List (List Reply)). IsLegalHistory m.script (EndsByLogAlone groups) none_open start ts m.history) (sym (transcripts_are_told named kept ended)) legal_by_log;
    all_answered = subst (IsAllAnswered m.script) (sym (transcripts_are_told named kept ended)) (all_are_answered named kept ended);
    last = m.lazy;
    seen_as = kept.store_valid.seen_as.view ∙ kept.history_legal.replay;
    swept = refl;
  }

pub ran_over : {J : Type 0} (Answers : LazyState → LazyState → J → J → Result (Unit {0}) KeepError → Type 0) (start : Database) (logged : Bool) (store : Store) (script : Script) (retries : ℕ) (m next : Machine) (j l : J)
    (keeps : Keeps Answers start m j next l) → m ≡ fresh logged store script retries → IsKept start m
    → ((s : ℕ) → IsPlace next.script s → HasSessionEnded next s) → ((n : ℕ) → deaths_at next n ≡ [])
    → IsRunOver start next.script (ended_in Answers keeps) (transcripts_of next) next.history (sweep_of next.lazy.last)
ran_over Answers start logged store script retries m next j l keeps new kept ended no_death =
    ran next (ended_in Answers keeps) (named_is_kept Answers start logged store script retries m new kept j next l keeps) ended no_death
