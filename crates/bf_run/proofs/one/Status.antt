-- For words, bytes and a file one status comes.
use Rattle.std.proofs.Common.{◌≡◌, ℕ, ◌<◌, List, [], length, Option, None, Some, Err, refl, sym, ap, subst, ◌∙◌, arith}
use Rattle.std.specs.Prelude.{IsSome}
use Rattle.std.proofs.lemmas.Bool.{false≢true}
use Rattle.bf_io.specs.Whole.{IfTold}
use Rattle.bf_disk.specs.Shelves.{ByPath}
use Rattle.bf_journal.specs.Reopening.{RefusedAt}
use Rattle.bf_journal.proofs.Refusals.{one_refusal, refused_is_refused}
use Rattle.bf_recover.specs.Legal.{first_state}
use Rattle.bf_recover.specs.Once.{one_step}
use Rattle.bf_recover.specs.Steps.{StepsTo}
use Rattle.bf_sql.specs.Database.{Database}
use Rattle.bf_lex.specs.declared.fault.ScriptFault.{ScriptFault}
use Rattle.bf_parse.specs.Scripts.{IsScriptText}
use Rattle.bf_run.specs.declared.status.Status.{Status}
use Rattle.bf_run.specs.declared.status.Status.TheVariants.{Done, Usage, Script as ScriptError, ReadFault, WriteFault, DiskFault, NotALog, NotEmpty, Memory}
use Rattle.bf_run.specs.Creating.{Shelving, WhereHeld, IsEmptyFile, IsNewLog, HasBytes, TellsFiles}
use Rattle.bf_run.specs.Outcome.{Stream, IsScript, IsDetermined, Comes, ComesOfWords, ComesOfInput, ComesOfDemonstration, ComesOfFile, ComesOfRun}
use Rattle.bf_run.specs.Running.{IsLogOf, IsRefusedLog, IsTaken, OpensTo}
use Rattle.bf_words.specs.Words.{Asked, creating, demonstrating, running, trying}
use Rattle.bf_run.proofs.one.Reading.{one_fault, not_both}

-- of words that ask for nothing
one_of_words : (one other : Status) → IsDetermined one → IsDetermined other → ComesOfWords one → ComesOfWords other → one ≡ other
one_of_words Usage Usage d e p q = refl
one_of_words Memory other d e p q = absurd d
one_of_words one Memory d e p q = absurd e
one_of_words Done other d e p q = absurd p
one_of_words (ScriptError f) other d e p q = absurd p
one_of_words ReadFault other d e p q = absurd p
one_of_words WriteFault other d e p q = absurd p
one_of_words DiskFault other d e p q = absurd p
one_of_words (NotALog at) other d e p q = absurd p
one_of_words (NotEmpty n) other d e p q = absurd p
one_of_words Usage Done d e p q = absurd q
one_of_words Usage (ScriptError f) d e p q = absurd q
one_of_words Usage ReadFault d e p q = absurd q
one_of_words Usage WriteFault d e p q = absurd q
one_of_words Usage DiskFault d e p q = absurd q
one_of_words Usage (NotALog at) d e p q = absurd q
one_of_words Usage (NotEmpty n) d e p q = absurd q

-- of an input that is asked to be run
module _ (input : Stream) (bytes : List ℕ) where
  fault_not_script : (f : ScriptFault) → IsScriptText bytes (Err f) → IsScript bytes → ⊥
  fault_not_script f h p = not_both bytes p.0 f p.1 h

  of_done : (other : Status) → IsDetermined other → ComesOfInput input bytes Done → ComesOfInput input bytes other → Done ≡ other
  of_done Done e p q = refl
  of_done (ScriptError g) e p q = absurd (fault_not_script g q.1 p.1)
  of_done ReadFault e p q = absurd e
  of_done Memory e p q = absurd e
  of_done Usage e p q = absurd q
  of_done WriteFault e p q = absurd q
  of_done DiskFault e p q = absurd q
  of_done (NotALog at) e p q = absurd q
  of_done (NotEmpty n) e p q = absurd q

  of_fault : (f : ScriptFault) (other : Status) → IsDetermined other → ComesOfInput input bytes (ScriptError f)
      → ComesOfInput input bytes other → ScriptError f ≡ other
  of_fault f Done e p q = absurd (fault_not_script f p.1 q.1)
  of_fault f (ScriptError g) e p q = ap ScriptError (one_fault bytes f g p.1 q.1)
  of_fault f ReadFault e p q = absurd e
  of_fault f Memory e p q = absurd e
  of_fault f Usage e p q = absurd q
  of_fault f WriteFault e p q = absurd q
  of_fault f DiskFault e p q = absurd q
  of_fault f (NotALog at) e p q = absurd q
  of_fault f (NotEmpty n) e p q = absurd q

  one_of_input : (one other : Status) → IsDetermined one → IsDetermined other → ComesOfInput input bytes one
      → ComesOfInput input bytes other → one ≡ other
  one_of_input Done other d e p q = of_done other e p q
  one_of_input (ScriptError f) other d e p q = of_fault f other e p q
  one_of_input ReadFault other d e p q = absurd d
  one_of_input Memory other d e p q = absurd d
  one_of_input Usage other d e p q = absurd p
  one_of_input WriteFault other d e p q = absurd p
  one_of_input DiskFault other d e p q = absurd p
  one_of_input (NotALog at) other d e p q = absurd p
  one_of_input (NotEmpty n) other d e p q = absurd p

-- of a file that is asked to be made a log, whatever became of it
module _ {V : Type 0} (shelf : Shelving V) (path : List ℕ) (tells : TellsFiles shelf) (held_after : Option (ByPath V)) (faults_after : ℕ) where
  too : Shelving V
  too = record shelf { held_after = held_after; faults_after = faults_after }

  empty_not_sized : (told : Option (List ℕ)) (n : ℕ) → IsSome told → 0 < n → IfTold told (λ file. file ≡ []) → IfTold told (λ file. length file ≡ n) → ⊥
  empty_not_sized None n is some empty sized = false≢true is
  empty_not_sized (Some file) n is some empty sized = omega (arith, ap length empty, sized)

  one_size : (told : Option (List ℕ)) (n m : ℕ) → IsSome told → IfTold told (λ file. length file ≡ n) → IfTold told (λ file. length file ≡ m) → n ≡ m
  one_size None n m is one other = absurd (false≢true is)
  one_size (Some file) n m is one other = sym one ∙ other

  untold : (told : Option (List ℕ)) → IsSome told → IfTold told (λ file. ⊥) → ⊥
  untold None is never = false≢true is
  untold (Some file) is never = never

  empty_not_at : (n : ℕ) → 0 < n → (was now : Option V) → IsEmptyFile shelf was → HasBytes shelf n was now → ⊥
  empty_not_at n some (Some old) now empty has = empty_not_sized (shelf.seen old) n (tells.1 old) some empty has.0
  empty_not_at n some None (Some new) empty has = untold (shelf.seen new) (tells.1 new) has
  empty_not_at n some None None empty has = has

  one_at : (n m : ℕ) (was now then : Option V) → HasBytes shelf n was now → HasBytes shelf m was then → n ≡ m
  one_at n m (Some old) now then one other = one_size (shelf.seen old) n m (tells.1 old) one.0 other.0
  one_at n m None (Some new) then one other = absurd (untold (shelf.seen new) (tells.1 new) one)
  one_at n m None None then one other = absurd one

  -- what was done and what was refused, of all that is held
  made_not_refused : (n : ℕ) → 0 < n → (was now then : Option (ByPath V)) → IsSome was
      → WhereHeld (λ old new. IsEmptyFile shelf (old path) × IsNewLog shelf (new path)) was now
      → WhereHeld (λ old new. HasBytes shelf n (old path) (new path)) was then → ⊥
  made_not_refused n some None now then is one other = false≢true is
  made_not_refused n some (Some was) None then is one other = one
  made_not_refused n some (Some was) (Some now) None is one other = other
  made_not_refused n some (Some was) (Some now) (Some then) is one other = empty_not_at n some (was path) (then path) one.0 other

  refused_once : (n m : ℕ) (was now then : Option (ByPath V)) → IsSome was
      → WhereHeld (λ old new. HasBytes shelf n (old path) (new path)) was now
      → WhereHeld (λ old new. HasBytes shelf m (old path) (new path)) was then → n ≡ m
  refused_once n m None now then is one other = absurd (false≢true is)
  refused_once n m (Some was) None then is one other = absurd one
  refused_once n m (Some was) (Some now) None is one other = absurd other
  refused_once n m (Some was) (Some now) (Some then) is one other = one_at n m (was path) (now path) (then path) one other

  of_made : (other : Status) → IsDetermined other → ComesOfFile path shelf Done → ComesOfFile path too other → Done ≡ other
  unfolding too
  of_made Done e p q = refl
  of_made (NotEmpty n) e p q = absurd (made_not_refused n q.0 shelf.held shelf.held_after held_after tells.0 p.1 q.2)
  of_made DiskFault e p q = absurd e
  of_made Memory e p q = absurd e
  of_made Usage e p q = absurd q
  of_made (ScriptError f) e p q = absurd q
  of_made ReadFault e p q = absurd e
  of_made (NotALog at) e p q = absurd q
  of_made WriteFault e p q = absurd e

  of_refused : (n : ℕ) (other : Status) → IsDetermined other → ComesOfFile path shelf (NotEmpty n) → ComesOfFile path too other → NotEmpty n ≡ other
  unfolding too
  of_refused n Done e p q = absurd (made_not_refused n p.0 shelf.held held_after shelf.held_after tells.0 q.1 p.2)
  of_refused n (NotEmpty m) e p q = ap NotEmpty (refused_once n m shelf.held shelf.held_after held_after tells.0 p.2 q.2)
  of_refused n DiskFault e p q = absurd e
  of_refused n Memory e p q = absurd e
  of_refused n Usage e p q = absurd q
  of_refused n (ScriptError f) e p q = absurd q
  of_refused n ReadFault e p q = absurd e
  of_refused n (NotALog at) e p q = absurd q
  of_refused n WriteFault e p q = absurd e

  one_of_file : (one other : Status) → IsDetermined one → IsDetermined other → ComesOfFile path shelf one
      → ComesOfFile path too other → one ≡ other
  one_of_file Done other d e p q = of_made other e p q
  one_of_file (NotEmpty n) other d e p q = of_refused n other e p q
  one_of_file DiskFault other d e p q = absurd d
  one_of_file Memory other d e p q = absurd d
  one_of_file Usage other d e p q = absurd p
  one_of_file (ScriptError f) other d e p q = absurd p
  one_of_file ReadFault other d e p q = absurd d
  one_of_file (NotALog at) other d e p q = absurd p
  one_of_file WriteFault other d e p q = absurd d

-- of a log that a script is run over, whatever became of it
module _ {V : Type 0} (shelf : Shelving V) (path : List ℕ) (tells : TellsFiles shelf) (held_after : Option (ByPath V)) (faults_after : ℕ) where
  run_too : Shelving V
  run_too = record shelf { held_after = held_after; faults_after = faults_after }

  abbrev Tells : Option V → (List ℕ → Type 0) → Type 0
  Tells held P = (disk : V) × IsTaken shelf held disk × IfTold (shelf.seen disk) P

  -- what two disks tell that are held under one path, or that are empty
  both_told : (P Q : List ℕ → Type 0) (X : Type 0) (told : Option (List ℕ)) → IsSome told → IfTold told P → IfTold told Q → ((file : List ℕ) → P file → Q file → X) → X
  both_told P Q X None is p q both = absurd (false≢true is)
  both_told P Q X (Some file) is p q both = both file p q

  empty_told : (P : List ℕ → Type 0) (told : Option (List ℕ)) → IsSome told → IfTold told (λ file. file ≡ []) → IfTold told P → P []
  empty_told P None is empty p = absurd (false≢true is)
  empty_told P (Some file) is empty p = subst P empty p

  of_both : (P Q : List ℕ → Type 0) (X : Type 0) (held : Option V) → Tells held P → Tells held Q → ((file : List ℕ) → P file → Q file → X) → X
  of_both P Q X (Some was) one other both =
      both_told P Q X (shelf.seen was) (tells.1 was)
      (subst (λ (d : V). IfTold (shelf.seen d) P) one.1 one.2) (subst (λ (d : V). IfTold (shelf.seen d) Q) other.1 other.2) both
  of_both P Q X None one other both =
      both [] (empty_told P (shelf.seen one.0) (tells.1 one.0) one.1.0 one.2) (empty_told Q (shelf.seen other.0) (tells.1 other.0) other.1.0 other.2)

  not_refused : (at : ℕ) (start : Database) (file : List ℕ) → OpensTo file start → RefusedAt first_state StepsTo file at → ⊥
  not_refused at start file opens refused =
      let none : Some opens.0 ≡ None = refused_is_refused first_state StepsTo one_step file at (Some opens.0) refused opens.1 in
      cc

  of_where : (P Q : Option V → Option V → Type 0) (X : Type 0) (was now then : Option (ByPath V)) → IsSome was → WhereHeld (λ old new. P (old path) (new path)) was now
      → WhereHeld (λ old new. Q (old path) (new path)) was then → ((held one other : Option V) → P held one → Q held other → X) → X
  of_where P Q X None now then is one other both = absurd (false≢true is)
  of_where P Q X (Some was) None then is one other both = absurd one
  of_where P Q X (Some was) (Some now) None is one other both = absurd other
  of_where P Q X (Some was) (Some now) (Some then) is one other both = both (was path) (now path) (then path) one other

  ran_not_refused : (at : ℕ) (start : Database) (now then : Option (ByPath V)) → WhereHeld (λ old new. IsLogOf shelf start (old path)) shelf.held now
      → WhereHeld (λ old new. IsRefusedLog shelf at (old path) (new path)) shelf.held then → ⊥
  ran_not_refused at start now then opens refused =
      of_where (λ held new. IsLogOf shelf start held) (IsRefusedLog shelf at) ⊥ shelf.held now then tells.0 opens refused
      (λ held one other opened refuses.
      of_both (λ file. OpensTo file start) (λ file. RefusedAt first_state StepsTo file at) ⊥ held (opened.0, opened.1, opened.2) (refuses.0, refuses.1, refuses.2) (not_refused at start))

  refused_at_one : (at other : ℕ) (now then : Option (ByPath V)) → WhereHeld (λ old new. IsRefusedLog shelf at (old path) (new path)) shelf.held now
      → WhereHeld (λ old new. IsRefusedLog shelf other (old path) (new path)) shelf.held then → at ≡ other
  refused_at_one at other now then one two =
      of_where (IsRefusedLog shelf at) (IsRefusedLog shelf other) (at ≡ other) shelf.held now then tells.0 one two
      (λ held here there refuses again.
      of_both (λ file. RefusedAt first_state StepsTo file at) (λ file. RefusedAt first_state StepsTo file other) (at ≡ other) held
      (refuses.0, refuses.1, refuses.2) (again.0, again.1, again.2) (λ file p q. one_refusal first_state StepsTo one_step file at other p q))

  module _ (input : Stream) (bytes : List ℕ) where
    ran : (other : Status) → IsDetermined other → ComesOfRun path input bytes shelf Done → ComesOfRun path input bytes run_too other → Done ≡ other
    unfolding run_too
    ran Done e p q = refl
    ran (ScriptError g) e p q = absurd (fault_not_script input bytes g q.0.1 p.0.1)
    ran (NotALog other) e p q = absurd (ran_not_refused other p.1.1.0 shelf.held_after held_after p.1.1.1 q.1.1)
    ran ReadFault e p q = absurd e
    ran DiskFault e p q = absurd e
    ran Memory e p q = absurd e
    ran Usage e p q = absurd q.1
    ran WriteFault e p q = absurd q.1
    ran (NotEmpty n) e p q = absurd q.1

    refused_log : (at : ℕ) (other : Status) → IsDetermined other → ComesOfRun path input bytes shelf (NotALog at) → ComesOfRun path input bytes run_too other → NotALog at ≡ other
    unfolding run_too
    refused_log at Done e p q = absurd (ran_not_refused at q.1.1.0 held_after shelf.held_after q.1.1.1 p.1.1)
    refused_log at (ScriptError g) e p q = absurd (fault_not_script input bytes g q.0.1 p.0.1)
    refused_log at (NotALog other) e p q = ap NotALog (refused_at_one at other shelf.held_after held_after p.1.1 q.1.1)
    refused_log at ReadFault e p q = absurd e
    refused_log at DiskFault e p q = absurd e
    refused_log at Memory e p q = absurd e
    refused_log at Usage e p q = absurd q.1
    refused_log at WriteFault e p q = absurd q.1
    refused_log at (NotEmpty n) e p q = absurd q.1

    faulty : (f : ScriptFault) (other : Status) → IsDetermined other → ComesOfRun path input bytes shelf (ScriptError f) → ComesOfRun path input bytes run_too other → ScriptError f ≡ other
    unfolding run_too
    faulty f Done e p q = absurd (fault_not_script input bytes f p.0.1 q.0.1)
    faulty f (ScriptError g) e p q = ap ScriptError (one_fault bytes f g p.0.1 q.0.1)
    faulty f (NotALog other) e p q = absurd (fault_not_script input bytes f p.0.1 q.0.1)
    faulty f ReadFault e p q = absurd e
    faulty f DiskFault e p q = absurd e
    faulty f Memory e p q = absurd e
    faulty f Usage e p q = absurd q.1
    faulty f WriteFault e p q = absurd q.1
    faulty f (NotEmpty n) e p q = absurd q.1

    one_of_run : (one other : Status) → IsDetermined one → IsDetermined other → ComesOfRun path input bytes shelf one → ComesOfRun path input bytes run_too other → one ≡ other
    one_of_run Done other d e p q = ran other e p q
    one_of_run (NotALog at) other d e p q = refused_log at other e p q
    one_of_run (ScriptError f) other d e p q = faulty f other e p q
    one_of_run ReadFault other d e p q = absurd d
    one_of_run DiskFault other d e p q = absurd d
    one_of_run Memory other d e p q = absurd d
    one_of_run Usage other d e p q = absurd p.1
    one_of_run WriteFault other d e p q = absurd p.1
    one_of_run (NotEmpty n) other d e p q = absurd p.1

-- the demonstration makes a log where it could be made, and else is refused
one_of_demonstration : {V : Type 0} (path : List ℕ) (shelf : Shelving V) (held_after : Option (ByPath V)) (faults_after : ℕ) (one other : Status) → TellsFiles shelf
    → IsDetermined one → IsDetermined other → ComesOfDemonstration path shelf one
    → ComesOfDemonstration path (record shelf { held_after = held_after; faults_after = faults_after }) other → one ≡ other
unfolding too
one_of_demonstration path shelf held_after faults_after Done Done tells d e p q = refl
one_of_demonstration path shelf held_after faults_after Done (NotEmpty n) tells d e p q =
    one_of_file (record shelf { held_after = p.0; faults_after = p.1 }) path tells held_after faults_after Done (NotEmpty n) d e p.2 q
one_of_demonstration path shelf held_after faults_after (NotEmpty n) Done tells d e p q =
    one_of_file shelf path tells q.0 q.1 (NotEmpty n) Done d e p q.2
one_of_demonstration path shelf held_after faults_after (NotEmpty n) (NotEmpty m) tells d e p q =
    one_of_file shelf path tells held_after faults_after (NotEmpty n) (NotEmpty m) d e p q
one_of_demonstration path shelf held_after faults_after Done Usage tells d e p q = absurd q
one_of_demonstration path shelf held_after faults_after Done (ScriptError f) tells d e p q = absurd q
one_of_demonstration path shelf held_after faults_after Done (NotALog at) tells d e p q = absurd q
one_of_demonstration path shelf held_after faults_after Done ReadFault tells d e p q = absurd e
one_of_demonstration path shelf held_after faults_after Done WriteFault tells d e p q = absurd e
one_of_demonstration path shelf held_after faults_after Done DiskFault tells d e p q = absurd e
one_of_demonstration path shelf held_after faults_after Done Memory tells d e p q = absurd e
one_of_demonstration path shelf held_after faults_after (NotEmpty n) Usage tells d e p q = absurd q
one_of_demonstration path shelf held_after faults_after (NotEmpty n) (ScriptError f) tells d e p q = absurd q
one_of_demonstration path shelf held_after faults_after (NotEmpty n) (NotALog at) tells d e p q = absurd q
one_of_demonstration path shelf held_after faults_after (NotEmpty n) ReadFault tells d e p q = absurd e
one_of_demonstration path shelf held_after faults_after (NotEmpty n) WriteFault tells d e p q = absurd e
one_of_demonstration path shelf held_after faults_after (NotEmpty n) DiskFault tells d e p q = absurd e
one_of_demonstration path shelf held_after faults_after (NotEmpty n) Memory tells d e p q = absurd e
one_of_demonstration path shelf held_after faults_after Usage other tells d e p q = absurd p
one_of_demonstration path shelf held_after faults_after (ScriptError f) other tells d e p q = absurd p
one_of_demonstration path shelf held_after faults_after (NotALog at) other tells d e p q = absurd p
one_of_demonstration path shelf held_after faults_after ReadFault other tells d e p q = absurd d
one_of_demonstration path shelf held_after faults_after WriteFault other tells d e p q = absurd d
one_of_demonstration path shelf held_after faults_after DiskFault other tells d e p q = absurd d
one_of_demonstration path shelf held_after faults_after Memory other tells d e p q = absurd d

pub one_status : {V : Type 0} (asks : Option Asked) (input : Stream) (bytes : List ℕ) (shelf : Shelving V) (held_after : Option (ByPath V))
    (faults_after : ℕ) (one other : Status) → TellsFiles shelf → IsDetermined one → IsDetermined other → Comes asks input bytes shelf one
    → Comes asks input bytes (record shelf { held_after = held_after; faults_after = faults_after }) other → one ≡ other
unfolding too run_too
one_status None input bytes shelf held_after faults_after one other tells d e p q = one_of_words one other d e p.1 q.1
one_status (Some trying) input bytes shelf held_after faults_after one other tells d e p q = one_of_input input bytes one other d e p q
one_status (Some (creating path)) input bytes shelf held_after faults_after one other tells d e p q =
    one_of_file shelf path tells held_after faults_after one other d e p.1 q.1
one_status (Some (running path options)) input bytes shelf held_after faults_after one other tells d e p q =
    one_of_run shelf path tells held_after faults_after input bytes one other d e p q
one_status (Some (demonstrating count path)) input bytes shelf held_after faults_after one other tells d e p q =
    one_of_demonstration path shelf held_after faults_after one other tells d e p.1 q.1
