-- What one more call does to a tape.
use Rattle.std.proofs.Common.{◌≡◌, inl, inr, ⊎_elim, ℕ, ◌+◌, ◌<◌, ◌≤◌, Bool, true, false, if◌then◌else◌, cond, Result, Ok, Err, List, [], ◌∷◌, ◌++◌, length, take, refl, sym, ◌∙◌, ap, subst, arith}
use Rattle.std.specs.Prelude.{OnOk}
use Rattle.std.proofs.lemmas.Bool.{cases_lt}
use Rattle.std.proofs.lemmas.List.{take-append-le, length_push}
use Rattle.std.proofs.lemmas.List.Sums.{sum_by-append}
use Rattle.bf_disk.specs.Answers.{CountsFault, IfTried, OnFault}
use Rattle.bf_disk.specs.Images.{overwritten, Torn, CutShort, Becomes, SameImages, Only, Elapses}
use Rattle.bf_disk.specs.Tape.{Tape, Keeps, next_fails, after_act, file_of, file_after, file_after_all, file_after_act, left_after, left_after_all, MayLeave, LeftSince, at_call, faults_of}
use Rattle.bf_disk.specs.declared.error.DiskError.{DiskError}
use Rattle.bf_disk.specs.declared.error.DiskError.TheVariants.{Fault, Memory}
use Rattle.bf_disk.specs.declared.call.Act.{Act}
use Rattle.bf_disk.specs.declared.call.Act.TheVariants.{Look, Write, Cut, Sync}
use Rattle.bf_disk.specs.declared.call.Call.{Call}
use Rattle.bf_disk.specs.TapeLaws.{torn_lost, cut_lost, reads_now, at_all}

-- with one more call, of which it is known whether it failed
abbrev pub after : Bool → Tape → Act → Tape
after failed tape act = record tape { calls = tape.calls ++ record { act = act; failed = failed } ∷ [] }

pub file_pushed : (file : List ℕ) (calls : List Call) (call : Call) → file_after_all file (calls ++ call ∷ []) ≡ file_after (file_after_all file calls) call
file_pushed file [] call = refl
file_pushed file (first ∷ calls) call = file_pushed (file_after file first) calls call

-- the calls with one more, of which it is known whether it failed
failed_call : (file : List ℕ) (failed : Bool) (act : Act) → failed ≡ true → file_after file (record { act = act; failed = failed }) ≡ file
failed_call file true act is = refl
failed_call file false act is = cc

done_call : (file : List ℕ) (failed : Bool) (act : Act) → failed ≡ false → file_after file (record { act = act; failed = failed }) ≡ file_after_act file act
done_call file true act is = cc
done_call file false act is = refl

pub replayed_failed : (file : List ℕ) (old new : List Call) (act : Act) (failed : Bool) → new ≡ old ++ record { act = act; failed = failed } ∷ [] → failed ≡ true
    → file_after_all file new ≡ file_after_all file old
replayed_failed file old new act failed more is =
    ap (file_after_all file) more ∙ file_pushed file old (record { act = act; failed = failed }) ∙ failed_call (file_after_all file old) failed act is

pub replayed_done : (file : List ℕ) (old new : List Call) (act : Act) (failed : Bool) → new ≡ old ++ record { act = act; failed = failed } ∷ [] → failed ≡ false
    → file_after_all file new ≡ file_after_act (file_after_all file old) act
replayed_done file old new act failed more is =
    ap (file_after_all file) more ∙ file_pushed file old (record { act = act; failed = failed }) ∙ done_call (file_after_all file old) failed act is

pub replayed_then : (start before after : List ℕ) (old new : List Call) (call : Call) → file_after_all start old ≡ before → new ≡ old ++ call ∷ []
    → after ≡ file_after before call → file_after_all start new ≡ after
replayed_then start before after old new call was more is =
    ap (file_after_all start) more ∙ file_pushed start old call ∙ ap (λ (file : List ℕ). file_after file call) was ∙ sym is

left_pushed : (file : List ℕ) (images : List ℕ → Type 0) (calls : List Call) (call : Call) (image : List ℕ)
    → left_after_all file images (calls ++ call ∷ []) image
    → left_after call.failed call.act (file_after_all file calls) (left_after_all file images calls) image
left_pushed file images [] call image left = left
left_pushed file images (first ∷ calls) call image left =
    left_pushed (file_after file first) (left_after first.failed first.act file images) calls call image left

pushed_left : (file : List ℕ) (images : List ℕ → Type 0) (calls : List Call) (call : Call) (image : List ℕ)
    → left_after call.failed call.act (file_after_all file calls) (left_after_all file images calls) image
    → left_after_all file images (calls ++ call ∷ []) image
pushed_left file images [] call image left = left
pushed_left file images (first ∷ calls) call image left =
    pushed_left (file_after file first) (left_after first.failed first.act file images) calls call image left

pub file_then : (failed : Bool) (tape : Tape) (act : Act) → file_of (after failed tape act) ≡ (if failed then file_of tape else file_after_act (file_of tape) act)
file_then failed tape act = file_pushed tape.start tape.calls (record { act = act; failed = failed })

left_then : (failed : Bool) (tape : Tape) (act : Act) (image : List ℕ) → MayLeave (after failed tape act) image → left_after failed act (file_of tape) (MayLeave tape) image
left_then failed tape act image left = left_pushed tape.start (λ old. old ≡ tape.start) tape.calls (record { act = act; failed = failed }) image left

then_left : (failed : Bool) (tape : Tape) (act : Act) (image : List ℕ) → left_after failed act (file_of tape) (MayLeave tape) image → MayLeave (after failed tape act) image
then_left failed tape act image left = pushed_left tape.start (λ old. old ≡ tape.start) tape.calls (record { act = act; failed = failed }) image left

-- the images after each act
look_images : (failed : Bool) (tape : Tape) → SameImages (MayLeave tape) (MayLeave (after failed tape Look))
look_images true tape = record { nothing_else = left_then true tape Look; all = then_left true tape Look }
look_images false tape = record { nothing_else = left_then false tape Look; all = then_left false tape Look }

write_images : (failed : Bool) (tape : Tape) (at : ℕ) (bytes : List ℕ) → Becomes (Torn at (length bytes)) (MayLeave tape) (MayLeave (after failed tape (Write at bytes)))
write_images true tape at bytes = record {
  nothing_else = left_then true tape (Write at bytes);
  all = λ old image before step. then_left true tape (Write at bytes) image (old, before, step);
}
write_images false tape at bytes = record {
  nothing_else = left_then false tape (Write at bytes);
  all = λ old image before step. then_left false tape (Write at bytes) image (old, before, step);
}

cut_images : (failed : Bool) (tape : Tape) (len : ℕ) → Becomes (CutShort len) (MayLeave tape) (MayLeave (after failed tape (Cut len)))
cut_images true tape len = record {
  nothing_else = left_then true tape (Cut len);
  all = λ old image before step. then_left true tape (Cut len) image (old, before, step);
}
cut_images false tape len = record {
  nothing_else = left_then false tape (Cut len);
  all = λ old image before step. then_left false tape (Cut len) image (old, before, step);
}

sync_fails : (tape : Tape) → SameImages (MayLeave tape) (MayLeave (after true tape Sync))
sync_fails tape = record { nothing_else = left_then true tape Sync; all = then_left true tape Sync }

synced : (tape : Tape) → Only (file_of tape) (MayLeave (after false tape Sync))
synced tape image left = left_then false tape Sync image left

-- time
stands_still : (tape : Tape) → Elapses (length tape.calls) (length tape.calls) (LeftSince tape) (LeftSince tape) (MayLeave tape)
stands_still tape = record { later = omega arith; nothing_else = λ t image le left. inl left; all = λ t image le left. left }

-- the moments up to a call are those of the tape before it
earlier : (failed : Bool) (tape : Tape) (act : Act) (count : ℕ) → count ≤ length tape.calls → at_call (after failed tape act) count ≡ at_call tape count
earlier failed tape act count le =
    ap (λ (calls : List Call). let moment : Tape = record tape { calls = calls } in moment) (take-append-le count tape.calls (record { act = act; failed = failed } ∷ []) le)

elapses : (failed : Bool) (tape : Tape) (act : Act)
    → Elapses (length tape.calls) (length (after failed tape act).calls) (LeftSince tape) (LeftSince (after failed tape act)) (MayLeave (after failed tape act))
elapses failed tape act = record {
  later = omega (arith, size);
  nothing_else = λ t image le left. ⊎_elim
      (λ (past : length tape.calls < left.0). inr (subst (λ (moment : Tape). MayLeave moment image) (at_all (after failed tape act) left.0 (omega (arith, size, past))) left.3))
      (λ (before : left.0 ≤ length tape.calls). inl (left.0, left.1, before, subst (λ (moment : Tape). MayLeave moment image) (earlier failed tape act left.0 before) left.3))
      (cases_lt (length tape.calls) left.0);
  all = λ t image le left. (left.0, left.1, omega (arith, size, left.2), subst (λ (moment : Tape). MayLeave moment image) (sym (earlier failed tape act left.0 left.2)) left.3);
}
  where
    size : length (after failed tape act).calls ≡ length tape.calls + 1
    size = length_push tape.calls (record { act = act; failed = failed })

-- faults
counted : (failed : Bool) (tape : Tape) (act : Act) → faults_of (after failed tape act) ≡ faults_of tape + (if failed then 1 else 0)
counted true tape act = omega (arith, sum_by-append (λ (call : Call). cond call.failed 1 0) tape.calls (record { act = act; failed = true } ∷ []))
counted false tape act = omega (arith, sum_by-append (λ (call : Call). cond call.failed 1 0) tape.calls (record { act = act; failed = false } ∷ []))

-- what an answer says of the tape
done : (act : Act) (old new : Tape) → (next_fails old ≡ false) × (new ≡ after_act old act) → new ≡ after false old act
done act old new kept = kept.1 ∙ ap (λ (failed : Bool). after failed old act) kept.0

faulted : (act : Act) (old new : Tape) → (next_fails old ≡ true) × (new ≡ after_act old act) → new ≡ after true old act
faulted act old new kept = kept.1 ∙ ap (λ (failed : Bool). after failed old act) kept.0

module _ {T : Type 0} (act : Act) (old new : Tape) where
  pub kept_memory : (result : Result T DiskError) → Keeps act old new result → result ≡ Err Memory → new ≡ old
  kept_memory (Ok value) kept is = cc
  kept_memory (Err Fault) kept is = cc
  kept_memory (Err Memory) kept is = kept

  pub kept_time : (result : Result T DiskError) → Keeps act old new result
      → Elapses (length old.calls) (length new.calls) (LeftSince old) (LeftSince new) (MayLeave new)
  kept_time (Ok value) kept =
      subst (λ (tape : Tape). Elapses (length old.calls) (length tape.calls) (LeftSince old) (LeftSince tape) (MayLeave tape)) (sym (done act old new kept)) (elapses false old act)
  kept_time (Err Fault) kept =
      subst (λ (tape : Tape). Elapses (length old.calls) (length tape.calls) (LeftSince old) (LeftSince tape) (MayLeave tape)) (sym (faulted act old new kept)) (elapses true old act)
  kept_time (Err Memory) kept =
      subst (λ (tape : Tape). Elapses (length old.calls) (length tape.calls) (LeftSince old) (LeftSince tape) (MayLeave tape)) (sym kept) (stands_still old)

  pub kept_faults : (result : Result T DiskError) → Keeps act old new result → CountsFault result (faults_of old) (faults_of new)
  kept_faults (Ok value) kept = omega (arith, ap faults_of (done act old new kept), counted false old act)
  kept_faults (Err Fault) kept =
      let more : faults_of new ≡ faults_of old + 1 = ap faults_of (faulted act old new kept) ∙ counted true old act in
      (omega arith, omega arith)
  kept_faults (Err Memory) kept = ap faults_of kept

-- a look leaves the file and the images
pub look_seen : {T : Type 0} (old new : Tape) (result : Result T DiskError) → Keeps Look old new result → file_of new ≡ file_of old
look_seen old new (Ok value) kept = ap file_of (done Look old new kept) ∙ file_then false old Look
look_seen old new (Err Fault) kept = ap file_of (faulted Look old new kept) ∙ file_then true old Look
look_seen old new (Err Memory) kept = ap file_of kept

pub look_left : {T : Type 0} (old new : Tape) (result : Result T DiskError) → Keeps Look old new result → SameImages (MayLeave old) (MayLeave new)
look_left old new (Ok value) kept = subst (λ (tape : Tape). SameImages (MayLeave old) (MayLeave tape)) (sym (done Look old new kept)) (look_images false old)
look_left old new (Err Fault) kept = subst (λ (tape : Tape). SameImages (MayLeave old) (MayLeave tape)) (sym (faulted Look old new kept)) (look_images true old)
look_left old new (Err Memory) kept = subst (λ (tape : Tape). SameImages (MayLeave old) (MayLeave tape)) (sym kept) (record { nothing_else = λ image left. left; all = λ image left. left })

module _ (old new : Tape) (at : ℕ) (bytes : List ℕ) where
  pub write_done : (result : Result (Unit {0}) DiskError) → Keeps (Write at bytes) old new result → OnOk result (file_of new ≡ overwritten (file_of old) at bytes)
  write_done (Ok value) kept = ap file_of (done (Write at bytes) old new kept) ∙ file_then false old (Write at bytes)
  write_done (Err error) kept = tt

  pub write_lost : (result : Result (Unit {0}) DiskError) → Keeps (Write at bytes) old new result → OnFault result (Torn at (length bytes) (file_of old) (file_of new))
  write_lost (Ok value) kept = tt
  write_lost (Err Fault) kept =
      subst (λ (file : List ℕ). Torn at (length bytes) (file_of old) file) (sym (ap file_of (faulted (Write at bytes) old new kept) ∙ file_then true old (Write at bytes))) (torn_lost at (length bytes) (file_of old))
  write_lost (Err Memory) kept = tt

  pub write_left : (result : Result (Unit {0}) DiskError) → Keeps (Write at bytes) old new result → IfTried result (Becomes (Torn at (length bytes)) (MayLeave old) (MayLeave new))
  write_left (Ok value) kept = subst (λ (tape : Tape). Becomes (Torn at (length bytes)) (MayLeave old) (MayLeave tape)) (sym (done (Write at bytes) old new kept)) (write_images false old at bytes)
  write_left (Err Fault) kept = subst (λ (tape : Tape). Becomes (Torn at (length bytes)) (MayLeave old) (MayLeave tape)) (sym (faulted (Write at bytes) old new kept)) (write_images true old at bytes)
  write_left (Err Memory) kept = tt

module _ (old new : Tape) (len : ℕ) where
  pub cut_made : (result : Result (Unit {0}) DiskError) → Keeps (Cut len) old new result → OnOk result (file_of new ≡ take len (file_of old))
  cut_made (Ok value) kept = ap file_of (done (Cut len) old new kept) ∙ file_then false old (Cut len)
  cut_made (Err error) kept = tt

  pub cut_failed : (result : Result (Unit {0}) DiskError) → Keeps (Cut len) old new result → OnFault result (CutShort len (file_of old) (file_of new))
  cut_failed (Ok value) kept = tt
  cut_failed (Err Fault) kept =
      subst (λ (file : List ℕ). CutShort len (file_of old) file) (sym (ap file_of (faulted (Cut len) old new kept) ∙ file_then true old (Cut len))) (cut_lost len (file_of old))
  cut_failed (Err Memory) kept = tt

  pub cut_left : (result : Result (Unit {0}) DiskError) → Keeps (Cut len) old new result → IfTried result (Becomes (CutShort len) (MayLeave old) (MayLeave new))
  cut_left (Ok value) kept = subst (λ (tape : Tape). Becomes (CutShort len) (MayLeave old) (MayLeave tape)) (sym (done (Cut len) old new kept)) (cut_images false old len)
  cut_left (Err Fault) kept = subst (λ (tape : Tape). Becomes (CutShort len) (MayLeave old) (MayLeave tape)) (sym (faulted (Cut len) old new kept)) (cut_images true old len)
  cut_left (Err Memory) kept = tt

module _ (old new : Tape) where
  pub sync_seen : (result : Result (Unit {0}) DiskError) → Keeps Sync old new result → file_of new ≡ file_of old
  sync_seen (Ok value) kept = ap file_of (done Sync old new kept) ∙ file_then false old Sync
  sync_seen (Err Fault) kept = ap file_of (faulted Sync old new kept) ∙ file_then true old Sync
  sync_seen (Err Memory) kept = ap file_of kept

  pub sync_durable : (result : Result (Unit {0}) DiskError) → Keeps Sync old new result → OnOk result (Only (file_of old) (MayLeave new))
  sync_durable (Ok value) kept = subst (λ (tape : Tape). Only (file_of old) (MayLeave tape)) (sym (done Sync old new kept)) (synced old)
  sync_durable (Err error) kept = tt

  pub sync_failed : (result : Result (Unit {0}) DiskError) → Keeps Sync old new result → OnFault result (SameImages (MayLeave old) (MayLeave new))
  sync_failed (Ok value) kept = tt
  sync_failed (Err Fault) kept = subst (λ (tape : Tape). SameImages (MayLeave old) (MayLeave tape)) (sym (faulted Sync old new kept)) (sync_fails old)
  sync_failed (Err Memory) kept = tt

  pub sync_nothing_else : (result : Result (Unit {0}) DiskError) → Keeps Sync old new result → (image : List ℕ) → MayLeave new image → MayLeave old image
  sync_nothing_else (Ok value) kept image left = subst (λ (file : List ℕ). MayLeave old file) (sym (sync_durable (Ok value) kept image left)) (reads_now old)
  sync_nothing_else (Err Fault) kept image left = (sync_failed (Err Fault) kept).nothing_else image left
  sync_nothing_else (Err Memory) kept image left = subst (λ (tape : Tape). MayLeave tape image) kept left
