-- The laws of a disk, for a tape.
use Rattle.std.proofs.Common.{◌≡◌, ⊎_elim, ℕ, ◌+◌, ◌-◌, ◌<◌, ◌≤◌, min, Bool, true, false, if◌then◌else◌, Some, List, [], ◌∷◌, ◌++◌, length, take, drop, get_or, refl, sym, ◌∙◌, ap, subst, arith, length-append}
use Rattle.std.proofs.lemmas.List.{length-take, length-drop, get_or-take, get_or-drop, get_or_append_left, get_or-append_right, take_all}
use Rattle.std.proofs.lemmas.Option.{same_Some}
use Rattle.bf_disk.specs.Images.{overwritten, Torn, CutShort}
use Rattle.bf_disk.specs.Tape.{Tape, file_of, file_after, file_after_all, file_after_act, left_after, left_after_all, MayLeave, LeftSince, at_call}
use Rattle.bf_disk.specs.declared.call.Act.{Act}
use Rattle.bf_disk.specs.declared.call.Act.TheVariants.{Look, Write, Cut, Sync}
use Rattle.bf_disk.specs.declared.call.Call.{Call}

length-overwritten : (file : List ℕ) (at : ℕ) (bytes : List ℕ)
    → length (overwritten file at bytes) ≡ min at (length file) + length bytes + (length file - (at + length bytes))
length-overwritten file at bytes = simp (length-append, length-take, length-drop)

-- before a range and behind it, what stands in the range changes nothing
pub before_range : {A : Type 0} (file : List A) (at n : ℕ) (bytes : List A) (d : A) (i : ℕ) → i < length file → i < at
    → get_or (take at file ++ bytes ++ drop (at + n) file) i d ≡ get_or file i d
before_range file at n bytes d i below before =
    let front : i < length (take at file) = omega (arith, length-take at file) in
    let both : i < length (take at file ++ bytes) = omega (arith, length-append (take at file) bytes) in
    get_or_append_left (take at file ++ bytes) (drop (at + n) file) d i both
    ∙ get_or_append_left (take at file) bytes d i front ∙ get_or-take at file i d before

pub behind_range : {A : Type 0} (file : List A) (at n : ℕ) (bytes : List A) (d : A) (i : ℕ) → length bytes ≡ n → i < length file → at + n ≤ i
    → get_or (take at file ++ bytes ++ drop (at + n) file) i d ≡ get_or file i d
behind_range file at n bytes d i size below behind =
    let front : length (take at file ++ bytes) ≡ at + n = omega (arith, length-append (take at file) bytes, length-take at file) in
    let same : at + n + (i - (at + n)) ≡ i = omega arith in
    get_or-append_right (take at file ++ bytes) (drop (at + n) file) (at + n) i d front behind
    ∙ get_or-drop (at + n) file (i - (at + n)) d ∙ ap (λ (k : ℕ). get_or file k d) same

-- a write that is done is one of those that a crash may leave, and so is one that is lost
pub torn_done : (at : ℕ) (bytes file : List ℕ) → Torn at (length bytes) file (overwritten file at bytes)
torn_done at bytes file = record {
  no_shorter = omega (arith, length-overwritten file at bytes);
  no_longer = omega (arith, length-overwritten file at bytes);
  stays = λ i below outside. ⊎_elim (before_range file at (length bytes) bytes 0 i below) (behind_range file at (length bytes) bytes 0 i refl below) outside;
}

pub torn_lost : (at n : ℕ) (file : List ℕ) → Torn at n file file
torn_lost at n file = record { no_shorter = omega arith; no_longer = omega arith; stays = λ i below outside. refl }

pub cut_done : (n : ℕ) (file : List ℕ) → CutShort n file (take n file)
cut_done n file = record {
  no_shorter = omega (arith, length-take n file);
  no_longer = omega (arith, length-take n file);
  stays = λ i below kept. let before : i < n = omega (arith, length-take n file) in get_or-take n file i 0 before;
}

pub cut_lost : (n : ℕ) (file : List ℕ) → CutShort n file file
cut_lost n file = record { no_shorter = omega arith; no_longer = omega arith; stays = λ i below both. refl }

left_by_act : (failed : Bool) (act : Act) (file : List ℕ) (images : List ℕ → Type 0) → images file
    → left_after failed act file images (if failed then file else file_after_act file act)
left_by_act true Look file images now = now
left_by_act false Look file images now = now
left_by_act true (Write at bytes) file images now = (file, now, torn_lost at (length bytes) file)
left_by_act false (Write at bytes) file images now = (file, now, torn_done at bytes file)
left_by_act true (Cut n) file images now = (file, now, cut_lost n file)
left_by_act false (Cut n) file images now = (file, now, cut_done n file)
left_by_act true Sync file images now = now
left_by_act false Sync file images now = refl

left_by_calls : (file : List ℕ) (images : List ℕ → Type 0) (calls : List Call) → images file
    → left_after_all file images calls (file_after_all file calls)
left_by_calls file images [] now = now
left_by_calls file images (call ∷ calls) now =
    left_by_calls (file_after file call) (left_after call.failed call.act file images) calls (left_by_act call.failed call.act file images now)

pub reads_now : (tape : Tape) → MayLeave tape (file_of tape)
reads_now tape = left_by_calls tape.start (λ old. old ≡ tape.start) tape.calls refl

pub as_it_reads : (tape : Tape) (file : List ℕ) → Some (file_of tape) ≡ Some file → MayLeave tape file
as_it_reads tape file told = subst (λ (image : List ℕ). MayLeave tape image) (same_Some (file_of tape) file told) (reads_now tape)

-- after all of its calls a tape is as it is
pub at_all : (tape : Tape) (count : ℕ) → length tape.calls ≤ count → at_call tape count ≡ tape
at_all tape count all = ap (λ (calls : List Call). let now : Tape = record tape { calls = calls } in now) (take_all count tape.calls all)

pub counts_now : (tape : Tape) (t : ℕ) (image : List ℕ) → t ≤ length tape.calls → MayLeave tape image → LeftSince tape t image
counts_now tape t image le left =
    let now : at_call tape (length tape.calls) ≡ tape = at_all tape (length tape.calls) (omega arith) in
    (length tape.calls, le, omega arith, subst (λ (at : Tape). MayLeave at image) (sym now) left)

pub earlier : (tape : Tape) (t u : ℕ) (image : List ℕ) → t ≤ u → LeftSince tape u image → LeftSince tape t image
earlier tape t u image le left = (left.0, omega (arith, left.1), left.2, left.3)

pub only_now : (tape : Tape) (image : List ℕ) → LeftSince tape (length tape.calls) image → MayLeave tape image
only_now tape image left = subst (λ (at : Tape). MayLeave at image) (at_all tape left.0 left.1) left.3
