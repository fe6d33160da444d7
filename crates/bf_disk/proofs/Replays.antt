-- What calls do that are made again, one after another.
use Rattle.std.proofs.Common.{◌≡◌, ⊎_elim, ℕ, ◌+◌, ◌-◌, ◌<◌, ◌≤◌, Bool, true, false, not, ◌&&◌, if◌then◌else◌, Option, Some, List, [], ◌∷◌, ◌++◌, length, take, drop, map, get_or, slice_get, refl, sym, ◌∙◌, ap, subst, arith}
use Rattle.std.proofs.lemmas.Bool.{cases_lt}
use Rattle.std.proofs.lemmas.List.{take_more, take-append-drop, length-drop, get_or-drop}
use Rattle.std.proofs.lemmas.Option.{slice_get_within, slice_get_read, get_or_from_slice_get, same_Some}
use Rattle.bf_disk.specs.Replay.{is_sync, is_synced, UpToLastSync}
use Rattle.bf_disk.specs.Tape.{file_after, file_after_all, file_after_act, certain_after, certain_after_all}
use Rattle.bf_disk.specs.declared.call.Act.{Act}
use Rattle.bf_disk.specs.declared.call.Act.TheVariants.{Look, Write, Cut, Sync}
use Rattle.bf_disk.specs.declared.call.Call.{Call}
use Rattle.bf_disk.proofs.TapeSteps.{file_pushed}

-- one more of the calls
taken : (calls : List Call) (n : ℕ) (call : Call) → slice_get calls n ≡ Some call → take (n + 1) calls ≡ take n calls ++ call ∷ []
taken calls n call is =
    take_more calls n call (slice_get_within calls n call is)
    ∙ ap (λ (item : Call). take n calls ++ item ∷ []) (get_or_from_slice_get calls n call call is)

pub file_taken : (file : List ℕ) (calls : List Call) (n : ℕ) (call : Call) → slice_get calls n ≡ Some call
    → file_after_all file (take (n + 1) calls) ≡ file_after (file_after_all file (take n calls)) call
file_taken file calls n call is = ap (file_after_all file) (taken calls n call is) ∙ file_pushed file (take n calls) call

certain_pushed : (file : List ℕ) (certain : List (Option ℕ)) (calls : List Call) (call : Call)
    → certain_after_all file certain (calls ++ call ∷ []) ≡ certain_after call.failed call.act (file_after_all file calls) (certain_after_all file certain calls)
certain_pushed file certain [] call = refl
certain_pushed file certain (first ∷ calls) call = certain_pushed (file_after file first) (certain_after first.failed first.act file certain) calls call

pub certain_taken : (file : List ℕ) (certain : List (Option ℕ)) (calls : List Call) (n : ℕ) (call : Call) → slice_get calls n ≡ Some call
    → certain_after_all file certain (take (n + 1) calls) ≡ certain_after call.failed call.act (file_after_all file (take n calls)) (certain_after_all file certain (take n calls))
certain_taken file certain calls n call is = ap (certain_after_all file certain) (taken calls n call is) ∙ certain_pushed file certain (take n calls) call

-- after a sync that succeeded each byte is certain
synced_act : (failed : Bool) (act : Act) (file : List ℕ) (certain : List (Option ℕ)) → (is_sync act && not failed) ≡ true
    → certain_after failed act file certain ≡ map Some (if failed then file else file_after_act file act)
synced_act true Look file certain is = cc
synced_act false Look file certain is = cc
synced_act true (Write at bytes) file certain is = cc
synced_act false (Write at bytes) file certain is = cc
synced_act true (Cut n) file certain is = cc
synced_act false (Cut n) file certain is = cc
synced_act true Sync file certain is = cc
synced_act false Sync file certain is = refl

pub upto_none : (calls : List Call) → UpToLastSync calls 0 0
upto_none calls = record { within = omega arith; certain = λ start. refl; none_later = λ i call from below is. absurd (omega arith) }

pub upto_sync : (calls : List Call) (n k : ℕ) (call : Call) → slice_get calls n ≡ Some call → is_synced call ≡ true → UpToLastSync calls (n + 1) (n + 1)
upto_sync calls n k call here is = record {
  within = omega arith;
  certain = λ start.
      certain_taken start (map Some start) calls n call here
      ∙ synced_act call.failed call.act (file_after_all start (take n calls)) (certain_after_all start (map Some start) (take n calls)) is
      ∙ ap (map Some) (sym (file_taken start calls n call here));
  none_later = λ i other from below at. absurd (omega arith);
}

pub upto_other : (calls : List Call) (n k : ℕ) (call : Call) → UpToLastSync calls n k → slice_get calls n ≡ Some call → is_synced call ≡ false → UpToLastSync calls (n + 1) k
upto_other calls n k call upto here is = record {
  within = omega (arith, upto.within);
  certain = upto.certain;
  none_later = λ i other from below at. ⊎_elim
      (λ (earlier : i < n). upto.none_later i other from earlier at)
      (λ (last : n ≤ i).
      let now : i ≡ n = omega arith in
      let same : call ≡ other = same_Some call other (sym here ∙ ap (slice_get calls) (sym now) ∙ at) in
      subst (λ (one : Call). is_synced one ≡ false) same is)
      (cases_lt i n);
}

pub upto_then : (calls : List Call) (n k : ℕ) (call : Call) → n < length calls → call ≡ get_or calls n call → is_synced call ≡ true
    → UpToLastSync calls (n + 1) (n + 1)
upto_then calls n k call below is now = upto_sync calls n k call (slice_get_read calls (length calls) n call refl below is) now

pub upto_else : (calls : List Call) (n k : ℕ) (call : Call) → UpToLastSync calls n k → n < length calls → call ≡ get_or calls n call → is_synced call ≡ false
    → UpToLastSync calls (n + 1) k
upto_else calls n k call upto below is now = upto_other calls n k call upto (slice_get_read calls (length calls) n call refl below is) now

pub file_next : (file : List ℕ) (calls : List Call) (n : ℕ) (call : Call) → n < length calls → call ≡ get_or calls n call
    → file_after_all file (take (n + 1) calls) ≡ file_after (file_after_all file (take n calls)) call
file_next file calls n call below is = file_taken file calls n call (slice_get_read calls (length calls) n call refl below is)

pub certain_next : (file : List ℕ) (certain : List (Option ℕ)) (calls : List Call) (n : ℕ) (call : Call) → n < length calls → call ≡ get_or calls n call
    → certain_after_all file certain (take (n + 1) calls) ≡ certain_after call.failed call.act (file_after_all file (take n calls)) (certain_after_all file certain (take n calls))
certain_next file certain calls n call below is = certain_taken file certain calls n call (slice_get_read calls (length calls) n call refl below is)

-- a call behind the last sync is no sync
pub later_pending : (calls later : List Call) (k n : ℕ) (call : Call) → UpToLastSync calls (length calls) k → later ≡ drop k calls
    → n < length later → call ≡ get_or later n call → is_synced call ≡ false
later_pending calls later k n call upto rest below is =
    let size : length later ≡ length calls - k = ap length rest ∙ length-drop k calls in
    let within : k + n < length calls = omega arith in
    let at : call ≡ get_or calls (k + n) call = is ∙ ap (λ (list : List Call). get_or list n call) rest ∙ get_or-drop k calls n call in
    upto.none_later (k + n) call (omega arith) within (slice_get_read calls (length calls) (k + n) call refl within at)

-- the calls up to some place, and then the others
certain_split : (file : List ℕ) (certain : List (Option ℕ)) (front back : List Call)
    → certain_after_all file certain (front ++ back) ≡ certain_after_all (file_after_all file front) (certain_after_all file certain front) back
certain_split file certain [] back = refl
certain_split file certain (call ∷ front) back = certain_split (file_after file call) (certain_after call.failed call.act file certain) front back

pub certain_whole : (start file : List ℕ) (calls later : List Call) (k : ℕ) → UpToLastSync calls (length calls) k → file ≡ file_after_all start (take k calls) → later ≡ drop k calls
    → certain_after_all file (map Some file) later ≡ certain_after_all start (map Some start) calls
certain_whole start file calls later k upto is rest =
    ap (certain_after_all file (map Some file)) rest
    ∙ ap (λ (of : List ℕ). certain_after_all of (map Some of) (drop k calls)) is
    ∙ ap (λ (certain : List (Option ℕ)). certain_after_all (file_after_all start (take k calls)) certain (drop k calls)) (sym (upto.certain start))
    ∙ sym (certain_split start (map Some start) (take k calls) (drop k calls))
    ∙ ap (certain_after_all start (map Some start)) (take-append-drop k calls)
