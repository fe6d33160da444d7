-- The log while a record is stored, and once it is.
use Rattle.std.proofs.Common.{◌≡◌, inl, inr, ℕ, ◌+◌, ◌<◌, ◌≤◌, Option, Some, None, Result, Ok, Err, List, [], ◌∷◌, ◌++◌, length, take, drop, get_or, refl, sym, ◌∙◌, ap, subst, arith, append_assoc, length-append}
use Rattle.std.specs.Prelude.{OnOk}
use Rattle.std.proofs.lemmas.List.{take_at, length_push, flat_map_more}
use Rattle.std.proofs.lemmas.Option.{same_Some}
use Rattle.byteorder.specs.Endian.{little_bytes}
use Rattle.bf_io.specs.Whole.{IfTold}
use Rattle.bf_disk.specs.Images.{overwritten, Torn, Only}
use Rattle.bf_disk.specs.Answers.{OnFault}
use Rattle.bf_disk.specs.declared.error.DiskError.{DiskError}
use Rattle.bf_disk.specs.declared.error.DiskError.TheVariants.{Fault, Memory}
use Rattle.bf_disk.specs.TapeLaws.{torn_done}
use Rattle.bf_disk.specs.Told.{WhereTold}
use Rattle.bf_log.specs.Append.{BeforeOrAfter}
use Rattle.bf_log.specs.Format.{magic, open_gate, longest_payload, entry, IsLog, front, with_entry}
use Rattle.bf_log.specs.Storing.{record_of, behind_gate, opened, IsBeingStored}
use Rattle.bf_log.proofs.Chains.{parts, more_log, closed_log, torn_record, torn_gate, written_record, written_gate, gate_leaves}

-- a length takes four bytes
length-little : (n : ℕ) → length (little_bytes 4 n) ≡ 4
length-little n = refl

-- a record takes five bytes more than its payload
pub length-record : (payload : List ℕ) → length (record_of payload) ≡ length payload + 5
length-record payload =
    omega (arith, length_push (little_bytes 4 (length payload) ++ payload) 0, length-append (little_bytes 4 (length payload)) payload, length-little (length payload))

-- and so does an entry
length-entry : (payload : List ℕ) → length (entry payload) ≡ length payload + 5
length-entry payload = omega (arith, length-append (little_bytes 4 (length payload)) payload, length-little (length payload))

-- an entry and a closed gate are an open gate with the record behind it
entry_is : (payload after : List ℕ) → open_gate ∷ (record_of payload ++ after) ≡ entry payload ++ 0 ∷ after
entry_is payload after = ap (λ (bytes : List ℕ). open_gate ∷ bytes) (append_assoc (little_bytes 4 (length payload) ++ payload) (0 ∷ []) after)

-- how far the front reaches with one record more
pub front_more : (payloads : List (List ℕ)) (payload : List ℕ) → length (front (payloads ++ payload ∷ [])) ≡ length (front payloads) + length payload + 5
front_more payloads payload =
    omega (arith, ap length (flat_map_more entry magic payloads payload), length-append (front payloads) (entry payload), length-entry payload)

module _ (payloads : List (List ℕ)) (payload file : List ℕ) (end : ℕ)
    (is_log : IsLog payloads file) (ends : end ≡ length (front payloads)) (small : length payload ≤ longest_payload) where
  -- the front reaches to the closed gate
  size : length (front payloads) ≡ end
  size = sym ends

  -- what stands behind the record
  after : List ℕ
  after = drop (end + 1 + length (record_of payload)) file

  -- with the record behind the closed gate
  record_there : behind_gate file end (record_of payload) ≡ front payloads ++ (parts payloads file is_log).gate ∷ (record_of payload ++ after)
  unfolding after
  record_there =
      let p = parts payloads file is_log in
      ap (λ (old : List ℕ). overwritten old (end + 1) (record_of payload)) p.split
      ∙ written_record (front payloads) p.gate p.behind end size (record_of payload)
      ∙ ap (λ (old : List ℕ). front payloads ++ p.gate ∷ (record_of payload ++ drop (end + 1 + length (record_of payload)) old)) (sym p.split)

  -- a crash on the way leaves the log from before, or with the record
  pub being_stored : (image : List ℕ) → IsBeingStored file end (record_of payload) image → BeforeOrAfter payloads (payloads ++ payload ∷ []) image
  being_stored image (inl torn) =
      let p = parts payloads file is_log in
      let n = length (record_of payload) in
      let kept : Torn (end + 1) n (front payloads ++ p.gate ∷ p.behind) image = subst (λ (old : List ℕ). Torn (end + 1) n old image) p.split torn in
      inl (closed_log payloads image p.gate _ p.fit p.shut (torn_record (front payloads) p.gate p.behind end size n image kept))
  being_stored image (inr torn) =
      let p = parts payloads file is_log in
      let kept : Torn end 1 (front payloads ++ p.gate ∷ (record_of payload ++ after)) image = subst (λ (old : List ℕ). Torn end 1 old image) record_there torn in
      gate_leaves payloads payload image (get_or image end 0) (record_of payload ++ after) p.fit small after (entry_is payload after)
      (torn_gate (front payloads) p.gate (record_of payload ++ after) end size image kept)

  -- with the gate opened
  all_there : opened file end (record_of payload) ≡ front payloads ++ (entry payload ++ 0 ∷ after)
  all_there =
      let p = parts payloads file is_log in
      ap (λ (old : List ℕ). overwritten old end (open_gate ∷ [])) record_there
      ∙ written_gate (front payloads) p.gate (record_of payload ++ after) end size open_gate
      ∙ ap (λ (bytes : List ℕ). front payloads ++ bytes) (entry_is payload after)

  -- the file with the record and the gate opened is the one with an entry more
  pub stored_is : opened file end (record_of payload) ≡ with_entry file end payload
  unfolding after
  stored_is =
      let p = parts payloads file is_log in
      let front_is : take end file ≡ front payloads = ap (take end) p.split ∙ take_at (front payloads) (p.gate ∷ p.behind) end size in
      let bytes = entry payload ++ 0 ∷ [] in
      let place : end + 1 + length (record_of payload) ≡ end + length bytes = omega (arith, length-record payload, length_push (entry payload) 0, length-entry payload) in
      all_there ∙ ap (λ (rest : List ℕ). front payloads ++ rest) (sym (append_assoc (entry payload) (0 ∷ []) after))
      ∙ sym (append_assoc (front payloads) bytes after) ∙ ap (λ (before : List ℕ). before ++ bytes ++ after) (sym front_is)
      ∙ ap (λ (k : ℕ). take end file ++ bytes ++ drop k file) place

  -- which is a log with the payload behind the others
  pub stored_log : IsLog (payloads ++ payload ∷ []) (with_entry file end payload)
  stored_log =
      let p = parts payloads file is_log in
      more_log payloads payload (with_entry file end payload) 0 after p.fit small (λ zero_open. absurd (omega arith)) (sym stored_is ∙ all_there)

-- what is told of a file whose gate is within it
pub told_behind : (old : Option (List ℕ)) (gate : ℕ) → IfTold old (λ file. gate < length file) → IfTold old (λ file. gate + 1 ≤ length file)
told_behind None gate within = tt
told_behind (Some old) gate within = omega arith

-- what is told of a file that a call made something of
pub told_made : (make : List ℕ → List ℕ) (old new : Option (List ℕ)) (file : List ℕ) → old ≡ Some file → WhereTold (λ before now. now ≡ make before) old new
    → new ≡ Some (make file)
told_made make None new file told is = cc
told_made make (Some old) None file told is = absurd is
told_made make (Some old) (Some new) file told is = ap (λ (now : List ℕ). Some now) (is ∙ ap make (same_Some old file told))

-- what is told after a write
pub told_written : (old new : Option (List ℕ)) (at : ℕ) (bytes file : List ℕ) → old ≡ Some file → WhereTold (λ before now. now ≡ overwritten before at bytes) old new
    → new ≡ Some (overwritten file at bytes)
told_written old new at bytes file told is = told_made (λ before. overwritten before at bytes) old new file told is

-- and after a sync too, that changes nothing of it
pub written_then : (old mid new : Option (List ℕ)) (at : ℕ) (bytes : List ℕ) (result : Result (Unit {0}) DiskError)
    → WhereTold (λ before now. now ≡ overwritten before at bytes) old mid → new ≡ mid → OnOk result (WhereTold (λ before now. now ≡ overwritten before at bytes) old new)
written_then old mid new at bytes (Err error) written same = tt
written_then old mid new at bytes (Ok value) written same =
    subst (λ (of : Option (List ℕ)). WhereTold (λ before now. now ≡ overwritten before at bytes) old of) (sym same) written

-- what a crash leaves for certain after a sync, whatever tells it
pub durable_then : {D : Type 0} (may_leave : D → List ℕ → Type 0) (mid new : Option (List ℕ)) (disk : D) (result : Result (Unit {0}) DiskError)
    → new ≡ mid → OnOk result (IfTold mid (λ file. Only file (may_leave disk))) → OnOk result (IfTold new (λ file. Only file (may_leave disk)))
durable_then may_leave mid new disk (Err error) same durable = tt
durable_then may_leave mid new disk (Ok value) same durable = subst (λ (of : Option (List ℕ)). IfTold of (λ file. Only file (may_leave disk))) (sym same) durable

-- both writes and both syncs
pub stored_then : (old mid new : Option (List ℕ)) (gate : ℕ) (bytes : List ℕ) (result : Result (Unit {0}) DiskError)
    → WhereTold (λ before now. now ≡ behind_gate before gate bytes) old mid → OnOk result (WhereTold (λ before now. now ≡ overwritten before gate (open_gate ∷ [])) mid new)
    → OnOk result (WhereTold (λ before now. now ≡ opened before gate bytes) old new)
stored_then old mid new gate bytes (Err error) first second = tt
stored_then None None None gate bytes (Ok value) first second = tt
stored_then None None (Some new) gate bytes (Ok value) first second = absurd second
stored_then None (Some mid) new gate bytes (Ok value) first second = absurd first
stored_then (Some old) None new gate bytes (Ok value) first second = absurd first
stored_then (Some old) (Some mid) None gate bytes (Ok value) first second = absurd second
stored_then (Some old) (Some mid) (Some new) gate bytes (Ok value) first second =
    second ∙ ap (λ (file : List ℕ). overwritten file gate (open_gate ∷ [])) first

-- no call makes a file shorter
abbrev pub IsAsLong : Option (List ℕ) → Option (List ℕ) → Type 0
IsAsLong old new = WhereTold (λ before now. length before ≤ length now) old new

-- a file that is told the same
pub long_same : (old new : Option (List ℕ)) → new ≡ old → IsAsLong old new
long_same None new same = subst (λ (of : Option (List ℕ)). IsAsLong None of) (sym same) tt
long_same (Some old) new same = let here : length old ≤ length old = omega arith in subst (λ (of : Option (List ℕ)). IsAsLong (Some old) of) (sym same) here

-- after one call and another
pub long_then : (old mid new : Option (List ℕ)) → IsAsLong old mid → IsAsLong mid new → IsAsLong old new
long_then None None None first second = tt
long_then None None (Some new) first second = absurd second
long_then None (Some mid) new first second = absurd first
long_then (Some old) None new first second = absurd first
long_then (Some old) (Some mid) None first second = absurd second
long_then (Some old) (Some mid) (Some new) first second = omega arith

-- after a write that failed
long_torn : (old new : Option (List ℕ)) (at n : ℕ) → WhereTold (Torn at n) old new → IsAsLong old new
long_torn None None at n torn = tt
long_torn None (Some new) at n torn = absurd torn
long_torn (Some old) None at n torn = absurd torn
long_torn (Some old) (Some new) at n torn = torn.no_shorter

-- after a write that was done
long_written : (old new : Option (List ℕ)) (at : ℕ) (bytes : List ℕ) → WhereTold (λ before now. now ≡ overwritten before at bytes) old new → IsAsLong old new
long_written None None at bytes written = tt
long_written None (Some new) at bytes written = absurd written
long_written (Some old) None at bytes written = absurd written
long_written (Some old) (Some new) at bytes written = omega (arith, ap length written, (torn_done at bytes old).no_shorter)

-- after a write that was tried, well or not
pub long_tried : {D : Type 0} (seen : D → Option (List ℕ)) (old new : D) (at : ℕ) (bytes : List ℕ) (result : Result (Unit {0}) DiskError)
    → OnOk result (WhereTold (λ before now. now ≡ overwritten before at bytes) (seen old) (seen new))
    → OnFault result (WhereTold (Torn at (length bytes)) (seen old) (seen new)) → (result ≡ Err Memory → new ≡ old) → IsAsLong (seen old) (seen new)
long_tried seen old new at bytes (Ok value) written failed memory = long_written (seen old) (seen new) at bytes written
long_tried seen old new at bytes (Err Fault) written failed memory = long_torn (seen old) (seen new) at (length bytes) failed
long_tried seen old new at bytes (Err Memory) written failed memory = long_same (seen old) (seen new) (ap seen (memory refl))

-- the gate stays within a file that is no shorter
pub within_then : (old new : Option (List ℕ)) (gate : ℕ) → IfTold old (λ file. gate < length file) → IsAsLong old new → IfTold new (λ file. gate < length file)
within_then None None gate within long = tt
within_then None (Some new) gate within long = absurd long
within_then (Some old) None gate within long = absurd long
within_then (Some old) (Some new) gate within long = omega arith

-- what holds of a file that is told
pub told_at : (old : Option (List ℕ)) (P : List ℕ → Type 0) (file : List ℕ) → IfTold old P → old ≡ Some file → P file
told_at old P file holds told = subst (λ (of : Option (List ℕ)). IfTold of P) told holds

-- what is before the end is at most the length
pub told_within : (old : Option (List ℕ)) (gate : ℕ) → IfTold old (λ file. gate < length file) → IfTold old (λ file. gate ≤ length file)
told_within None gate within = tt
told_within (Some old) gate within = omega arith
