-- A log while a record is appended, and once it is.
use Rattle.std.proofs.Common.{◌≡◌, ℕ, ◌≤◌, Option, Some, None, List, [], ◌∷◌, ◌++◌, length, ◌∙◌, ap, subst, arith}
use Rattle.std.proofs.lemmas.Bool.Decides.{nat_tests}
use Rattle.std.proofs.lemmas.List.{length_push}
use Rattle.bf_io.specs.Whole.{IfTold}
use Rattle.bf_disk.specs.declared.disk.Disk.{Ghosts}
use Rattle.bf_disk.specs.Images.{Only, LeavesOnly}
use Rattle.bf_disk.specs.Told.{WhereTold}
use Rattle.bf_log.specs.Append.{Holds, Grew, BeforeOrAfter, refusal}
use Rattle.bf_log.specs.Format.{longest_payload, with_entry}
use Rattle.bf_log.specs.Storing.{record_of, opened, IsBeingStored}
use Rattle.bf_log.specs.declared.error.AppendError.{AppendError}
use Rattle.bf_log.specs.declared.log.Log.{Log}
use Rattle.bf_log.specs.declared.log.Standing.{Standing}
use Rattle.bf_log.specs.declared.log.Standing.TheVariants.{Ready, Halted, Spent}
use Rattle.bf_disk.proofs.Moments.{weaker}
use Rattle.bf_log.proofs.Storing.{being_stored, stored_is, stored_log, front_more, told_made, told_at}

-- a payload that is not refused is no larger than the largest
pub no_larger : (standing : Standing) (end size largest limit : ℕ) (answer : Option AppendError) → answer ≡ refusal standing end size largest limit → answer ≡ None
    → size ≤ largest
no_larger Spent end size largest limit answer is none = cc
no_larger (Halted faults) end size largest limit answer is none = cc
no_larger Ready end size largest limit answer is none = grind (arith, nat_tests)

module _ {D : Type 0} {g : Ghosts D} (file : List ℕ) (payloads : List (List ℕ)) (payload bytes : List ℕ) (old : Log D g)
    (holds : Holds file payloads old) (small : length payload ≤ longest_payload) (record_is : bytes ≡ record_of payload) where
  -- a crash while the record is stored leaves the log from before, or with the record
  pub leaves_log : (disk : D) → LeavesOnly g.moment g.left_since old.disk disk (IsBeingStored file old.end bytes)
      → LeavesOnly g.moment g.left_since old.disk disk (BeforeOrAfter payloads (payloads ++ payload ∷ []))
  leaves_log disk leaves =
      weaker g.moment g.left_since old.disk disk (IsBeingStored file old.end bytes) (BeforeOrAfter payloads (payloads ++ payload ∷ [])) leaves
      (λ image stored. being_stored payloads payload file old.end holds.is_log holds.end small image
      (subst (λ (of : List ℕ). IsBeingStored file old.end of image) record_is stored))

  -- a log that grew, on a disk with the record behind its gate, holds one payload more
  pub holds_more : (new : Log D g) → Grew (length payload) new.count old new
      → WhereTold (λ before now. now ≡ opened before old.end bytes) (g.seen old.disk) (g.seen new.disk)
      → IfTold (g.seen new.disk) (λ now. Only now (g.may_leave new.disk)) → Holds (with_entry file old.end payload) (payloads ++ payload ∷ []) new
  holds_more new grew written durable =
      let told : g.seen new.disk ≡ Some (with_entry file old.end payload) =
      told_made (λ before. opened before old.end bytes) (g.seen old.disk) (g.seen new.disk) file holds.told written
      ∙ ap (λ (of : List ℕ). Some (opened file old.end of)) record_is
      ∙ ap (λ (now : List ℕ). Some now) (stored_is payloads payload file old.end holds.is_log holds.end small) in
      record {
        told = told;
        durable = told_at (g.seen new.disk) (λ now. Only now (g.may_leave new.disk)) (with_entry file old.end payload) durable told;
        is_log = stored_log payloads payload file old.end holds.is_log holds.end small;
        end = omega (arith, grew.end, holds.end, front_more payloads payload);
        count = omega (arith, grew.next, holds.count, length_push payloads payload);
        ready = grew.ready;
      }
