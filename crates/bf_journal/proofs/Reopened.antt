-- A state that was reopened.
use Rattle.std.proofs.Common.{◌≡◌, inl, ℕ, List, Option, Some, sym, ◌∙◌, subst}
use Rattle.bf_disk.specs.declared.disk.Disk.{Ghosts}
use Rattle.bf_disk.specs.Images.{OnlyRead}
use Rattle.bf_log.specs.declared.log.Log.{Log}
use Rattle.bf_log.specs.declared.log.Standing.TheVariants.{Ready}
use Rattle.bf_journal.specs.Reading.{IsReopened}
use Rattle.bf_journal.specs.Reopening.{ReopensTo}
use Rattle.bf_journal.specs.States.{Stored}
use Rattle.bf_journal.proofs.Answering.{alone}
use Rattle.bf_journal.proofs.Readings.{reopens_so}

module _ {L : Type 0} (first : L) (Steps : L → List ℕ → L → Type 0)
    (once : (state : L) (payload : List ℕ) (a b : L) → Steps state payload a → Steps state payload b → a ≡ b) {D : Type 0} {g : Ghosts D} where
  -- a state and a log that were just read from a disk
  pub record Fresh (disk : D) (state : L) (log : Log D g) : Type 0 where
    pub ready : log.standing ≡ Ready
    pub read : OnlyRead g.seen g.may_leave g.moment g.left_since disk log.disk
    pub gives : (file : List ℕ) → g.seen disk ≡ Some file → ReopensTo first Steps file (Some state)
    pub stored : (file : List ℕ) → g.seen disk ≡ Some file → Stored first Steps state log

  pub is_reopened : ((disk : D) (image : List ℕ) → g.left_since disk (g.moment disk) image → g.may_leave disk image)
      → (disk : D) (state : L) (log : Log D g) → Fresh disk state log → IsReopened first Steps disk state log
  is_reopened only_now disk state log fresh = record {
    gives = fresh.gives;
    stands = λ file told. inl (fresh.stored file (sym fresh.read.same ∙ told));
    ready = fresh.ready;
    later = fresh.read.images.later;
    alone = alone first Steps once only_now state log (λ told. fresh.stored told.0 (sym fresh.read.same ∙ told.1));
    since_start = λ file told only left leaves.
        let gives = fresh.gives file told in
        let is : leaves.1.0 ≡ file = only leaves.1.0 (fresh.read.images.each leaves.1.0 leaves.1.1) in
        reopens_so first Steps once file gives.0 state left gives.1 gives.2
        (subst (λ (image : List ℕ). ReopensTo first Steps image left) is leaves.1.2);
  }
