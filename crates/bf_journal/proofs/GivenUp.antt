-- A log that is given up once a change was stored in it.
use Rattle.std.proofs.Common.{◌≡◌, inl, inr, ⊎_elim, ℕ, ◌≤◌, List, Option, Some, sym, subst}
use Rattle.bf_disk.specs.declared.disk.Disk.{Ghosts}
use Rattle.bf_log.specs.declared.log.Log.{Log}
use Rattle.bf_log.specs.declared.log.Standing.TheVariants.{Spent}
use Rattle.bf_journal.specs.Leaving.{Fails, LeavesNoOther, Stores}
use Rattle.bf_journal.specs.Reopening.{ReopensTo}
use Rattle.bf_journal.specs.States.{MayLeave}
use Rattle.bf_journal.proofs.Appended.{spent_is_not_ready}

module _ {L : Type 0} (first : L) (Steps : L → List ℕ → L → Type 0) {D : Type 0} {g : Ghosts D} where
  -- what may be left of a log is what may be left of its disk
  same_left : (one other : Log D g) → other.disk ≡ one.disk → (t : ℕ) (left : Option L) → MayLeave first Steps other t left → MayLeave first Steps one t left
  same_left one other same t left leaves =
      let P : D → Type 0 = λ disk. ((file : List ℕ) × (g.seen disk ≡ Some file)) × ((image : List ℕ) × g.left_since disk t image × ReopensTo first Steps image left) in
      subst P same leaves

module _ {L : Type 0} (first : L) (Steps : L → List ℕ → L → Type 0) {D : Type 0} {g : Ghosts D} (old mid new : Log D g) (state next : L)
    (stores : Stores first Steps state next old mid) (same : new.disk ≡ mid.disk) (spent : new.standing ≡ Spent) where
  no_other : LeavesNoOther first Steps old new
  no_other = record {
    later = subst (λ (disk : D). g.moment old.disk ≤ g.moment disk) (sym same) stores.no_other.later;
    nothing_else = λ t left leaves. ⊎_elim
        (λ before. inl before)
        (λ here. inr (same_left first Steps new mid (sym same) (g.moment old.disk) left here))
        (stores.no_other.nothing_else t left (same_left first Steps mid new same t left leaves));
  }

  -- the change has failed
  pub given_up_fails : Fails first Steps state next old new
  given_up_fails = record {
    was_ready = stores.was_ready;
    stopped = spent_is_not_ready new.standing spent;
    no_other = no_other;
    either = λ left leaves. stores.either left (same_left first Steps mid new same (g.moment old.disk) left leaves);
  }
