-- Records that are read in turn.
use Rattle.std.proofs.Common.{◌≡◌, ◌⊎◌, inl, inr, ⊎_elim, ℕ, ◌≤◌, List, [], Option, Some, Ok, Err, ◌∷◌, ◌++◌, length, Bool, true, refl, ◌∙◌, subst, arith}
use Rattle.bf_disk.specs.declared.disk.Disk.{Ghosts}
use Rattle.bf_disk.specs.Images.{LeavesOnly, OnlyRead}
use Rattle.bf_log.specs.declared.error.OpenError.{OpenError}
use Rattle.bf_log.specs.declared.error.OpenError.TheVariants.{NotALog, DiskFault, Memory}
use Rattle.bf_log.specs.Format.{front}
use Rattle.bf_log.specs.declared.opening.Next.{Next}
use Rattle.bf_log.specs.declared.opening.Next.TheVariants.{Payload, End}
use Rattle.bf_log.specs.declared.opening.Opening.{Opening}
use Rattle.bf_log.specs.Opening.{HasRead, ReadsNext}
use Rattle.bf_disk.proofs.Moments.{both, weaker, leaves_now}
use Rattle.bf_journal.specs.Reopening.{After, BreaksAt}
use Rattle.bf_journal.specs.Reading.{ReadsOne, ReadsAll}

module _ {L : Type 0} (first : L) (Steps : L → List ℕ → L → Type 0) {D : Type 0} {g : Ghosts D} where
  -- an error of the log is where reading stops
  pub stops_reading : (file : List ℕ) (payloads : List (List ℕ)) (state : L) (new : Opening D g) (error : OpenError) → After Steps first payloads state
      → ReadsNext file payloads new (Err error) → ReadsOne first Steps file state new (Err error)
  stops_reading file payloads state new (NotALog at) gives next =
      let breaks : BreaksAt first Steps file at = record { payloads = payloads; breaks = next.0; state = state; legal = gives } in
      (inr (inl breaks), next.1.durable)
  stops_reading file payloads state new DiskFault gives next = tt
  stops_reading file payloads state new Memory gives next = tt

  -- at the end the file reopens to the state so far
  pub ends_reading : (file : List ℕ) (payloads : List (List ℕ)) (state : L) (new : Opening D g) (found : Next) → found ≡ End → After Steps first payloads state
      → ReadsNext file payloads new (Ok found) → ReadsOne first Steps file state new (Ok true)
  ends_reading file payloads state new found is gives next =
      let there = subst (λ (of : Next). ReadsNext file payloads new (Ok of)) is next in
      ((payloads, there.0, gives), (payloads, there.1, gives))

  -- one record more
  pub one_more : (file : List ℕ) (payloads : List (List ℕ)) (new : Opening D g) (gate : ℕ) (payload : List ℕ) (found : Next) → found ≡ Payload gate payload
      → ReadsNext file payloads new (Ok found) → (gate ≡ length (front payloads)) × HasRead file (payloads ++ payload ∷ []) new
  one_more file payloads new gate payload found is next = subst (λ (of : Next). ReadsNext file payloads new (Ok of)) is next

  -- an answer that is known
  pub answered_so : (file : List ℕ) (state : L) (new : Opening D g) (ended known : Bool) → ended ≡ known → ReadsOne first Steps file state new (Ok ended)
      → ReadsOne first Steps file state new (Ok known)
  answered_so file state new ended known is reads = subst (λ (of : Bool). ReadsOne first Steps file state new (Ok of)) is reads

  -- an error is one of the whole
  pub fails_all : (file : List ℕ) (state : L) (new : Opening D g) (error : OpenError) → ReadsOne first Steps file state new (Err error) → ReadsAll first Steps file state new (Err error)
  fails_all file state new (NotALog at) reads = reads
  fails_all file state new DiskFault reads = tt
  fails_all file state new Memory reads = tt

module _ {D : Type 0} (seen : D → Option (List ℕ)) (may_leave : D → List ℕ → Type 0) (moment : D → ℕ) (left_since : D → ℕ → List ℕ → Type 0)
    (counts_now : (disk : D) (t : ℕ) (image : List ℕ) → t ≤ moment disk → may_leave disk image → left_since disk t image)
    (earlier : (disk : D) (t u : ℕ) (image : List ℕ) → t ≤ u → left_since disk u image → left_since disk t image)
    (only_now : (disk : D) (image : List ℕ) → left_since disk (moment disk) image → may_leave disk image) where
  -- a disk that was not touched
  pub untouched : (disk : D) → OnlyRead seen may_leave moment left_since disk disk
  untouched disk =
      let here : LeavesOnly moment left_since disk disk (may_leave disk) = record {
        later = omega arith;
        each = only_now disk;
        nothing_else = λ t image le left. inl left;
        all = λ t image le left. left;
      } in record { same = refl; images = here }

  -- a disk that was read and read again
  pub read_then : (old mid new : D) → OnlyRead seen may_leave moment left_since old mid → OnlyRead seen may_leave moment left_since mid new
      → OnlyRead seen may_leave moment left_since old new
  read_then old mid new one two = record {
    same = two.same ∙ one.same;
    images = weaker moment left_since old new (λ image. may_leave old image ⊎ may_leave mid image) (may_leave old)
        (both moment left_since earlier old mid new (may_leave old) (may_leave mid) one.images two.images)
        (λ image left. ⊎_elim (λ before. before) (leaves_now moment left_since may_leave counts_now old mid (may_leave old) one.images image) left);
  }
