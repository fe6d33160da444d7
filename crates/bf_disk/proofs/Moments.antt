-- What a crash leaves at each moment of a run of device calls.
use Rattle.std.proofs.Common.{◌≡◌, ◌⊎◌, ◌≤◌, inl, inr, ⊎_elim, ℕ, List, Result, Ok, Err, refl, sym, subst, arith}
use Rattle.bf_disk.specs.Answers.{IfTried}
use Rattle.bf_disk.specs.Images.{Torn, Becomes, Only, Elapses, LeavesOnly}
use Rattle.bf_disk.specs.TapeLaws.{torn_lost}
use Rattle.bf_disk.specs.declared.error.DiskError.{DiskError}
use Rattle.bf_disk.specs.declared.error.DiskError.TheVariants.{Fault, Memory}

module _ {D : Type 0} (moment : D → ℕ) (left_since : D → ℕ → List ℕ → Type 0) where
  -- one run after another
  pub both : ((disk : D) (t u : ℕ) (image : List ℕ) → t ≤ u → left_since disk u image → left_since disk t image)
      → (old mid new : D) (P Q : List ℕ → Type 0) → LeavesOnly moment left_since old mid P → LeavesOnly moment left_since mid new Q
      → LeavesOnly moment left_since old new (λ image. P image ⊎ Q image)
  both earlier old mid new P Q first second = record {
    later = omega (arith, first.later, second.later);
    each = λ image left. ⊎_elim (λ past. inl (first.each image past)) (λ here. inr (second.each image here))
        (second.nothing_else (moment old) image first.later left);
    nothing_else = λ t image le left. ⊎_elim
        (λ past. ⊎_elim (λ before. inl before) (λ here. inr (second.all (moment old) image first.later here)) (first.nothing_else t image le past))
        (λ here. inr (earlier new (moment old) (moment mid) image first.later here))
        (second.nothing_else t image (omega (arith, first.later)) left);
    all = λ t image le past. second.all t image (omega (arith, first.later)) (first.all t image le past);
  }

  -- a weaker thing that each image has
  pub weaker : (old new : D) (P Q : List ℕ → Type 0) → LeavesOnly moment left_since old new P → ((image : List ℕ) → P image → Q image)
      → LeavesOnly moment left_since old new Q
  weaker old new P Q leaves so =
      record { later = leaves.later; each = λ image left. so image (leaves.each image left); nothing_else = leaves.nothing_else; all = leaves.all }

-- what a crash leaves once a write or a cut of a file was tried
pub tried : {D : Type 0} (may_leave : D → List ℕ → Type 0) (step : List ℕ → List ℕ → Type 0) (old new : D) (result : Result (Unit {0}) DiskError)
    → IfTried result (Becomes step (may_leave old) (may_leave new)) → (result ≡ Err Memory → new ≡ old)
    → (file : List ℕ) → Only file (may_leave old) → step file file → (image : List ℕ) → may_leave new image → step file image
tried {D = D} may_leave step old new (Ok value) becomes memory file only lost image left =
    let from = becomes.nothing_else image left in
    subst (λ (was : List ℕ). step was image) (only from.0 from.1) from.2
tried {D = D} may_leave step old new (Err Fault) becomes memory file only lost image left =
    let from = becomes.nothing_else image left in
    subst (λ (was : List ℕ). step was image) (only from.0 from.1) from.2
tried {D = D} may_leave step old new (Err Memory) becomes memory file only lost image left =
    subst (λ (now : List ℕ). step file now) (sym (only image (subst (λ (disk : D). may_leave disk image) (memory refl) left))) lost

module _ {D : Type 0} (moment : D → ℕ) (left_since : D → ℕ → List ℕ → Type 0) (may_leave : D → List ℕ → Type 0)
    (counts_now : (disk : D) (t : ℕ) (image : List ℕ) → t ≤ moment disk → may_leave disk image → left_since disk t image) where
  -- what a crash leaves at the end is among what one leaves at any moment
  pub leaves_now : (old new : D) (P : List ℕ → Type 0) → LeavesOnly moment left_since old new P → (image : List ℕ) → may_leave new image → P image
  leaves_now old new P leaves image left = leaves.each image (counts_now new (moment old) image leaves.later left)

  -- one call
  pub one_call : (old new : D) (P : List ℕ → Type 0) → ((image : List ℕ) → left_since old (moment old) image → P image)
      → Elapses (moment old) (moment new) (left_since old) (left_since new) (may_leave new) → ((image : List ℕ) → may_leave new image → P image)
      → LeavesOnly moment left_since old new P
  one_call old new P start time now = record {
    later = time.later;
    each = λ image left. ⊎_elim (start image) (now image) (time.nothing_else (moment old) image (omega arith) left);
    nothing_else = λ t image le left.
        ⊎_elim (λ past. inl past) (λ leaves. inr (counts_now new (moment old) image time.later leaves)) (time.nothing_else t image le left);
    all = time.all;
  }

  -- one more call, after which a crash leaves no more than before it
  pub one_more : (old mid new : D) (P : List ℕ → Type 0) → LeavesOnly moment left_since old mid P
      → Elapses (moment mid) (moment new) (left_since mid) (left_since new) (may_leave new) → ((image : List ℕ) → may_leave new image → may_leave mid image)
      → LeavesOnly moment left_since old new P
  one_more old mid new P first time fewer =
      let later : moment old ≤ moment new = omega (arith, first.later, time.later) in
      record {
        later = later;
        each = λ image left. ⊎_elim (first.each image) (λ leaves. leaves_now old mid P first image (fewer image leaves))
            (time.nothing_else (moment old) image first.later left);
        nothing_else = λ t image le left. ⊎_elim
            (λ past. ⊎_elim (λ before. inl before) (λ here. inr (time.all (moment old) image first.later here)) (first.nothing_else t image le past))
            (λ leaves. inr (counts_now new (moment old) image later leaves))
            (time.nothing_else t image (omega (arith, first.later)) left);
        all = λ t image le past. time.all t image (omega (arith, first.later)) (first.all t image le past);
      }

  -- a write that was tried, well or not
  pub write_moments : (old new : D) (at n : ℕ) (result : Result (Unit {0}) DiskError)
      → Elapses (moment old) (moment new) (left_since old) (left_since new) (may_leave new)
      → IfTried result (Becomes (Torn at n) (may_leave old) (may_leave new)) → (result ≡ Err Memory → new ≡ old)
      → ((image : List ℕ) → left_since old (moment old) image → may_leave old image)
      → (file : List ℕ) → Only file (may_leave old) → LeavesOnly moment left_since old new (Torn at n file)
  write_moments old new at n result time becomes memory only_now file only =
      one_call old new (Torn at n file)
      (λ image left. subst (λ (now : List ℕ). Torn at n file now) (sym (only image (only_now image left))) (torn_lost at n file))
      time (tried may_leave (Torn at n) old new result becomes memory file only (torn_lost at n file))
