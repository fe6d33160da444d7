-- The disk model: what a call does to a file, and what a crash may leave of it.
use Rattle.std.specs.Prelude.{◌≡◌, ◌⊎◌, ℕ, ◌+◌, ◌<◌, ◌≤◌, min, max, List, Option, ◌++◌, length, take, drop, slice_index}

-- a file with these bytes at an offset, in the place of what was there
abbrev pub overwritten : List ℕ → ℕ → List ℕ → List ℕ
overwritten file at bytes = take at file ++ bytes ++ drop (at + length bytes) file

-- What a crash may make of a write of n bytes at an offset: any bytes in that range and past the old end,
-- and each other byte as it was.
pub record Torn (at n : ℕ) (old new : List ℕ) : Type 0 where
  pub no_shorter : length old ≤ length new
  pub no_longer : length new ≤ max (length old) (at + n)
  pub stays : (i : ℕ) → i < length old → (i < at) ⊎ (at + n ≤ i) → slice_index new i ≡ slice_index old i

-- What a crash may make of a cut to n bytes: some length between, any bytes past the old end, and each
-- other byte as it was.
pub record CutShort (n : ℕ) (old new : List ℕ) : Type 0 where
  pub no_shorter : min (length old) n ≤ length new
  pub no_longer : length new ≤ max (length old) n
  pub stays : (i : ℕ) → i < length old → i < length new → slice_index new i ≡ slice_index old i

-- What a crash may leave after a step is what the step makes of what it might have left before: nothing else,
-- and nothing of it is left out.
pub record Becomes (step : List ℕ → List ℕ → Type 0) (before after : List ℕ → Type 0) : Type 0 where
  pub nothing_else : (image : List ℕ) → after image → (old : List ℕ) × before old × step old image
  pub all : (old image : List ℕ) → before old → step old image → after image

-- a crash may leave as much as before, and nothing else
pub record SameImages (before after : List ℕ → Type 0) : Type 0 where
  pub nothing_else : (image : List ℕ) → after image → before image
  pub all : (image : List ℕ) → before image → after image

-- a crash leaves this file and no other
abbrev pub Only : List ℕ → (List ℕ → Type 0) → Type 0
Only file images = (image : List ℕ) → images image → image ≡ file

-- Time goes on: a crash since a moment might have left what it might have left by then, or what it may leave now.
pub record Elapses (before now : ℕ) (past since : ℕ → List ℕ → Type 0) (may_leave : List ℕ → Type 0) : Type 0 where
  pub later : before ≤ now
  pub nothing_else : (t : ℕ) (image : List ℕ) → t ≤ before → since t image → past t image ⊎ may_leave image
  pub all : (t : ℕ) (image : List ℕ) → t ≤ before → past t image → since t image

-- Between two states of a disk a crash at any moment leaves an image with P. What a crash since an earlier moment
-- might have left by the second state is what it might have left by the first, or what one between them might leave.
pub record LeavesOnly {D : Type 0} (moment : D → ℕ) (left_since : D → ℕ → List ℕ → Type 0) (old new : D)
    (P : List ℕ → Type 0) : Type 0 where
  pub later : moment old ≤ moment new
  pub each : (image : List ℕ) → left_since new (moment old) image → P image
  pub nothing_else : (t : ℕ) (image : List ℕ) → t ≤ moment old → left_since new t image
      → left_since old t image ⊎ left_since new (moment old) image
  pub all : (t : ℕ) (image : List ℕ) → t ≤ moment old → left_since old t image → left_since new t image

-- a disk was read and not written: it reads the same, and a crash at any moment leaves what one could at the start
pub record OnlyRead {D : Type 0} (seen : D → Option (List ℕ)) (may_leave : D → List ℕ → Type 0) (moment : D → ℕ)
    (left_since : D → ℕ → List ℕ → Type 0) (old new : D) : Type 0 where
  pub same : seen new ≡ seen old
  pub images : LeavesOnly moment left_since old new (may_leave old)
