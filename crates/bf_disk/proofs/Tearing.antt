-- The image that tears the pending bytes is one of those that a crash may leave.
use Rattle.std.proofs.Common.{◌≡◌, ⊎_elim, ℕ, zero, suc, ◌+◌, ◌-◌, ◌<◌, min, Bool, true, false, Option, Some, None, Result, Ok, Err, List, [], ◌∷◌, ◌++◌, length, take, drop, map, get_or, refl, sym, ◌∙◌, ap, subst, arith, length-append}
use Rattle.std.specs.Prelude.{IfOk}
use Rattle.std.proofs.lemmas.List.{length-take, length-drop, length-map, length-replicate, get_or-map, get_or-take, ext_get_or}
use Rattle.bf_disk.specs.Images.{Torn, CutShort}
use Rattle.bf_disk.specs.Tape.{Tape, new_tape, MayLeave, file_after, left_after, left_after_all, pending, certain_after, certain_after_all, certain_of, torn_from, torn_image}
use Rattle.bf_disk.specs.TapeLaws.{before_range, behind_range, cut_lost}
use Rattle.bf_disk.specs.declared.call.Act.{Act}
use Rattle.bf_disk.specs.declared.call.Act.TheVariants.{Look, Write, Cut, Sync}
use Rattle.bf_disk.specs.declared.call.Call.{Call}

-- the image has each byte that is certain, and no more bytes and no fewer
record Matches (certain : List (Option ℕ)) (image : List ℕ) : Type 0 where
  pub as_long : length image ≡ length certain
  pub bytes : (i b : ℕ) → get_or certain i None ≡ Some b → get_or image i 0 ≡ b

matches_certain : (file image : List ℕ) → Matches (map Some file) image → image ≡ file
matches_certain file image same =
    let size : length image ≡ length file = same.as_long ∙ length-map file Some in
    ext_get_or 0 image file size
    (λ i below. let within : i < length file = omega arith in same.bytes i (get_or file i 0) (get_or-map Some file i 0 None within))

-- with the bytes of the image where none is certain
filled : List (Option ℕ) → List ℕ → List ℕ
filled [] image = []
filled (Some b ∷ certain) image = b ∷ filled certain (drop 1 image)
filled (None ∷ certain) image = get_or image 0 0 ∷ filled certain (drop 1 image)

length-filled : (certain : List (Option ℕ)) (image : List ℕ) → length (filled certain image) ≡ length certain
unfolding filled
length-filled [] image = refl
length-filled (Some b ∷ certain) image = ap suc (length-filled certain (drop 1 image))
length-filled (None ∷ certain) image = ap suc (length-filled certain (drop 1 image))

filled_certain : (certain : List (Option ℕ)) (image : List ℕ) (i b : ℕ) → get_or certain i None ≡ Some b → get_or (filled certain image) i 0 ≡ b
unfolding filled
filled_certain [] image i b is = cc
filled_certain (Some x ∷ certain) image zero b is = cc
filled_certain (Some x ∷ certain) image (suc i) b is = filled_certain certain (drop 1 image) i b is
filled_certain (None ∷ certain) image zero b is = cc
filled_certain (None ∷ certain) image (suc i) b is = filled_certain certain (drop 1 image) i b is

next_byte : (image : List ℕ) (i : ℕ) → get_or (drop 1 image) i 0 ≡ get_or image (suc i) 0
next_byte [] i = refl
next_byte (x ∷ image) i = refl

filled_pending : (certain : List (Option ℕ)) (image : List ℕ) (i : ℕ) → i < length certain → get_or certain i None ≡ None
    → get_or (filled certain image) i 0 ≡ get_or image i 0
unfolding filled
filled_pending [] image i below is = absurd (omega arith)
filled_pending (Some x ∷ certain) image zero below is = cc
filled_pending (Some x ∷ certain) image (suc i) below is = filled_pending certain (drop 1 image) i (omega arith) is ∙ next_byte image i
filled_pending (None ∷ certain) image zero below is = refl
filled_pending (None ∷ certain) image (suc i) below is = filled_pending certain (drop 1 image) i (omega arith) is ∙ next_byte image i

matches_filled : (certain : List (Option ℕ)) (image : List ℕ) → Matches certain (filled certain image)
matches_filled certain image = record { as_long = length-filled certain image; bytes = filled_certain certain image }

-- an image of what is pending later stays where that is what it was
filled_stays : (certain later : List (Option ℕ)) (image : List ℕ) → Matches later image → (i : ℕ) → i < length certain
    → get_or later i None ≡ get_or certain i None → get_or image i 0 ≡ get_or (filled certain image) i 0
filled_stays certain later image same i below is = at (get_or certain i None) refl
  where
    at : (byte : Option ℕ) → get_or certain i None ≡ byte → get_or image i 0 ≡ get_or (filled certain image) i 0
    at (Some b) now = same.bytes i b (is ∙ now) ∙ sym (filled_certain certain image i b now)
    at None now = sym (filled_pending certain image i below now)

length-pending : (certain : List (Option ℕ)) (at n : ℕ) → length (take at certain ++ pending n ++ drop (at + n) certain) ≡ min at (length certain) + n + (length certain - (at + n))
length-pending certain at n = simp (length-append, length-take, length-drop, length-replicate)

torn_filled : (certain : List (Option ℕ)) (at n : ℕ) (image : List ℕ) → Matches (take at certain ++ pending n ++ drop (at + n) certain) image
    → Torn at n (filled certain image) image
torn_filled certain at n image same = record {
  no_shorter = omega (arith, same.as_long, length-pending certain at n, length-filled certain image);
  no_longer = omega (arith, same.as_long, length-pending certain at n, length-filled certain image);
  stays = λ i below outside.
      let within : i < length certain = omega (arith, length-filled certain image) in
      filled_stays certain _ image same i within (⊎_elim
      (before_range certain at n (pending n) None i within)
      (behind_range certain at n (pending n) None i (length-replicate n None) within)
      outside);
}

cut_filled : (certain : List (Option ℕ)) (n : ℕ) (image : List ℕ) → Matches (take n certain) image → CutShort n (filled certain image) image
cut_filled certain n image same = record {
  no_shorter = omega (arith, same.as_long, length-take n certain, length-filled certain image);
  no_longer = omega (arith, same.as_long, length-take n certain, length-filled certain image);
  stays = λ i below kept.
      let within : i < length certain = omega (arith, length-filled certain image) in
      let before : i < n = omega (arith, same.as_long, length-take n certain) in
      filled_stays certain _ image same i within (get_or-take n certain i None before);
}

-- each image that matches is one of these
abbrev Covers : List (Option ℕ) → (List ℕ → Type 0) → Type 0
Covers certain images = (image : List ℕ) → Matches certain image → images image

covers_act : (failed : Bool) (act : Act) (file : List ℕ) (certain : List (Option ℕ)) (images : List ℕ → Type 0)
    → Covers certain images → Covers (certain_after failed act file certain) (left_after failed act file images)
covers_act true Look file certain images covers = covers
covers_act false Look file certain images covers = covers
covers_act true (Write at bytes) file certain images covers = λ image same.
    (filled certain image, covers (filled certain image) (matches_filled certain image), torn_filled certain at (length bytes) image same)
covers_act false (Write at bytes) file certain images covers = λ image same.
    (filled certain image, covers (filled certain image) (matches_filled certain image), torn_filled certain at (length bytes) image same)
covers_act true (Cut n) file certain images covers = λ image same. (image, covers image same, cut_lost n image)
covers_act false (Cut n) file certain images covers = λ image same.
    (filled certain image, covers (filled certain image) (matches_filled certain image), cut_filled certain n image same)
covers_act true Sync file certain images covers = covers
covers_act false Sync file certain images covers = matches_certain file

covers_calls : (file : List ℕ) (certain : List (Option ℕ)) (images : List ℕ → Type 0) (calls : List Call)
    → Covers certain images → Covers (certain_after_all file certain calls) (left_after_all file images calls)
covers_calls file certain images [] covers = covers
covers_calls file certain images (call ∷ calls) covers =
    covers_calls (file_after file call) (certain_after call.failed call.act file certain) (left_after call.failed call.act file images) calls
    (covers_act call.failed call.act file certain images covers)

length-torn_from : (torn : List ℕ) (next : ℕ) (certain : List (Option ℕ)) → length (torn_from torn next certain) ≡ length certain
length-torn_from torn next [] = refl
length-torn_from torn next (Some b ∷ certain) = ap suc (length-torn_from torn next certain)
length-torn_from torn next (None ∷ certain) = ap suc (length-torn_from torn (next + 1) certain)

torn_certain : (torn : List ℕ) (next : ℕ) (certain : List (Option ℕ)) (i b : ℕ) → get_or certain i None ≡ Some b → get_or (torn_from torn next certain) i 0 ≡ b
torn_certain torn next [] i b is = cc
torn_certain torn next (Some x ∷ certain) zero b is = cc
torn_certain torn next (Some x ∷ certain) (suc i) b is = torn_certain torn next certain i b is
torn_certain torn next (None ∷ certain) zero b is = cc
torn_certain torn next (None ∷ certain) (suc i) b is = torn_certain torn (next + 1) certain i b is

-- what a crash leaves that tears the pending bytes so
pub torn_left : (tape : Tape) (torn : List ℕ) → MayLeave tape (torn_image tape torn)
torn_left tape torn =
    covers_calls tape.start (map Some tape.start) (λ old. old ≡ tape.start) tape.calls (matches_certain tape.start) (torn_image tape torn)
    (record { as_long = length-torn_from torn 0 (certain_of tape); bytes = torn_certain torn 0 (certain_of tape) })

pub crash_left : {E : Type 0} (tape : Tape) (torn : List ℕ) (result : Result Tape E) → IfOk result (λ disk. disk ≡ new_tape (torn_image tape torn) [] None)
    → IfOk result (λ disk. MayLeave tape disk.start)
crash_left tape torn (Ok disk) is = subst (λ (left : Tape). MayLeave tape left.start) (sym is) (torn_left tape torn)
crash_left tape torn (Err error) is = tt
