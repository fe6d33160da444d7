-- The bytes at the front of a file, beside the magic.
use Rattle.std.proofs.Common.{◌≡◌, ℕ, suc, ◌+◌, ◌<◌, ◌≤◌, min, Bool, true, false, cond, not, Option, Some, None, List, [], ◌∷◌, ◌++◌, length, take, drop, take-append-drop, get_or, refl, sym, ◌∙◌, ap, subst, arith}
use Rattle.std.specs.Prelude.{◌==◌}
use Rattle.std.specs.List.{position, position_or_len, zip}
use Rattle.std.proofs.lemmas.Bool.{eq-eqb, eqb-true}
use Rattle.std.proofs.lemmas.Bool.Decides.{nat_tests}
use Rattle.std.proofs.lemmas.List.{length-take, take_all, take_min}
use Rattle.std.proofs.lemmas.List.Elements.{All-nil}
use Rattle.std.proofs.lemmas.List.Quantifiers.{position-Some}
use Rattle.std.proofs.lemmas.List.Sums.{prefix_len-le-length}
use Rattle.std.proofs.lemmas.Option.{slice_get-get_or, same_Some}
use Rattle.std.proofs.lemmas.Slice.Zip.{get_or-zip, length-zip}
use Rattle.bf_io.specs.Whole.{IfTold}
use Rattle.bf_disk.specs.Images.{Only}
use Rattle.bf_disk.specs.declared.disk.Disk.{Ghosts}
use Rattle.bf_log.specs.Format.{DiffersAt, EndsAt, HasMagic, magic}
use Rattle.bf_log.specs.Opening.{Found, HasRead}
use Rattle.bf_log.specs.declared.opening.Opening.{Opening}
use Rattle.bf_log.specs.declared.opening.Progress.{Progress}
use Rattle.bf_log.specs.declared.opening.Progress.TheVariants.{Reading}
use Rattle.bf_log.proofs.Storing.{told_at}

-- two bytes side by side differ
abbrev pub differ : ℕ × ℕ → Bool
differ pair = not (pair.0 == pair.1)

-- how many bytes agree
abbrev agreed : List ℕ → List ℕ → ℕ
agreed xs ys = position_or_len differ (zip xs ys)

-- what stands past the second list is not compared
zip_front : (xs ys : List ℕ) → zip (take (length ys) xs) ys ≡ zip xs ys
zip_front [] [] = refl
zip_front [] (y ∷ ys) = refl
zip_front (x ∷ xs) [] = refl
zip_front (x ∷ xs) (y ∷ ys) = ap (λ (rest : List (ℕ × ℕ)). (x, y) ∷ rest) (zip_front xs ys)

-- one more byte before those that agree: it does too, or no byte does
one_more : (same : Bool) (x y n : ℕ) (xs ys : List ℕ) → (same ≡ true → x ≡ y) → take n xs ≡ take n ys
    → take (cond (not (not same)) (1 + n) 0) (x ∷ xs) ≡ take (cond (not (not same)) (1 + n) 0) (y ∷ ys)
one_more false x y n xs ys equal rest = refl
one_more true x y n xs ys equal rest =
    let more : 1 + n ≡ suc n = omega arith in
    subst (λ (k : ℕ). take k (x ∷ xs) ≡ take k (y ∷ ys)) (sym more) (ap (λ (z : ℕ). z ∷ take n xs) (equal refl) ∙ ap (λ (zs : List ℕ). y ∷ zs) rest)

-- two lists agree before the first pair that differs
agree : (xs ys : List ℕ) → take (agreed xs ys) xs ≡ take (agreed xs ys) ys
agree [] [] = refl
agree [] (y ∷ ys) = refl
agree (x ∷ xs) [] = refl
agree (x ∷ xs) (y ∷ ys) = one_more (x == y) x y (agreed xs ys) xs ys (eqb-true x y) (agree xs ys)

-- where none differs, they agree as far as both reach
all_agree : (xs ys : List ℕ) → position differ (zip xs ys) ≡ None → take (min (length xs) (length ys)) xs ≡ take (min (length xs) (length ys)) ys
all_agree xs ys none =
    let most : agreed xs ys ≤ length (zip xs ys) = prefix_len-le-length (λ (pair : ℕ × ℕ). not (differ pair)) (zip xs ys) in
    let all : agreed xs ys ≡ min (length xs) (length ys) = grind (arith, nat_tests, length-zip xs ys) in
    subst (λ (n : ℕ). take n xs ≡ take n ys) all (agree xs ys)

-- the first byte that differs
pub differs_at : (file : List ℕ) (at : ℕ) → position differ (zip file magic) ≡ Some at → DiffersAt file at
differs_at file at first =
    let here = position-Some differ (zip file magic) at (0, 0) first in
    let is_agreed : agreed file magic ≡ at = grind (arith, nat_tests) in
    let in_file : at < length file = omega (arith, here.0, length-zip file magic) in
    let in_magic : at < length magic = omega (arith, here.0, length-zip file magic) in
    let apart = subst (λ (pair : ℕ × ℕ). differ pair ≡ true) (get_or-zip file magic at (0, 0) in_file in_magic) here.1 in
    record {
      within = (in_magic, in_file);
      agrees = subst (λ (n : ℕ). take n file ≡ take n magic) is_agreed (agree file magic);
      differs = λ same.
          let equal : get_or file at 0 ≡ get_or magic at 0 = same_Some _ _ (sym (slice_get-get_or file at 0 in_file) ∙ same ∙ slice_get-get_or magic at 0 in_magic) in
          let none_differs = ap not (eq-eqb (get_or file at 0) (get_or magic at 0) equal) in cc;
    }

-- a file that agrees with the magic, and does not reach past it
pub ends_at : (file : List ℕ) (at : ℕ) → position differ (zip file magic) ≡ None → at ≡ length file → at ≤ length magic → EndsAt file at
ends_at file at none ends short =
    let least : min (length file) (length magic) ≡ at = omega arith in
    record {
      ends = ends;
      short = short;
      agrees = sym (take_all at file (omega arith)) ∙ subst (λ (n : ℕ). take n file ≡ take n magic) least (all_agree file magic none);
    }

-- a file that agrees with the magic, and reaches past it
pub has_magic : (file : List ℕ) → position differ (zip file magic) ≡ None → length magic < length file → HasMagic file
has_magic file none long =
    let n_is : min (length file) (length magic) ≡ length magic = omega arith in
    subst (λ (n : ℕ). take n file ≡ take n magic) n_is (all_agree file magic none)

-- what was measured and read of a file that is told, after a sync
pub read_front : {old synced measured : Option (List ℕ)} {len known : ℕ} (room head : List ℕ) {found : Option ℕ} → synced ≡ old → measured ≡ synced
    → IfTold synced (λ file. len ≡ length file) → known ≡ min len (length magic) → length room ≡ length magic
    → IfTold measured (λ file. head ≡ take (length (take known room)) file) → found ≡ position differ (zip head magic)
    → (file : List ℕ) → old ≡ Some file → (len ≡ length file) × (found ≡ position differ (zip file magic))
read_front {old = old} {synced = synced} {measured = measured} {len = len} {known = known} room head {found = found} sync measure size least wide bytes is file told =
    let sized : len ≡ length file = told_at synced (λ of. len ≡ length of) file size (sync ∙ told) in
    let read : head ≡ take (length (take known room)) file = told_at measured (λ of. head ≡ take (length (take known room)) of) file bytes (measure ∙ sync ∙ told) in
    let filled : length (take known room) ≡ min (length magic) (length file) = omega (arith, length-take known room) in
    let front : head ≡ take (length magic) file = read ∙ ap (λ (n : ℕ). take n file) filled ∙ take_min (length magic) file in
    (sized, is ∙ ap (λ (of : List ℕ). position differ (zip of magic)) front ∙ ap (position differ) (zip_front file magic))

module _ {D : Type 0} {g : Ghosts D} where
  -- a file with the magic, of which nothing more was read
  pub nothing_read : (file : List ℕ) (opening : Opening D g) → g.seen opening.disk ≡ Some file → Only file (g.may_leave opening.disk)
      → HasMagic file → length magic < length file → opening.gate ≡ length magic → opening.count ≡ 0 → opening.progress ≡ Reading → HasRead file [] opening
  nothing_read file opening told durable head long gate count reading = record {
    told = told;
    durable = durable;
    chain = drop (length magic) file;
    spelled = sym (take-append-drop (length magic) file) ∙ ap (λ (front : List ℕ). front ++ drop (length magic) file) head;
    gate = gate;
    is_there = omega arith;
    fit = All-nil _;
    count = count;
    found = subst (λ (progress : Progress). Found progress [] file opening.gate) (sym reading) tt;
  }
