-- Texts of a list that a loop puts, where memory runs out in one of them.
use Rattle.std.proofs.Common.{◌≡◌, ℕ, zero, suc, ◌+◌, ◌-◌, ◌<◌, ◌≤◌, List, [], ◌∷◌, ◌++◌, length, get_or, take, drop, map, codes, Result, refl, ap, sym, ◌∙◌, arith, append_assoc, append-nil, zero-add}
use Rattle.std.specs.List.{flat_map}
use Rattle.std.specs.Result.{IsErr}
use Rattle.std.proofs.lemmas.List.{take-append-drop, drop_more, take_rest}
use Rattle.std.proofs.lemmas.List.Concat.{flat_map-append}
use Rattle.bf_base.specs.declared.memory.Memory.{Memory}
use Rattle.bf_text.specs.Puts.{Puts}
use Rattle.bf_text.specs.Replies.{listed}
use Rattle.bf_text.specs.Report.{texts_from}
use Rattle.bf_text.proofs.Putting.{puts_no_more, puts_behind}

-- the texts before a place, the text at it and those behind it are all
each_split : {X : Type 0} (f : X → List ℕ) (xs : List X) (i : ℕ) (x : X) → i < length xs → x ≡ get_or xs i x
    → flat_map f xs ≡ (flat_map f (take i xs) ++ f x) ++ flat_map f (drop (i + 1) xs)
each_split f xs i x below at =
    ap (flat_map f) (sym (take-append-drop i xs)) ∙ flat_map-append f (take i xs) (drop i xs)
    ∙ ap (λ rest. flat_map f (take i xs) ++ flat_map f rest) (drop_more xs i x below ∙ ap (λ y. y ∷ drop (i + 1) xs) (sym at))
    ∙ sym (append_assoc (flat_map f (take i xs)) (f x) (flat_map f (drop (i + 1) xs)))

-- memory runs out in the text at a place
pub cut_each : {X : Type 0} (f : X → List ℕ) (xs : List X) (i : ℕ) (x : X) (result : Result (Unit {0}) Memory) (old between new : List ℕ)
    → i < length xs → x ≡ get_or xs i x → IsErr result → between ≡ old ++ flat_map f (take i xs)
    → Puts result (f x) between new → Puts result (flat_map f xs) old new
cut_each f xs i x result old between new below at fails before ends =
    rw (each_split f xs i x below at)
    (puts_no_more result (flat_map f (take i xs) ++ f x) (flat_map f (drop (i + 1) xs)) old new fails
    (puts_behind result (flat_map f (take i xs)) (f x) old between new before ends))

-- what a function of mapped values gives, it gives of the values
flat_map-map : {X Y : Type 0} (f : X → Y) (g : Y → List ℕ) (xs : List X) → flat_map g (map f xs) ≡ flat_map (λ x. g (f x)) xs
flat_map-map f g [] = refl
flat_map-map f g (x ∷ xs) = ap (λ rest. g (f x) ++ rest) (flat_map-map f g xs)

-- memory runs out in the text of a mapped value
pub cut_mapped : {X Y : Type 0} (f : X → Y) (g : Y → List ℕ) (xs : List X) (i : ℕ) (x : X) (result : Result (Unit {0}) Memory) (old between new : List ℕ)
    → i < length xs → x ≡ get_or xs i x → IsErr result → between ≡ old ++ flat_map g (map f (take i xs))
    → Puts result (g (f x)) between new → Puts result (flat_map g (map f xs)) old new
cut_mapped f g xs i x result old between new below at fails before ends =
    rw (flat_map-map f g xs)
    (cut_each (λ y. g (f y)) xs i x result old between new below at fails (rw (flat_map-map f g (take i xs)) at before) ends)

-- a list of texts is its first and the others, each behind a comma
pub listed_first : {X : Type 0} (f : X → List ℕ) (xs : List X) (x : X) → 1 ≤ length xs → x ≡ get_or xs 0 x
    → listed (map f xs) ≡ f x ++ flat_map (λ y. codes ", " ++ y) (map f (take (length xs - 1) (drop 1 xs)))
listed_first f (y ∷ xs) x some first = rw (first, take_rest (y ∷ xs) 1) refl
listed_first f [] x some first = absurd (omega arith)

-- counted texts up to a place, and those behind it, are all
counted_split : {X : Type 0} (f : ℕ → X → List ℕ) (n : ℕ) (xs : List X) (i : ℕ)
    → texts_from f n xs ≡ texts_from f n (take i xs) ++ texts_from f (i + n) (drop i xs)
counted_split f n xs zero = rw (zero-add n) refl
counted_split f n [] (suc i) = refl
counted_split f n (x ∷ xs) (suc i) = let rest = counted_split f (n + 1) xs i in grind (arith, rest, append_assoc)

-- the counted texts up to a place and the one at it are those up to the next place
pub counted_next : {X : Type 0} (f : ℕ → X → List ℕ) (n : ℕ) (xs : List X) (i : ℕ) (x : X) → i < length xs → x ≡ get_or xs i x
    → texts_from f n (take (i + 1) xs) ≡ texts_from f n (take i xs) ++ f (i + n) x
counted_next f n (y ∷ xs) zero x below at = rw (at, zero-add n) (append-nil (f n y))
counted_next f n (y ∷ xs) (suc i) x below at = let next = counted_next f (n + 1) xs i x (omega arith) at in grind (arith, next, append_assoc)
counted_next f n [] i x below at = absurd (omega arith)

-- memory runs out in the counted text at a place
pub cut_counted : {X : Type 0} (f : ℕ → X → List ℕ) (n : ℕ) (xs : List X) (i : ℕ) (x : X) (result : Result (Unit {0}) Memory) (old between new : List ℕ)
    → i < length xs → x ≡ get_or xs i x → IsErr result → between ≡ old ++ texts_from f n (take i xs)
    → Puts result (f (i + n) x) between new → Puts result (texts_from f n xs) old new
cut_counted f n xs i x result old between new below at fails before ends =
    rw (counted_split f n xs (i + 1), counted_next f n xs i x below at)
    (puts_no_more result (texts_from f n (take i xs) ++ f (i + n) x) (texts_from f (i + 1 + n) (drop (i + 1) xs)) old new fails
    (puts_behind result (texts_from f n (take i xs)) (f (i + n) x) old between new before ends))
