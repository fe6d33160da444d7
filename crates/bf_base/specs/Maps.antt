-- Finite maps, as lists of entries in the order of their keys.
use Rattle.std.specs.Prelude.{Bool, not, List, [], ◌∷◌, map, filter, find, Option}
use Rattle.std.specs.declared.cmp.Ordering.{Ordering}
use Rattle.std.specs.declared.cmp.Ordering.TheVariants.{Less, Equal, Greater}
use Rattle.std.specs.Ordering.{is_eq}
use Rattle.bf_base.specs.Lists.{rises}

-- an entry x beside the first entry y, with which it compares so: before it, in its place, or placed among those behind it
abbrev pub beside : {X : Type 0} → Ordering → X → List X → X → List X → List X
beside Less y ys x placed = x ∷ y ∷ ys
beside Equal y ys x placed = x ∷ ys
beside Greater y ys x placed = y ∷ placed

module _ {X K : Type 0} (cmp : K → K → Ordering) (key : X → K) where
  -- the keys come in order, each once
  abbrev pub is_map : List X → Bool
  is_map xs = rises cmp (map key xs)

  abbrev pub has_key : K → X → Bool
  has_key k x = is_eq (cmp (key x) k)

  -- the entry of a key
  abbrev pub entry_at : List X → K → Option X
  entry_at xs k = find (has_key k) xs

  -- the map with an entry, which takes the place of one that has its key
  abbrev pub with_entry : List X → X → List X
  with_entry [] x = x ∷ []
  with_entry (y ∷ ys) x = beside (cmp (key x) (key y)) y ys x (with_entry ys x)

  -- the map without the entry of a key
  abbrev pub without_key : List X → K → List X
  without_key xs k = filter (λ x. not (has_key k x)) xs
