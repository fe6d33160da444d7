-- Blocks of a list that is gone through item by item.
use Rattle.std.proofs.Common.{◌≡◌, ℕ, ◌+◌, ◌<◌, List, [], ◌∷◌, ◌++◌, map, length, get_or, take, Option, ap, ◌∙◌}
use Rattle.std.specs.Prelude.{option_map, slice_get}
use Rattle.std.specs.List.{flat_map}
use Rattle.std.specs.Option.{option_to_list}
use Rattle.std.proofs.lemmas.List.{append-nil, take_more}
use Rattle.std.proofs.lemmas.List.Concat.{flat_map-append}
use Rattle.std.proofs.lemmas.Option.{slice_get-map}

module _ {X Y : Type 0} where
  pub one_more_block : (f : X → List Y) (xs : List X) (i : ℕ) (d : X) → i < length xs → flat_map f (take (i + 1) xs) ≡ flat_map f (take i xs) ++ f (get_or xs i d)
  one_more_block f xs i d within =
      ap (flat_map f) (take_more xs i d within) ∙ flat_map-append f (take i xs) (get_or xs i d ∷ []) ∙ ap (λ ys. flat_map f (take i xs) ++ ys) (append-nil (f (get_or xs i d)))

  -- an item at a place, after a map
  pub listed_at : (f : X → Y) (xs : List X) (at : ℕ) (o : Option X) → slice_get xs at ≡ o → option_to_list (slice_get (map f xs) at) ≡ option_to_list (option_map f o)
  listed_at f xs at o is = ap option_to_list (slice_get-map f xs at ∙ ap (option_map f) is)
