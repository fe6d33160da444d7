-- The writes of items that are planned one by one.
use Rattle.std.proofs.Common.{◌≡◌, ℕ, ◌+◌, ◌<◌, List, [], ◌∷◌, ◌++◌, map, length, get_or, take, sym, ap, ap₂, ◌∙◌}
use Rattle.std.proofs.lemmas.List.{take_more, map-append}
use Rattle.std.proofs.lemmas.Grind.{fold-append}
use Rattle.bf_txn.specs.declared.write.Write.{Write}
use Rattle.bf_txn.specs.Writes.{KeyWrite, gathered, key_write_of, with_key_write}

module _ {X B : Type 0} (now : B → X) (items : List B) (i : ℕ) (item : B) (in_range : i < length items) (is : item ≡ get_or items i item) where
  -- one more item's write is gathered
  pub gathered_more : (f : B → Write) (so_far more : List KeyWrite) (next : KeyWrite) → so_far ≡ gathered (map f (take i items)) → more ≡ with_key_write so_far next → next ≡ key_write_of (f item) → more ≡ gathered (map f (take (i + 1) items))
  gathered_more f so_far more next is_so_far is_more is_next =
      is_more ∙ ap₂ (λ (ws : List KeyWrite) (w : KeyWrite). with_key_write ws w) is_so_far is_next
      ∙ sym (ap gathered (ap (map f) (take_more items i item in_range ∙ ap (λ (x : B). take i items ++ x ∷ []) (sym is)) ∙ map-append f (take i items) (item ∷ []))
      ∙ fold-append (λ ws w. with_key_write ws (key_write_of w)) [] (map f (take i items)) (f item ∷ []))
