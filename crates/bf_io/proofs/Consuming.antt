-- One piece after another.
use Rattle.std.proofs.Common.{ℕ, List, ◌++◌, append_assoc, Option, Some, None, ◌∙◌, ap, sym}
use Rattle.std.specs.Io.KnownBytes.{Consumes}
use Rattle.bf_io.specs.Whole.{LostPrefix}

-- two pieces in a row are one
pub consumes_then : (old mid new : Option (List ℕ)) (xs ys : List ℕ) → Consumes old mid xs → Consumes mid new ys → Consumes old new (xs ++ ys)
consumes_then None mid new xs ys h k = tt
consumes_then (Some a) None new xs ys h k = absurd h
consumes_then (Some a) (Some b) None xs ys h k = absurd k
consumes_then (Some a) (Some b) (Some c) xs ys h k = h ∙ ap (λ (z : List ℕ). xs ++ z) k ∙ sym (append_assoc xs ys c)

-- so the source lost a prefix
pub lost_then : (old mid new : Option (List ℕ)) (xs ys : List ℕ) → Consumes old mid xs → Consumes mid new ys → LostPrefix old new
lost_then old mid new xs ys h k = (xs ++ ys, consumes_then old mid new xs ys h k)
