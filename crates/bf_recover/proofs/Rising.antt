-- Lists that rise, and an entry behind all others.
use Rattle.std.proofs.Common.{◌≡◌, true, List, [], ◌∷◌, ◌++◌, map, Ordering, Less, refl}
use Rattle.std.specs.Cmp.{IsTotalOrder}
use Rattle.std.proofs.lemmas.Bool.{and_parts}
use Rattle.bf_base.specs.Lists.{rises}
use Rattle.bf_base.specs.Maps.{with_entry}
use Rattle.bf_base.proofs.Order.{less_from_test, rises_skip, rises_tail, turned_less}

module _ {X K : Type 0} {cmp : K → K → Ordering} (o : IsTotalOrder cmp) (key : X → K) where
  before_last : (y x : X) (ys zs : List X) → rises cmp (map key (y ∷ (ys ++ x ∷ zs))) ≡ true → cmp (key y) (key x) ≡ Less
  before_last y x [] zs h = less_from_test _ (and_parts _ _ h).0
  before_last y x (w ∷ ys) zs h = before_last y x ys zs (rises_skip o (key y) (key w) (map key (ys ++ x ∷ zs)) h)

  pub with_entry-behind : (ys zs : List X) (x : X) → rises cmp (map key (ys ++ x ∷ zs)) ≡ true → with_entry cmp key ys x ≡ ys ++ x ∷ []
  with_entry-behind [] zs x h = refl
  with_entry-behind (y ∷ ys) zs x h =
      let behind = turned_less o (key y) (key x) (before_last y x ys zs h) in
      rw (behind, with_entry-behind ys zs x (rises_tail o (key y) (map key (ys ++ x ∷ zs)) h)) refl
