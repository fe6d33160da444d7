-- The order of pairs is total, and only equal pairs tie.
use Rattle.std.proofs.Common.{◌≡◌, List, Ordering, Less, Equal, Greater, refl, ap₂}
use Rattle.std.specs.Cmp.{IsTotalOrder, on_total, then_total}
use Rattle.std.specs.FinMap.{IsAntisymmetric}
use Rattle.std.specs.Ordering.{ordering_then}
use Rattle.bf_base.specs.declared.value.Value.{Value}
use Rattle.bf_base.specs.Values.{key_cmp, key_cmp_total, key_cmp-IsAntisymmetric}
use Rattle.bf_index.specs.Pairs.{Pair, pair_cmp}

pub pair_cmp_total : IsTotalOrder pair_cmp
pair_cmp_total = then_total (on_total (λ (pair : Pair). pair.0) key_cmp_total) (on_total (λ (pair : Pair). pair.1) key_cmp_total)

both_tie : (r s : Ordering) → ordering_then r s ≡ Equal → (r ≡ Equal) × (s ≡ Equal)
both_tie Less s e = absurd cc
both_tie Equal s e = (refl, e)
both_tie Greater s e = absurd cc

pub pair_cmp-IsAntisymmetric : IsAntisymmetric pair_cmp
pair_cmp-IsAntisymmetric a b e =
    let parts = both_tie (key_cmp a.0 b.0) (key_cmp a.1 b.1) e in
    ap₂ (λ (v k : List Value). (v, k)) (key_cmp-IsAntisymmetric a.0 b.0 parts.0) (key_cmp-IsAntisymmetric a.1 b.1 parts.1)
