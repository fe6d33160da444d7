-- What comparing tells: only equal values, keys and names tie, and `==` holds of those alone.
use Rattle.std.specs.Prelude.{◌≡◌, ℕ, List}
use Rattle.std.proofs.Common.{subst}
use Rattle.std.specs.declared.cmp.Ordering.{Ordering}
use Rattle.std.specs.declared.cmp.Ordering.TheVariants.{Equal}
use Rattle.std.specs.Ordering.{nat_cmp, eq_by_cmp}
use Rattle.std.specs.Bool.{Decides}
use Rattle.std.specs.Cmp.{IsTotalOrder, Equal-is}
use Rattle.std.specs.Cmp.Lexicographic.{pointwise, pointwise_decides, slice_cmp}
use Rattle.std.specs.FinMap.{IsAntisymmetric, nat_cmp-IsAntisymmetric, slice_cmp-IsAntisymmetric}
use Rattle.std.proofs.lemmas.Cmp.{tied_itself, nat_list_cmp_total}
use Rattle.bf_base.specs.declared.value.Value.{Value}
use Rattle.bf_base.specs.Values.{value_cmp, key_cmp, value_cmp_total, key_cmp_total, value_cmp-IsAntisymmetric, key_cmp-IsAntisymmetric}

module _ {K : Type 0} {R : K → K → Ordering} (order : IsTotalOrder R) (ties : IsAntisymmetric R) where
  level : (x y : K) → x ≡ y → R x y ≡ Equal
  level x y same = subst (λ z. R x z ≡ Equal) same (tied_itself order x)

  tie : (x y : K) → (R x y ≡ Equal → x ≡ y) × (x ≡ y → R x y ≡ Equal)
  tie x y = (ties x y, level x y)

  same : (x y : K) → Decides (eq_by_cmp R x y) (x ≡ y)
  same x y = (λ e. ties x y ((Equal-is (R x y)).0 e), λ p. (Equal-is (R x y)).1 (level x y p))

pub key_ties : (x y : List Value) → (key_cmp x y ≡ Equal → x ≡ y) × (x ≡ y → key_cmp x y ≡ Equal)
key_ties = tie key_cmp_total key_cmp-IsAntisymmetric

pub name_ties : (x y : List ℕ) → (slice_cmp nat_cmp x y ≡ Equal → x ≡ y) × (x ≡ y → slice_cmp nat_cmp x y ≡ Equal)
name_ties = tie nat_list_cmp_total (slice_cmp-IsAntisymmetric nat_cmp-IsAntisymmetric)

pub same_values : (x y : Value) → Decides (eq_by_cmp value_cmp x y) (x ≡ y)
same_values = same value_cmp_total value_cmp-IsAntisymmetric

pub same_keys : (x y : List Value) → Decides (pointwise (eq_by_cmp value_cmp) x y) (x ≡ y)
same_keys = pointwise_decides same_values
