-- Elements of lists, and tests of all of them.
use Rattle.std.proofs.Common.{◌≡◌, zero, suc, Bool, true, false, List, [], ◌∷◌, ◌++◌, map, fold, Less, Equal, Greater, refl, sym, ap, subst, arith}
use Rattle.std.specs.Prelude.{flat_map, Contains}
use Rattle.std.specs.List.{All, AllByRecursion, list_all}
use Rattle.std.proofs.lemmas.Bool.{and_parts, and_from}
use Rattle.bf_base.specs.declared.value.Value.{Value}
use Rattle.bf_base.specs.Lists.{when}
use Rattle.std.specs.BTreeSet.{insert_key}
use Rattle.std.specs.Ordering.{match_ordering}
use Rattle.bf_base.specs.Values.{key_cmp}
use Rattle.bf_base.proofs.Ties.{key_ties}
use Rattle.bf_sql.specs.Footprints.{in_key_order}

module _ {X : Type 0} where
  pub here : (x : X) (xs : List X) → Contains (x ∷ xs) x
  here x xs = (0, omega arith, refl)

  pub behind : (x y : X) (xs : List X) → Contains xs y → Contains (x ∷ xs) y
  behind x y xs (k, below, at) = (suc k, omega arith, at)

  pub first_of : (P : X → Type 0) (x : X) (xs : List X) → All P (x ∷ xs) → P x
  first_of P x xs all = all 0 x (omega arith)

  pub rest_of : (P : X → Type 0) (x : X) (xs : List X) → All P (x ∷ xs) → All P xs
  rest_of P x xs all = λ k d below. all (suc k) d (omega arith)

  pub at_each : (P : X → Type 0) (xs : List X) (x : X) → All P xs → Contains xs x → P x
  at_each P xs x all (k, below, at) = subst P at (all k x below)

  pub all_append : (test : X → Bool) (xs ys : List X) → list_all test xs ≡ true → list_all test ys ≡ true → list_all test (xs ++ ys) ≡ true
  all_append test [] ys h g = g
  all_append test (x ∷ xs) ys h g = and_from _ _ (and_parts _ _ h).0 (all_append test xs ys (and_parts _ _ h).1 g)

  pub all_when : (test : X → Bool) (b : Bool) (x : X) → test x ≡ true → list_all test (when b x) ≡ true
  all_when test true x passes = and_from _ _ passes refl
  all_when test false x passes = refl

  pub all_flat : {Y : Type 0} (test : X → Bool) (f : Y → List X) → ((y : Y) → list_all test (f y) ≡ true) → (ys : List Y) → list_all test (flat_map f ys) ≡ true
  all_flat test f each [] = refl
  all_flat test f each (y ∷ ys) = all_append test (f y) (flat_map f ys) (each y) (all_flat test f each ys)

-- keys in their order have each key, once
abbrev with_key : List (List Value) → List Value → List (List Value)
with_key keys key = insert_key key_cmp keys key

has_new : (keys : List (List Value)) (key : List Value) → Contains (with_key keys key) key
has_new [] key = here key []
has_new (k ∷ keys) key = elim (key_cmp key k) as (λ r. key_cmp key k ≡ r → Contains (match_ordering r (key ∷ k ∷ keys) (k ∷ keys) (k ∷ with_key keys key)) key) [
  | Less ↦ λ e. here key (k ∷ keys)
  | Equal ↦ λ e. subst (Contains (k ∷ keys)) (sym ((key_ties key k).0 e)) (here k keys)
  | Greater ↦ λ e. behind k key (with_key keys key) (has_new keys key)
] refl

keeps : (keys : List (List Value)) (key other : List Value) → Contains keys other → Contains (with_key keys key) other
keeps [] key other (at, below, is) = absurd (omega arith)
keeps (k ∷ keys) key other (zero, below, is) = elim (key_cmp key k) as (λ r. Contains (match_ordering r (key ∷ k ∷ keys) (k ∷ keys) (k ∷ with_key keys key)) other) [
  | Less ↦ behind key other (k ∷ keys) (zero, omega arith, is)
  | Equal ↦ (zero, omega arith, is)
  | Greater ↦ subst (Contains (k ∷ with_key keys key)) is (here k (with_key keys key))
]
keeps (k ∷ keys) key other (suc at, below, is) =
    let later : Contains keys other = (at, omega arith, is) in
    elim (key_cmp key k) as (λ r. Contains (match_ordering r (key ∷ k ∷ keys) (k ∷ keys) (k ∷ with_key keys key)) other) [
      | Less ↦ behind key other (k ∷ keys) (behind k other keys later)
      | Equal ↦ behind k other keys later
      | Greater ↦ behind k other (with_key keys key) (keeps keys key other later)
    ]

keeps_all : (keys more : List (List Value)) (other : List Value) → Contains keys other → Contains (fold with_key keys more) other
keeps_all keys [] other there = there
keeps_all keys (key ∷ more) other there = keeps_all (with_key keys key) more other (keeps keys key other there)

has_each : (keys more : List (List Value)) (P : List Value → Type 0) → ((key : List Value) → Contains (fold with_key keys more) key → P key) → AllByRecursion P more
has_each keys [] P then = tt
has_each keys (key ∷ more) P then =
    (then key (keeps_all (with_key keys key) more key (has_new keys key)), has_each (with_key keys key) more P then)

pub in_order_has_each : (keys : List (List Value)) (P : List Value → Type 0) → ((key : List Value) → Contains (in_key_order keys) key → P key) → AllByRecursion P keys
in_order_has_each keys P then = has_each [] keys P then

-- what a map has, its list has
pub mapped : {X Y : Type 0} (f : X → Y) (xs : List X) (x : X) → Contains xs x → Contains (map f xs) (f x)
mapped f [] x (k, below, at) = absurd (omega arith)
mapped f (y ∷ xs) x (zero, below, at) = subst (λ z. Contains (f y ∷ map f xs) z) (ap f at) (here (f y) (map f xs))
mapped f (y ∷ xs) x (suc k, below, at) = behind (f y) (f x) (map f xs) (mapped f xs x (k, omega arith, at))
