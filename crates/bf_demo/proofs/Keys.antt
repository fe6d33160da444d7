-- Rows under keys that rise: a row with a greater key stands behind them, and no row has its key.
use Rattle.std.proofs.Common.{◌≡◌, ℕ, suc, zero, ◌+◌, ◌<◌, ◌≤◌, false, List, [], ◌∷◌, ◌++◌, map, refl, sym, ap, subst, ◌∙◌, arith, append_assoc, append-nil}
use Rattle.std.proofs.lemmas.Bool.Decides.{nat_tests}
use Rattle.std.specs.List.{range_with_len}
use Rattle.std.specs.declared.cmp.Ordering.TheVariants.{Greater}
use Rattle.bf_base.specs.declared.value.Value.{Value}
use Rattle.bf_base.specs.Values.{key_cmp}
use Rattle.bf_base.specs.Lists.{placed, with_placed, same_key, has}
use Rattle.bf_demo.specs.Script.{number}

greater_key : (a i : ℕ) → i < a → key_cmp (number a ∷ []) (number i ∷ []) ≡ Greater
greater_key a i h = grind (arith, nat_tests)

-- each of some rows has a number below a as its key
pub data AllBelow (key : List Value → List Value) (a : ℕ) : List (List Value) → Type 0 where
  none_below : AllBelow key a []
  one_below : {row : List Value} {rows : List (List Value)} (i : ℕ) → key row ≡ number i ∷ [] → i < a → AllBelow key a rows → AllBelow key a (row ∷ rows)

module _ {key : List Value → List Value} where
  pub placed_behind : (a : ℕ) (row : List Value) {rows : List (List Value)} → AllBelow key a rows → key row ≡ number a ∷ [] → placed key_cmp key rows row ≡ rows ++ row ∷ []
  placed_behind a row none_below e = refl
  placed_behind a row (one_below {row = first} {rows = rest} i at lt more) e =
      rw (e, at, greater_key a i lt) (ap (λ r. first ∷ r) (placed_behind a row more e))

  pub none_has_it : (a : ℕ) {rows : List (List Value)} → AllBelow key a rows → has same_key (map key rows) (number a ∷ []) ≡ false
  none_has_it a none_below = refl
  none_has_it a (one_below i at lt more) = rw (at, greater_key a i lt) (none_has_it a more)

  pub below_more : (a b : ℕ) {rows : List (List Value)} → a ≤ b → AllBelow key a rows → AllBelow key b rows
  below_more a b le none_below = none_below
  below_more a b le (one_below i at lt more) = one_below i at (omega arith) (below_more a b le more)

  pub below_push : (a : ℕ) (row : List Value) {rows : List (List Value)} → key row ≡ number a ∷ [] → AllBelow key a rows → AllBelow key (a + 1) (rows ++ row ∷ [])
  below_push a row e none_below = one_below a e (omega arith) none_below
  below_push a row e (one_below i at lt more) = one_below i at (omega arith) (below_push a row e more)

  -- rows that a range of numbers gives stand behind those with smaller keys
  pub placed_range : (f : ℕ → List Value) → ((i : ℕ) → key (f i) ≡ number i ∷ []) → (k a : ℕ) (rows : List (List Value)) → AllBelow key a rows
      → with_placed key_cmp key rows (map f (range_with_len a k)) ≡ rows ++ map f (range_with_len a k)
  placed_range f at zero a rows below = sym (append-nil rows)
  placed_range f at (suc k) a rows below =
      let first : placed key_cmp key rows (f a) ≡ rows ++ f a ∷ [] = placed_behind a (f a) below (at a) in
      let rest = placed_range f at k (a + 1) (rows ++ f a ∷ []) (below_push a (f a) (at a) below) in
      ap (λ (r : List (List Value)). with_placed key_cmp key r (map f (range_with_len (a + 1) k))) first ∙ (rest ∙ append_assoc rows (f a ∷ []) (map f (range_with_len (a + 1) k)))

  pub below_range : (f : ℕ → List Value) → ((i : ℕ) → key (f i) ≡ number i ∷ []) → (k a : ℕ) (rows : List (List Value)) → AllBelow key a rows → AllBelow key (a + k) (rows ++ map f (range_with_len a k))
  below_range f at zero a rows below = below_more a (a + zero) (omega arith) (subst (AllBelow key a) (sym (append-nil rows)) below)
  below_range f at (suc k) a rows below =
      below_more ((a + 1) + k) (a + suc k) (omega arith) (
      subst (AllBelow key ((a + 1) + k)) (append_assoc rows (f a ∷ []) (map f (range_with_len (a + 1) k)))
      (below_range f at k (a + 1) (rows ++ f a ∷ []) (below_push a (f a) (at a) below))
      )

pub range_joined : (a m k : ℕ) → range_with_len a m ++ range_with_len (a + m) k ≡ range_with_len a (m + k)
range_joined a zero k =
    let e : a + zero ≡ a = omega arith in
    let f : zero + k ≡ k = omega arith in
    ap (λ t. range_with_len t k) e ∙ sym (ap (range_with_len a) f)
range_joined a (suc m) k =
    let e : suc m + k ≡ suc (m + k) = omega arith in
    let f : a + suc m ≡ (a + 1) + m = omega arith in
    ap (λ t. (a ∷ range_with_len (a + 1) m) ++ range_with_len t k) f ∙ (ap (λ r. a ∷ r) (range_joined (a + 1) m k) ∙ sym (ap (range_with_len a) e))
