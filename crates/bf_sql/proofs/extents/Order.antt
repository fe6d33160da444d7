-- The order of whole numbers under products and sums.
use Rattle.std.proofs.Common.{◌≡◌, ℕ, suc, ◌+◌, ◌*◌, ◌≤◌, ℤ, pos, negsuc, ◌*ℤ◌, ◌≤ℤ◌, int_le, true, arith}
use Rattle.std.specs.Int.{int_min, int_max}
use Rattle.std.proofs.lemmas.Int.{ints, clamps}
use borrow.Author.Differences.{up, down, product_is}
use native.Mathlib.Nat.{mul-le-mul_right, add-mul}
use lib.IntN.{*ℤ_comm}

-- what a test of order tells, and the other way round
pub tells : (a b : ℤ) → int_le a b ≡ true → a ≤ℤ b
tells a b h = omega (arith, ints)

pub tests : (a b : ℤ) → a ≤ℤ b → int_le a b ≡ true
tests a b h = grind (arith, ints)

spread : (a b c d n : ℕ) → a + b ≤ c + d → a * n + b * n ≤ c * n + d * n
spread a b c d n h = omega (arith, mul-le-mul_right n h, add-mul a b n, add-mul c d n)

pub times_natural : (a b : ℤ) (n : ℕ) → a ≤ℤ b → (a *ℤ pos n) ≤ℤ (b *ℤ pos n)
times_natural a b n h =
    let order : up a + down b ≤ up b + down a = omega (arith, ints) in
    omega (arith, ints, product_is a (pos n), product_is b (pos n), spread (up a) (down b) (up b) (down a) n order)

pub times_negative : (a b : ℤ) (n : ℕ) → a ≤ℤ b → (b *ℤ negsuc n) ≤ℤ (a *ℤ negsuc n)
times_negative a b n h =
    let order : up a + down b ≤ up b + down a = omega (arith, ints) in
    omega (arith, ints, product_is a (negsuc n), product_is b (negsuc n), spread (up a) (down b) (up b) (down a) (suc n) order)

-- a product by one number lies between the products of the ends
pub scaled : (a n b m : ℤ) → a ≤ℤ n → n ≤ℤ b → (int_min (a *ℤ m) (b *ℤ m) ≤ℤ (n *ℤ m)) × ((n *ℤ m) ≤ℤ int_max (a *ℤ m) (b *ℤ m))
scaled a n b (pos k) low high =
    let left = times_natural a n k low in
    let right = times_natural n b k high in
    (omega (arith, ints, clamps), omega (arith, ints, clamps))
scaled a n b (negsuc k) low high =
    let left = times_negative a n k low in
    let right = times_negative n b k high in
    (omega (arith, ints, clamps), omega (arith, ints, clamps))

scaled_right : (c m d n : ℤ) → c ≤ℤ m → m ≤ℤ d → (int_min (n *ℤ c) (n *ℤ d) ≤ℤ (n *ℤ m)) × ((n *ℤ m) ≤ℤ int_max (n *ℤ c) (n *ℤ d))
scaled_right c m d n low high = rw (*ℤ_comm n c, *ℤ_comm n d, *ℤ_comm n m) (scaled c m d n low high)

least_under : (p q r s x y z : ℤ) → int_min p q ≤ℤ x → int_min r s ≤ℤ y → int_min x y ≤ℤ z → int_min (int_min p q) (int_min r s) ≤ℤ z
least_under p q r s x y z f g h = omega (arith, ints, clamps)

greatest_over : (p q r s x y z : ℤ) → x ≤ℤ int_max p q → y ≤ℤ int_max r s → z ≤ℤ int_max x y → z ≤ℤ int_max (int_max p q) (int_max r s)
greatest_over p q r s x y z f g h = omega (arith, ints, clamps)

-- a product lies between the least and the greatest product of the ends
pub product_between : (a b c d n m : ℤ) → a ≤ℤ n → n ≤ℤ b → c ≤ℤ m → m ≤ℤ d
    → (int_min (int_min (a *ℤ c) (a *ℤ d)) (int_min (b *ℤ c) (b *ℤ d)) ≤ℤ (n *ℤ m)) × ((n *ℤ m) ≤ℤ int_max (int_max (a *ℤ c) (a *ℤ d)) (int_max (b *ℤ c) (b *ℤ d)))
product_between a b c d n m f g h k =
    let by_left = scaled_right c m d a h k in
    let by_right = scaled_right c m d b h k in
    let across = scaled a n b m f g in (
      least_under (a *ℤ c) (a *ℤ d) (b *ℤ c) (b *ℤ d) (a *ℤ m) (b *ℤ m) (n *ℤ m) by_left.0 by_right.0 across.0,
      greatest_over (a *ℤ c) (a *ℤ d) (b *ℤ c) (b *ℤ d) (a *ℤ m) (b *ℤ m) (n *ℤ m) by_left.1 by_right.1 across.1,
    )
