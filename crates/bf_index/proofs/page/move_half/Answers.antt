use Rattle.std.proofs.Common.{◌≡◌, ℕ, ◌+◌, ◌-◌, length, take, drop, reverse, ap, sym, ◌∙◌, refl, arith, vec_len}
use Rattle.std.proofs.lemmas.List.{take_all, drop_all, length-take-le}
use Rattle.bf_base.proofs.Order.{same_from_some}
use Rattle.bf_heap.proofs.Halves.{less_left, more_moved}
use Rattle.bf_index.proofs.page.move_half.Goals as goal

pub loop-init : goal.loop-init
loop-init c =
    (sym (take_all 64 c.args.from.now.items (omega (arith, c.requires.full))), c.requires.empty ∙ sym (ap reverse (drop_all 64 c.args.from.now.items (omega (arith, c.requires.full)))), refl, omega arith)

-- the last pair of those that are left is the first of those that are moved
pub loop-preserved : goal.loop-preserved
loop-preserved c =
    let xs = c.args.from.now.items in
    let n : ℕ = 63 - c.loop.counter in
    let more : 64 - c.loop.counter ≡ n + 1 = omega (arith, c.loop-test.true) in
    let next : 64 - (c.loop.counter + 1) ≡ n = omega arith in
    let left_is : c.loop.from.items ≡ take (n + 1) xs = c.loop.invariant.0 ∙ ap (λ k. take k xs) more in
    let size : length c.loop.from.items ≡ n + 1 = ap length left_is ∙ length-take-le (n + 1) xs (omega (arith, c.requires.full)) in
    let last : vec_len c.loop.from - 1 ≡ n = omega (arith, size, c.loop.from.ok.0) in
    let pair = same_from_some _ _ (sym c.unwrap-pair.ensures ∙ c.pop.ensures.value c.unwrap-pair.result (omega (arith, size, c.loop.from.ok.0))) in
    let pushed = rw c.unwrap.ensures at c.push.ensures.items in (
      less_left xs _ _ n _ left_is c.pop.ensures.rest last ∙ ap (λ k. take k xs) (sym next),
      pushed ∙ more_moved xs _ _ c.unwrap-pair.result n _ left_is pair last (omega (arith, c.requires.full)) (c.loop.invariant.1 ∙ ap (λ k. reverse (drop k xs)) more) ∙ ap (λ k. reverse (drop k xs)) (sym next),
      c.pop.ensures.capacity ∙ c.loop.invariant.2,
      omega (arith, c.loop.invariant.3, c.push.ensures.capacity),
    )
