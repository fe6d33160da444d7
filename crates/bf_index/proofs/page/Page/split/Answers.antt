use Rattle.std.proofs.Common.{◌≡◌, length, drop, ap, ◌∙◌, arith}
use Rattle.std.proofs.lemmas.List.{length-take-le, length-drop, length-reverse}
use Rattle.bf_index.proofs.page.Page.split.Goals as goal

pub invariant_of-self : goal.invariant_of-self
invariant_of-self c =
    let full : length c.self.inside.pairs.items ≡ 64 = ap length c.self.view_is ∙ c.requires.full in
    (omega (arith, ap length c.move_half.ensures.from, length-take-le 32 c.self.inside.pairs.items (omega (arith, full))), omega (arith, c.self.invariant.1, c.move_half.ensures.kept.0))

pub invariant_of-upper : goal.invariant_of-upper
invariant_of-upper c =
    let xs = c.self.inside.pairs.items in
    let full : length xs ≡ 64 = ap length c.self.view_is ∙ c.requires.full in (
      omega (arith, full, ap length c.reverse.ensures.items, length-reverse c.move_half.new.to.items, ap length c.move_half.ensures.to, length-reverse (drop 32 xs), length-drop 32 xs),
      omega (arith, c.upper.invariant.1, c.move_half.ensures.kept.1, c.reverse.ensures.capacity),
    )
