use Rattle.std.proofs.Common.{◌≡◌, ◌<◌, ◌++◌, List, ℕ, ap, sym, ◌∙◌, subst}
use Rattle.std.specs.Prelude.{All}
use Rattle.bf_bits.specs.Words.{AreMarked}
use Rattle.bf_bits.proofs.Counting.{all-times}
use Rattle.bf_bits.proofs.Ends.{begins}
use Rattle.bf_bits.proofs.bits.Bits.of_done.Goals as goal

pub of_words-requires : goal.of_words-requires
of_words-requires c =
    let a = c.as_slice.ensures in
    let done = c.args.done.now in
    let kept = c.extend_from_slice.new.self.items in
    let is : kept ≡ done = c.in_ok-extend_from_slice.ensures.items ∙ ap (λ (l : List ℕ). l ++ done) c.in_ok-kept.ensures.items in
    let below : All (λ p. p < c.args.granules) kept = subst (λ (l : List ℕ). All (λ p. p < c.args.granules) l) (sym is) c.requires.below in
    begins c.as_slice.result.now kept c.len.result c.args.granules (a.len ∙ sym c.len.ensures)
    (subst (λ (z : List ℕ × List ℕ). AreMarked z.0 z.1) (λ k. (sym a.value k, sym is k)) c.in_ok-words.ensures.marked)
    (all-times (λ p. p < c.args.granules) kept below)
