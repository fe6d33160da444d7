use Rattle.std.proofs.Common.{◌≡◌, ◌+◌, ◌<◌, ◌/◌, ◌∷◌, [], ◌++◌, take, get_or, length, arith, subst, sym, List, ℕ, ap}
use Rattle.std.proofs.lemmas.List.{take_more}
use Rattle.std.proofs.lemmas.List.Elements.{All-get_or}
use Rattle.bf_bits.specs.Positions.{times}
use Rattle.bf_bits.specs.Words.{AreMarked}
use Rattle.bf_bits.proofs.Counting.{times-append, times-here, times-take}
use Rattle.bf_bits.proofs.Ends.{marked_more}
use Rattle.bf_bits.proofs.words.mark_all.Goals as goal

pub loop-at-preserved : goal.loop-at-preserved
loop-at-preserved c =
    let done = c.args.done.now in
    let i = c.loop-at.at-index in
    let q = get_or done i 0 in
    let words = c.loop-at.words in
    let more = take_more done i 0 c.loop-at-test.true in
    let within : q / 32 < length words = let w = All-get_or (λ (p : ℕ). p / 32 < length c.args.words.now) done i 0 c.loop-at-test.true c.requires.within in subst (λ (n : ℕ). q / 32 < n) (sym c.loop-at.auto.words) w in
    let fresh : times q (take i done) ≡ 0 =
    let a = times-append q (take i done) (q ∷ []) in
    let b = times-here q [] in
    let d = times-take q done (i + 1) in
    let e = c.requires.distinct q in
    let f : times q (take (i + 1) done) ≡ times q (take i done ++ q ∷ []) = ap (times q) more in omega arith in
    subst (λ (z : List ℕ × List ℕ). AreMarked z.0 z.1) (λ k. (sym c.mark.ensures k, sym more k)) (marked_more words (take i done) q within fresh c.loop-at.invariant)
