-- The session that was looked at has ended, or is of no earlier phase than the one found, or takes its place.
use Rattle.std.proofs.Common.{◌≡◌, ◌+◌, ◌<◌, ◌≤◌, Some, None, sym, ap, subst, ◌∙◌, arith, inl, inr}
use Rattle.std.proofs.lemmas.Bool.Decides.{nat_tests}
use Rattle.bf_machine.specs.interleaving.Seen.{IsLeastLeft}
use Rattle.bf_machine.proofs.keeping.LeastLeft.{ended_at, moves, not_ended_at, phase_at, stays}
use Rattle.bf_machine.proofs.so_far.least_with.Goals as goal

pub returns-then-has_ended : goal.returns-then-has_ended
returns-then-has_ended c =
    let xs = c.args.sessions.now in
    let ys = c.args.so_far.now in
    let place = c.args.place in
    stays xs ys place c.args.before c.requires.before
    (inl (ended_at xs ys place c.index-sessions-place.result c.index-so_far-place.result (omega (arith, c.requires.place, c.requires.each)) c.requires.place c.index-sessions-place.is c.index-so_far-place.is
    (sym c.has_ended.ensures ∙ c.if-has_ended.true)))

pub returns-in_default : goal.returns-in_default
returns-in_default c =
    let xs = c.args.sessions.now in
    let ys = c.args.so_far.now in
    let place = c.args.place in
    let left =
    not_ended_at xs ys place c.index-sessions-place.result c.index-so_far-place.result (omega (arith, c.requires.place, c.requires.each)) c.requires.place c.index-sessions-place.is c.index-so_far-place.is
    (sym c.has_ended.ensures ∙ c.if-has_ended.false) in
    moves xs ys place c.args.before c.requires.before left
    (λ p is.
    let clash : None ≡ Some p = sym c.in_default.is ∙ is in
    absurd cc)

pub is_no_later-requires-clause-place : goal.is_no_later-requires-clause-place
is_no_later-requires-clause-place c =
    let there = c.requires.before.left c.in-Some.least c.in-Some.is in
    omega (arith, there.0, c.requires.place, c.requires.each)

pub returns-then-is_no_later : goal.returns-then-is_no_later
returns-then-is_no_later c =
    let xs = c.args.sessions.now in
    let ys = c.args.so_far.now in
    let place = c.args.place in
    let least = c.in-Some.least in
    let low : phase_at xs ys least ≤ phase_at xs ys place = grind (arith, nat_tests, sym c.is_no_later.ensures ∙ c.if-is_no_later.true) in
    subst (IsLeastLeft xs ys (place + 1)) c.in-Some.is (stays xs ys place c.args.before c.requires.before (inr (least, c.in-Some.is, low)))

pub returns : goal.returns
returns c =
    let xs = c.args.sessions.now in
    let ys = c.args.so_far.now in
    let place = c.args.place in
    let least = c.in-Some.least in
    let left =
    not_ended_at xs ys place c.index-sessions-place.result c.index-so_far-place.result (omega (arith, c.requires.place, c.requires.each)) c.requires.place c.index-sessions-place.is c.index-so_far-place.is
    (sym c.has_ended.ensures ∙ c.if-has_ended.false) in
    let before : phase_at xs ys place < phase_at xs ys least = grind (arith, nat_tests, sym c.is_no_later.ensures ∙ c.if-is_no_later.false) in
    moves xs ys place c.args.before c.requires.before left
    (λ p is.
    let same : Some least ≡ Some p = sym c.in-Some.is ∙ is in
    let one : least ≡ p = cc in
    let phases : phase_at xs ys least ≡ phase_at xs ys p = ap (phase_at xs ys) one in
    omega (arith, before, phases))
