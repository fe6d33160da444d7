-- Each session was looked at.
use Rattle.std.proofs.Common.{◌≡◌, length, subst, arith}
use Rattle.bf_machine.proofs.served.Looking.{IsSought, none_open, youngest_found}
use Rattle.bf_machine.proofs.serving.youngest.Goals as goal

pub returns-clause-none : goal.returns-clause-none
returns-clause-none g c =
    let m = c.args.machine.now in
    let l = c.loop-place in
    let all : l.place ≡ length m.script.sessions = omega (arith, c.loop-place-test.false, l.auto.place-end, c.session_count-place-end.ensures.count) in
    λ none. none_open m c.session_count-place-end.ensures.kept l.latest
    (subst (IsSought m (length m.script.sessions) l.latest) none (subst (λ n. IsSought m n l.latest l.youngest) all l.invariant))

pub returns-clause-youngest : goal.returns-clause-youngest
returns-clause-youngest g c =
    let m = c.args.machine.now in
    let l = c.loop-place in
    let all : l.place ≡ length m.script.sessions = omega (arith, c.loop-place-test.false, l.auto.place-end, c.session_count-place-end.ensures.count) in
    youngest_found m c.session_count-place-end.ensures.kept l.latest l.youngest (subst (λ n. IsSought m n l.latest l.youngest) all l.invariant)
