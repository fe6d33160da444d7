-- One session more has room for its replies.
use Rattle.std.proofs.Common.{◌≡◌, ◌+◌, List, [], ◌∷◌, ◌++◌, None, take, refl, sym, ap, subst, ◌∙◌, arith}
use Rattle.std.proofs.lemmas.List.{take_more}
use Rattle.bf_tree.specs.declared.script.Session.{Session}
use Rattle.bf_machine.specs.declared.so_far.SessionSoFar.{SessionSoFar}
use Rattle.bf_machine.specs.interleaving.Seen.{AreNew, IsNew}
use Rattle.bf_machine.proofs.keeping.Fresh.{new_more}
use Rattle.bf_machine.proofs.so_far.sessions_so_far.Goals as goal

pub loop-session-preserved : goal.loop-session-preserved
loop-session-preserved c =
    let at = c.loop-session in
    let i = at.session-index in
    let xs = c.args.sessions.now in
    let s : Session = c.session-item.result in
    let so_far : SessionSoFar = record { replies = c.in_ok-replies.replies; «open» = None; latest = 0 } in
    let new : IsNew s so_far = record {
      replies = c.in_ok-replies.ensures.items;
      closed = refl;
      latest = refl;
      room = omega (arith, c.in_ok-replies.ensures.exact, c.len-in-loop-session.ensures);
      numbers = omega (arith, c.in_ok-next_number.ensures.fits, c.len.ensures);
    } in
    let more : take (i + 1) xs ≡ take i xs ++ s ∷ [] = take_more xs i s c.loop-session-test.true ∙ ap (λ (x : Session). take i xs ++ x ∷ []) (sym c.session-item.is) in
    let all : AreNew (take (i + 1) xs) (at.made.items ++ so_far ∷ []) =
    subst (λ (ss : List Session). AreNew ss (at.made.items ++ so_far ∷ [])) (sym more) (new_more (take i xs) at.made.items s so_far at.invariant new) in
    subst (λ (made : List SessionSoFar). AreNew (take (i + 1) xs) made) (sym c.in_ok-push.ensures.items) all
