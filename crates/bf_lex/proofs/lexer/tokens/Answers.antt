use Rattle.std.proofs.Common.{◌∙◌}
use Rattle.bf_lex.proofs.Lexings.{front_push}
use Rattle.bf_lex.proofs.lexer.tokens.Goals as goal

pub loop-found-preserved : goal.loop-found-preserved
loop-found-preserved c =
    let next = rw c.in-Some.is at c.in_ok-token.ensures in
    record {
      front = rw c.in_ok-push.ensures.items (front_push 0 c.args.text.now c.loop-found.found.items c.loop-found.place c.loop-found.rest.now c.in-Some.token c.in-Some.behind.now c.loop-found.invariant.front next.0);
      room = next.1 ∙ c.loop-found.invariant.room;
    }
