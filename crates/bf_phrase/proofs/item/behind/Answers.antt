use Rattle.std.proofs.Common.{Option, subst}
use Rattle.bf_tree.specs.declared.raw.Ref.{Ref}
use Rattle.bf_phrase.specs.Pieces.{IsBare}
use Rattle.bf_phrase.proofs.Items.{end_named_stop, end_named, end_bare, end_stuck}
use Rattle.bf_phrase.proofs.Moves.{exit}
use Rattle.bf_phrase.proofs.Places.{length-words}
use Rattle.bf_phrase.proofs.item.behind.Goals as goal

pub returns-in_err-name-in-Some-clause-fits : goal.returns-in_err-name-in-Some-clause-fits
returns-in_err-name-in-Some-clause-fits c = exit _ c.from_residual.result _ c.from_residual.ensures.1 (end_named_stop c.in-Some.ensures.found c.in_err-name-in-Some.ensures.found)

pub returns-in_ok-name-in-Some-clause-fits : goal.returns-in_ok-name-in-Some-clause-fits
returns-in_ok-name-in-Some-clause-fits c = end_named c.in-Some.ensures.found c.in_ok-name-in-Some.ensures.found

pub returns-in-Some-bare-clause-fits : goal.returns-in-Some-bare-clause-fits
returns-in-Some-bare-clause-fits c = end_bare c.in-None.ensures.found (subst (λ (z : Option Ref). IsBare (c.args.expr, c.args.count) z) c.in-Some-bare.is c.bare.ensures)

pub returns-in-None-bare-clause-fits : goal.returns-in-None-bare-clause-fits
returns-in-None-bare-clause-fits c =
    end_stuck _ (length-words c.args.cursor.text.now c.args.cursor.tokens.now) c.in-None.ensures.found
    (subst (λ (z : Option Ref). IsBare (c.args.expr, c.args.count) z) c.in-None-bare.is c.bare.ensures)
