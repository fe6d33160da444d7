use Rattle.std.proofs.Common.{List, sym, subst, ◌∙◌, arith}
use Rattle.bf_tree.specs.declared.statement.Statement.{Statement}
use Rattle.bf_phrase.specs.declared.error.ReadStop.TheVariants.{Memory}
use Rattle.bf_phrase.specs.Cursors.{words}
use Rattle.bf_phrase.specs.Reading.{Fits}
use Rattle.bf_parse.specs.StatementFollow.{first_statement}
use Rattle.bf_parse.specs.Scripts.{Statements}
use Rattle.bf_phrase.proofs.Moves.{exit}
use Rattle.bf_parse.proofs.StatementLists.{statements_stop, statements_open, statements_more, statements_end}
use Rattle.bf_parse.proofs.session.statements.Goals as goal

pub statements-init : goal.statements-init
statements-init c = record {
  place = c.requires;
  shorter = omega arith;
  fits = λ r f. subst (λ (z : List Statement). Fits first_statement (Statements c.args.migrations z) (words c.args.cursor) r) c.new-found.ensures.items f;
}

pub returns-in_err-next-clause-fits : goal.returns-in_err-next-clause-fits
returns-in_err-next-clause-fits c =
    exit _ c.from_residual.result _ c.from_residual.ensures.1 (c.statements.invariant.fits _ (statements_stop _ (sym c.begins.ensures ∙ c.statements-test.true) c.in_err-next.ensures.fits))

pub returns-in_err-behind-clause-fits : goal.returns-in_err-behind-clause-fits
returns-in_err-behind-clause-fits c =
    exit _ c.from_residual-in_err-behind.result _ c.from_residual-in_err-behind.ensures.1
    (c.statements.invariant.fits _ (statements_open (sym c.begins.ensures ∙ c.statements-test.true) c.in_ok-next.ensures.fits c.in_err-behind.ensures.found))

pub returns-in_err-push-clause-fits : goal.returns-in_err-push-clause-fits
returns-in_err-push-clause-fits c = exit _ c.from_residual-in_err-push.result Memory c.from_residual-in_err-push.ensures.1 (record { it = tt })

pub statements-preserved : goal.statements-preserved
statements-preserved c = record {
  place = c.in_ok-behind.ensures.place;
  shorter = omega (arith, c.in_ok-next.ensures.shorter, c.in_ok-behind.ensures.shorter, c.statements.invariant.shorter);
  fits = λ r f.
      c.statements.invariant.fits r
      (statements_more (sym c.begins.ensures ∙ c.statements-test.true) c.in_ok-next.ensures.fits c.in_ok-behind.ensures.found
      (subst (λ (z : List Statement). Fits first_statement (Statements c.in_ok-next.count z) (words c.in_ok-behind.behind) r) c.in_ok-push.ensures.items f));
}

pub statements-smaller : goal.statements-smaller
statements-smaller c = omega (arith, c.in_ok-next.ensures.shorter, c.in_ok-behind.ensures.shorter)

pub returns-clause-fits : goal.returns-clause-fits
returns-clause-fits c = c.statements.invariant.fits _ (statements_end (sym c.begins.ensures ∙ c.statements-test.false))

pub returns-clause-place : goal.returns-clause-place
returns-clause-place c = c.statements.invariant.place

pub returns-clause-shorter : goal.returns-clause-shorter
returns-clause-shorter c = c.statements.invariant.shorter
