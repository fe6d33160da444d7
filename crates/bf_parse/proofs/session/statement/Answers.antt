use Rattle.bf_phrase.proofs.Moves.{exit, told}
use Rattle.bf_phrase.proofs.Places.{length-words}
use Rattle.bf_parse.proofs.StatementLists.{ordinary_stop, ordinary_read, migrate_over, migrate_stop, migrate_read}
use Rattle.bf_parse.proofs.session.statement.Goals as goal

pub returns-in_err-statement-in-None-clause-fits : goal.returns-in_err-statement-in-None-clause-fits
returns-in_err-statement-in-None-clause-fits c = exit _ c.from_residual.result _ c.from_residual.ensures.1 (ordinary_stop _ c.in-None.ensures.found c.in_err-statement-in-None.ensures.fits)

pub returns-in_ok-statement-in-None-clause-fits : goal.returns-in_ok-statement-in-None-clause-fits
returns-in_ok-statement-in-None-clause-fits c = ordinary_read c.in-None.ensures.found c.in_ok-statement-in-None.ensures.fits

pub returns-in_err-next-in-Some-clause-fits : goal.returns-in_err-next-in-Some-clause-fits
returns-in_err-next-in-Some-clause-fits c =
    exit _ c.from_residual-in_err-next-in-Some.result _ c.from_residual-in_err-next-in-Some.ensures.1
    (told _ _ c.in_err-next-in-Some.ensures.fault (migrate_over _ (length-words c.args.cursor.text.now c.args.cursor.tokens.now) c.in_err-next-in-Some.ensures.over c.in-Some.ensures.found))

pub returns-in_err-migration-in-Some-clause-fits : goal.returns-in_err-migration-in-Some-clause-fits
returns-in_err-migration-in-Some-clause-fits c =
    exit _ c.from_residual-in_err-migration-in-Some.result _ c.from_residual-in_err-migration-in-Some.ensures.1
    (migrate_stop _ c.in_ok-next-in-Some.ensures.room c.in-Some.ensures.found c.in_err-migration-in-Some.ensures.fits)

pub returns-in_ok-migration-in-Some-clause-fits : goal.returns-in_ok-migration-in-Some-clause-fits
returns-in_ok-migration-in-Some-clause-fits c =
    migrate_read c.in_ok-next-in-Some.ensures.one_more c.in_ok-next-in-Some.ensures.room c.in-Some.ensures.found c.in_ok-migration-in-Some.ensures.fits
