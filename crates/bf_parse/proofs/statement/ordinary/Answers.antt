use Rattle.bf_phrase.proofs.Places.{length-words}
use Rattle.bf_phrase.proofs.Phrases.{keyword_behind}
use Rattle.bf_parse.proofs.Ordinaries.{begin_first, commit_first, create_first, delete_first, insert_first, rollback_first, select_first, update_first, no_statement, other_statement}
use Rattle.bf_parse.proofs.statement.ordinary.Goals as goal

pub returns-in-None-clause-fits : goal.returns-in-None-clause-fits
returns-in-None-clause-fits c = no_statement _ (length-words c.args.cursor.text.now c.args.cursor.tokens.now) c.in-None.ensures.found

pub returns-in-Create-clause-fits : goal.returns-in-Create-clause-fits
returns-in-Create-clause-fits c = create_first (keyword_behind c.in-Some.ensures.found c.in-Create.is) c.create.ensures.fits

pub returns-in-Insert-clause-fits : goal.returns-in-Insert-clause-fits
returns-in-Insert-clause-fits c = insert_first (keyword_behind c.in-Some.ensures.found c.in-Insert.is) c.insert.ensures.fits

pub returns-in-Select-clause-fits : goal.returns-in-Select-clause-fits
returns-in-Select-clause-fits c = select_first (keyword_behind c.in-Some.ensures.found c.in-Select.is) c.select.ensures.fits

pub returns-in-Update-clause-fits : goal.returns-in-Update-clause-fits
returns-in-Update-clause-fits c = update_first (keyword_behind c.in-Some.ensures.found c.in-Update.is) c.update.ensures.fits

pub returns-in-Delete-clause-fits : goal.returns-in-Delete-clause-fits
returns-in-Delete-clause-fits c = delete_first (keyword_behind c.in-Some.ensures.found c.in-Delete.is) c.delete.ensures.fits

pub returns-in-Begin-clause-fits : goal.returns-in-Begin-clause-fits
returns-in-Begin-clause-fits c = begin_first (keyword_behind c.in-Some.ensures.found c.in-Begin.is)

pub returns-in-Commit-clause-fits : goal.returns-in-Commit-clause-fits
returns-in-Commit-clause-fits c = commit_first (keyword_behind c.in-Some.ensures.found c.in-Commit.is)

pub returns-in-Rollback-clause-fits : goal.returns-in-Rollback-clause-fits
returns-in-Rollback-clause-fits c = rollback_first (keyword_behind c.in-Some.ensures.found c.in-Rollback.is)

pub returns-in_default-clause-fits : goal.returns-in_default-clause-fits
returns-in_default-clause-fits c = other_statement _ (length-words c.args.cursor.text.now c.args.cursor.tokens.now) c.in-Some.ensures.found (record { create = c.in_default.not-Create; insert = c.in_default.not-Insert; select = c.in_default.not-Select; update = c.in_default.not-Update; delete = c.in_default.not-Delete; begin = c.in_default.not-Begin; commit = c.in_default.not-Commit; rollback = c.in_default.not-Rollback })
