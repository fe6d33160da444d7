use Rattle.bf_phrase.proofs.Places.{length-words}
use Rattle.bf_parse.proofs.Wholes.{answer_exit, no_words, script_past, script_read, script_stop, some_words}
use Rattle.bf_parse.proofs.scripts.whole.Goals as goal

pub returns-in_err-progress : goal.returns-in_err-progress
returns-in_err-progress c = answer_exit _ _ _ c.from_residual.result _ c.from_residual.ensures.1 (script_stop _ _ c.in_err-progress.ensures.fits)

pub returns-in-None : goal.returns-in-None
returns-in-None c = rw c.of.ensures (script_read _ _ _ (no_words c.in_ok-progress.rest c.in-None.ensures.next) c.in_ok-progress.ensures.fits)

pub returns-in-Some : goal.returns-in-Some
returns-in-Some c =
    script_past _ _ _ _ (length-words c.in_ok-progress.rest.text.now c.in_ok-progress.rest.tokens.now) (some_words c.in_ok-progress.rest _ _ c.in-Some.ensures.next) c.in_ok-progress.ensures.fits
