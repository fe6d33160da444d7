use Rattle.std.proofs.Common.{arith}
use Rattle.bf_phrase.proofs.Places.{length-words}
use Rattle.bf_parse.proofs.TargetParts.{target_low, target_none, target_over}
use Rattle.bf_parse.proofs.migrate.expect_room.Goals as goal

pub returns-then-targets-lt-MOST_TARGETS : goal.returns-then-targets-lt-MOST_TARGETS
returns-then-targets-lt-MOST_TARGETS c = record { room = target_low c.args.targets (omega arith); full = tt }

pub returns-in-Some : goal.returns-in-Some
returns-in-Some c = record { room = tt; full = target_over c.args.targets _ (length-words c.args.cursor.text.now c.args.cursor.tokens.now) (omega arith) c.in-Some.ensures.found }

pub returns-in-None : goal.returns-in-None
returns-in-None c = record { room = tt; full = target_none c.args.targets _ (length-words c.args.cursor.text.now c.args.cursor.tokens.now) c.in-None.ensures.found }
