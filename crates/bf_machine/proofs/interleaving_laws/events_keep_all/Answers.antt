use Rattle.bf_machine.specs.interleaving.Machines.{any_if}
use Rattle.bf_machine.proofs.interleaving.Beginning.{begins_keeps_all}
use Rattle.bf_machine.proofs.interleaving.Dying.{death_keeps_all}
use Rattle.bf_machine.proofs.interleaving.Ends.{commit_keeps_all, abort_keeps_all}
use Rattle.bf_machine.proofs.interleaving.Failing.{log_keeps_all}
use Rattle.bf_machine.proofs.interleaving.Going.{exec_keeps_all, grant_keeps_all, wait_keeps_all}
use Rattle.bf_machine.proofs.interleaving.New.{new_is_kept}
use Rattle.bf_machine.proofs.interleaving.Reaching.{reached_is_kept}
use Rattle.bf_machine.proofs.interleaving.Refusing.{refuse_keeps_all}
use Rattle.bf_machine.proofs.interleaving.Stirring.{moves_keep_all}
use Rattle.bf_machine.proofs.interleaving.Texts.{are_texts}
use Rattle.bf_machine.proofs.interleaving_laws.events_keep_all.Goals as goal

pub returns-clause-new : goal.returns-clause-new
returns-clause-new c = λ logged. new_is_kept (any_if logged)

pub returns-clause-begins : goal.returns-clause-begins
returns-clause-begins c = λ start m next s kept by. begins_keeps_all start m kept (are_texts m.script) s next by

pub returns-clause-refuses : goal.returns-clause-refuses
returns-clause-refuses c = λ start m next s kept by. refuse_keeps_all start m kept (are_texts m.script) s next by

pub returns-clause-executes : goal.returns-clause-executes
returns-clause-executes c = λ start m next s kept by. exec_keeps_all start m kept s (are_texts m.script) next by

pub returns-clause-granted : goal.returns-clause-granted
returns-clause-granted c = λ start m next s name mode kept by. grant_keeps_all start m kept s name mode next by

pub returns-clause-waits : goal.returns-clause-waits
returns-clause-waits c = λ start m next s name mode owners kept by. wait_keeps_all start m kept s name mode owners next by

pub returns-clause-dies : goal.returns-clause-dies
returns-clause-dies c = λ start m next s name mode older kept by. death_keeps_all start m kept (are_texts m.script) s name mode older next by

pub returns-clause-commits : goal.returns-clause-commits
returns-clause-commits c = λ start m next s kept by. commit_keeps_all start m kept (are_texts m.script) s next by

pub returns-clause-aborts : goal.returns-clause-aborts
returns-clause-aborts c = λ start m next s kept by. abort_keeps_all start m kept (are_texts m.script) s next by

pub returns-clause-moves : goal.returns-clause-moves
returns-clause-moves c = λ start m next granules kept by. moves_keep_all start m kept granules next by

pub returns-clause-ends_by_log : goal.returns-clause-ends_by_log
returns-clause-ends_by_log c = λ start m next s kept by. log_keeps_all start m kept (are_texts m.script) s next by

pub returns-clause-reaches : goal.returns-clause-reaches
returns-clause-reaches c = λ logged. reached_is_kept (any_if logged)
