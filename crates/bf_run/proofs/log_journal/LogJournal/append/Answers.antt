use Rattle.std.proofs.Common.{List, Err, ℕ, ◌≤◌, length, sym, subst}
use Rattle.bf_recover.specs.Steps.{StepsTo}
use Rattle.bf_run.specs.Answers.{StepsByGroup, largest_record}
use Rattle.bf_run.proofs.Telling.{fits_told, goes_on_by, size_told, size_told_within}
use Rattle.bf_run.proofs.log_journal.LogJournal.append.Goals as goal

pub returns-clause-goes_on : goal.returns-clause-goes_on
returns-clause-goes_on g c = goes_on_by {g = g.D.Disk} c.args.self.now.log c.append_change-appended.new.log _ (Err c.in-Err.error) c.in-Err.ensures.refused c.in-Err.ensures.outcome

pub returns-clause-sized : goal.returns-clause-sized
returns-clause-sized g c = λ lazy next told.
    let made : StepsByGroup lazy c.in-Ok.payload.items next = rw c.in-Ok.is at told in
    let own = subst (λ (payload : List ℕ). StepsByGroup lazy payload next) (sym c.as_slice.ensures.value) made in
    size_told {g = g.D.Disk} c.args.self.now.log c.append_change-appended.new.log lazy next c.as_slice.result.now own c.in-Err.error c.in-Err.ensures.refused c.in-Err.ensures.outcome

pub returns-clause-sized_within : goal.returns-clause-sized_within
returns-clause-sized_within g c = λ lazy next told fits.
    let made : StepsTo lazy c.in-Ok.payload.items next = rw c.in-Ok.is at told in
    let steps = subst (λ (payload : List ℕ). StepsTo lazy payload next) (sym c.as_slice.ensures.value) made in
    let within : length c.in-Ok.payload.items ≤ largest_record = rw c.in-Ok.is at fits in
    let few = subst (λ (payload : List ℕ). length payload ≤ largest_record) (sym c.as_slice.ensures.value) within in
    size_told_within {g = g.D.Disk} c.args.self.now.log c.append_change-appended.new.log lazy next c.as_slice.result.now steps few c.in-Err.error c.in-Err.ensures.refused c.in-Err.ensures.outcome

pub returns-clause-fits : goal.returns-clause-fits
returns-clause-fits g c = λ fits.
    let within : length c.in-Ok.payload.items ≤ largest_record = rw c.in-Ok.is at fits in
    let few = subst (λ (payload : List ℕ). length payload ≤ largest_record) (sym c.as_slice.ensures.value) within in
    fits_told {g = g.D.Disk} c.args.self.now.log c.append_change-appended.new.log (length c.as_slice.result.now) few c.in-Err.error c.in-Err.ensures.refused c.in-Err.ensures.outcome
