use Rattle.std.proofs.Common.{◌≡◌, subst}
use Rattle.std.specs.Prelude.{◌≢◌, IfNone, IfSome}
use Rattle.bf_record.specs.Changes.{HasRecord, record_bytes}
use Rattle.bf_record.specs.declared.change.Change.{Change}
use Rattle.bf_recover.proofs.Payloads.{none_if, steps_if}
use Rattle.bf_recover.proofs.stepping.step.Goals as goal

pub returns-in_default-clause-none : goal.returns-in_default-clause-none
returns-in_default-clause-none g c = λ _ change has spelled.
    let none : (change : Change) → HasRecord change → c.args.payload.now ≢ record_bytes change =
    subst (λ o. IfNone o ((change : Change) → HasRecord change → c.args.payload.now ≢ record_bytes change)) c.in_default.is c.in_ok-change.ensures.none in
    absurd (none change has spelled)

pub returns-clause-legal : goal.returns-clause-legal
returns-clause-legal g c =
    let spelled : HasRecord c.in-Some.change × (c.args.payload.now ≡ record_bytes c.in-Some.change) =
    subst (λ o. IfSome o (λ change. HasRecord change × (c.args.payload.now ≡ record_bytes change))) c.in-Some.is c.in_ok-change.ensures.some in
    steps_if c.args.store.now.lazy c.apply.new.store.lazy c.args.payload.now c.in-Some.change spelled c.apply.result c.apply.ensures.legal c.apply.ensures.applied

pub returns-clause-none : goal.returns-clause-none
returns-clause-none g c =
    let spelled : HasRecord c.in-Some.change × (c.args.payload.now ≡ record_bytes c.in-Some.change) =
    subst (λ o. IfSome o (λ change. HasRecord change × (c.args.payload.now ≡ record_bytes change))) c.in-Some.is c.in_ok-change.ensures.some in
    none_if c.args.store.now.lazy c.apply.new.store.lazy c.args.payload.now c.in-Some.change spelled c.apply.result c.apply.ensures.legal
