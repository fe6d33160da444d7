use Rattle.std.proofs.Common.{◌≡◌, ℕ, ◌≤◌, List, [], ◌∷◌, ◌++◌, length, refl, ◌∙◌, arith}
use Rattle.bf_disk.specs.Images.{LeavesOnly}
use Rattle.bf_log.specs.Append.{Holds, BeforeOrAfter}
use Rattle.bf_log.specs.Format.{longest_payload}
use Rattle.bf_log.specs.Storing.{record_of}
use Rattle.bf_log.proofs.Appending.{no_larger, leaves_log, holds_more}
use Rattle.bf_disk.proofs.Moments.{leaves_now}
use Rattle.bf_log.proofs.log.Log.append.Goals as goal
use Rattle.bf_log.proofs.log.Log.append.Goals.{After-store}

-- the payload is not too large
small : (g : _) (c : After-store g) → length c.args.payload.now ≤ longest_payload
small g c =
    let log = c.args.self.now in
    omega (
      arith,
      c.requires,
      no_larger log.standing log.end (length c.args.payload.now) c.args.largest c.args.limit c.refusal.result c.refusal.ensures c.in_default.is,
    )

-- the bytes that were to be stored are its record
spelled : (g : _) (c : After-store g) → c.deref.result.now ≡ record_of c.args.payload.now
spelled g c = c.deref.ensures.value ∙ c.in_ok-record.ensures

-- whatever the device answered, a crash leaves the log from before or with the record
leaves : (g : _) (c : After-store g) (file : List ℕ) (payloads : List (List ℕ)) → Holds {g = g.D.Disk} file payloads c.args.self.now
    → LeavesOnly g.D.Disk.moment g.D.Disk.left_since c.args.self.now.disk c.store.new.disk (BeforeOrAfter payloads (payloads ++ c.args.payload.now ∷ []))
leaves g c file payloads holds =
    leaves_log file payloads c.args.payload.now c.deref.result.now c.args.self.now holds (small g c) (spelled g c) c.store.new.disk
    (c.store.ensures.any_moment file holds.told holds.durable)

-- so it does from then on
leaves_then : (g : _) (c : After-store g) (file : List ℕ) (payloads : List (List ℕ)) → Holds {g = g.D.Disk} file payloads c.args.self.now
    → (image : List ℕ) → g.D.Disk.may_leave c.store.new.disk image → BeforeOrAfter payloads (payloads ++ c.args.payload.now ∷ []) image
leaves_then g c file payloads holds =
    leaves_now g.D.Disk.moment g.D.Disk.left_since g.D.Disk.may_leave g.met.D.Disk.counts_now c.args.self.now.disk c.store.new.disk
    (BeforeOrAfter payloads (payloads ++ c.args.payload.now ∷ [])) (leaves g c file payloads holds)

pub returns-in-Ok-clause-stored : goal.returns-in-Ok-clause-stored
returns-in-Ok-clause-stored g c = λ file payloads holds.
    let before = (goal.at.returns-in-Ok-clause-stored g c).After-store in
    holds_more file payloads c.args.payload.now c.deref.result.now c.args.self.now holds (small g before) (spelled g before) _
    (record { next = refl; count = refl; end = omega arith; ready = holds.ready })
    c.in-Ok.ensures.written c.in-Ok.ensures.durable

pub returns-in-Ok-clause-any_moment : goal.returns-in-Ok-clause-any_moment
returns-in-Ok-clause-any_moment g c = leaves g (goal.at.returns-in-Ok-clause-any_moment g c).After-store

pub returns-in-Err-Fault-clause-any_moment : goal.returns-in-Err-Fault-clause-any_moment
returns-in-Err-Fault-clause-any_moment g c = leaves g (goal.at.returns-in-Err-Fault-clause-any_moment g c).After-store

pub returns-in-Err-Fault-clause-stops : goal.returns-in-Err-Fault-clause-stops
returns-in-Err-Fault-clause-stops g c = λ file payloads holds stopped.
    record { stopped = stopped; images = leaves_then g (goal.at.returns-in-Err-Fault-clause-stops g c).After-store file payloads holds }

pub returns-clause-any_moment : goal.returns-clause-any_moment
returns-clause-any_moment g c = leaves g (goal.at.returns-clause-any_moment g c).After-store

pub returns-clause-stops : goal.returns-clause-stops
returns-clause-stops g c = λ file payloads holds stopped.
    record { stopped = stopped; images = leaves_then g (goal.at.returns-clause-stops g c).After-store file payloads holds }
