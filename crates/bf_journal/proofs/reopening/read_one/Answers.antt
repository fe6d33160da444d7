use Rattle.std.proofs.Common.{◌≡◌, ◌++◌, [], ◌∷◌, ℕ, List, inr, ap, subst, arith, length, length-append}
use Rattle.bf_log.specs.Format.{front}
use Rattle.bf_journal.specs.Reopening.{IllegalAt, IsIllegal}
use Rattle.bf_journal.proofs.Readings.{after_change}
use Rattle.bf_journal.proofs.Replays.{stops_reading, ends_reading, one_more}
use Rattle.bf_journal.proofs.reopening.read_one.Goals as goal

pub returns-in-Ok-End-clause-reads : goal.returns-in-Ok-End-clause-reads
returns-in-Ok-End-clause-reads g c = λ file read.
    ends_reading g.L.State.first g.L.State.Steps file read.0 (g.R.Reader.kept c.args.state.now) c.next_payload.new.self c.in-Ok-End.field-0 c.in-Ok-End.field-0-is read.2
    (c.in-Ok-End.ensures.next file read.0 read.1)

pub returns-in-Ok-true-clause-reads : goal.returns-in-Ok-true-clause-reads
returns-in-Ok-true-clause-reads g c = λ file read.
    let s = g.L.State in
    let payload = c.in-Ok-Payload.payload in
    let next = one_more s.first s.Steps file read.0 c.next_payload.new.self c.in-Ok-Payload.gate payload c.in-Ok-Payload.field-0 c.in-Ok-Payload.field-0-is
    (c.in-Ok-Payload.ensures.next file read.0 read.1) in
    let told : c.as_slice.result.now ≡ payload = (let as_told = c.as_slice.ensures in let seen = c.payload.view_is in cc) in
    let change : s.Steps (g.R.Reader.kept c.args.state.now) payload (g.R.Reader.kept c.read.new.state) =
    subst (λ (bytes : List ℕ). s.Steps (g.R.Reader.kept c.args.state.now) bytes (g.R.Reader.kept c.read.new.state)) told
    (c.in-Ok-true.ensures.legal c.in-Ok-true.field-0-test) in
    (read.0 ++ payload ∷ [], next.1, after_change s.Steps read.0 payload s.first (g.R.Reader.kept c.args.state.now) (g.R.Reader.kept c.read.new.state) read.2 change)

pub returns-in-Ok-false-clause-reads : goal.returns-in-Ok-false-clause-reads
returns-in-Ok-false-clause-reads g c = λ file read.
    let s = g.L.State in
    let payload = c.in-Ok-Payload.payload in
    let next = one_more s.first s.Steps file read.0 c.next_payload.new.self c.in-Ok-Payload.gate payload c.in-Ok-Payload.field-0 c.in-Ok-Payload.field-0-is
    (c.in-Ok-Payload.ensures.next file read.0 read.1) in
    let told : c.as_slice.result.now ≡ payload = (let as_told = c.as_slice.ensures in let seen = c.payload.view_is in cc) in
    let none : IsIllegal s.Steps (g.R.Reader.kept c.args.state.now) payload =
    subst (λ (bytes : List ℕ). IsIllegal s.Steps (g.R.Reader.kept c.args.state.now) bytes) told
    (c.in-Ok-false.ensures.illegal c.in-Ok-false.field-0-test).0 in
    let illegal : IllegalAt s.first s.Steps file c.in-Ok-Payload.gate = record {
      payloads = read.0;
      payload = payload;
      chain = next.1.chain;
      there = next.1.spelled;
      fit = next.1.fit;
      goes_on = omega (arith, next.1.is_there, next.1.gate, ap length next.1.spelled, length-append (front (read.0 ++ payload ∷ [])) next.1.chain);
      gate = next.0;
      state = g.R.Reader.kept c.args.state.now;
      legal = read.2;
      illegal = none;
    } in
    (inr (inr illegal), next.1.durable)

pub returns-clause-reads : goal.returns-clause-reads
returns-clause-reads g c = λ file read.
    stops_reading g.L.State.first g.L.State.Steps file read.0 (g.R.Reader.kept c.args.state.now) c.next_payload.new.self c.in-Err.e read.2 (c.in-Err.ensures.next file read.0 read.1)
