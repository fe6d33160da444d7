use Rattle.std.proofs.Common.{drop, ◌++◌, refl, sym, ◌∙◌, arith, length-drop}
use Rattle.bf_log.proofs.Gates.{zeros, frame_read, opens, closed, broken, stays}
use Rattle.bf_log.proofs.opening.Opening.read_gate.Goals as goal

pub returns-then-frame-clause-next : goal.returns-then-frame-clause-next
returns-then-frame-clause-next g c = λ file payloads read.
    let frame = frame_read c.args.self.now file c.read.new.into c.min-known.result read.told c.min-known.ensures c.in_ok-read.ensures.bytes in
    let is_log = closed file payloads c.args.self.now read (c.read.new.into ++ drop c.min-known.result zeros) frame c.if-frame.true in
    (is_log, stays file payloads c.args.self.now read _ c.read.ensures.seen c.read.ensures.images refl refl is_log)

pub returns-then-not-has_room-clause-next : goal.returns-then-not-has_room-clause-next
returns-then-not-has_room-clause-next g c = λ file payloads read.
    let frame = frame_read c.args.self.now file c.read.new.into c.min-known.result read.told c.min-known.ensures c.in_ok-read.ensures.bytes in
    let fault = broken file payloads c.args.self.now read (c.read.new.into ++ drop c.min-known.result zeros) c.read_length-size.result frame c.if-frame.false
    c.read_length-size.ensures.number (λ room. cc (c.if-not-has_room.ensures.1 room)) in
    (fault, stays file payloads c.args.self.now read _ c.read.ensures.seen c.read.ensures.images refl refl fault)

pub read_payload-requires-clause-opened : goal.read_payload-requires-clause-opened
read_payload-requires-clause-opened g c = λ file told.
    let told_before = sym c.read.ensures.seen ∙ told in
    let frame = frame_read c.args.self.now file c.read.new.into c.min-known.result told_before c.min-known.ensures c.in_ok-read.ensures.bytes in
    let room = c.if-not-has_room.ensures.0 refl in
    opens (drop c.args.self.now.gate file) (c.read.new.into ++ drop c.min-known.result zeros) c.read_length-size.result frame
    (omega (arith, length-drop c.args.self.now.gate file, c.args.self.now.told file told_before, room.1)) c.if-frame.false c.read_length-size.ensures.spelled
