use Rattle.std.proofs.Common.{◌≡◌, ℕ, List, Ok, length, take, drop, ◌∙◌, ap, arith}
use Rattle.bf_disk.specs.Tape.{file_of}
use Rattle.bf_disk.proofs.TapeSteps.{look_seen}
use Rattle.bf_disk.proofs.tape_disk.TapeDiskDisk.read.Goals as goal

pub copy_range-requires : goal.copy_range-requires
copy_range-requires c =
    let same : length c.bytes.result.now ≡ length (file_of c.args.self.now) =
    ap length (c.bytes.ensures ∙ look_seen c.args.self.now c.keep.new.self (Ok c.in_ok-keep.field-0) c.in_ok-keep.ensures.kept) in
    omega arith

pub returns-clause-bytes : goal.returns-clause-bytes
returns-clause-bytes c =
    c.copy_range.ensures
    ∙ ap (λ (file : List ℕ). take (length c.args.into.now) (drop c.args.at file))
    (c.bytes.ensures ∙ look_seen c.args.self.now c.keep.new.self (Ok c.in_ok-keep.field-0) c.in_ok-keep.ensures.kept)
