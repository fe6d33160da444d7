use Rattle.std.proofs.Common.{List, ℕ, Some, ap}
use Rattle.bf_disk.specs.declared.call.Act.TheVariants.{Look, Write, Cut, Sync}
use Rattle.bf_disk.proofs.TapeSteps.{look_seen, look_left, kept_time, kept_faults, kept_memory, write_done, write_lost, write_left, cut_made, cut_failed, cut_left, sync_seen, sync_durable, sync_failed, sync_nothing_else}
use Rattle.bf_disk.proofs.tape_disk.TapeDiskDisk.TheImpl.Goals as goal

pub len-tells : goal.len-tells
len-tells c = record {
  len = c.ensures.len;
  seen = ap (λ (file : List ℕ). Some file) (look_seen c.args.self.now c.new.self.now c.result c.ensures.kept);
  images = look_left c.args.self.now c.new.self.now c.result c.ensures.kept;
  time = kept_time Look c.args.self.now c.new.self.now c.result c.ensures.kept;
  faults = kept_faults Look c.args.self.now c.new.self.now c.result c.ensures.kept;
  memory = kept_memory Look c.args.self.now c.new.self.now c.result c.ensures.kept;
  counted = c.ensures.counted;
}

pub read-tells : goal.read-tells
read-tells c = record {
  bytes = c.ensures.bytes;
  seen = ap (λ (file : List ℕ). Some file) (look_seen c.args.self.now c.new.self.now c.result c.ensures.kept);
  images = look_left c.args.self.now c.new.self.now c.result c.ensures.kept;
  time = kept_time Look c.args.self.now c.new.self.now c.result c.ensures.kept;
  faults = kept_faults Look c.args.self.now c.new.self.now c.result c.ensures.kept;
  memory = kept_memory Look c.args.self.now c.new.self.now c.result c.ensures.kept;
  counted = c.ensures.counted;
}

pub write_at-tells : goal.write_at-tells
write_at-tells c = record {
  written = write_done c.args.self.now c.new.self.now c.args.at c.args.bytes.now c.result c.ensures.kept;
  failed = write_lost c.args.self.now c.new.self.now c.args.at c.args.bytes.now c.result c.ensures.kept;
  images = write_left c.args.self.now c.new.self.now c.args.at c.args.bytes.now c.result c.ensures.kept;
  time = kept_time (Write c.args.at c.args.bytes.now) c.args.self.now c.new.self.now c.result c.ensures.kept;
  faults = kept_faults (Write c.args.at c.args.bytes.now) c.args.self.now c.new.self.now c.result c.ensures.kept;
  memory = kept_memory (Write c.args.at c.args.bytes.now) c.args.self.now c.new.self.now c.result c.ensures.kept;
  counted = c.ensures.counted;
}

pub cut-tells : goal.cut-tells
cut-tells c = record {
  cut = cut_made c.args.self.now c.new.self.now c.args.len c.result c.ensures.kept;
  failed = cut_failed c.args.self.now c.new.self.now c.args.len c.result c.ensures.kept;
  images = cut_left c.args.self.now c.new.self.now c.args.len c.result c.ensures.kept;
  time = kept_time (Cut c.args.len) c.args.self.now c.new.self.now c.result c.ensures.kept;
  faults = kept_faults (Cut c.args.len) c.args.self.now c.new.self.now c.result c.ensures.kept;
  memory = kept_memory (Cut c.args.len) c.args.self.now c.new.self.now c.result c.ensures.kept;
  counted = c.ensures.counted;
}

pub sync-tells : goal.sync-tells
sync-tells c = record {
  durable = sync_durable c.args.self.now c.new.self.now c.result c.ensures.kept;
  seen = ap (λ (file : List ℕ). Some file) (sync_seen c.args.self.now c.new.self.now c.result c.ensures.kept);
  nothing_else = sync_nothing_else c.args.self.now c.new.self.now c.result c.ensures.kept;
  failed = sync_failed c.args.self.now c.new.self.now c.result c.ensures.kept;
  time = kept_time Sync c.args.self.now c.new.self.now c.result c.ensures.kept;
  faults = kept_faults Sync c.args.self.now c.new.self.now c.result c.ensures.kept;
  memory = kept_memory Sync c.args.self.now c.new.self.now c.result c.ensures.kept;
  counted = c.ensures.counted;
}
