-- What a `TapeDisk` has within, and the tape that it is seen as.
use Rattle.std.specs.Prelude.{◌≡◌, Some, None}
use Rattle.bf_disk.specs.Tape.{Tape, file_of}
use Rattle.bf_disk.specs.declared.tape_disk.TapeDisk.TheInside.{Inside}

abbrev pub tape_of : Inside → Tape
tape_of disk = record {
  start = disk.start.items;
  calls = disk.calls.items;
  failing = disk.failing.items;
  last = disk.last;
}

-- the bytes that stand ready are those that the calls made, and without any the file is as it was at first
abbrev pub IsReplayed : Inside → Type 0
IsReplayed disk = file_of (tape_of disk) ≡ (elim disk.changed [ Some bytes ↦ bytes.items | None ↦ disk.start.items ])
