-- What stood at keys before they were written, from which the writes can be taken back.
use Rattle.std.specs.Prelude.{List, [], ◌∷◌, Option, Some, None}
use Rattle.std.specs.Map.{remove_entry, set_value}
use Rattle.std.specs.BTreeMap.{is_at}
use Rattle.bf_base.specs.declared.value.Value.{Value}
use Rattle.bf_base.specs.Values.{key_cmp}
use Rattle.bf_txn.specs.declared.putting.Former.{Former}
use Rattle.bf_txn.specs.Writes.{KeyWrite}

-- the writes with a key as it was before
abbrev pub restored_at : Option (Option (List Value)) → List Value → List KeyWrite → List KeyWrite
restored_at (Some row) key writes = set_value (is_at (key_cmp key)) writes row
restored_at None key writes = remove_entry (is_at (key_cmp key)) writes

abbrev pub restored : Former → List KeyWrite → List KeyWrite
restored former writes = restored_at former.row former.key writes

-- the last one is taken back first
abbrev pub undone : List Former → List KeyWrite → List KeyWrite
undone [] writes = writes
undone (former ∷ formers) writes = restored former (undone formers writes)
