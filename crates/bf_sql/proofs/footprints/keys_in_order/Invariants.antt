use Rattle.std.proofs.Common.{◌≡◌, map, fold, drop}
use Rattle.std.specs.BTreeSet.{insert_key}
use Rattle.bf_base.specs.Tables.{key_of}
use Rattle.bf_base.specs.Values.{key_cmp}
use Rattle.bf_sql.specs.Footprints.{in_key_order}
use Rattle.bf_sql.proofs.footprints.keys_in_order.Given as goal

-- the keys so far, with those of the tuples ahead
abbrev pub invariant-loop-tuple : goal.invariant-loop-tuple
invariant-loop-tuple l = fold (insert_key key_cmp) l.keys.keys (map (key_of l.table) (drop l.tuple-index l.tuples)) ≡ in_key_order (map (key_of l.table) l.tuples)
