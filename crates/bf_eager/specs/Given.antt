-- Rows that are given under names, kept in a map.
use Rattle.std.specs.Prelude.{ℕ, List, [], unwrap_or}
use Rattle.std.specs.Global.{Vec}
use Rattle.std.specs.BTreeMap.{BTreeMap}
use Rattle.std.specs.BTreeMap as tree
use Rattle.std.specs.Option.{option_map}
use Rattle.bf_base.specs.declared.value.Value.{Value}
use Rattle.bf_base.specs.Lists.{name_cmp}

-- the rows under a name
abbrev pub given_under : BTreeMap (List ℕ) (Vec (List Value)) → List ℕ → List (List Value)
given_under rows name = unwrap_or (option_map (λ own. own.items) (tree.get name_cmp rows name)) []
