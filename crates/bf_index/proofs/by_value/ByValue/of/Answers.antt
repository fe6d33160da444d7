use Rattle.std.proofs.Common.{◌≡◌, true, List, sym, subst, ◌∙◌}
use Rattle.bf_base.specs.Maps.{is_map}
use Rattle.bf_base.specs.Values.{key_cmp}
use Rattle.bf_index.specs.ByValues.{Valued, value_of, values_at}
use Rattle.bf_index.proofs.Indexed.{by_value-in_order}
use Rattle.bf_index.proofs.by_value.ByValue.of.Goals as goal

pub invariant_of-result : goal.invariant_of-result
invariant_of-result c =
    subst (λ (entries : List Valued). is_map key_cmp value_of entries ≡ true) (sym (c.in_ok-entries.ensures ∙ c.in_ok-index.ensures)) (by_value-in_order (values_at c.args.places.now c.args.heap.now))
