use Rattle.std.proofs.Common.{◌≡◌, List, ap, ◌∙◌}
use Rattle.std.specs.BTreeMap.Range.{entries_between}
use Rattle.std.specs.declared.ops.Bound.{Bound}
use Rattle.std.specs.declared.ops.Bound.TheVariants.{Unbounded}
use Rattle.bf_base.specs.declared.value.Value.{Value}
use Rattle.bf_base.specs.Values.{key_cmp}
use Rattle.bf_txn.specs.Writes.{beginning}
use Rattle.bf_txn.proofs.Ahead.{from_low, low_sorted}
use Rattle.bf_txn.proofs.writes_ahead.WritesAhead.new.Goals as goal

pub next_within-here-requires : goal.next_within-here-requires
next_within-here-requires c = record { sorted = low_sorted _ c.range-later.result c.args.rows.now.entries c.requires (c.range-later.ensures.between tt) }

pub returns : goal.returns
returns c =
    let between : c.range-later.result ≡ entries_between key_cmp (beginning c.args.range.now.low) Unbounded c.args.rows.now.entries =
    c.range-later.ensures.between tt ∙ ap (λ (low : Bound (List Value)). entries_between key_cmp low Unbounded c.args.rows.now.entries) c.first_bound.ensures in
    c.next_within-here.ensures.writes ∙ from_low c.args.range.now c.range-later.result c.args.rows.now.entries between
