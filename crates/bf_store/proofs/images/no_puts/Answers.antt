use Rattle.std.proofs.Common.{[], map, subst, sym, ap, ◌∙◌}
use Rattle.std.proofs.lemmas.List.{take_all}
use Rattle.bf_store.specs.Puts.{ArePuts}
use Rattle.bf_store.proofs.moving.Gathered.{alone, none_put}
use Rattle.bf_store.proofs.images.no_puts.Goals as goal

pub returns : goal.returns
returns c =
    let m = c.args.migration.now in
    let tables = c.as_slice-tables.result.now in
    subst (ArePuts m []) (sym (c.loop-table.invariant ∙ ap (map alone) (take_all c.loop-table.table-index tables c.loop-table-test.false ∙ c.as_slice-tables.ensures))) (none_put m c.requires)
