-- All tables of the catalog were compared.
use Rattle.std.proofs.Common.{◌≡◌, List, ◌++◌, map, sym, ap, ◌∙◌}
use Rattle.std.specs.Map.Iter.{deref}
use Rattle.std.proofs.lemmas.List.{append-nil}
use Rattle.bf_base.specs.declared.table.Table.{Table}
use Rattle.bf_sql.specs.Database.{Stored}
use Rattle.bf_store.proofs.aside.Named.{all_named, named}
use Rattle.bf_store.proofs.flip.tables_named.Goals as goal

pub returns : goal.returns
returns c =
    let so_far = map deref c.loop-table.yielded in
    let inv = c.loop-table.invariant in
    let all : so_far ≡ map (λ (s : Stored). s.table) c.args.live.now.tables =
    sym (append-nil so_far) ∙ (ap (λ (ts : List Table). so_far ++ ts) (sym c.in-None.ensures.steps.0) ∙ inv.left) in
    inv.named ∙ ap (named c.args.names.now) all ∙ all_named c.args.names.now c.args.live.now
