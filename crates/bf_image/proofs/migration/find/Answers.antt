use Rattle.std.proofs.Common.{rules}
use Rattle.std.proofs.lemmas.Fn.{always_returns_same}
use Rattle.bf_base.specs.Lists.{name_cmp}
use Rattle.bf_image.specs.declared.migration.Frozen.{Frozen}
use Rattle.bf_image.proofs.migration.find.Goals as goal

-- the closure compares an old table's name with the one that is sought
pub returns-clause-position : goal.returns-clause-position
returns-clause-position c =
    c.binary_search_by.ensures.position (λ (old : Frozen). name_cmp old.table.name c.args.name.now) (always_returns_same _ _ _ (λ a r f called. (search rules, search rules)))
