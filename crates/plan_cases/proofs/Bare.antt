-- The catalog of a database is that of one without rows.
use Rattle.std.proofs.Common.{◌≡◌, sym, subst}
use Rattle.bf_tree.specs.Catalogs.{Catalog}
use Rattle.bf_sql.specs.Bound.{catalog_of, without_rows}
use Rattle.bf_sql.specs.Database.{Database, IsDatabase}
use Rattle.bf_live.proofs.statements.Bare.{bare_is_database}

pub is_bare : (db : Database) (catalog : Catalog) → catalog ≡ catalog_of db → IsDatabase db → IsDatabase (without_rows catalog)
is_bare db catalog same is = subst (λ (catalog : Catalog). IsDatabase (without_rows catalog)) (sym same) (bare_is_database db is)
