-- An arm with JOIN goes by the rows of one table, where ON has the whole key of the other.
use Rattle.std.specs.Prelude.{◌≡◌, false, [], ◌∷◌, map, Some, None, codes, refl}
use Rattle.bf_base.specs.declared.value.Value.TheVariants.{Text}
use Rattle.bf_base.specs.declared.table.Admit.TheVariants as admits
use Rattle.bf_base.specs.declared.granule.Place.TheVariants.{Row}
use Rattle.bf_tree.specs.declared.compare.Compare.TheVariants as compare
use Rattle.bf_tree.specs.Trees.{literal, column, compared}
use Rattle.bf_tree.specs.declared.items.Items.TheVariants as items
use Rattle.bf_tree.specs.declared.migration.Item.TheVariants as item
use Rattle.bf_tree.specs.declared.migration.Target.{Target}
use Rattle.bf_tree.specs.declared.statement.Statement.TheVariants as statement
use Rattle.bf_tree.specs.declared.migration.Migrate.{Migrate}
use Rattle.bf_sql.specs.Database.{Database}
use Rattle.bf_sql.specs.Scopes.{unqualified}
use Rattle.bf_sql.specs.migrations.MigrationObjections.{migrate_objections}
use Rattle.bf_sql.specs.migrations.Images.{image_of, flipped}
use Rattle.bf_sql.specs.migrations.Granules.{granule, granules_of, part_of, owner_of}
use Rattle.bf_sql.specs.migrations.Need.{needed_by}
use Rattle.bf_sql.specs.migrations.Lazy.{view_of, flipped_lazily}
use Rattle.bf_sql.proofs.Spelling.{one, number, qualified, join, arm, target, migration, table, column_of, stored, database, by_name, at_rest}

-- CREATE TABLE custs (cid INT, name VARCHAR(9), PRIMARY KEY (cid)), with Ann and Bob;
-- CREATE TABLE orders (oid INT, cid INT, qty INT, PRIMARY KEY (oid)), the last of which has no customer
abbrev old : Database
old = database 2 (
    stored (table (codes "custs") (column_of (codes "cid") admits.Int ∷ column_of (codes "name") (admits.Varchar 9) ∷ []) (one 0)) ((number 10 ∷ Text (codes "Ann") ∷ []) ∷ (number 20 ∷ Text (codes "Bob") ∷ []) ∷ [])
    ∷ stored (table (codes "orders") (column_of (codes "oid") admits.Int ∷ column_of (codes "cid") admits.Int ∷ column_of (codes "qty") admits.Int ∷ []) (one 0)) (
    (number 1 ∷ number 10 ∷ number 5 ∷ [])
    ∷ (number 2 ∷ number 20 ∷ number 6 ∷ [])
    ∷ (number 3 ∷ number 10 ∷ number 7 ∷ [])
    ∷ (number 4 ∷ number 30 ∷ number 8 ∷ [])
    ∷ []
    )
    ∷ []
    ) []

-- BY FROM: CREATE TABLE named AS SELECT oid, orders.cid, name, qty FROM orders JOIN custs ON orders.cid = custs.cid
abbrev named : Target
named = target (codes "named") (one (arm (
    item.Column (unqualified (codes "oid"))
    ∷ item.Column (qualified (codes "orders") (codes "cid"))
    ∷ item.Column (unqualified (codes "name"))
    ∷ item.Column (unqualified (codes "qty"))
    ∷ []
    ) (codes "orders") (Some (join (codes "custs") (one (qualified (codes "orders") (codes "cid"), qualified (codes "custs") (codes "cid"))))) None []))

abbrev by_from : Migrate
by_from = migration (one named)

from_fine : migrate_objections old by_from ≡ []
from_fine = refl

from_image : image_of old named ≡ (number 1 ∷ number 10 ∷ Text (codes "Ann") ∷ number 5 ∷ [])
    ∷ (number 2 ∷ number 20 ∷ Text (codes "Bob") ∷ number 6 ∷ [])
    ∷ (number 3 ∷ number 10 ∷ Text (codes "Ann") ∷ number 7 ∷ [])
    ∷ []
from_image = refl

-- the rows of orders, also the last, which has no row in the image
from_granules : granules_of old by_from ≡ granule 0 (Row 0) ∷ granule 0 (Row 1) ∷ granule 0 (Row 2) ∷ granule 0 (Row 3) ∷ []
from_granules = refl

from_parts : map (λ g. by_name (part_of old by_from g)) (granules_of old by_from) ≡ one (codes "named", number 1 ∷ number 10 ∷ Text (codes "Ann") ∷ number 5 ∷ [])
    ∷ one (codes "named", number 2 ∷ number 20 ∷ Text (codes "Bob") ∷ number 6 ∷ [])
    ∷ one (codes "named", number 3 ∷ number 10 ∷ Text (codes "Ann") ∷ number 7 ∷ [])
    ∷ []
    ∷ []
from_parts = refl

from_view : view_of (flipped_lazily (at_rest old) by_from) ≡ flipped old by_from
from_view = refl

from_owner : owner_of old by_from named (one (number 3)) ≡ Some (granule 0 (Row 2))
from_owner = refl

from_no_owner : owner_of old by_from named (one (number 4)) ≡ None
from_no_owner = refl

-- SELECT * FROM named WHERE cid = 10
from_need : needed_by old by_from (flipped old by_from) false (statement.Select items.All (codes "named") (Some (compared compare.Equal (column (unqualified (codes "cid"))) (literal (number 10))))) ≡ granule 0 (Row 0) ∷ granule 0 (Row 2) ∷ []
from_need = refl

-- BY JOIN: CREATE TABLE large AS SELECT name, oid FROM custs JOIN orders ON custs.cid = orders.cid WHERE qty > 5
abbrev large : Target
large = target (codes "large") (one (arm (item.Column (unqualified (codes "name")) ∷ item.Column (unqualified (codes "oid")) ∷ []) (codes "custs")
    (Some (join (codes "orders") (one (qualified (codes "custs") (codes "cid"), qualified (codes "orders") (codes "cid")))))
    (Some (compared compare.Greater (column (unqualified (codes "qty"))) (literal (number 5)))) []))

abbrev by_join : Migrate
by_join = migration (one large)

join_fine : migrate_objections old by_join ≡ []
join_fine = refl

join_image : image_of old large ≡ (Text (codes "Ann") ∷ number 3 ∷ []) ∷ (Text (codes "Bob") ∷ number 2 ∷ []) ∷ []
join_image = refl

-- the key is that of orders
join_flip : flipped old by_join ≡ database 3 (one (stored (table (codes "large") (column_of (codes "name") (admits.Varchar 9) ∷ column_of (codes "oid") admits.Int ∷ []) (one 1)) ((Text (codes "Bob") ∷ number 2 ∷ []) ∷ (Text (codes "Ann") ∷ number 3 ∷ []) ∷ []))) []
join_flip = refl

join_granules : granules_of old by_join ≡ granule 0 (Row 0) ∷ granule 0 (Row 1) ∷ granule 0 (Row 2) ∷ granule 0 (Row 3) ∷ []
join_granules = refl

join_parts : map (λ g. by_name (part_of old by_join g)) (granules_of old by_join) ≡ [] ∷ one (codes "large", Text (codes "Bob") ∷ number 2 ∷ []) ∷ one (codes "large", Text (codes "Ann") ∷ number 3 ∷ []) ∷ [] ∷ []
join_parts = refl

join_view : view_of (flipped_lazily (at_rest old) by_join) ≡ flipped old by_join
join_view = refl

-- the first order was filtered out
join_no_owner : owner_of old by_join large (one (number 1)) ≡ None
join_no_owner = refl

-- SELECT * FROM large WHERE name = 'Ann'
join_need : needed_by old by_join (flipped old by_join) false (statement.Select items.All (codes "large") (Some (compared compare.Equal (column (unqualified (codes "name"))) (literal (Text (codes "Ann")))))) ≡ one (granule 0 (Row 2))
join_need = refl

-- INSERT INTO large VALUES ('Cy', 2), ('Cy', 1)
join_insert : needed_by old by_join (flipped old by_join) false (statement.Insert (codes "large") ((Text (codes "Cy") ∷ number 2 ∷ []) ∷ (Text (codes "Cy") ∷ number 1 ∷ []) ∷ [])) ≡ one (granule 0 (Row 1))
join_insert = refl
