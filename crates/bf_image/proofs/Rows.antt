-- Look-ups, parts and owners on worked migrations, by computing.
use Rattle.std.specs.Prelude.{◌^◌, ◌-◌, pos, ◌≡◌, false, [], ◌∷◌, ◌++◌, map, Some, None, codes, refl}
use Rattle.std.specs.Prelude.{slice_index_or}
use Rattle.bf_base.specs.Tables.{fit_of}
use Rattle.bf_base.specs.declared.table.Fit.TheVariants.{Fits, OutOfRange}
use Rattle.bf_base.specs.declared.value.Value.TheVariants.{Int}
use Rattle.bf_base.specs.declared.granule.Place.TheVariants.{Row, Group}
use Rattle.bf_base.specs.declared.table.Admit.TheVariants as admits
use Rattle.bf_tree.specs.declared.migration.Target.{Target}
use Rattle.bf_tree.specs.Trees.{literal, column}
use Rattle.bf_tree.specs.declared.migration.Item.TheVariants as item
use Rattle.bf_tree.specs.declared.migration.Migrate.{Migrate}
use Rattle.bf_tree.specs.declared.reply.Refusal.TheVariants as refusal
use Rattle.bf_sql.specs.migrations.MigrationObjections.{migrate_objections}
use Rattle.bf_sql.specs.migrations.Images.{image_of}
use Rattle.bf_sql.specs.migrations.Granules.{granule, granules_of, owner_of}
use Rattle.bf_sql.specs.Database.{Database, is_keyed, stored_in_order}
use Rattle.bf_sql.specs.Scopes.{unqualified}
use Rattle.bf_sql.proofs.Spelling.{one, number, arm, target, migration, table, column_of, stored, database, qualified, join}
use Rattle.bf_sql.proofs.GroupedTotalsMoves as totals
use Rattle.bf_sql.proofs.JoinedPairsMoves as pairs
use Rattle.bf_sql.specs.migrations.Targets.{target_table}
use Rattle.bf_image.specs.Laws.{rows_of_parts, swept}
use Rattle.bf_image.specs.Lawful.{IsLawful}
use Rattle.bf_image.specs.Lookup.{candidates}
use Rattle.bf_image.specs.Sources.{frozen_of}

abbrev nothing : Target
nothing = record { name = []; arms = [] }

-- totals by group: the key is the group's value, also of a group that is not there
abbrev tot : Target
tot = slice_index_or totals.migrate.targets 0 nothing

totals_fine : migrate_objections totals.old totals.migrate ≡ []
totals_fine = refl

totals_whole : rows_of_parts totals.old totals.migrate tot ≡ image_of totals.old tot
totals_whole = refl

totals_candidate : candidates totals.old totals.migrate tot (one (number 7)) ≡ one (granule 0 (Group (one (number 7))))
totals_candidate = refl

totals_owner : owner_of totals.old totals.migrate tot (one (number 7)) ≡ Some (granule 0 (Group (one (number 7))))
totals_owner = refl

totals_candidate_of_none : candidates totals.old totals.migrate tot (one (number 6)) ≡ one (granule 0 (Group (one (number 6))))
totals_candidate_of_none = refl

totals_owner_of_none : owner_of totals.old totals.migrate tot (one (number 6)) ≡ None
totals_owner_of_none = refl

totals_lawful : IsLawful totals.old totals.migrate
totals_lawful = record { database = record { tables_by_name = refl; indexes_by_name = refl; rows_by_key = refl; rows_admitted = refl; keys_within = refl; indexes_on_tables = refl }; unobjected = refl; few = refl }

-- pairs of equal values: the key's front names a row of FROM, and that its value
abbrev j : Target
j = slice_index_or pairs.migrate.targets 0 nothing

pairs_fine : migrate_objections pairs.old pairs.migrate ≡ []
pairs_fine = refl

pairs_whole : rows_of_parts pairs.old pairs.migrate j ≡ image_of pairs.old j
pairs_whole = refl

pairs_candidate : candidates pairs.old pairs.migrate j (number 1 ∷ number 2 ∷ []) ≡ one (granule 0 (Group (one (number 5))))
pairs_candidate = refl

pairs_owner : owner_of pairs.old pairs.migrate j (number 1 ∷ number 2 ∷ []) ≡ Some (granule 0 (Group (one (number 5))))
pairs_owner = refl

-- a row of FROM without a pair: a candidate, and no owner
pairs_candidate_of_none : candidates pairs.old pairs.migrate j (number 2 ∷ number 3 ∷ []) ≡ one (granule 0 (Group (one (number 6))))
pairs_candidate_of_none = refl

pairs_owner_of_none : owner_of pairs.old pairs.migrate j (number 2 ∷ number 3 ∷ []) ≡ None
pairs_owner_of_none = refl

-- the anchors of a join: left rows, then right rows, where a value may come more than once
pairs_swept : swept pairs.old pairs.migrate ≡ map (λ v. granule 0 (Group (one (number v)))) (5 ∷ 6 ∷ 5 ∷ 5 ∷ 9 ∷ [])
pairs_swept = refl

-- two arms with tags over one driver: the tag tells the arm, and what is behind it the driver's row
abbrev tagged_old : Database
tagged_old = database 1 (one (stored (table (codes "c") (column_of (codes "id") admits.Int ∷ column_of (codes "h") admits.Int ∷ column_of (codes "w") admits.Int ∷ []) (one 0))
    ((number 1 ∷ number 20 ∷ number 30 ∷ []) ∷ (number 4 ∷ number 50 ∷ number 60 ∷ []) ∷ []))) []

-- MIGRATE (CREATE TABLE ph AS SELECT 1 AS tag, id, h AS num FROM c UNION ALL SELECT 2 AS tag, id, w AS num FROM c)
abbrev tagged : Migrate
tagged = migration (one (target (codes "ph") (
    arm (item.Named (literal (number 1)) (codes "tag") ∷ item.Column (unqualified (codes "id")) ∷ item.Named (column (unqualified (codes "h"))) (codes "num") ∷ []) (codes "c") None None []
    ∷ arm (item.Named (literal (number 2)) (codes "tag") ∷ item.Column (unqualified (codes "id")) ∷ item.Named (column (unqualified (codes "w"))) (codes "num") ∷ []) (codes "c") None None []
    ∷ []
    )))

abbrev ph : Target
ph = slice_index_or tagged.targets 0 nothing

tagged_fine : migrate_objections tagged_old tagged ≡ []
tagged_fine = refl

-- granule by granule the rows stand in another order than in the image
tagged_parts : map (λ row. slice_index_or row 2 (number 0)) (rows_of_parts tagged_old tagged ph) ≡ number 20 ∷ number 30 ∷ number 50 ∷ number 60 ∷ []
tagged_parts = refl

tagged_image : map (λ row. slice_index_or row 2 (number 0)) (image_of tagged_old ph) ≡ number 20 ∷ number 50 ∷ number 30 ∷ number 60 ∷ []
tagged_image = refl

tagged_candidate : candidates tagged_old tagged ph (number 2 ∷ number 4 ∷ []) ≡ one (granule 0 (Row 1))
tagged_candidate = refl

tagged_owner : owner_of tagged_old tagged ph (number 2 ∷ number 4 ∷ []) ≡ Some (granule 0 (Row 1))
tagged_owner = refl

-- a tag that no arm has
tagged_owner_of_none : owner_of tagged_old tagged ph (number 3 ∷ number 4 ∷ []) ≡ None
tagged_owner_of_none = refl

-- with one tag for both arms there is an objection, and the image has a key twice: no law without it
abbrev untagged : Migrate
untagged = migration (one (target (codes "ph") (
    arm (item.Named (literal (number 1)) (codes "tag") ∷ item.Column (unqualified (codes "id")) ∷ item.Named (column (unqualified (codes "h"))) (codes "num") ∷ []) (codes "c") None None []
    ∷ arm (item.Named (literal (number 1)) (codes "tag") ∷ item.Column (unqualified (codes "id")) ∷ item.Named (column (unqualified (codes "w"))) (codes "num") ∷ []) (codes "c") None None []
    ∷ []
    )))

untagged_refused : migrate_objections tagged_old untagged ≡ one (refusal.KeyNotInherited (codes "ph"))
untagged_refused = refl

untagged_twice : is_keyed (stored_in_order (target_table tagged_old (slice_index_or untagged.targets 0 nothing)) (image_of tagged_old (slice_index_or untagged.targets 0 nothing))) ≡ false
untagged_twice = refl

-- beside the source stands a table of the target's name: the whole database has that against the target, and the source alone does
-- not know of it; the image, the granules and the owners are the same
abbrev taken_old : Database
taken_old = record tagged_old { tables = tagged_old.tables ++ one (stored (table (codes "ph") (one (column_of (codes "id") admits.Int)) (one 0)) []) }

taken_refused : migrate_objections taken_old tagged ≡ one (refusal.TableExists (codes "ph"))
taken_refused = refl

taken_frozen : frozen_of taken_old tagged ≡ tagged_old
taken_frozen = refl

taken_unseen : migrate_objections (frozen_of taken_old tagged) tagged ≡ []
taken_unseen = refl

taken_granules : granules_of taken_old tagged ≡ granules_of tagged_old tagged
taken_granules = refl

taken_image : image_of taken_old ph ≡ image_of tagged_old ph
taken_image = refl

-- ON with FROM's whole key: the rows of JOIN drive
-- MIGRATE (CREATE TABLE o AS SELECT bid, a.v FROM a JOIN b ON aid = b.v)
abbrev driven : Migrate
driven = migration (one (target (codes "o") (one (arm (item.Column (unqualified (codes "bid")) ∷ item.Column (qualified (codes "a") (codes "v")) ∷ []) (codes "a")
    (Some (join (codes "b") (one (unqualified (codes "aid"), qualified (codes "b") (codes "v"))))) None []))))

abbrev driven_old : Database
driven_old = database 2 (
    stored (table (codes "a") (column_of (codes "aid") admits.Int ∷ column_of (codes "v") admits.Int ∷ []) (one 0)) ((number 1 ∷ number 5 ∷ []) ∷ (number 2 ∷ number 6 ∷ []) ∷ [])
    ∷ stored (table (codes "b") (column_of (codes "bid") admits.Int ∷ column_of (codes "v") admits.Int ∷ []) (one 0)) ((number 1 ∷ number 2 ∷ []) ∷ (number 2 ∷ number 1 ∷ []) ∷ (number 3 ∷ number 9 ∷ []) ∷ [])
    ∷ []
    ) []

abbrev o : Target
o = slice_index_or driven.targets 0 nothing

driven_fine : migrate_objections driven_old driven ≡ []
driven_fine = refl

driven_parts : rows_of_parts driven_old driven o ≡ (number 1 ∷ number 6 ∷ []) ∷ (number 2 ∷ number 5 ∷ []) ∷ []
driven_parts = refl

driven_image : image_of driven_old o ≡ (number 2 ∷ number 5 ∷ []) ∷ (number 1 ∷ number 6 ∷ []) ∷ []
driven_image = refl

driven_owner : owner_of driven_old driven o (one (number 2)) ≡ Some (granule 0 (Row 1))
driven_owner = refl

driven_candidate_of_none : candidates driven_old driven o (one (number 3)) ≡ one (granule 0 (Row 2))
driven_candidate_of_none = refl

driven_owner_of_none : owner_of driven_old driven o (one (number 3)) ≡ None
driven_owner_of_none = refl

-- a column INT admits the greatest INT, and not the number behind it
greatest_admitted : fit_of admits.Int (Int (pos (2 ^ 63 - 1))) ≡ Fits
greatest_admitted = refl

beyond_refused : fit_of admits.Int (Int (pos (2 ^ 63))) ≡ OutOfRange
beyond_refused = refl
