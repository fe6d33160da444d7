-- What stands behind each code of the other parts.
use Rattle.std.proofs.Common.{◌≡◌, ℕ, zero, suc, ℤ, ◌<◌, ◌≤◌, List, [], ◌∷◌, ◌++◌, length, get_or, drop, drop-cons, Option, Some, None, refl, sym, ap, ◌∙◌, arith}
use Rattle.std.proofs.lemmas.List.{nil_from_length}
use Rattle.bf_base.specs.declared.granule.Place.{Place}
use Rattle.bf_base.specs.declared.granule.Place.TheVariants as place
use Rattle.bf_base.specs.declared.table.Admit.{Admit}
use Rattle.bf_base.specs.declared.table.Admit.TheVariants as admits
use Rattle.bf_base.specs.declared.table.Table.{Table}
use Rattle.bf_base.specs.declared.value.Value.{Value}
use Rattle.bf_tree.specs.declared.catalog.IndexRule.{IndexRule}
use Rattle.bf_tree.specs.declared.items.Aggregate.{Aggregate}
use Rattle.bf_tree.specs.declared.items.Aggregate.TheVariants.{Count, Sum, Min, Max}
use Rattle.bf_tree.specs.declared.migration.Item.{Item}
use Rattle.bf_tree.specs.declared.migration.Item.TheVariants as item
use Rattle.bf_tree.specs.declared.migration.Migrate.{Migrate}
use Rattle.bf_tree.specs.declared.raw.Operand.{Operand}
use Rattle.bf_tree.specs.declared.raw.Operand.TheVariants as operand
use Rattle.bf_tree.specs.declared.raw.Ref.{Ref}
use Rattle.bf_tree.specs.Trees.{Expr}
use Rattle.bf_wire.specs.Spellings.{IsByte, byte_spelling, IsInt, int_spelling, IsWord, word_spelling, IsName, name_spelling, IsValue, value_spelling, AreValues, values_spelling, IsListed, list_spelling, IsPair, pair_spelling}
use Rattle.bf_wire.specs.Taking.{IsTakenFrom}
use Rattle.bf_wire.proofs.Parts.{none_tagged}
use Rattle.bf_record.specs.declared.change.Change.{Change}
use Rattle.bf_record.specs.declared.change.Change.TheVariants.{Commit, Schema, Flip, Move}
use Rattle.bf_record.specs.declared.schema.SchemaChange.{SchemaChange}
use Rattle.bf_record.specs.declared.schema.SchemaChange.TheVariants as schema
use Rattle.bf_record.specs.declared.writes.RowChange.{RowChange}
use Rattle.bf_record.specs.declared.writes.RowChange.TheVariants.{Removed, Put}
use Rattle.bf_record.specs.declared.writes.TableWrite.{TableWrite}
use Rattle.bf_record.specs.Apart.{AreMoveParts, move_parts_spelling}
use Rattle.bf_record.specs.Changes.{IsPlace, place_spelling, IsRowChange, row_change_spelling, IsWrite, write_spelling, HasRecord, record_bytes}
use Rattle.bf_record.specs.Conditions.{IsRawOperand, operand_spelling}
use Rattle.bf_record.specs.Expressions.{IsQualified, qualified_spelling, IsRef, ref_spelling, expr_spelling}
use Rattle.bf_record.specs.Migrations.{IsShortExpr, IsTotal, total_spelling, IsItem, item_spelling, IsMigrate, migrate_spelling}
use Rattle.bf_record.specs.Schema.{IsAdmit, admit_spelling, IsTable, table_spelling, IsIndex, index_spelling, IsSchemaChange, schema_spelling}

-- bytes whose first is told, and those behind it
pub behind_code : (bytes : List ℕ) (code : ℕ) → 0 < length bytes → get_or bytes 0 0 ≡ code → bytes ≡ code ∷ drop 1 bytes
behind_code bytes code some first = drop-cons bytes 0 0 some ∙ ap (λ (b : ℕ). b ∷ drop 1 bytes) first

module _ {A : Type 0} (IsWhole : A → Type 0) (whole : A → List ℕ) where
  -- what no bytes behind a code are, no bytes are whose first is the code
  pub none_here : (bytes : List ℕ) (code : ℕ) → 0 < length bytes → get_or bytes 0 0 ≡ code → IsTakenFrom IsWhole whole (code ∷ drop 1 bytes) None → IsTakenFrom IsWhole whole bytes None
  none_here bytes code some first none a rest is same = none a rest is (sym (behind_code bytes code some first) ∙ same)

  pub none_coded : (code tag : ℕ) (rest : List ℕ) → code ≡ tag → IsTakenFrom IsWhole whole (tag ∷ rest) None → IsTakenFrom IsWhole whole (code ∷ rest) None
  none_coded code tag rest equal none a xs is same = none a xs is (ap (λ (c : ℕ). c ∷ rest) (sym equal) ∙ same)

  pub none_at_end : (bytes : List ℕ) → length bytes ≡ 0 → IsTakenFrom IsWhole whole [] None → IsTakenFrom IsWhole whole bytes None
  none_at_end bytes short none a rest is same = none a rest is (sym (nil_from_length bytes short) ∙ same)

pub zero_of : (n : ℕ) → ¬ (1 ≤ n) → n ≡ 0
zero_of zero less = refl
zero_of (suc n) less = absurd (less (omega arith))

qualified_of : (t : Option (List ℕ)) (n rest xs : List ℕ) → IsQualified t n → 1 ∷ rest ≡ qualified_spelling t n ++ xs
    → (p : List ℕ × List ℕ) × IsPair IsName IsName p × (qualified_spelling t n ≡ 1 ∷ pair_spelling name_spelling name_spelling p)
qualified_of (Some t) n rest xs is same = ((t, n), is, refl)
qualified_of None n rest xs is same = absurd cc

pub no_qualified : (rest : List ℕ) → IsTakenFrom (IsPair IsName IsName) (pair_spelling name_spelling name_spelling) rest None → IsTakenFrom IsRef ref_spelling (1 ∷ rest) None
no_qualified rest none =
    none_tagged IsRef ref_spelling (IsPair IsName IsName) (pair_spelling name_spelling name_spelling) (λ r xs is same. qualified_of r.table r.column rest xs is same) none

sum_only : (a : Aggregate (Expr Ref)) (rest xs : List ℕ) → IsTotal a → 2 ∷ rest ≡ total_spelling a ++ xs → (b : Expr Ref) × IsShortExpr b × (total_spelling a ≡ 2 ∷ expr_spelling b)
sum_only (Sum e) rest xs is same = (e, is, refl)
sum_only a rest xs is same = absurd cc

pub no_sum : (rest : List ℕ) → IsTakenFrom IsShortExpr expr_spelling rest None → IsTakenFrom IsTotal total_spelling (2 ∷ rest) None
no_sum rest none = none_tagged IsTotal total_spelling IsShortExpr expr_spelling (λ a xs is same. sum_only a rest xs is same) none

min_only : (a : Aggregate (Expr Ref)) (rest xs : List ℕ) → IsTotal a → 3 ∷ rest ≡ total_spelling a ++ xs → (b : Expr Ref) × IsShortExpr b × (total_spelling a ≡ 3 ∷ expr_spelling b)
min_only (Min e) rest xs is same = (e, is, refl)
min_only a rest xs is same = absurd cc

pub no_min : (rest : List ℕ) → IsTakenFrom IsShortExpr expr_spelling rest None → IsTakenFrom IsTotal total_spelling (3 ∷ rest) None
no_min rest none = none_tagged IsTotal total_spelling IsShortExpr expr_spelling (λ a xs is same. min_only a rest xs is same) none

max_only : (a : Aggregate (Expr Ref)) (rest xs : List ℕ) → IsTotal a → 4 ∷ rest ≡ total_spelling a ++ xs → (b : Expr Ref) × IsShortExpr b × (total_spelling a ≡ 4 ∷ expr_spelling b)
max_only (Max e) rest xs is same = (e, is, refl)
max_only a rest xs is same = absurd cc

pub no_max : (rest : List ℕ) → IsTakenFrom IsShortExpr expr_spelling rest None → IsTakenFrom IsTotal total_spelling (4 ∷ rest) None
no_max rest none = none_tagged IsTotal total_spelling IsShortExpr expr_spelling (λ a xs is same. max_only a rest xs is same) none

column_only : (a : Item) (rest xs : List ℕ) → IsItem a → 1 ∷ rest ≡ item_spelling a ++ xs → (b : Ref) × IsRef b × (item_spelling a ≡ 1 ∷ ref_spelling b)
column_only (item.Column r) rest xs is same = (r, is, refl)
column_only a rest xs is same = absurd cc

pub no_column : (rest : List ℕ) → IsTakenFrom IsRef ref_spelling rest None → IsTakenFrom IsItem item_spelling (1 ∷ rest) None
no_column rest none = none_tagged IsItem item_spelling IsRef ref_spelling (λ a xs is same. column_only a rest xs is same) none

named_only : (a : Item) (rest xs : List ℕ) → IsItem a → 2 ∷ rest ≡ item_spelling a ++ xs → (b : Expr Ref × List ℕ) × (IsPair IsShortExpr IsName) b × (item_spelling a ≡ 2 ∷ (pair_spelling expr_spelling name_spelling) b)
named_only (item.Named e n) rest xs is same = ((e, n), is, refl)
named_only a rest xs is same = absurd cc

pub no_named : (rest : List ℕ) → IsTakenFrom (IsPair IsShortExpr IsName) (pair_spelling expr_spelling name_spelling) rest None → IsTakenFrom IsItem item_spelling (2 ∷ rest) None
no_named rest none = none_tagged IsItem item_spelling (IsPair IsShortExpr IsName) (pair_spelling expr_spelling name_spelling) (λ a xs is same. named_only a rest xs is same) none

total_only : (a : Item) (rest xs : List ℕ) → IsItem a → 3 ∷ rest ≡ item_spelling a ++ xs → (b : Aggregate (Expr Ref) × List ℕ) × (IsPair IsTotal IsName) b × (item_spelling a ≡ 3 ∷ (pair_spelling total_spelling name_spelling) b)
total_only (item.Total t n) rest xs is same = ((t, n), is, refl)
total_only a rest xs is same = absurd cc

pub no_total : (rest : List ℕ) → IsTakenFrom (IsPair IsTotal IsName) (pair_spelling total_spelling name_spelling) rest None → IsTakenFrom IsItem item_spelling (3 ∷ rest) None
no_total rest none = none_tagged IsItem item_spelling (IsPair IsTotal IsName) (pair_spelling total_spelling name_spelling) (λ a xs is same. total_only a rest xs is same) none

checked_only : (a : Admit) (rest xs : List ℕ) → IsAdmit a → 2 ∷ rest ≡ admit_spelling a ++ xs → (b : ℤ × ℤ) × (IsPair IsInt IsInt) b × (admit_spelling a ≡ 2 ∷ (pair_spelling int_spelling int_spelling) b)
checked_only (admits.Checked low high) rest xs is same = ((low, high), is, refl)
checked_only a rest xs is same = absurd cc

pub no_checked : (rest : List ℕ) → IsTakenFrom (IsPair IsInt IsInt) (pair_spelling int_spelling int_spelling) rest None → IsTakenFrom IsAdmit admit_spelling (2 ∷ rest) None
no_checked rest none = none_tagged IsAdmit admit_spelling (IsPair IsInt IsInt) (pair_spelling int_spelling int_spelling) (λ a xs is same. checked_only a rest xs is same) none

table_only : (a : SchemaChange) (rest xs : List ℕ) → IsSchemaChange a → 1 ∷ rest ≡ schema_spelling a ++ xs → (b : Table) × IsTable b × (schema_spelling a ≡ 1 ∷ table_spelling b)
table_only (schema.Table t) rest xs is same = (t, is, refl)
table_only a rest xs is same = absurd cc

pub no_table : (rest : List ℕ) → IsTakenFrom IsTable table_spelling rest None → IsTakenFrom IsSchemaChange schema_spelling (1 ∷ rest) None
no_table rest none = none_tagged IsSchemaChange schema_spelling IsTable table_spelling (λ a xs is same. table_only a rest xs is same) none

index_only : (a : SchemaChange) (rest xs : List ℕ) → IsSchemaChange a → 2 ∷ rest ≡ schema_spelling a ++ xs → (b : IndexRule) × IsIndex b × (schema_spelling a ≡ 2 ∷ index_spelling b)
index_only (schema.Index i) rest xs is same = (i, is, refl)
index_only a rest xs is same = absurd cc

pub no_index : (rest : List ℕ) → IsTakenFrom IsIndex index_spelling rest None → IsTakenFrom IsSchemaChange schema_spelling (2 ∷ rest) None
no_index rest none = none_tagged IsSchemaChange schema_spelling IsIndex index_spelling (λ a xs is same. index_only a rest xs is same) none

group_only : (a : Place) (rest xs : List ℕ) → IsPlace a → 2 ∷ rest ≡ place_spelling a ++ xs → (b : List Value) × AreValues b × (place_spelling a ≡ 2 ∷ values_spelling b)
group_only (place.Group k) rest xs is same = (k, is, refl)
group_only a rest xs is same = absurd cc

pub no_group : (rest : List ℕ) → IsTakenFrom AreValues values_spelling rest None → IsTakenFrom IsPlace place_spelling (2 ∷ rest) None
no_group rest none = none_tagged IsPlace place_spelling AreValues values_spelling (λ a xs is same. group_only a rest xs is same) none

commit_only : (a : Change) (rest xs : List ℕ) → HasRecord a → 1 ∷ rest ≡ record_bytes a ++ xs → (b : List TableWrite) × (IsListed IsWrite) b × (record_bytes a ≡ 1 ∷ (list_spelling write_spelling) b)
commit_only (Commit ws) rest xs is same = (ws, is, refl)
commit_only a rest xs is same = absurd cc

pub no_commit : (rest : List ℕ) → IsTakenFrom (IsListed IsWrite) (list_spelling write_spelling) rest None → IsTakenFrom HasRecord record_bytes (1 ∷ rest) None
no_commit rest none = none_tagged HasRecord record_bytes (IsListed IsWrite) (list_spelling write_spelling) (λ a xs is same. commit_only a rest xs is same) none

schema_only : (a : Change) (rest xs : List ℕ) → HasRecord a → 2 ∷ rest ≡ record_bytes a ++ xs → (b : SchemaChange) × IsSchemaChange b × (record_bytes a ≡ 2 ∷ schema_spelling b)
schema_only (Schema s) rest xs is same = (s, is, refl)
schema_only a rest xs is same = absurd cc

pub no_schema : (rest : List ℕ) → IsTakenFrom IsSchemaChange schema_spelling rest None → IsTakenFrom HasRecord record_bytes (2 ∷ rest) None
no_schema rest none = none_tagged HasRecord record_bytes IsSchemaChange schema_spelling (λ a xs is same. schema_only a rest xs is same) none

flip_only : (a : Change) (rest xs : List ℕ) → HasRecord a → 3 ∷ rest ≡ record_bytes a ++ xs → (b : Migrate) × IsMigrate b × (record_bytes a ≡ 3 ∷ migrate_spelling b)
flip_only (Flip m) rest xs is same = (m, is, refl)
flip_only a rest xs is same = absurd cc

pub no_flip : (rest : List ℕ) → IsTakenFrom IsMigrate migrate_spelling rest None → IsTakenFrom HasRecord record_bytes (3 ∷ rest) None
no_flip rest none = none_tagged HasRecord record_bytes IsMigrate migrate_spelling (λ a xs is same. flip_only a rest xs is same) none

move_only : (a : Change) (rest xs : List ℕ) → HasRecord a → 4 ∷ rest ≡ record_bytes a ++ xs → (b : (ℕ × ℕ) × List Place) × AreMoveParts b × (record_bytes a ≡ 4 ∷ move_parts_spelling b)
move_only (Move m u ps) rest xs is same = (((m, u), ps), ((is.0, is.1), is.2), refl)
move_only a rest xs is same = absurd cc

pub no_move : (rest : List ℕ) → IsTakenFrom AreMoveParts move_parts_spelling rest None → IsTakenFrom HasRecord record_bytes (4 ∷ rest) None
no_move rest none = none_tagged HasRecord record_bytes AreMoveParts move_parts_spelling (λ a xs is same. move_only a rest xs is same) none
