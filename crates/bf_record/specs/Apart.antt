-- No spelling is the front of another's: proofs of the law that each part gives.
use Rattle.std.proofs.Common.{◌≡◌, ℕ, ℤ, List, [], ◌∷◌, ◌++◌, Option, Some, None, refl, sym, ap, ap₂, ◌∙◌, append_assoc}
use Rattle.std.proofs.lemmas.List.{append_cancel_left}
use Rattle.bf_base.specs.declared.granule.Place.{Place}
use Rattle.bf_base.specs.declared.granule.Place.TheVariants as place
use Rattle.bf_base.specs.declared.table.Admit.{Admit}
use Rattle.bf_base.specs.declared.table.Admit.TheVariants as admits
use Rattle.bf_base.specs.declared.table.Column.{Column}
use Rattle.bf_base.specs.declared.table.Table.{Table}
use Rattle.bf_base.specs.declared.value.Value.{Value}
use Rattle.bf_tree.specs.declared.catalog.IndexRule.{IndexRule}
use Rattle.bf_tree.specs.declared.compare.Compare.{Compare}
use Rattle.bf_tree.specs.declared.compare.Compare.TheVariants as compare
use Rattle.bf_tree.specs.declared.items.Aggregate.{Aggregate}
use Rattle.bf_tree.specs.declared.items.Aggregate.TheVariants.{Count, Sum, Min, Max}
use Rattle.bf_tree.specs.declared.migration.Arm.{Arm}
use Rattle.bf_tree.specs.declared.migration.Item.{Item}
use Rattle.bf_tree.specs.declared.migration.Item.TheVariants as item
use Rattle.bf_tree.specs.declared.migration.Join.{Join}
use Rattle.bf_tree.specs.declared.migration.Migrate.{Migrate}
use Rattle.bf_tree.specs.declared.migration.Target.{Target}
use Rattle.bf_tree.specs.declared.raw.Operand.{Operand}
use Rattle.bf_tree.specs.declared.raw.Operand.TheVariants as operand
use Rattle.bf_tree.specs.declared.raw.Ref.{Ref}
use Rattle.bf_tree.specs.Trees.{Expr, literal, column, negated, plus, minus, times, joined, Cond, always, compared, between, opposite, both, either}
use Rattle.bf_wire.specs.Apart.{bytes_apart, words_apart, ints_apart, names_apart, values_apart, rows_apart, lists_apart, pairs_apart}
use Rattle.bf_wire.specs.Spellings.{IsByte, byte_spelling, IsInt, int_spelling, IsWord, word_spelling, IsName, name_spelling, IsValue, value_spelling, AreValues, values_spelling, IsListed, list_spelling, IsPair, pair_spelling}
use Rattle.bf_wire.specs.Taking.{AreApart}
use Rattle.bf_wire.proofs.Parts.{apart_as}
use Rattle.bf_record.specs.declared.change.Change.{Change}
use Rattle.bf_record.specs.declared.change.Change.TheVariants.{Commit, Schema, Flip, Move}
use Rattle.bf_record.specs.declared.schema.SchemaChange.{SchemaChange}
use Rattle.bf_record.specs.declared.schema.SchemaChange.TheVariants as schema
use Rattle.bf_record.specs.declared.writes.RowChange.{RowChange}
use Rattle.bf_record.specs.declared.writes.RowChange.TheVariants.{Removed, Put}
use Rattle.bf_record.specs.declared.writes.TableWrite.{TableWrite}
use Rattle.bf_record.specs.Changes.{IsPlace, place_spelling, IsRowChange, row_change_spelling, IsWrite, write_spelling, HasRecord, record_bytes}
use Rattle.bf_record.specs.Conditions.{IsCompare, compare_spelling, IsOperand, IsRawOperand, operand_spelling, IsCond, cond_spelling}
use Rattle.bf_record.specs.Expressions.{IsQualified, qualified_spelling, IsRef, ref_spelling, IsExpr, expr_spelling}
use Rattle.bf_record.specs.Migrations.{IsShortExpr, IsShortCond, IsTotal, total_spelling, IsItem, item_spelling, ArePairs, pairs_spelling, IsJoin, join_spelling, AreItems, items_spelling, AreRefs, refs_spelling, IsArm, arm_spelling, AreArms, arms_spelling, IsTarget, target_spelling, IsMigrate, migrate_spelling}
use Rattle.bf_record.specs.Options.{IsOptional, optional_spelling}
use Rattle.bf_record.specs.Schema.{IsAdmit, admit_spelling, IsColumn, column_spelling, AreColumns, columns_spelling, ArePlacesOfColumns, places_spelling, IsTable, table_spelling, IsIndex, index_spelling, IsSchemaChange, schema_spelling}

pub options_apart : {A : Type 0} (IsPart : A → Type 0) (part : A → List ℕ) → AreApart IsPart part → AreApart (IsOptional IsPart) (optional_spelling part)
options_apart IsPart part apart None None xs ys is_a is_b same = refl
options_apart IsPart part apart (Some a) (Some b) xs ys is_a is_b same = ap Some (apart a b xs ys is_a is_b cc)
options_apart IsPart part apart None (Some b) xs ys is_a is_b same = absurd cc
options_apart IsPart part apart (Some a) None xs ys is_a is_b same = absurd cc

abbrev ref_of : Option (List ℕ) → List ℕ → Ref
ref_of table name = record { table = table; column = name }

qualified_apart : (t u : Option (List ℕ)) (c d xs ys : List ℕ) → IsQualified t c → IsQualified u d → qualified_spelling t c ++ xs ≡ qualified_spelling u d ++ ys → ref_of t c ≡ ref_of u d
qualified_apart None None c d xs ys is_a is_b same =
    let behind : name_spelling c ++ xs ≡ name_spelling d ++ ys = cc in
    ap (λ (n : List ℕ). ref_of None n) (names_apart c d xs ys is_a is_b behind)
qualified_apart (Some t) (Some u) c d xs ys is_a is_b same =
    let behind : (name_spelling t ++ name_spelling c) ++ xs ≡ (name_spelling u ++ name_spelling d) ++ ys = cc in
    ap (λ (p : List ℕ × List ℕ). ref_of (Some p.0) p.1) (pairs_apart IsName IsName name_spelling name_spelling names_apart names_apart (t, c) (u, d) xs ys is_a is_b behind)
qualified_apart None (Some u) c d xs ys is_a is_b same = absurd cc
qualified_apart (Some t) None c d xs ys is_a is_b same = absurd cc

pub refs_apart : AreApart IsRef ref_spelling
refs_apart r s xs ys is_a is_b same = qualified_apart r.table s.table r.column s.column xs ys is_a is_b same

-- what tells two parts apart, of which each is told apart from the other's
two_apart : {A B : Type 0} (first : A → List ℕ) (second : B → List ℕ) (a c : A) (b d : B) (xs ys : List ℕ)
    → ((us vs : List ℕ) → first a ++ us ≡ first c ++ vs → a ≡ c) → ((us vs : List ℕ) → second b ++ us ≡ second d ++ vs → b ≡ d)
    → (first a ++ second b) ++ xs ≡ (first c ++ second d) ++ ys → (a ≡ c) × (b ≡ d)
two_apart {A} first second a c b d xs ys one other same =
    let whole : first a ++ (second b ++ xs) ≡ first c ++ (second d ++ ys) = sym (append_assoc (first a) (second b) xs) ∙ same ∙ append_assoc (first c) (second d) ys in
    let equal : a ≡ c = one (second b ++ xs) (second d ++ ys) whole in
    (equal, other xs ys (append_cancel_left (first c) (second b ++ xs) (second d ++ ys) (ap (λ (z : A). first z ++ (second b ++ xs)) (sym equal) ∙ whole)))

expr_apart : (a b : Expr Ref) (xs ys : List ℕ) → IsExpr a → IsExpr b → expr_spelling a ++ xs ≡ expr_spelling b ++ ys → a ≡ b
expr_apart (literal v) (literal w) xs ys is_a is_b same = ap literal (values_apart v w xs ys is_a is_b cc)
expr_apart (column r) (column s) xs ys is_a is_b same = ap column (refs_apart r s xs ys is_a is_b cc)
expr_apart (negated a) (negated b) xs ys is_a is_b same = ap negated (expr_apart a b xs ys is_a is_b cc)
expr_apart (plus a b) (plus c d) xs ys is_a is_b same =
    let equal = two_apart expr_spelling expr_spelling a c b d xs ys (λ us vs e. expr_apart a c us vs is_a.0 is_b.0 e) (λ us vs e. expr_apart b d us vs is_a.1 is_b.1 e) cc in
    ap₂ plus equal.0 equal.1
expr_apart (minus a b) (minus c d) xs ys is_a is_b same =
    let equal = two_apart expr_spelling expr_spelling a c b d xs ys (λ us vs e. expr_apart a c us vs is_a.0 is_b.0 e) (λ us vs e. expr_apart b d us vs is_a.1 is_b.1 e) cc in
    ap₂ minus equal.0 equal.1
expr_apart (times a b) (times c d) xs ys is_a is_b same =
    let equal = two_apart expr_spelling expr_spelling a c b d xs ys (λ us vs e. expr_apart a c us vs is_a.0 is_b.0 e) (λ us vs e. expr_apart b d us vs is_a.1 is_b.1 e) cc in
    ap₂ times equal.0 equal.1
expr_apart (joined a b) (joined c d) xs ys is_a is_b same =
    let equal = two_apart expr_spelling expr_spelling a c b d xs ys (λ us vs e. expr_apart a c us vs is_a.0 is_b.0 e) (λ us vs e. expr_apart b d us vs is_a.1 is_b.1 e) cc in
    ap₂ joined equal.0 equal.1
expr_apart a b xs ys is_a is_b same = absurd cc

pub short_exprs_apart : AreApart IsShortExpr expr_spelling
short_exprs_apart a b xs ys is_a is_b same = expr_apart a b xs ys is_a.0 is_b.0 same

pub exprs_apart : AreApart IsExpr expr_spelling
exprs_apart = expr_apart

pub compares_apart : AreApart IsCompare compare_spelling
compares_apart compare.Equal compare.Equal xs ys is_a is_b same = refl
compares_apart compare.Unequal compare.Unequal xs ys is_a is_b same = refl
compares_apart compare.Less compare.Less xs ys is_a is_b same = refl
compares_apart compare.LessEqual compare.LessEqual xs ys is_a is_b same = refl
compares_apart compare.Greater compare.Greater xs ys is_a is_b same = refl
compares_apart compare.GreaterEqual compare.GreaterEqual xs ys is_a is_b same = refl
compares_apart a b xs ys is_a is_b same = absurd cc

pub operands_apart : AreApart IsRawOperand operand_spelling
operands_apart (operand.Value v) (operand.Value w) xs ys is_a is_b same = ap operand.Value (values_apart v w xs ys is_a is_b cc)
operands_apart (operand.Column r) (operand.Column s) xs ys is_a is_b same = ap operand.Column (refs_apart r s xs ys is_a is_b cc)
operands_apart a b xs ys is_a is_b same = absurd cc

-- an expression that is an operand has a spelling
pub operand_is : (e : Expr Ref) → IsOperand e → IsExpr e
operand_is (literal v) is = is
operand_is (column r) is = is
operand_is (negated a) is = absurd is
operand_is (plus a b) is = absurd is
operand_is (minus a b) is = absurd is
operand_is (times a b) is = absurd is
operand_is (joined a b) is = absurd is

compare_apart : (a b : Compare) (xs ys : List ℕ) → compare_spelling a ++ xs ≡ compare_spelling b ++ ys → a ≡ b
compare_apart a b xs ys same = compares_apart a b xs ys tt tt same

operand_apart : (a b : Expr Ref) → IsOperand a → IsOperand b → (xs ys : List ℕ) → expr_spelling a ++ xs ≡ expr_spelling b ++ ys → a ≡ b
operand_apart a b is_a is_b xs ys same = expr_apart a b xs ys (operand_is a is_a) (operand_is b is_b) same

-- the first two of three parts
abbrev first_two : {A B : Type 0} → (A → List ℕ) → (B → List ℕ) → A × B → List ℕ
first_two first second pair = first pair.0 ++ second pair.1

three_apart : {A B C : Type 0} (first : A → List ℕ) (second : B → List ℕ) (third : C → List ℕ) (a d : A) (b e : B) (c f : C) (xs ys : List ℕ)
    → ((us vs : List ℕ) → first a ++ us ≡ first d ++ vs → a ≡ d) → ((us vs : List ℕ) → second b ++ us ≡ second e ++ vs → b ≡ e) → ((us vs : List ℕ) → third c ++ us ≡ third f ++ vs → c ≡ f)
    → (first a ++ second b ++ third c) ++ xs ≡ (first d ++ second e ++ third f) ++ ys → (a ≡ d) × (b ≡ e) × (c ≡ f)
three_apart {A} {B} first second third a d b e c f xs ys one other last same =
    let pair : (us vs : List ℕ) → first_two first second (a, b) ++ us ≡ first_two first second (d, e) ++ vs → (a, b) ≡ (d, e) =
    λ us vs h. let both = two_apart first second a d b e us vs one other h in ap₂ (λ (x : A) (y : B). (x, y)) both.0 both.1 in
    let outer = two_apart (first_two first second) third (a, b) (d, e) c f xs ys pair last same in
    (ap (λ (p : A × B). p.0) outer.0, ap (λ (p : A × B). p.1) outer.0, outer.1)

cond_apart : (a b : Cond Ref) (xs ys : List ℕ) → IsCond a → IsCond b → cond_spelling a ++ xs ≡ cond_spelling b ++ ys → a ≡ b
cond_apart always b xs ys is_a is_b same = absurd is_a
cond_apart (compared op a b) (compared po c d) xs ys is_a is_b same =
    let equal = three_apart compare_spelling expr_spelling expr_spelling op po a c b d xs ys (compare_apart op po) (operand_apart a c is_a.0 is_b.0) (operand_apart b d is_a.1 is_b.1) cc in
    λ i. compared (equal.0 i) (equal.1 i) (equal.2 i)
cond_apart (between a b c) (between d e f) xs ys is_a is_b same =
    let equal = three_apart expr_spelling expr_spelling expr_spelling a d b e c f xs ys (operand_apart a d is_a.0 is_b.0) (operand_apart b e is_a.1 is_b.1) (operand_apart c f is_a.2 is_b.2) cc in
    λ i. between (equal.0 i) (equal.1 i) (equal.2 i)
cond_apart (opposite c) (opposite d) xs ys is_a is_b same = ap opposite (cond_apart c d xs ys is_a is_b cc)
cond_apart (both a b) (both c d) xs ys is_a is_b same =
    let equal = two_apart cond_spelling cond_spelling a c b d xs ys (λ us vs e. cond_apart a c us vs is_a.0 is_b.0 e) (λ us vs e. cond_apart b d us vs is_a.1 is_b.1 e) cc in
    ap₂ both equal.0 equal.1
cond_apart (either a b) (either c d) xs ys is_a is_b same =
    let equal = two_apart cond_spelling cond_spelling a c b d xs ys (λ us vs e. cond_apart a c us vs is_a.0 is_b.0 e) (λ us vs e. cond_apart b d us vs is_a.1 is_b.1 e) cc in
    ap₂ either equal.0 equal.1
cond_apart a always xs ys is_a is_b same = absurd is_b
cond_apart a b xs ys is_a is_b same = absurd cc

pub conds_apart : AreApart IsCond cond_spelling
conds_apart = cond_apart

pub short_conds_apart : AreApart IsShortCond cond_spelling
short_conds_apart a b xs ys is_a is_b same = cond_apart a b xs ys is_a.0 is_b.0 same

pub totals_apart : AreApart IsTotal total_spelling
totals_apart Count Count xs ys is_a is_b same = refl
totals_apart (Sum a) (Sum b) xs ys is_a is_b same = ap Sum (short_exprs_apart a b xs ys is_a is_b cc)
totals_apart (Min a) (Min b) xs ys is_a is_b same = ap Min (short_exprs_apart a b xs ys is_a is_b cc)
totals_apart (Max a) (Max b) xs ys is_a is_b same = ap Max (short_exprs_apart a b xs ys is_a is_b cc)
totals_apart a b xs ys is_a is_b same = absurd cc

pub items_apart : AreApart IsItem item_spelling
items_apart (item.Column r) (item.Column s) xs ys is_a is_b same = ap item.Column (refs_apart r s xs ys is_a is_b cc)
items_apart (item.Named a n) (item.Named b m) xs ys is_a is_b same =
    ap (λ (p : Expr Ref × List ℕ). item.Named p.0 p.1) (pairs_apart IsShortExpr IsName expr_spelling name_spelling short_exprs_apart names_apart (a, n) (b, m) xs ys is_a is_b cc)
items_apart (item.Total a n) (item.Total b m) xs ys is_a is_b same =
    ap (λ (p : Aggregate (Expr Ref) × List ℕ). item.Total p.0 p.1) (pairs_apart IsTotal IsName total_spelling name_spelling totals_apart names_apart (a, n) (b, m) xs ys is_a is_b cc)
items_apart a b xs ys is_a is_b same = absurd cc

ref_pairs_apart : AreApart ArePairs pairs_spelling
ref_pairs_apart = lists_apart (IsPair IsRef IsRef) (pair_spelling ref_spelling ref_spelling) (pairs_apart IsRef IsRef ref_spelling ref_spelling refs_apart refs_apart)

abbrev pub join_parts : Join → List ℕ × List (Ref × Ref)
join_parts a = (a.table, a.on)

abbrev pub join_of : List ℕ × List (Ref × Ref) → Join
join_of p = record { table = p.0; on = p.1 }

abbrev pub AreJoinParts : List ℕ × List (Ref × Ref) → Type 0
AreJoinParts p = (IsPair IsName ArePairs) p

abbrev pub join_parts_spelling : List ℕ × List (Ref × Ref) → List ℕ
join_parts_spelling p = (pair_spelling name_spelling pairs_spelling) p

pub join_has_parts : (a : Join) → IsJoin a → AreJoinParts (join_parts a)
join_has_parts a is = is

pub joins_apart : AreApart IsJoin join_spelling
joins_apart = apart_as IsJoin join_spelling AreJoinParts join_parts_spelling join_parts join_of (λ a. refl) join_has_parts (λ a. refl)
    (pairs_apart IsName ArePairs name_spelling pairs_spelling names_apart ref_pairs_apart)

abbrev pub arm_parts : Arm → (((List Item × List ℕ) × Option Join) × Option (Cond Ref)) × List Ref
arm_parts a = ((((a.items, a.from), a.join), a.cond), a.group)

abbrev pub arm_of : (((List Item × List ℕ) × Option Join) × Option (Cond Ref)) × List Ref → Arm
arm_of p = record { items = p.0.0.0.0; from = p.0.0.0.1; join = p.0.0.1; cond = p.0.1; group = p.1 }

abbrev pub AreArmParts : (((List Item × List ℕ) × Option Join) × Option (Cond Ref)) × List Ref → Type 0
AreArmParts p = (IsPair (IsPair (IsPair (IsPair AreItems IsName) (IsOptional IsJoin)) (IsOptional IsShortCond)) AreRefs) p

abbrev pub arm_parts_spelling : (((List Item × List ℕ) × Option Join) × Option (Cond Ref)) × List Ref → List ℕ
arm_parts_spelling p = (pair_spelling (pair_spelling (pair_spelling (pair_spelling items_spelling name_spelling) (optional_spelling join_spelling)) (optional_spelling cond_spelling)) refs_spelling) p

pub arm_has_parts : (a : Arm) → IsArm a → AreArmParts (arm_parts a)
arm_has_parts a is = ((((is.items, is.from), is.join), is.cond), is.group)

pub arms_apart : AreApart IsArm arm_spelling
arms_apart = apart_as IsArm arm_spelling AreArmParts arm_parts_spelling arm_parts arm_of (λ a. refl) arm_has_parts (λ a. refl)
    (pairs_apart (IsPair (IsPair (IsPair AreItems IsName) (IsOptional IsJoin)) (IsOptional IsShortCond)) AreRefs (pair_spelling (pair_spelling (pair_spelling items_spelling name_spelling) (optional_spelling join_spelling)) (optional_spelling cond_spelling)) refs_spelling (pairs_apart (IsPair (IsPair AreItems IsName) (IsOptional IsJoin)) (IsOptional IsShortCond) (pair_spelling (pair_spelling items_spelling name_spelling) (optional_spelling join_spelling)) (optional_spelling cond_spelling) (pairs_apart (IsPair AreItems IsName) (IsOptional IsJoin) (pair_spelling items_spelling name_spelling) (optional_spelling join_spelling) (pairs_apart AreItems IsName items_spelling name_spelling (lists_apart IsItem item_spelling items_apart) names_apart) (options_apart IsJoin join_spelling joins_apart)) (options_apart IsShortCond cond_spelling short_conds_apart)) (lists_apart IsRef ref_spelling refs_apart))

abbrev pub target_parts : Target → List ℕ × List Arm
target_parts a = (a.name, a.arms)

abbrev pub target_of : List ℕ × List Arm → Target
target_of p = record { name = p.0; arms = p.1 }

abbrev pub AreTargetParts : List ℕ × List Arm → Type 0
AreTargetParts p = (IsPair IsName AreArms) p

abbrev pub target_parts_spelling : List ℕ × List Arm → List ℕ
target_parts_spelling p = (pair_spelling name_spelling arms_spelling) p

pub target_has_parts : (a : Target) → IsTarget a → AreTargetParts (target_parts a)
target_has_parts a is = is

pub targets_apart : AreApart IsTarget target_spelling
targets_apart = apart_as IsTarget target_spelling AreTargetParts target_parts_spelling target_parts target_of (λ a. refl) target_has_parts (λ a. refl)
    (pairs_apart IsName AreArms name_spelling arms_spelling names_apart (lists_apart IsArm arm_spelling arms_apart))

pub migrates_apart : AreApart IsMigrate migrate_spelling
migrates_apart a b xs ys is_a is_b same =
    let migrate_of : List Target → Migrate = λ targets. record { targets = targets } in
    ap migrate_of (lists_apart IsTarget target_spelling targets_apart a.targets b.targets xs ys is_a is_b same)

pub admits_apart : AreApart IsAdmit admit_spelling
admits_apart admits.Int admits.Int xs ys is_a is_b same = refl
admits_apart (admits.Checked a b) (admits.Checked c d) xs ys is_a is_b same =
    ap (λ (p : ℤ × ℤ). admits.Checked p.0 p.1) (pairs_apart IsInt IsInt int_spelling int_spelling ints_apart ints_apart (a, b) (c, d) xs ys is_a is_b cc)
admits_apart (admits.Varchar a) (admits.Varchar b) xs ys is_a is_b same = ap admits.Varchar (bytes_apart a b xs ys is_a is_b cc)
admits_apart a b xs ys is_a is_b same = absurd cc

abbrev pub column_parts : Column → List ℕ × Admit
column_parts a = (a.name, a.admits)

abbrev pub declared_of : List ℕ × Admit → Column
declared_of p = record { name = p.0; admits = p.1 }

abbrev pub AreColumnParts : List ℕ × Admit → Type 0
AreColumnParts p = (IsPair IsName IsAdmit) p

abbrev pub column_parts_spelling : List ℕ × Admit → List ℕ
column_parts_spelling p = (pair_spelling name_spelling admit_spelling) p

pub column_has_parts : (a : Column) → IsColumn a → AreColumnParts (column_parts a)
column_has_parts a is = is

pub columns_apart : AreApart IsColumn column_spelling
columns_apart = apart_as IsColumn column_spelling AreColumnParts column_parts_spelling column_parts declared_of (λ a. refl) column_has_parts (λ a. refl)
    (pairs_apart IsName IsAdmit name_spelling admit_spelling names_apart admits_apart)

abbrev pub table_parts : Table → (List ℕ × List Column) × List ℕ
table_parts a = ((a.name, a.columns), a.key)

abbrev pub table_of : (List ℕ × List Column) × List ℕ → Table
table_of p = record { name = p.0.0; columns = p.0.1; key = p.1 }

abbrev pub AreTableParts : (List ℕ × List Column) × List ℕ → Type 0
AreTableParts p = (IsPair (IsPair IsName AreColumns) ArePlacesOfColumns) p

abbrev pub table_parts_spelling : (List ℕ × List Column) × List ℕ → List ℕ
table_parts_spelling p = (pair_spelling (pair_spelling name_spelling columns_spelling) places_spelling) p

pub table_has_parts : (a : Table) → IsTable a → AreTableParts (table_parts a)
table_has_parts a is = ((is.name, is.columns), is.key)

pub tables_apart : AreApart IsTable table_spelling
tables_apart = apart_as IsTable table_spelling AreTableParts table_parts_spelling table_parts table_of (λ a. refl) table_has_parts (λ a. refl)
    (pairs_apart (IsPair IsName AreColumns) ArePlacesOfColumns (pair_spelling name_spelling columns_spelling) places_spelling (pairs_apart IsName AreColumns name_spelling columns_spelling names_apart (lists_apart IsColumn column_spelling columns_apart)) (lists_apart IsByte byte_spelling bytes_apart))

abbrev pub index_parts : IndexRule → (List ℕ × List ℕ) × List ℕ
index_parts a = ((a.name, a.table), a.columns)

abbrev pub index_of : (List ℕ × List ℕ) × List ℕ → IndexRule
index_of p = record { name = p.0.0; table = p.0.1; columns = p.1 }

abbrev pub AreIndexParts : (List ℕ × List ℕ) × List ℕ → Type 0
AreIndexParts p = (IsPair (IsPair IsName IsName) ArePlacesOfColumns) p

abbrev pub index_parts_spelling : (List ℕ × List ℕ) × List ℕ → List ℕ
index_parts_spelling p = (pair_spelling (pair_spelling name_spelling name_spelling) places_spelling) p

pub index_has_parts : (a : IndexRule) → IsIndex a → AreIndexParts (index_parts a)
index_has_parts a is = ((is.name, is.table), is.columns)

pub indexes_apart : AreApart IsIndex index_spelling
indexes_apart = apart_as IsIndex index_spelling AreIndexParts index_parts_spelling index_parts index_of (λ a. refl) index_has_parts (λ a. refl)
    (pairs_apart (IsPair IsName IsName) ArePlacesOfColumns (pair_spelling name_spelling name_spelling) places_spelling (pairs_apart IsName IsName name_spelling name_spelling names_apart names_apart) (lists_apart IsByte byte_spelling bytes_apart))

pub schema_changes_apart : AreApart IsSchemaChange schema_spelling
schema_changes_apart (schema.Table a) (schema.Table b) xs ys is_a is_b same = ap schema.Table (tables_apart a b xs ys is_a is_b cc)
schema_changes_apart (schema.Index a) (schema.Index b) xs ys is_a is_b same = ap schema.Index (indexes_apart a b xs ys is_a is_b cc)
schema_changes_apart a b xs ys is_a is_b same = absurd cc

pub places_apart : AreApart IsPlace place_spelling
places_apart (place.Row a) (place.Row b) xs ys is_a is_b same = ap place.Row (words_apart a b xs ys is_a is_b cc)
places_apart (place.Group a) (place.Group b) xs ys is_a is_b same = ap place.Group (rows_apart a b xs ys is_a is_b cc)
places_apart a b xs ys is_a is_b same = absurd cc

pub row_changes_apart : AreApart IsRowChange row_change_spelling
row_changes_apart (Removed a) (Removed b) xs ys is_a is_b same = ap Removed (rows_apart a b xs ys is_a is_b cc)
row_changes_apart (Put a) (Put b) xs ys is_a is_b same = ap Put (rows_apart a b xs ys is_a is_b cc)
row_changes_apart a b xs ys is_a is_b same = absurd cc

abbrev pub write_parts : TableWrite → List ℕ × RowChange
write_parts a = (a.table, a.change)

abbrev pub write_of : List ℕ × RowChange → TableWrite
write_of p = record { table = p.0; change = p.1 }

abbrev pub AreTableWriteParts : List ℕ × RowChange → Type 0
AreTableWriteParts p = (IsPair IsName IsRowChange) p

abbrev pub write_parts_spelling : List ℕ × RowChange → List ℕ
write_parts_spelling p = (pair_spelling name_spelling row_change_spelling) p

pub write_has_parts : (a : TableWrite) → IsWrite a → AreTableWriteParts (write_parts a)
write_has_parts a is = is

pub writes_apart : AreApart IsWrite write_spelling
writes_apart = apart_as IsWrite write_spelling AreTableWriteParts write_parts_spelling write_parts write_of (λ a. refl) write_has_parts (λ a. refl)
    (pairs_apart IsName IsRowChange name_spelling row_change_spelling names_apart row_changes_apart)

-- what a move tells, as it is read
abbrev pub move_of : (ℕ × ℕ) × List Place → Change
move_of p = Move p.0.0 p.0.1 p.1

abbrev pub AreMoveParts : (ℕ × ℕ) × List Place → Type 0
AreMoveParts p = IsPair (IsPair IsWord IsByte) (IsListed IsPlace) p

abbrev pub move_parts_spelling : (ℕ × ℕ) × List Place → List ℕ
move_parts_spelling p = pair_spelling (pair_spelling word_spelling byte_spelling) (list_spelling place_spelling) p

move_parts_apart : AreApart AreMoveParts move_parts_spelling
move_parts_apart = pairs_apart (IsPair IsWord IsByte) (IsListed IsPlace) (pair_spelling word_spelling byte_spelling) (list_spelling place_spelling)
    (pairs_apart IsWord IsByte word_spelling byte_spelling words_apart bytes_apart) (lists_apart IsPlace place_spelling places_apart)

pub changes_apart : AreApart HasRecord record_bytes
changes_apart (Commit a) (Commit b) xs ys is_a is_b same = ap Commit (lists_apart IsWrite write_spelling writes_apart a b xs ys is_a is_b cc)
changes_apart (Schema a) (Schema b) xs ys is_a is_b same = ap Schema (schema_changes_apart a b xs ys is_a is_b cc)
changes_apart (Flip a) (Flip b) xs ys is_a is_b same = ap Flip (migrates_apart a b xs ys is_a is_b cc)
changes_apart (Move m u ps) (Move n v qs) xs ys is_a is_b same =
    ap move_of (move_parts_apart ((m, u), ps) ((n, v), qs) xs ys ((is_a.0, is_a.1), is_a.2) ((is_b.0, is_b.1), is_b.2) cc)
changes_apart a b xs ys is_a is_b same = absurd cc
