use Rattle.std.proofs.Common.{◌≡◌, None, Some, Option, ap, sym, refl, ◌∙◌}
use Rattle.bf_base.specs.declared.table.Table.{Table}
use Rattle.bf_sql.specs.Bound.{without_rows}
use Rattle.bf_sql.specs.Database.{table_at}
use Rattle.bf_tree.specs.declared.migration.Join.{Join}
use Rattle.bf_tree.proofs.Settling.{handed_on}
use Rattle.bf_bind.specs.ArmTables.{both_tables, one_table}
use Rattle.bf_bind.proofs.ArmSources.{alone_is, alone_unobjected, from_first, join_first, joined_is, joined_unobjected}
use Rattle.bf_bind.proofs.source.bind_tables.Goals as goal

no_join : (join : Option Join) → ((j : Join) → join ≡ Some j → ⊥) → join ≡ None
no_join None none = refl
no_join (Some j) none = absurd (none j refl)

pub returns-in_err-from : goal.returns-in_err-from
returns-in_err-from c =
    handed_on _ c.in_err-from.field-0.0 _ _ _ _ c.from_residual.ensures.1 c.in_err-from.ensures.table (from_first (without_rows c.args.catalog.now) c.args.arm.now)

pub returns-in_default : goal.returns-in_default
returns-in_default c =
    let none : c.args.arm.now.join ≡ None = no_join c.args.arm.now.join c.in_default.not-Some in (
      alone_unobjected (without_rows c.args.catalog.now) c.args.arm.now c.in_ok-from.ensures.table.0 none,
      c.in_ok-alone.ensures ∙ ap one_table c.in_ok-from.ensures.table.1 ∙ alone_is (without_rows c.args.catalog.now) c.args.arm.now none,
    )

pub returns-in_err-other : goal.returns-in_err-other
returns-in_err-other c =
    handed_on _ c.in_err-other.field-0.0 _ _ _ _ c.from_residual-in_err-other.ensures.1 c.in_err-other.ensures.table
    (join_first (without_rows c.args.catalog.now) c.args.arm.now c.in_ok-from.ensures.table.0 c.in-Some.join c.in-Some.is)

pub returns : goal.returns
returns c = (
  joined_unobjected (without_rows c.args.catalog.now) c.args.arm.now c.in_ok-from.ensures.table.0 c.in-Some.join c.in-Some.is c.in_ok-other.ensures.table.0 (sym c.if-eq.ensures),
  c.in_ok-joined.ensures ∙ ap (λ (t : Table). both_tables t c.in_ok-other.other.now) c.in_ok-from.ensures.table.1 ∙ ap (both_tables (table_at (without_rows c.args.catalog.now) c.args.arm.now.from)) c.in_ok-other.ensures.table.1
      ∙ joined_is (without_rows c.args.catalog.now) c.args.arm.now c.in-Some.join c.in-Some.is,
)
