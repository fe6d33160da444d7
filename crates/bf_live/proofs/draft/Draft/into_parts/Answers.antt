use Rattle.std.proofs.Common.{map, sym, ap, ◌∙◌}
use Rattle.bf_live.specs.Drafts.{Drafted}
use Rattle.bf_live.specs.Live.{rows_in}
use Rattle.bf_live.proofs.Paired.{named, rows_paired, table_of, tables_paired}
use Rattle.bf_live.proofs.draft.Draft.into_parts.Goals as goal

pub returns-clause-tables : goal.returns-clause-tables
returns-clause-tables c =
    sym (tables_paired c.self.inside.catalog.tables (rows_in c.self.inside.heaps.entries) c.self.invariant) ∙ ap (λ (d : Drafted). map table_of d.tables) c.self.view_is

pub returns-clause-rows : goal.returns-clause-rows
returns-clause-rows c =
    sym (rows_paired c.self.inside.catalog.tables (rows_in c.self.inside.heaps.entries) c.self.invariant) ∙ ap (λ (d : Drafted). map named d.tables) c.self.view_is
