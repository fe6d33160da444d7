-- The statement is prepared in the catalog of the machine's database.
use Rattle.std.proofs.Common.{◌≡◌, ◌-◌, ◌<◌, Bool, List, Some, length, sym, ap, subst, ◌∙◌}
use Rattle.std.specs.List.{slice_index_or}
use Rattle.bf_tree.specs.Limits.{KeepsLimits}
use Rattle.bf_tree.specs.declared.catalog.Catalog.{Catalog}
use Rattle.bf_tree.specs.declared.script.Script.{Script}
use Rattle.bf_tree.specs.declared.script.Session.{Session}
use Rattle.bf_tree.specs.declared.statement.Statement.{Statement}
use Rattle.bf_sql.specs.Bound.{catalog_of, without_rows}
use Rattle.bf_sql.specs.Database.{IsDatabase}
use Rattle.bf_sql.specs.Groups.{session_at}
use Rattle.bf_sql.specs.migrations.Plans.{prepared_of}
use Rattle.bf_machine.specs.interleaving.Machines.{Machine}
use Rattle.bf_machine.specs.interleaving.Serving.{is_in_block}
use Rattle.bf_live.proofs.statements.Bare.{bare_is_database}
use Rattle.bf_machine.proofs.keeping.Numbers.{prepared_number}
use Rattle.bf_machine.proofs.served.Binding.{in_ok, next_bound, next_limits, next_migrates, next_prepared, next_within, prepared_well, session_read}
use Rattle.bf_machine.proofs.serving.prepare_next.Goals as goal

pub bounds-as_slice-place : goal.bounds-as_slice-place
bounds-as_slice-place g c =
    let m : Machine = c.args.machine.now in
    let s = c.args.session in
    let sessions : c.as_slice-sessions.result.now ≡ m.script.sessions = c.as_slice-sessions.ensures ∙ ap (λ (script : Script). script.sessions) c.script.ensures.script in
    let read : slice_index_or c.as_slice-sessions.result.now (s - 1) c.index-sessions-session.result ≡ session_at m.script s =
    ap (λ (xs : List Session). slice_index_or xs (s - 1) c.index-sessions-session.result) sessions ∙ session_read m.script s c.requires.place c.index-sessions-session.result in
    let text : c.as_slice.result.now ≡ (session_at m.script s).statements = c.as_slice.ensures ∙ ap (λ (x : Session). x.statements) read in
    let within = next_within m c.requires.kept s c.args.place c.requires.place c.requires.stands in
    subst (λ (ss : List Statement). c.args.place - 1 < length ss) (sym text) within.1

pub prepare-requires-clause-database : goal.prepare-requires-clause-database
prepare-requires-clause-database g c =
    subst (λ (catalog : Catalog). IsDatabase (without_rows catalog)) (sym c.catalog.ensures.catalog) (bare_is_database c.args.machine.now.db c.catalog.ensures.database)

pub prepare-requires-clause-limits : goal.prepare-requires-clause-limits
prepare-requires-clause-limits g c =
    let m : Machine = c.args.machine.now in
    let s = c.args.session in
    let sessions : c.as_slice-sessions.result.now ≡ m.script.sessions = c.as_slice-sessions.ensures ∙ ap (λ (script : Script). script.sessions) c.script.ensures.script in
    let read : slice_index_or c.as_slice-sessions.result.now (s - 1) c.index-sessions-session.result ≡ session_at m.script s =
    ap (λ (xs : List Session). slice_index_or xs (s - 1) c.index-sessions-session.result) sessions ∙ session_read m.script s c.requires.place c.index-sessions-session.result in
    let text : c.as_slice.result.now ≡ (session_at m.script s).statements = c.as_slice.ensures ∙ ap (λ (x : Session). x.statements) read in
    let here : slice_index_or (session_at m.script s).statements (c.args.place - 1) c.index-as_slice-place.result ≡ c.index-as_slice-place.result =
    sym (c.index-as_slice-place.is ∙ ap (λ (ss : List Statement). slice_index_or ss (c.args.place - 1) c.index-as_slice-place.result) text) in
    record {
      bound = subst (λ (catalog : Catalog). KeepsLimits catalog c.index-as_slice-place.result) (sym c.catalog.ensures.catalog)
          (next_limits m c.requires.kept s c.args.place c.requires.place c.requires.stands c.index-as_slice-place.result here);
      planned = next_migrates m c.requires.kept s c.args.place c.requires.place c.requires.stands c.index-as_slice-place.result here;
    }

pub returns-clause-next : goal.returns-clause-next
returns-clause-next g c =
    let m : Machine = c.args.machine.now in
    let s = c.args.session in
    let st = c.index-as_slice-place.result in
    let sessions : c.as_slice-sessions.result.now ≡ m.script.sessions = c.as_slice-sessions.ensures ∙ ap (λ (script : Script). script.sessions) c.script.ensures.script in
    let read : slice_index_or c.as_slice-sessions.result.now (s - 1) c.index-sessions-session.result ≡ session_at m.script s =
    ap (λ (xs : List Session). slice_index_or xs (s - 1) c.index-sessions-session.result) sessions ∙ session_read m.script s c.requires.place c.index-sessions-session.result in
    let text : c.as_slice.result.now ≡ (session_at m.script s).statements = c.as_slice.ensures ∙ ap (λ (x : Session). x.statements) read in
    let here : slice_index_or (session_at m.script s).statements (c.args.place - 1) st ≡ st =
    sym (c.index-as_slice-place.is ∙ ap (λ (ss : List Statement). slice_index_or ss (c.args.place - 1) st) text) in
    in_ok c.prepare.result
    (λ bound so.
    let there : prepared_of (without_rows (catalog_of m.db)) (is_in_block m s) st ≡ Some bound =
    subst (λ (catalog : Catalog). prepared_of (without_rows catalog) (is_in_block m s) st ≡ Some bound) c.catalog.ensures.catalog
    (subst (λ (b : Bool). prepared_of (without_rows c.catalog.result.now) b st ≡ Some bound) c.is_in_block.ensures so) in
    next_bound m c.requires.kept s c.args.place c.requires.place c.requires.stands st here bound there)
    c.prepare.ensures

pub returns-clause-prepared : goal.returns-clause-prepared
returns-clause-prepared g c =
    let m : Machine = c.args.machine.now in
    let s = c.args.session in
    let st = c.index-as_slice-place.result in
    let sessions : c.as_slice-sessions.result.now ≡ m.script.sessions = c.as_slice-sessions.ensures ∙ ap (λ (script : Script). script.sessions) c.script.ensures.script in
    let read : slice_index_or c.as_slice-sessions.result.now (s - 1) c.index-sessions-session.result ≡ session_at m.script s =
    ap (λ (xs : List Session). slice_index_or xs (s - 1) c.index-sessions-session.result) sessions ∙ session_read m.script s c.requires.place c.index-sessions-session.result in
    let text : c.as_slice.result.now ≡ (session_at m.script s).statements = c.as_slice.ensures ∙ ap (λ (x : Session). x.statements) read in
    let here : slice_index_or (session_at m.script s).statements (c.args.place - 1) st ≡ st =
    sym (c.index-as_slice-place.is ∙ ap (λ (ss : List Statement). slice_index_or ss (c.args.place - 1) st) text) in
    in_ok c.prepare.result
    (λ bound so.
    let there : prepared_of (without_rows (catalog_of m.db)) (is_in_block m s) st ≡ Some bound =
    subst (λ (catalog : Catalog). prepared_of (without_rows catalog) (is_in_block m s) st ≡ Some bound) c.catalog.ensures.catalog
    (subst (λ (b : Bool). prepared_of (without_rows c.catalog.result.now) b st ≡ Some bound) c.is_in_block.ensures so) in
    next_prepared m c.requires.kept s c.args.place c.requires.place c.requires.stands st here bound there)
    c.prepare.ensures

pub returns-clause-number : goal.returns-clause-number
returns-clause-number g c =
    let m : Machine = c.args.machine.now in
    let catalog : c.catalog.result.now ≡ catalog_of m.db = c.catalog.ensures.catalog in
    in_ok c.prepare.result
    (λ bound so. prepared_number (without_rows c.catalog.result.now) c.is_in_block.result c.index-as_slice-place.result bound so
    ∙ ap (λ (catalog : Catalog). catalog.number) catalog) c.prepare.ensures

pub returns-clause-well_bound : goal.returns-clause-well_bound
returns-clause-well_bound g c =
    let database : IsDatabase (without_rows c.catalog.result.now) = subst (λ (catalog : Catalog). IsDatabase (without_rows catalog)) (sym c.catalog.ensures.catalog) (bare_is_database c.args.machine.now.db c.catalog.ensures.database) in
    in_ok c.prepare.result (λ bound so. prepared_well (without_rows c.catalog.result.now) database c.is_in_block.result bound c.index-as_slice-place.result so) c.prepare.ensures
