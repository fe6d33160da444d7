use Rattle.std.proofs.Common.{◌≡◌, ◌≤◌, List, [], ◌∷◌, ◌++◌, Some, None, length, refl, sym, ap, subst, ◌∙◌, inl, inr, arith}
use Rattle.std.specs.Prelude.{slice_get, slice_set}
use Rattle.std.proofs.lemmas.Bool.{false≢true}
use Rattle.std.proofs.lemmas.Option.{slice_get_cases, slice_get_past, slice_get_read}
use Rattle.std.proofs.lemmas.Result.{on_ok_weaker}
use Rattle.bf_base.specs.Tables.{key_of}
use Rattle.bf_base.specs.declared.table.Table.{Table}
use Rattle.bf_base.specs.declared.value.Value.{Value}
use Rattle.bf_sql.specs.migrations.Targets.{target_table}
use Rattle.bf_image.specs.Migrations.{old_of, target_at}
use Rattle.bf_live.specs.Live.{NamedRows}
use Rattle.bf_store.specs.Puts.{ArePuts}
use Rattle.bf_store.proofs.moving.Gathered.{its_name, its_table, no_target, none_put_there, one_put_more}
use Rattle.bf_store.proofs.images.put_row.Goals as goal

-- there is no such target
pub returns-in_default : goal.returns-in_default
returns-in_default c = λ so_far are armed.
    let m = c.args.migration.now in
    let past : length m.plan.tables ≤ c.args.target = omega (arith, c.in_default.ensures.lookup.3, ap (λ (ts : List Table). length ts) c.as_slice.ensures) in
    absurd (omega (arith, armed, no_target m c.requires c.args.target (slice_get_past m.plan.tables c.args.target past)))

-- the row goes behind those of its table
pub returns-in-Some-get_mut : goal.returns-in-Some-get_mut
returns-in-Some-get_mut c = λ so_far are.
    let m = c.args.migration.now in
    let target = c.args.target in
    let table = c.in-Some.table.now in
    let puts : List NamedRows = c.args.puts.now.items in
    let own : NamedRows = c.in-Some-get_mut.own.now in
    let at : slice_get m.plan.tables target ≡ Some table = ap (λ (ts : List Table). slice_get ts target) (sym c.as_slice.ensures) ∙ slice_get_read c.as_slice.result.now _ target _ refl c.in-Some.ensures.lookup.3.0 c.in-Some.ensures.lookup.1 in
    let here : slice_get puts target ≡ Some own = slice_get_read puts (length puts) target own refl (omega (arith, c.in-Some-get_mut.ensures.variant.0 refl, c.args.puts.now.ok.0)) c.in-Some-get_mut.ensures.value in
    let key : c.in_ok-key.key ≡ key_of (target_table (old_of m) (target_at m target)) c.args.row = c.in_ok-key.ensures ∙ ap (λ (t : Table). key_of t c.args.row) (its_table m c.requires target table at) in
    let more = one_put_more m c.requires so_far puts target c.args.row own are here (its_name m so_far puts target own are here) in
    on_ok_weaker c.push.result
    (λ pushed armed.
    subst (λ (p : NamedRows). ArePuts m (so_far ++ (target_at m target, c.args.row) ∷ []) (slice_set puts target p))
    (sym (pushed ∙ ap (λ (k : List Value). let p : NamedRows = (own.0, own.1 ++ (k, c.args.row) ∷ []) in p) key)) more)
    c.push.ensures.ok

-- its table has no rows, so there is no such target
pub returns-in-None : goal.returns-in-None
returns-in-None c = λ so_far are armed.
    let m = c.args.migration.now in
    let puts : List NamedRows = c.args.puts.now.items in
    let gone : slice_get puts c.args.target ≡ None = elim (slice_get_cases puts c.args.target).1 [
      | inl there ↦ absurd (false≢true (c.in-None.ensures.variant.1 (omega (arith, there.1, c.args.puts.now.ok.0))))
      | inr past ↦ past.1
    ] in
    absurd (omega (arith, armed, none_put_there m so_far puts c.args.target are gone))
