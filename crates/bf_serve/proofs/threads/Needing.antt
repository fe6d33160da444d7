-- What a statement needs that was made ready, by the pass of the machine's last migration.
use Rattle.std.proofs.Common.{◌≡◌, ◌≢◌, List, [], Option, Some, None, sym, ap, subst, ◌∙◌, inl, inr}
use Rattle.std.specs.Prelude.{IfSome, IsTrue}
use Rattle.std.specs.Global.{Vec}
use Rattle.std.specs.Option.{option_map}
use Rattle.boxcar.specs.Table.{Where}
use Rattle.bf_base.specs.declared.granule.Granule.{Granule}
use Rattle.bf_base.specs.Lists.{rises}
use Rattle.bf_tree.specs.Catalogs.{Catalog}
use Rattle.bf_sql.specs.Bound.{without_rows}
use Rattle.bf_sql.specs.Database.{Database}
use Rattle.bf_image.specs.Registries.{Registry}
use Rattle.bf_sql.specs.migrations.Lazy.{Migration}
use Rattle.bf_image.specs.declared.migration.Migration.{Migration as Kept}
use Rattle.bf_store.specs.States.{AreGranules, AreGranulesIfAny, granule_cmp, to_move}
use Rattle.bf_store.specs.Stores.{IsByPass, migration_of}
use Rattle.bf_transpose.specs.Covers.{IsCoverOf, needed_in}
use Rattle.bf_transpose.specs.declared.cover.Cover.{Cover}
use Rattle.bf_machine.specs.declared.stand.Step.TheVariants.{Need}
use Rattle.bf_machine.specs.interleaving.Calls.{IsEnough, IsStep}
use Rattle.bf_machine.specs.interleaving.Kept.{IsKept}
use Rattle.bf_machine.specs.interleaving.Machines.{Machine}
use Rattle.bf_machine.proofs.keeping.Numbers.{prepared_number}
use Rattle.bf_machine.proofs.served.Enough.{exact_is_enough, nothing_is_enough}
use Rattle.bf_machine.proofs.served.Needs.{may_move, need_told}
use Rattle.bf_machine.proofs.served.Records.{left_rises}
use Rattle.bf_serve.specs.Requests.{AreNeededOf, IsCoverAt, IsReady, IsRequest, Request}

-- granules of the last migration are those of its pass, whatever of it has moved
of_pass : (last : Option Migration) (pass : Option (Where Kept)) (gs : List Granule) → IsByPass last pass → AreGranulesIfAny last gs → IfSome pass (λ p. AreGranules (migration_of p.value []) gs)
of_pass None None gs by are = tt
of_pass (Some last) None gs by are = tt
of_pass None (Some p) gs by are = absurd by
of_pass (Some last) (Some p) gs by are =
    let own : AreGranules (migration_of p.value last.done) gs = subst (λ (l : Migration). AreGranules l gs) by are in
    record { each = own.each; apart = own.apart }

both : {P Q : Kept → Type 0} (pass other : Option (Where Kept)) → option_map (λ (p : Where Kept). p.value) pass ≡ option_map (λ (p : Where Kept). p.value) other
    → IfSome other (λ p. P p.value) → ((v : Kept) → P v → Q v) → IfSome pass (λ p. Q p.value)
both None other same is so = tt
both (Some p) None same is so = absurd cc
both {P} {Q} (Some p) (Some q) same is so = so p.value (subst P (sym (let e : p.value ≡ q.value = cc in e)) is)

-- the cover that stands with a request is enough by the machine's pass
abbrev pub values : Option (Where Kept) → Option Kept
values = option_map (λ (p : Where Kept). p.value)

covered_at : (r : Request) (cover : Cover) → r.cover ≡ Some cover → IfSome r.cover (λ c. IsCoverOf (values r.at.migration) r.bound c) → IsCoverOf (values r.at.migration) r.bound cover
covered_at r cover is covered = subst (λ (o : Option Cover). IfSome o (λ c. IsCoverOf (values r.at.migration) r.bound c)) is covered

module _ {start : Database} (registry : Registry) (m : Machine) (kept : IsKept start m) (r : Request) (is : IsRequest registry m.script r) (ready : IsReady m r) (cover : Cover) (at : IsCoverAt m r cover)
    (pass : Option (Where Kept)) (own : pass ≡ m.pass) where
  same : values r.at.migration ≡ values pass
  same = ready.migration ∙ sym (ap values own)

  pub enough : IsEnough m (values pass) r.bound cover
  enough = elim at as (λ _. IsEnough m (values pass) r.bound cover) [
    | inl so ↦ exact_is_enough m.lazy.last (values pass) r.bound cover (subst (λ (o : Option Kept). IsCoverOf o r.bound cover) same (covered_at r cover so is.covered))
    | inr none ↦ nothing_is_enough m.lazy.last (values pass) r.bound cover none.1 (ap (λ (o : Option Kept). to_move m.lazy.last (needed_in o r.bound.action)) (sym same) ∙ none.0)
  ]

  number : r.bound.catalog ≡ m.db.number
  number =
      prepared_number (without_rows r.at.catalog.value) r.at.in_block is.prepared.statement r.bound is.prepared.prepared_so
      ∙ ap (λ (c : Catalog). c.number) ready.stands.catalog

  some : (granules : Vec Granule) → IsStep m pass r.bound cover.granules.items (Need granules) → granules.items ≢ []
  some granules step = elim step as (λ _. granules.items ≢ []) [
    | inl present ↦ λ none. present.1.1 (sym present.1.0 ∙ none)
    | inr stale ↦ absurd (let e = stale.1 in cc)
  ]

  pub needed : (granules : Vec Granule) → IsStep m pass r.bound cover.granules.items (Need granules) → AreNeededOf r granules.items
  needed granules step =
      let told = need_told m kept r.bound cover pass own enough number granules step in
      let are = of_pass m.lazy.last m.pass granules.items kept.store_valid.by_pass (may_move m kept r.bound cover pass own enough number granules.items told) in
      let rise : IsTrue (rises granule_cmp granules.items) = subst (λ (gs : List Granule). IsTrue (rises granule_cmp gs)) (sym told) (left_rises m.lazy.last r.bound.action) in (
        both {P = λ v. AreGranules (migration_of v []) granules.items} {Q = λ v. AreGranules (migration_of v []) granules.items × IsTrue (rises granule_cmp granules.items)}
            r.at.migration m.pass ready.migration are (λ v so. (so, rise)),
        some granules step,
      )
