-- Granules of the last migration move: the store has them, and nothing else that a machine keeps changes.
use Rattle.std.proofs.Common.{◌≡◌, ℕ, Bool, List, [], Option, Some, None, refl, sym, ap, ap₂, subst, ◌∙◌, option_map}
use Rattle.std.specs.Global.{Vec}
use Rattle.std.specs.Option.{option_map_or}
use Rattle.std.specs.Prelude.{IfSome}
use Rattle.std.proofs.lemmas.Option.{same_Some}
use Rattle.boxcar.specs.Table.{Where}
use Rattle.bf_base.specs.declared.granule.Granule.{Granule}
use Rattle.bf_locks.specs.Locks.{Locks}
use Rattle.bf_tree.specs.declared.history.Entry.{Entry}
use Rattle.bf_tree.specs.declared.reply.Reply.{Reply}
use Rattle.bf_tree.specs.declared.script.Script.{Script}
use Rattle.bf_sql.specs.Database.{Database}
use Rattle.bf_sql.specs.migrations.Lazy.{LazyState, Migration, migrations_so_far, view_of}
use Rattle.bf_image.specs.Migrations.{value_indexes}
use Rattle.bf_image.specs.Registries.{Registry}
use Rattle.bf_image.specs.declared.migration.Migration.{Migration as Kept}
use Rattle.bf_image.specs.declared.value_indexes.UnitIndex.{UnitIndex}
use Rattle.bf_live.specs.Live.{NamedRows}
use Rattle.bf_store.specs.Puts.{AreImages, AreImagesIfAny}
use Rattle.bf_store.specs.States.{AreGranules, AreGranulesIfAny, with_moved}
use Rattle.bf_store.specs.Stores.{AreIndexesOf, IsByPass, IsOf, Store, migration_of}
use Rattle.bf_store.proofs.moving.Ordered.{moves_in_order}
use Rattle.bf_machine.specs.declared.so_far.Began.{Began as BeganGroup}
use Rattle.bf_machine.specs.declared.so_far.SessionSoFar.{SessionSoFar}
use Rattle.bf_machine.specs.interleaving.Events.{Moves}
use Rattle.bf_machine.specs.interleaving.Machines.{Machine}
use Rattle.bf_machine.specs.interleaving.Seen.{IsSound, seen}
use Rattle.bf_machine.proofs.interleaving.Stirring.{moves_keep_all}

-- what is of the migration of a pass is of the last migration, which that pass reads
pub of_the_last : (last : Option Migration) (own : Option (Where Kept)) → IsByPass last own → (value : Kept) → option_map (λ (p : Where Kept). p.value) own ≡ Some value
    → (granules : List Granule) → AreGranules (migration_of value []) granules → AreGranulesIfAny last granules
of_the_last None own by value same granules are = tt
of_the_last (Some last) None by value same granules are = absurd by
of_the_last (Some last) (Some own) by value same granules are =
    let one : own.value ≡ value = same_Some own.value value same in
    let its : AreGranules (migration_of value last.done) granules = record { each = are.each; apart = are.apart } in
    subst (λ (l : Migration). AreGranules l granules) (sym by) (subst (λ (v : Kept). AreGranules (migration_of v last.done) granules) (sym one) its)

pub indexes_of_it : (own : Option (Where Kept)) (value : Kept) → option_map (λ (p : Where Kept). p.value) own ≡ Some value → (indexes : List (Option UnitIndex)) → indexes ≡ value_indexes value
    → AreIndexesOf own indexes
indexes_of_it None value same indexes is = tt
indexes_of_it (Some own) value same indexes is = is ∙ ap value_indexes (sym (same_Some own.value value same))

pub images_of_it : (own : Option (Where Kept)) (value : Kept) → option_map (λ (p : Where Kept). p.value) own ≡ Some value → (granules : List Granule) (images : Option (List NamedRows))
    → IfSome images (AreImages value granules) → AreImagesIfAny own granules images
images_of_it None value same granules images are = tt
images_of_it (Some own) value same granules None are = tt
images_of_it (Some own) value same granules (Some puts) are = subst (λ (v : Kept). AreImages v granules puts) (sym (same_Some own.value value same)) are

pub number_is : (last : Option Migration) (own : Option (Where Kept)) → IsByPass last own → option_map_or (λ (p : Where Kept). p.value.number) own 0 ≡ migrations_so_far last
number_is None None by = refl
number_is None (Some own) by = absurd by
number_is (Some last) None by = absurd by
number_is (Some last) (Some own) by = sym (ap (λ (l : Migration). l.number) by)

module _ {opening : Database} {registry : Registry} {given : Script} (logged : Bool) (script : Script) (retries : ℕ) (store : Store) (locks : Locks) (began : List BeganGroup) (sessions : List SessionSoFar) (history : Vec Entry) (commits : ℕ) (transcripts : Vec (List Reply))
    (sound : IsSound opening registry given logged script retries store locks began sessions history commits transcripts)
    (granules : List Granule) (are : AreGranulesIfAny store.lazy.last granules) (after : Store) (state : after.lazy ≡ with_moved store.lazy granules) (same : after.migration ≡ store.migration) where
  abbrev m : Machine
  m = seen logged script retries store locks began sessions history.items

  abbrev then : Machine
  then = seen logged script retries after locks began sessions history.items

  pub moves : Moves m granules then
  moves = record {
    granules_of_it = are;
    goes =
        let now : LazyState = with_moved store.lazy granules in
        ap₂ (λ (lazy : LazyState) (pass : Option (Where Kept)). record m { db = view_of lazy; lazy = lazy; pass = pass }) state same
        ∙ ap (λ (db : Database). record m { db = db; lazy = now }) (moves_in_order store.lazy granules sound.kept.store_valid.seen_as.lazy_state are).seen_as.view;
  }

  pub moved_sound : IsSound opening registry given logged script retries after locks began sessions history commits transcripts
  moved_sound = record {
    is_given = sound.is_given;
    narrow = sound.narrow;
    one = subst (IsOf registry) (sym same) sound.one;
    kept = moves_keep_all opening m sound.kept granules then moves;
    counted = sound.counted;
    sessions_numbered = sound.sessions_numbered;
    roomy = sound.roomy;
    room = sound.room;
    no_transcripts = sound.no_transcripts;
    transcripts_room = sound.transcripts_room;
  }
