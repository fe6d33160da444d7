-- A machine has come from the beginning of its run, and a pass of its catalog is at hand, behind each further call.
use Rattle.std.proofs.Common.{◌≡◌, ℕ, Option, sym, subst}
use Rattle.std.specs.Prelude.{Result, Ok, Err, OnErr, OnOk}
use Rattle.boxcar.specs.Table.{Where}
use Rattle.bf_base.specs.declared.memory.Memory.{Memory}
use Rattle.bf_tree.specs.Catalogs.{Catalog}
use Rattle.bf_sql.specs.Bound.{catalog_of}
use Rattle.bf_sql.specs.Database.{Database}
use Rattle.bf_sql.specs.migrations.Lazy.{LazyState}
use Rattle.bf_image.specs.Registries.{Registry}
use Rattle.bf_machine.specs.declared.journal.KeepError.{KeepError}
use Rattle.bf_machine.specs.interleaving.Events.{Aborts, Begins}
use Rattle.bf_machine.specs.interleaving.Journals.{Keeps}
use Rattle.bf_machine.specs.interleaving.Machines.{Machine}
use Rattle.bf_machine.specs.interleaving.Serving.{LeavesStore}
use Rattle.bf_serve.specs.Come.{HasCome}
use Rattle.bf_serve.specs.Requests.{IsPresentCatalog}
use Rattle.bf_serve.proofs.threads.Catalogs.{aborted_db, begun_db, present_still, present_with}
use Rattle.bf_serve.proofs.threads.Coming.{comes_by_abort, comes_by_begin, comes_leaving, comes_on, comes_still}

module _ {J : Type 0} (Answers : LazyState → LazyState → J → J → Result (Unit {0}) KeepError → Type 0) (start : Database) (begins : Machine → J → Type 0) (registry : Registry)
    (now : Machine) (k : J) (pass : Option (Where Catalog)) (come : HasCome Answers start begins now k) (present : IsPresentCatalog registry now pass) where
  abbrev Goes : Machine → J → Option (Where Catalog) → Type 0
  Goes next l p = HasCome Answers start begins next l × IsPresentCatalog registry next p

  pub goes_still : (next : Machine) → next ≡ now → Goes next k pass
  goes_still next same = (comes_still Answers start begins now k next come same, subst (λ (m : Machine). IsPresentCatalog registry m pass) (sym same) present)

  pub goes_by_begin : (next : Machine) (s : ℕ) (r : Result (Unit {0}) Memory) → OnOk r (Begins now s next) → OnErr r (next ≡ now) → Goes next k pass
  goes_by_begin next s (Ok done) by err = (comes_by_begin Answers start begins now k next s come by, present_still registry now next pass (begun_db now next s by) present)
  goes_by_begin next s (Err memory) by err = goes_still next err

  pub goes_by_abort : (next : Machine) (s : ℕ) → Aborts now s next → Goes next k pass
  goes_by_abort next s by = (comes_by_abort Answers start begins now k next s come by, present_still registry now next pass (aborted_db now next s by) present)

  pub goes_leaving : (next : Machine) → LeavesStore start now next → IsPresentCatalog registry next pass → Goes next k pass
  goes_leaving next left there = (comes_leaving Answers start begins now k next come left, there)

  pub goes_keeping : (next : Machine) (l : J) (p : Option (Where Catalog)) → Keeps Answers start now k next l → IsPresentCatalog registry next p → Goes next l p
  goes_keeping next l p keeps there = (comes_on Answers start begins now k next l come keeps, there)

  pub goes_moving : (next : Machine) (l : J) → Keeps Answers start now k next l → catalog_of next.db ≡ catalog_of now.db → Goes next l pass
  goes_moving next l keeps same = (comes_on Answers start begins now k next l come keeps, present_with registry now next pass same present)
