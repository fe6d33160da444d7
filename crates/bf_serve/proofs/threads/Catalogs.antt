-- The catalog of a machine stays but where a change of the schema is committed.
use Rattle.std.proofs.Common.{◌≡◌, ℕ, Option, Some, None, refl, sym, ap, ◌∙◌, inl, inr, arith}
use Rattle.boxcar.specs.Table.{Where}
use Rattle.bf_tree.specs.Catalogs.{Catalog}
use Rattle.bf_tree.specs.declared.bound.Bound.{Bound}
use Rattle.bf_locks.specs.declared.answer.LockAnswer.{LockAnswer}
use Rattle.bf_locks.specs.declared.answer.LockAnswer.TheVariants.{Die, Granted, Wait}
use Rattle.bf_locks.specs.declared.mode.Mode.{Mode}
use Rattle.bf_locks.specs.declared.name.LockName.{LockName}
use Rattle.bf_sql.specs.Bound.{catalog_of}
use Rattle.bf_sql.specs.Database.{Database}
use Rattle.bf_live.proofs.statements.Seeing.{same_catalog}
use Rattle.bf_image.specs.Registries.{Registry}
use Rattle.bf_machine.specs.declared.stand.Ending.{Ending}
use Rattle.bf_machine.specs.declared.stand.Ending.TheVariants.{Committed, Ended}
use Rattle.bf_machine.specs.interleaving.Calls.{HasReplied, IsEnding}
use Rattle.bf_machine.specs.interleaving.Events.{Aborts, Asks, Begins, Commits, EndsByLog, asked}
use Rattle.bf_machine.specs.interleaving.Groups.{Pending, Rows, NewTable, NewIndex, Flip, Nothing, left_by}
use Rattle.bf_machine.specs.interleaving.Machines.{Machine, Open}
use Rattle.bf_serve.specs.Requests.{IsPresentCatalog}

-- a pass of the present catalog is one where the database stays, and where its catalog does
pub present_with : (registry : Registry) (m next : Machine) (pass : Option (Where Catalog)) → catalog_of next.db ≡ catalog_of m.db → IsPresentCatalog registry m pass → IsPresentCatalog registry next pass
present_with registry m next None same is = tt
present_with registry m next (Some p) same is = (is.0, is.1 ∙ sym same)

pub present_still : (registry : Registry) (m next : Machine) (pass : Option (Where Catalog)) → next.db ≡ m.db → IsPresentCatalog registry m pass → IsPresentCatalog registry next pass
present_still registry m next pass same is = present_with registry m next pass (ap catalog_of same) is

-- the database stays where a group begins, is asked for a lock, has a reply, is rolled back or ends by the log
pub begun_db : (m next : Machine) (s : ℕ) → Begins m s next → next.db ≡ m.db
begun_db m next s by = elim by.goes as (λ _. next.db ≡ m.db) [ inl first ↦ ap (λ (k : Machine). k.db) first.1 | inr again ↦ ap (λ (k : Machine). k.db) again.3 ]

asked_as : (m : Machine) (s : ℕ) (answer : LockAnswer) (o : Open) (name : LockName) (mode : Mode) → (asked m s o name mode answer).db ≡ m.db
asked_as m s Granted o name mode = refl
asked_as m s (Wait others) o name mode = refl
asked_as m s (Die older) o name mode = refl

pub asked_db : (start : Database) (m next : Machine) (s : ℕ) (name : LockName) (mode : Mode) (answer : LockAnswer) → Asks m s start name mode answer next → next.db ≡ m.db
asked_db start m next s name mode answer by = ap (λ (k : Machine). k.db) by.goes ∙ asked_as m s answer by.o name mode

pub replied_db : (m next : Machine) (s : ℕ) (bound : Bound) → HasReplied m s bound next → next.db ≡ m.db
replied_db m next s bound by = elim by as (λ _. next.db ≡ m.db) [ inl executed ↦ ap (λ (k : Machine). k.db) executed.0.goes | inr refused ↦ ap (λ (k : Machine). k.db) refused.goes ]

pub aborted_db : (m next : Machine) (s : ℕ) → Aborts m s next → next.db ≡ m.db
aborted_db m next s by = ap (λ (k : Machine). k.db) by.goes

pub ended_db : (m next : Machine) (s : ℕ) → EndsByLog m s next → next.db ≡ m.db
ended_db m next s by = ap (λ (k : Machine). k.db) by.goes

-- behind a commit that leaves the number of schema changes the catalog stays
left_catalog : (db : Database) (pending : Pending) → (left_by db pending).number ≡ db.number → catalog_of (left_by db pending) ≡ catalog_of db
left_catalog db (Rows writes) same = same_catalog db writes
left_catalog db (NewTable table) same = absurd (omega (arith, same))
left_catalog db (NewIndex index) same = absurd (omega (arith, same))
left_catalog db (Flip plan) same = absurd (omega (arith, same))
left_catalog db Nothing same = refl

committed_catalog : (m next : Machine) (s : ℕ) → Commits m s next → next.db.number ≡ m.db.number → catalog_of next.db ≡ catalog_of m.db
committed_catalog m next s by same =
    let is : next.db ≡ left_by m.db by.can.o.pending = ap (λ (k : Machine). k.db) by.goes in
    ap catalog_of is ∙ left_catalog m.db by.can.o.pending (sym (ap (λ (db : Database). db.number) is) ∙ same)

pub ending_catalog : (m next : Machine) (s : ℕ) (ending : Ending) → IsEnding m s next ending → next.db.number ≡ m.db.number → catalog_of next.db ≡ catalog_of m.db
ending_catalog m next s (Committed n) is same = committed_catalog m next s is.0 same
ending_catalog m next s (Ended cause) is same = ap catalog_of (ended_db m next s is.0)
