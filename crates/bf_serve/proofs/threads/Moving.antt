-- A move of granules in a section: it is kept and made, or nothing is, or the journal refuses it by a cause, which may end a group.
use Rattle.std.proofs.Common.{◌≡◌, ◌⊎◌, ℕ, List, sym, ap, subst, ◌∙◌, inl, inr}
use Rattle.std.specs.Prelude.{Bool, Result, Ok, Err}
use Rattle.bf_base.specs.declared.granule.Granule.{Granule}
use Rattle.bf_sql.specs.Bound.{catalog_of}
use Rattle.bf_sql.specs.Database.{Database}
use Rattle.bf_sql.specs.migrations.Lazy.{LazyState}
use Rattle.bf_tree.specs.declared.reply.Cause.{Cause}
use Rattle.bf_machine.specs.declared.journal.KeepError.{KeepError}
use Rattle.bf_machine.specs.declared.journal.KeepError.TheVariants.{Ended, Memory as NoMemory}
use Rattle.bf_machine.specs.interleaving.Events.{EndsByLog, Moves, moves}
use Rattle.bf_machine.specs.interleaving.Journals.{IsBeside, IsChangeOf, IsMoveIn, IsRefused, IsUnkeptMove, Keeps, KeepsOrIsRefused, nothing_yet, one_beside, unkept_move}
use Rattle.bf_machine.specs.interleaving.Machines.{Machine}
use Rattle.bf_machine.proofs.keeping.Beside.{beside_weaker}
use Rattle.bf_machine.proofs.served.Keeping.{keeps_end, keeps_still}
use Rattle.bf_serve.specs.Finishing.{HasStopped}
use Rattle.bf_serve.proofs.threads.Catalogs.{ended_db}

-- how a session that needs the granules ends, if one does
abbrev pub MayHaveEnded : Machine → Cause → Machine → Type 0
MayHaveEnded now cause next = (next ≡ now) ⊎ ((s : ℕ) × (by : EndsByLog now s next) × (by.cause ≡ cause))

module _ {J : Type 0} (Answers : LazyState → LazyState → J → J → Result (Unit {0}) KeepError → Type 0) (start : Database) where
  of_machine : (m next : Machine) (j k : J) → IsBeside Answers (IsMoveIn m.lazy) m.lazy next.lazy j k → IsBeside Answers (IsChangeOf m) m.lazy next.lazy j k
  of_machine m next j k beside = beside_weaker Answers (IsMoveIn m.lazy) m.lazy next.lazy j k (IsChangeOf m) (λ change is. (0, inr is)) beside

  pub moved : (m next : Machine) (j k : J) (granules : List Granule) → Moves m granules next → IsBeside Answers (IsMoveIn m.lazy) m.lazy next.lazy j k → Keeps Answers start m j next k
  moved m next j k granules by beside = one_beside nothing_yet (moves granules by) (of_machine m next j k beside)

  pub not_moved : (m next : Machine) (j k : J) → next ≡ m → IsBeside Answers (IsMoveIn m.lazy) m.lazy next.lazy j k → Keeps Answers start m j next k
  not_moved m next j k same beside = keeps_still Answers start m j m j next k nothing_yet same (of_machine m next j k beside)

  pub unkept : (m now next : Machine) (j k : J) (cause : Cause) → now ≡ m → IsRefused Answers (IsUnkeptMove m.lazy cause) m.lazy j k cause → MayHaveEnded now cause next → Keeps Answers start m j next k
  unkept m now next j k cause stays not ended =
      subst (λ (n : Machine). Keeps Answers start n j next k) stays
      (elim ended as (λ _. Keeps Answers start now j next k) [
        | inl same ↦ subst (λ (n : Machine). Keeps Answers start now j n k) (sym same) (unkept_move nothing_yet cause here)
        | inr by ↦ keeps_end Answers start now j now j k by.0 next cause nothing_yet by.1 by.2 (here.0, inr here.1, here.2)
      ])
    where
      here : IsRefused Answers (IsUnkeptMove now.lazy cause) now.lazy j k cause
      here = subst (λ (n : Machine). IsRefused Answers (IsUnkeptMove n.lazy cause) n.lazy j k cause) (sym stays) not

  -- records of moves, of which the journal may not have kept the last
  pub kept : (ends : Bool) (m next : Machine) (j l : J) (r : Result (Unit {0}) KeepError) → KeepsOrIsRefused Answers ends start m j next l r → Keeps Answers start m j next l
  kept ends m next j l (Ok done) keeps = keeps
  kept ends m next j l (Err (Ended cause)) is = unkept_move is.2.1 cause is.2.2
  kept ends m next j l (Err NoMemory) keeps = keeps

  pub stopped : (ends : Bool) (m next : Machine) (j l : J) (cause : Cause) → KeepsOrIsRefused Answers ends start m j next l (Err (Ended cause)) → HasStopped Answers next l
  stopped ends m next j l cause is = (cause, is.2.0, is.2.2)

-- the catalog stays
pub moved_catalog : (m next : Machine) (granules : List Granule) → Moves m granules next → catalog_of next.db ≡ catalog_of m.db
moved_catalog m next granules by = ap (λ (k : Machine). catalog_of k.db) by.goes

pub refused_catalog : (m now next : Machine) (cause : Cause) → now ≡ m → MayHaveEnded now cause next → catalog_of next.db ≡ catalog_of m.db
refused_catalog m now next cause stays ended =
    elim ended as (λ _. catalog_of next.db ≡ catalog_of now.db) [
      | inl same ↦ ap (λ (k : Machine). catalog_of k.db) same
      | inr by ↦ ap catalog_of (ended_db now next by.0 by.1)
    ]
    ∙ ap (λ (k : Machine). catalog_of k.db) stays
