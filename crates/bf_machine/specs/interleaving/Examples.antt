-- A worked run of events: two sessions create one table. The younger one dies for the older, begins again once that has
-- ended, and is refused then.
use Rattle.std.specs.Prelude.{◌≡◌, ℕ, false, [], ◌∷◌, None}
use Rattle.bf_tree.specs.declared.history.Entry.{Entry}
use Rattle.bf_tree.specs.declared.history.Outcome.TheVariants.{Committed}
use Rattle.bf_tree.specs.declared.reply.Refusal.TheVariants.{TableExists}
use Rattle.bf_tree.specs.declared.reply.Reply.TheVariants.{Created, Refused}
use Rattle.bf_tree.specs.declared.script.Script.{Script}
use Rattle.bf_tree.specs.declared.script.Session.{Session}
use Rattle.bf_sql.specs.Database.{empty_database}
use Rattle.bf_sql.specs.FootprintExamples.{create, t}
use Rattle.bf_store.specs.Stores.{Store}
use Rattle.bf_machine.specs.interleaving.Events.{Reaches}
use Rattle.bf_machine.specs.interleaving.Kept.{fresh}
use Rattle.bf_machine.specs.interleaving.Machines.{Machine}

abbrev pub creating : Session
creating = record { phase = 1; statements = create ∷ [] }

abbrev pub two_creating : Script
two_creating = record { phases = 1; sessions = creating ∷ creating ∷ [] }

-- a store without tables, before any migration
abbrev pub empty_store : Store
empty_store = record { lazy = record { live = empty_database; last = None; records = 0 }; migration = None }

abbrev pub entry_of_session : ℕ → ℕ → Entry
entry_of_session s n = record { session = s; first = 1; last = 1; outcome = Committed n }

-- what the machine of that run has come to, where a group may begin again once
pub record IsYoungerRefused (m : Machine) : Type 0 where
  pub reached : Reaches empty_database (fresh false empty_store two_creating 1) m
  pub told : m.told ≡ (Created ∷ []) ∷ (Refused (TableExists t) ∷ []) ∷ []
  pub entered : m.history ≡ entry_of_session 1 1 ∷ entry_of_session 2 2 ∷ []
  pub died : m.began ≡ record { session = 1; group = (1, 1); deaths = [] } ∷ record { session = 2; group = (1, 1); deaths = 1 ∷ [] } ∷ []

abbrev pub YoungerIsRefused : Type 0
YoungerIsRefused = (m : Machine) × IsYoungerRefused m
