-- What is asked of a run, and what holds of the path that words ask for.
use Rattle.std.specs.Prelude.{ℕ, List, Option, None, Some, ⊤}
use Rattle.bf_words.specs.Words.{Asked, Options, creating, demonstrating, running, trying}
use Rattle.bf_run.specs.declared.keeping.RunOptions.{RunOptions}

-- the options that words ask for, as a run is given them
abbrev pub asked_options : RunOptions → Options
asked_options given = record { workers = given.workers; retries = given.retries; finish = given.finish; audit = given.audit }

-- what holds of the path of a log that is to be made, where one is
abbrev pub IfCreating : Option Asked → (List ℕ → Type 0) → Type 0
IfCreating (Some (creating path)) P = P path
IfCreating (Some (demonstrating count path)) P = P path
IfCreating other P = ⊤

-- what holds of the path of a log that a script is to be run over, where one is
abbrev pub IfRunning : Option Asked → (List ℕ → Type 0) → Type 0
IfRunning (Some (running path options)) P = P path
IfRunning other P = ⊤

-- what holds where no path is asked for
abbrev pub IfNoPath : Option Asked → Type 0 → Type 0
IfNoPath (Some trying) P = P
IfNoPath None P = P
IfNoPath other P = ⊤
