-- WHAT `demo` DOES with the file under a path: it makes a log there, and runs the demonstration over it.
use Rattle.std.specs.Prelude.{ℕ, List, Option, true, false}
use Rattle.bf_disk.specs.Shelves.{ByPath}
use Rattle.bf_run.specs.Creating.{Makes, Shelving}
use Rattle.bf_words.specs.Words.{Options, usual_retries, usual_workers}

-- the options of its run: the usual ones, and all is moved at the end
abbrev pub demo_options : Options
demo_options = record { workers = usual_workers; retries = usual_retries; finish = true; audit = false }

-- AFTER MAKING: a log was made in an empty file or in none, and this holds of the shelf from then on
abbrev pub AfterMaking : {V : Type 0} → Shelving V → List ℕ → (Shelving V → Type 0) → Type 0
AfterMaking {V = V} shelf path Holds =
    (made : Option (ByPath V)) × (faults : ℕ) × Makes (record shelf { held_after = made; faults_after = faults }) path
    × Holds (record shelf { held = made; faults = faults })
