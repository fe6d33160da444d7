-- A payload spells one change, so it makes one state of another: what a state owes to the log that keeps it.
use Rattle.std.specs.Prelude.{◌≡◌, ℕ, List, [], ◌++◌}
use Rattle.std.proofs.Common.{sym, ap, ◌∙◌}
use Rattle.bf_record.specs.Apart.{changes_apart}
use Rattle.bf_record.specs.Changes.{HasRecord, record_bytes}
use Rattle.bf_record.specs.declared.change.Change.{Change}
use Rattle.bf_sql.specs.migrations.Lazy.{LazyState}
use Rattle.bf_recover.specs.Legal.{changed}
use Rattle.bf_recover.specs.Steps.{StepsTo}

pub one_change : (c d : Change) (payload : List ℕ) → HasRecord c → HasRecord d → payload ≡ record_bytes c → payload ≡ record_bytes d → c ≡ d
one_change c d payload has_c has_d spelled_c spelled_d = changes_apart c d [] [] has_c has_d (ap (λ bytes. bytes ++ []) (sym spelled_c ∙ spelled_d))

pub one_step : (lazy : LazyState) (payload : List ℕ) (a b : LazyState) → StepsTo lazy payload a → StepsTo lazy payload b → a ≡ b
one_step lazy payload a b one two =
    one.made ∙ ap (changed lazy) (one_change one.change two.change payload one.has_record two.has_record one.spelled two.spelled) ∙ sym two.made
