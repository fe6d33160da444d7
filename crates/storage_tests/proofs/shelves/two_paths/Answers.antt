use Rattle.std.proofs.Common.{ℕ, Option, List, ◌∙◌, ap}
use Rattle.bf_disk.specs.MemoryShelves.{Places, taken_at}
use Rattle.storage_tests.proofs.shelves.two_paths.Goals as goal

pub returns-in-Ok-set : goal.returns-in-Ok-set
returns-in-Ok-set c = λ path.
    ap (λ (table : List ℕ → Option ℕ). table path) (c.in-Ok-set.ensures.taken ∙ c.in-Ok.ensures.taken)
    ∙ ap (λ (shelf : Places). taken_at shelf path) c.new-shelf.ensures
