use Rattle.std.proofs.Common.{ℕ, Option, List, ◌∙◌, ap}
use Rattle.bf_disk.specs.MemoryShelves.{Places, taken_at}
use Rattle.thread_tests.proofs.failing.shelf_with.Goals as goal

pub returns-in-Ok : goal.returns-in-Ok
returns-in-Ok c = λ path.
    ap (λ (table : List ℕ → Option ℕ). table path) c.in-Ok.ensures.taken
    ∙ ap (λ (shelf : Places). taken_at shelf path) c.new-shelf.ensures
