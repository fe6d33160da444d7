-- The commits of a history are its committed entries.
use Rattle.std.proofs.Common.{◌≡◌, Bool, true, false, List, [], ◌∷◌, length, filter, refl, ◌+◌, arith}
use Rattle.bf_tree.specs.declared.history.Outcome.{Outcome}
use Rattle.bf_tree.specs.declared.history.Outcome.TheVariants.{Committed, RolledBack}
use Rattle.bf_tree.specs.declared.history.Entry.{Entry}
use Rattle.bf_text.specs.Report.{commit_of, commits_of}

abbrev pub is_commit : Outcome → Bool
is_commit (Committed n) = true
is_commit RolledBack = false

one_more : (outcome : Outcome) (e : Entry) (es : List Entry) → e.outcome ≡ outcome → length (filter (λ e. is_commit e.outcome) (e ∷ es)) ≡ commit_of outcome + length (filter (λ e. is_commit e.outcome) es)
one_more (Committed n) e es same = rw same (grind arith)
one_more RolledBack e es same = rw same (grind arith)

pub commits_filtered : (es : List Entry) → length (filter (λ e. is_commit e.outcome) es) ≡ commits_of es
commits_filtered [] = refl
commits_filtered (e ∷ es) = let rest = commits_filtered es in let more = one_more e.outcome e es refl in grind (arith, rest, more)
