-- What a call gives that stops at the first of some objections.
use Rattle.std.specs.Prelude.{◌≡◌, List, [], ◌∷◌, Option, Some, None, Result, Ok, Err}
use Rattle.bf_tree.specs.declared.reply.Refusal.{Refusal}
use Rattle.bf_tree.specs.declared.statement_error.StatementError.{StatementError}
use Rattle.bf_tree.specs.declared.statement_error.StatementError.TheVariants as error

-- the objection that is told
abbrev pub first_of : List Refusal → Option Refusal
first_of [] = None
first_of (r ∷ rs) = Some r

-- what is meant where nothing is objected, or the first objection; or memory ran out
abbrev pub Settles : {A : Type 0} → Result A StatementError → List Refusal → A → Type 0
Settles (Ok found) objections meant = (objections ≡ []) × (found ≡ meant)
Settles (Err (error.Refused r)) objections meant = first_of objections ≡ Some r
Settles (Err error.Memory) objections meant = Unit {0}
