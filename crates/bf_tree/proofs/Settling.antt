-- A step that stops, and the whole that it stops.
use Rattle.std.proofs.Common.{◌≡◌, List, [], ◌∷◌, ◌++◌, Some, Result, Ok, Err, sym, subst}
use Rattle.std.specs.Result.{IsErrAnd}
use Rattle.bf_tree.specs.Settling.{first_of, Settles}
use Rattle.bf_tree.specs.declared.reply.Refusal.{Refusal}
use Rattle.bf_tree.specs.declared.statement_error.StatementError.{StatementError}
use Rattle.bf_tree.specs.declared.statement_error.StatementError.TheVariants.{Refused, Memory}

pub first_ahead : (objections later : List Refusal) (r : Refusal) → first_of objections ≡ Some r → first_of (objections ++ later) ≡ Some r
first_ahead [] later r e = absurd cc
first_ahead (s ∷ rs) later r e = e

-- what stops a step stops the whole, where the step's first objection is the whole's
pub stops : {A B : Type 0} (e : StatementError) (objections all : List Refusal) (meant : A) (whole : B) → Settles (Err e) objections meant → ((r : Refusal) → first_of objections ≡ Some r → first_of all ≡ Some r) → Settles (Err e) all whole
stops (Refused r) objections all meant whole here then = then r here
stops Memory objections all meant whole here then = tt

-- and it is handed on as it is
pub handed_on : {A B : Type 0} (result : Result B StatementError) (e : StatementError) (objections all : List Refusal) (meant : A) (whole : B) → IsErrAnd result (λ given. given ≡ e) → Settles (Err e) objections meant → ((r : Refusal) → first_of objections ≡ Some r → first_of all ≡ Some r) → Settles result all whole
handed_on (Ok found) e objections all meant whole given here then = absurd given
handed_on (Err given) e objections all meant whole same here then = subst (λ (s : StatementError). Settles (Err s) all whole) (sym same) (stops e objections all meant whole here then)
