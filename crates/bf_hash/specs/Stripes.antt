-- What a stripe has of each key, how a claim is answered, and what stands after each call.
use Rattle.std.specs.Prelude.{ℕ, ◌≡◌, ◌<◌, ◌≤◌, List, map, Option, Some, if◌then◌else◌}
use Rattle.std.specs.FinMap as map
use Rattle.bf_base.specs.declared.value.Value.{Value}
use Rattle.bf_base.specs.Values.{key_cmp}
use Rattle.bf_hash.specs.declared.state.Mark.{Mark}
use Rattle.bf_hash.specs.declared.state.Mark.TheVariants.{Held, Done}
use Rattle.bf_hash.specs.declared.state.HashState.{HashState}
use Rattle.bf_hash.specs.declared.state.HashState.TheVariants.{Free, Held as IsHeld, Done as IsDone}
use Rattle.bf_hash.specs.States.{state_by, is_held_under}
use Rattle.bf_hash.specs.declared.state.HashClaim.{HashClaim}
use Rattle.bf_hash.specs.declared.state.HashAnswer.{HashAnswer}
use Rattle.bf_hash.specs.declared.state.HashAnswer.TheVariants.{Claimed, Busy, Done as Finished}

-- the values of a key
abbrev pub Cells : Type 0
Cells = List Value

-- a stripe: the finite map from the keys that aren't free
abbrev pub Marks : Type 0
Marks = map.FinMap key_cmp Mark

abbrev pub mark_of : Marks → Cells → Option Mark
mark_of stripe key = map.get stripe key

-- the state of a key
abbrev pub state_of : Marks → Cells → HashState
state_of stripe key = state_by (mark_of stripe key)

-- the stripe in which these keys are done, and no others
abbrev pub all_done : List Cells → Marks
all_done keys = map.from_entries (map (λ key. (key, Done)) keys)

-- no two keys are held under one ticket, and tickets begin with 1
pub record IsConsistent (stripe : Marks) : Type 0 where
  pub differ : (key other : Cells) (ticket : ℕ) → mark_of stripe key ≡ Some (Held ticket) → mark_of stripe other ≡ Some (Held ticket) → key ≡ other
  pub from_one : (key : Cells) (ticket : ℕ) → mark_of stripe key ≡ Some (Held ticket) → 1 ≤ ticket

-- a ticket that no held key has, where each before it is some held key's
pub record IsLeastTicket (stripe : Marks) (ticket : ℕ) : Type 0 where
  pub from_one : 1 ≤ ticket
  pub unused : (key : Cells) → ¬ (mark_of stripe key ≡ Some (Held ticket))
  pub least : (other : ℕ) → 1 ≤ other → other < ticket → (key : Cells) × (mark_of stripe key ≡ Some (Held other))

-- a claim that is granted: the key was free, and the ticket is the least
pub record IsGranted (stripe : Marks) (key : Cells) (claim : HashClaim) : Type 0 where
  pub free : state_of stripe key ≡ Free
  pub same_key : claim.key ≡ key
  pub ticket : IsLeastTicket stripe claim.ticket

-- the answer to a claim
abbrev pub IsAnswer : Marks → Cells → HashAnswer → Type 0
IsAnswer stripe key (Claimed claim) = IsGranted stripe key claim
IsAnswer stripe key (Busy ticket) = state_of stripe key ≡ IsHeld ticket
IsAnswer stripe key Finished = state_of stripe key ≡ IsDone

-- the stripe after an answer: a grant alone changes it
abbrev pub after_answer : Marks → Cells → HashAnswer → Marks
after_answer stripe key (Claimed claim) = map.insert stripe key (Held claim.ticket)
after_answer stripe key (Busy ticket) = stripe
after_answer stripe key Finished = stripe

-- the stripe after a finish and after a give back: each changes it where the key is held under the claim's ticket
abbrev pub after_finish : Marks → HashClaim → Marks
after_finish stripe claim = if is_held_under claim.ticket (state_of stripe claim.key) then map.insert stripe claim.key Done else stripe

abbrev pub after_give_back : Marks → HashClaim → Marks
after_give_back stripe claim = if is_held_under claim.ticket (state_of stripe claim.key) then map.remove stripe claim.key else stripe
