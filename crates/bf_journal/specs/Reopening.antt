-- What the records of a log give in turn, and what a file reopens to.
use Rattle.std.specs.Prelude.{◌≡◌, ◌⊎◌, ℕ, ◌<◌, ◌≤◌, All, List, [], ◌∷◌, ◌++◌, length, Option, None, Some}
use Rattle.bf_log.specs.Format.{IsLog, IsNoLog, HeadFault, ChainFault, front, longest_payload}

module _ {L : Type 0} (Steps : L → List ℕ → L → Type 0) where
  -- these payloads, each a legal record in its turn, make the one state of the other
  abbrev pub After : L → List (List ℕ) → L → Type 0
  After state [] last = state ≡ last
  After state (payload ∷ payloads) last = (next : L) × Steps state payload next × After next payloads last

  -- a payload is no legal record in a state
  abbrev pub IsIllegal : L → List ℕ → Type 0
  IsIllegal state payload = (next : L) → Steps state payload next → ⊥

module _ {L : Type 0} (first : L) (Steps : L → List ℕ → L → Type 0) where
  -- a file is no log, or a log of which some record is not legal
  abbrev pub IsRefused : List ℕ → Type 0
  IsRefused file =
      ((at : ℕ) × IsNoLog file at) ⊎ ((payloads : List (List ℕ)) × IsLog payloads file × ((last : L) → After Steps first payloads last → ⊥))

  -- what a file reopens to: the state that its records give, or None where it is refused
  abbrev pub ReopensTo : List ℕ → Option L → Type 0
  ReopensTo file None = IsRefused file
  ReopensTo file (Some state) = (payloads : List (List ℕ)) × IsLog payloads file × (After Steps first payloads state)

  -- the payload behind the gate at this offset is no legal record, and all before it are
  pub record IllegalAt (file : List ℕ) (at : ℕ) : Type 0 where
    pub payloads : List (List ℕ)
    pub payload : List ℕ
    pub chain : List ℕ
    pub there : file ≡ front (payloads ++ payload ∷ []) ++ chain
    pub fit : All (λ one. length one ≤ longest_payload) (payloads ++ payload ∷ [])
    pub goes_on : 0 < length chain
    pub gate : at ≡ length (front payloads)
    pub state : L
    pub legal : After Steps first payloads state
    pub illegal : IsIllegal Steps state payload

  -- the chain breaks at the gate at this offset, and all records before it are legal
  pub record BreaksAt (file : List ℕ) (at : ℕ) : Type 0 where
    pub payloads : List (List ℕ)
    pub breaks : ChainFault payloads file at
    pub state : L
    pub legal : After Steps first payloads state

  -- the first thing at which reopening stops stands at this offset
  abbrev pub RefusedAt : List ℕ → ℕ → Type 0
  RefusedAt file at = HeadFault file at ⊎ BreaksAt file at ⊎ IllegalAt file at
