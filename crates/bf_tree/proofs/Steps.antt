-- Loops that stop at the first objection.
use Rattle.std.proofs.Common.{◌≡◌, refl, ℕ, ◌+◌, ◌<◌, ◌≤◌, List, [], ◌∷◌, ◌++◌, Some, take, drop, set, map, get_or, length, take-append-drop, arith, ap, sym, ◌∙◌}
use Rattle.std.specs.Prelude.{Result, Err}
use Rattle.std.specs.List.{flat_map}
use Rattle.std.specs.Result.{IsErrAnd}
use Rattle.std.proofs.lemmas.List.{take_more, take_all, drop_more, get_or-drop, take_more_set, map_more, get_or-map, drop-set-lt, drop-drop}
use Rattle.std.proofs.lemmas.List.Concat.{flat_map-append}
use Rattle.std.proofs.lemmas.List.Folds.{flat_map-map}
use Rattle.bf_tree.specs.declared.reply.Refusal.{Refusal}
use Rattle.bf_tree.specs.declared.statement_error.StatementError.{StatementError}
use Rattle.bf_tree.specs.declared.statement_error.StatementError.TheVariants.{Refused, Memory}
use Rattle.bf_tree.proofs.Stopping.{first_ahead, handed_on}
use Rattle.bf_tree.specs.Settling.{first_of, Settles}

pub map_map : {X Y Z : Type 0} (f : Y → Z) (v : X → Y) (xs : List X) → map f (map v xs) ≡ map (λ x. f (v x)) xs
map_map f v [] = refl
map_map f v (x ∷ xs) = rw (map_map f v xs)

-- an error that is passed on
pub passes_on : {A B : Type 0} (result : Result B StatementError) (e : StatementError) (objections : List Refusal) (meant : A) (whole : B) → IsErrAnd result (λ s. s ≡ e) → Settles (Err e) objections meant → Settles result objections whole
passes_on result e objections meant whole same h = handed_on result e objections objections meant whole same h (λ r here. here)

pub cause_before : {A : Type 0} (e : StatementError) (objections more : List Refusal) (meant : A) → Settles (Err e) objections meant → Settles (Err e) (objections ++ more) meant
cause_before (Refused r) objections more meant h = first_ahead objections more r h
cause_before Memory objections more meant h = tt

module _ {X : Type 0} (xs : List X) (i : ℕ) (x : X) (lt : i < length xs) (is : x ≡ get_or xs i x) where
  pub goes_on : {Y : Type 0} (f : X → List Y) → flat_map f (take i xs) ≡ [] → f x ≡ [] → flat_map f (take (i + 1) xs) ≡ []
  goes_on f none here =
      let there : f (get_or xs i x) ≡ [] = ap f (sym is) ∙ here in
      rw (take_more xs i x lt, flat_map-append f (take i xs) (get_or xs i x ∷ []), none, there)

  pub gives_on : {Y : Type 0} (f : X → Y) (before after : List Y) (y : Y) → before ≡ map f (take i xs) → y ≡ f x → after ≡ before ++ y ∷ [] → after ≡ map f (take (i + 1) xs)
  gives_on f before after y given here pushed =
      let more = map_more f xs i x lt in
      let there : f x ≡ f (get_or xs i x) = ap f is in
      cc

  stops_at : (f : X → List Refusal) (y : Refusal) → flat_map f (take i xs) ≡ [] → first_of (f x) ≡ Some y → first_of (flat_map f xs) ≡ Some y
  stops_at f y none here =
      let rest = flat_map f (drop (i + 1) xs) in
      let whole : xs ≡ take i xs ++ (get_or xs i x ∷ drop (i + 1) xs) = sym (take-append-drop i xs) ∙ ap (λ r. take i xs ++ r) (drop_more xs i x lt) in
      let flat : flat_map f xs ≡ flat_map f (take i xs) ++ (f (get_or xs i x) ++ rest) = ap (flat_map f) whole ∙ flat_map-append f (take i xs) _ in
      let there : f x ≡ f (get_or xs i x) = ap f is in
      rw (flat, none, ← there) (first_ahead (f x) rest y here)

  -- an error at an item is the whole loop's
  pub stops : {A : Type 0} (f : X → List Refusal) (e : StatementError) (meant : A) → flat_map f (take i xs) ≡ [] → Settles (Err e) (f x) meant → Settles (Err e) (flat_map f xs) meant
  stops f (Refused r) meant none here = stops_at f r none here
  stops f Memory meant none here = tt

-- at the end of a loop over what v reads of the items
module _ {X Y : Type 0} (v : X → Y) (xs : List X) (i : ℕ) (end : length xs ≤ i) where
  pub all_passed : {Z : Type 0} (f : Y → List Z) → flat_map (λ x. f (v x)) (take i xs) ≡ [] → flat_map f (map v xs) ≡ []
  all_passed f none = flat_map-map f v xs ∙ ap (flat_map (λ x. f (v x))) (sym (take_all i xs end)) ∙ none

  pub all_given : {Z : Type 0} (f : Y → Z) (given : List Z) → given ≡ map (λ x. f (v x)) (take i xs) → given ≡ map f (map v xs)
  all_given f given are = are ∙ ap (map (λ x. f (v x))) (take_all i xs end) ∙ sym (map_map f v xs)

-- a list whose items are changed one by one, from the left, as v reads them
module _ {X Y : Type 0} (v : X → Y) (now before : List X) (i : ℕ) (d : X) (lt : i < length now) (left : drop i (map v now) ≡ drop i (map v before)) where
  pub next_left : (e : Y) → v (get_or now i d) ≡ get_or (map v before) i e
  next_left e =
      let p = get_or-drop i (map v now) 0 e in
      let q = get_or-drop i (map v before) 0 e in
      let z : i + 0 ≡ i = omega arith in
      let r = get_or-map v now i d e lt in
      cc

module _ {X : Type 0} (now before : List X) (i : ℕ) where
  pub taken_more : (d : X) → i < length now → i < length before → (f : X → X) (y : X) → take i now ≡ map f (take i before) → y ≡ f (get_or before i d) → take (i + 1) (set now i y) ≡ map f (take (i + 1) before)
  taken_more d lt lt_before f y taken here =
      let p = take_more_set now i y lt in
      let q = map_more f before i d lt_before in
      cc

  pub left_less : (y : X) → drop i now ≡ drop i before → drop (i + 1) (set now i y) ≡ drop (i + 1) before
  left_less y left = drop-set-lt (i + 1) now i y (omega arith) ∙ sym (drop-drop 1 i now) ∙ ap (drop 1) left ∙ drop-drop 1 i before
