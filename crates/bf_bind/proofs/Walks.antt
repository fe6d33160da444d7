-- Walks over lists that stop at the first objection.
use Rattle.std.proofs.Common.{◌≡◌, ℕ, ◌+◌, ◌<◌, List, [], ◌++◌, length, get_or, take, drop, Result, Err, ap, ◌∙◌}
use Rattle.std.specs.List.{flat_map}
use Rattle.std.specs.Result.{IsErrAnd}
use Rattle.std.proofs.lemmas.List.{drop_more, take_more}
use Rattle.bf_base.specs.Lists.{with_before, with_before_from}
use Rattle.bf_tree.specs.Settling.{first_of, Settles}
use Rattle.bf_tree.specs.declared.reply.Refusal.{Refusal}
use Rattle.bf_tree.specs.declared.statement_error.StatementError.{StatementError}
use Rattle.bf_tree.proofs.Settling.{first_ahead, handed_on}

module _ {X : Type 0} (f : List X × X → List Refusal) (xs : List X) where
  -- the objections that are left behind the first i items
  abbrev pub left_behind : ℕ → List Refusal
  left_behind i = flat_map f (with_before_from (take i xs) (drop i xs))

  left_more : (i : ℕ) (x : X) → i < length xs → x ≡ get_or xs i x → left_behind i ≡ f (take i xs, x) ++ left_behind (i + 1)
  left_more i x in_range is = rw (drop_more xs i x in_range, take_more xs i x in_range, ← is)

  abbrev pub all : List Refusal
  all = flat_map f (with_before xs)

  module _ (i : ℕ) (so_far : all ≡ left_behind i) (x : X) (in_range : i < length xs) (is : x ≡ get_or xs i x) where
    pub walk_stops : {A B : Type 0} (result : Result B StatementError) (e : StatementError) (meant : A) (whole : B) → IsErrAnd result (λ given. given ≡ e) → Settles (Err e) (f (take i xs, x)) meant → Settles result all whole
    walk_stops result e meant whole same here =
        handed_on result e (f (take i xs, x)) all meant whole same here
        (λ r first. ap first_of (so_far ∙ left_more i x in_range is) ∙ first_ahead (f (take i xs, x)) (left_behind (i + 1)) r first)

    pub walk_goes : f (take i xs, x) ≡ [] → all ≡ left_behind (i + 1)
    walk_goes none = so_far ∙ left_more i x in_range is ∙ ap (λ (rs : List Refusal). rs ++ left_behind (i + 1)) none

module _ {X : Type 0} (f : X → List Refusal) (xs : List X) where
  abbrev pub left_from : ℕ → List Refusal
  left_from i = flat_map f (drop i xs)

  left_from_more : (i : ℕ) (x : X) → i < length xs → x ≡ get_or xs i x → left_from i ≡ f x ++ left_from (i + 1)
  left_from_more i x in_range is = rw (drop_more xs i x in_range, ← is)

  module _ (i : ℕ) (so_far : flat_map f xs ≡ left_from i) (x : X) (in_range : i < length xs) (is : x ≡ get_or xs i x) where
    pub pass_stops : {A B : Type 0} (result : Result B StatementError) (e : StatementError) (meant : A) (whole : B) → IsErrAnd result (λ given. given ≡ e) → Settles (Err e) (f x) meant → Settles result (flat_map f xs) whole
    pass_stops result e meant whole same here =
        handed_on result e (f x) (flat_map f xs) meant whole same here
        (λ r first. ap first_of (so_far ∙ left_from_more i x in_range is) ∙ first_ahead (f x) (left_from (i + 1)) r first)
