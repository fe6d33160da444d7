-- What a read from a place of a list on gives and leaves.
use Rattle.std.proofs.Common.{◌≡◌, ℕ, ◌+◌, ◌-◌, List, [], ◌++◌, length, take, drop, ◌∙◌, ap, sym}
use Rattle.std.proofs.lemmas.List.{take_rest, drop-drop, take-append-drop}
use Rattle.std.proofs.Math.Seq.{drop-nil}

-- what was given, and then what is left
pub given_then_left : (bytes piece : List ℕ) (at n : ℕ) → take n piece ≡ take n (take (length bytes - at) (drop at bytes)) → drop at bytes ≡ take n piece ++ drop (at + n) bytes
given_then_left bytes piece at n same =
    let rest : take (length bytes - at) (drop at bytes) ≡ drop at bytes = take_rest bytes at in
    let front : take n piece ≡ take n (drop at bytes) = same ∙ ap (take n) rest in
    let parts : take n (drop at bytes) ++ drop n (drop at bytes) ≡ drop at bytes = take-append-drop n (drop at bytes) in
    let later : drop n (drop at bytes) ≡ drop (at + n) bytes = drop-drop n at bytes in
    cc

-- nothing there to give, and nothing left
pub none_left : (bytes : List ℕ) (at n : ℕ) → take (length bytes - at) (drop at bytes) ≡ [] → drop (at + n) bytes ≡ []
none_left bytes at n empty =
    sym (drop-drop n at bytes) ∙ ap (drop n) (sym (take_rest bytes at) ∙ empty) ∙ drop-nil n
