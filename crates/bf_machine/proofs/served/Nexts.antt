-- The next statement of a session, as it stands in the session's text.
use Rattle.std.proofs.Common.{◌≡◌, ℕ, zero, suc, ◌+◌, ◌-◌, ◌<◌, ◌≤◌, ◌||◌, Bool, true, false, List, [], ◌∷◌, length, take, drop, Option, Some, refl, sym, ap, subst, ◌∙◌, arith, length-append}
use Rattle.std.specs.Prelude.{slice_get}
use Rattle.std.specs.List.{list_any, slice_index_or}
use Rattle.std.proofs.lemmas.Bool.{and_parts}
use Rattle.std.proofs.lemmas.Option.{slice_get_read}
use Rattle.bf_base.specs.Lists.{part}
use Rattle.bf_tree.specs.declared.reply.Reply.{Reply}
use Rattle.bf_tree.specs.declared.statement.Statement.{Statement}
use Rattle.bf_sql.specs.Database.{Database}
use Rattle.bf_sql.specs.Groups.{ends_block}
use Rattle.bf_machine.specs.interleaving.Calls.{replies_at, statements_at}
use Rattle.bf_machine.specs.interleaving.Events.{Refuses, rest_of}
use Rattle.bf_machine.specs.interleaving.Kept.{IsKept}
use Rattle.bf_machine.specs.interleaving.Machines.{Machine, Open, open_at, told_at, with_replies}
use Rattle.bf_machine.proofs.interleaving.Texts.{are_texts}
use Rattle.bf_machine.proofs.served.Events.{left_below, replies_are}

-- the first item of what is left of a part of a list
module _ {X : Type 0} (d : X) where
  of_take : (n k : ℕ) (xs : List X) (x : X) (rest : List X) → drop k (take n xs) ≡ x ∷ rest → slice_index_or xs k d ≡ x
  of_take zero zero xs x rest is = absurd cc
  of_take zero (suc k) xs x rest is = absurd cc
  of_take (suc n) zero [] x rest is = absurd cc
  of_take (suc n) zero (y ∷ xs) x rest is = let same : y ≡ x = cc in same
  of_take (suc n) (suc k) [] x rest is = absurd cc
  of_take (suc n) (suc k) (y ∷ xs) x rest is = of_take n k xs x rest is

  of_drop : (i k : ℕ) (xs : List X) → slice_index_or (drop i xs) k d ≡ slice_index_or xs (i + k) d
  of_drop zero k xs = let here : 0 + k ≡ k = omega arith in rw here refl
  of_drop (suc i) k [] = refl
  of_drop (suc i) k (x ∷ xs) = let next : suc i + k ≡ suc (i + k) = omega arith in rw next (of_drop i k xs)

  pub of_part : (first last k : ℕ) (xs : List X) (x : X) (rest : List X) → 1 ≤ first → drop k (part first last xs) ≡ x ∷ rest → slice_index_or xs (first + k - 1) d ≡ x
  of_part first last k xs x rest low is =
      let at : first - 1 + k ≡ first + k - 1 = omega (arith, low) in
      ap (λ (n : ℕ). slice_index_or xs n d) (sym at) ∙ (sym (of_drop (first - 1) k xs) ∙ of_take (last - (first - 1)) k (drop (first - 1) xs) x rest is)

-- an item that is read at a place
pub got : {X : Type 0} (xs : List X) (i : ℕ) (x : X) → i < length xs → slice_index_or xs i x ≡ x → slice_get xs i ≡ Some x
got xs i x within is = slice_get_read xs (length xs) i x refl within (sym is)

-- of an open group, the first that is left
module _ {start : Database} (m : Machine) (kept : IsKept start m) (s : ℕ) where
  pub next_of : (o : Open) → open_at m s ≡ Some o → (statement : Statement) (later : List Statement) → rest_of m s o ≡ statement ∷ later
      → slice_get (statements_at m s) (length (replies_at m s)) ≡ Some statement
  next_of o is statement later left =
      let own = kept.open_groups_replay.each s o is in
      let bounds = (are_texts m.script).bounds s o.group own.whole in
      let below = left_below m kept (are_texts m.script) s o is statement later left in
      let sizes : length (replies_at m s) ≡ length (told_at m s) + length o.replies =
      ap (λ (rs : List Reply). length rs) (replies_are m kept (are_texts m.script) s o is) ∙ length-append (told_at m s) o.replies in
      let at : o.group.0 + length o.replies - 1 ≡ length (replies_at m s) = omega (arith, own.next, sizes) in
      let item : slice_index_or (statements_at m s) (length (replies_at m s)) statement ≡ statement =
      ap (λ (k : ℕ). slice_index_or (statements_at m s) k statement) (sym at)
      ∙ of_part statement o.group.0 o.group.1 (length o.replies) (statements_at m s) statement later bounds.0 left in
      got (statements_at m s) (length (replies_at m s)) statement below item

  -- in no group, a statement that is refused ends a block
  any_first : (k n : ℕ) (xs : List Statement) (x : Statement) → n ≡ 1 → list_any ends_block (take n (drop k xs)) ≡ true → slice_get xs k ≡ Some x → ends_block x ≡ true
  any_first zero n [] x one any is = absurd cc
  any_first zero n (y ∷ xs) x one any is =
      let same : y ≡ x = cc in
      let here : list_any ends_block (take 1 (y ∷ xs)) ≡ true = subst (λ (n : ℕ). list_any ends_block (take n (y ∷ xs)) ≡ true) one any in
      only y x same here
    where
      only : (y x : Statement) → y ≡ x → list_any ends_block (y ∷ []) ≡ true → ends_block x ≡ true
      only y x same here = ap ends_block (sym same) ∙ (left (ends_block y) here)
        where
          left : (b : Bool) → (b || false) ≡ true → b ≡ true
          left true e = refl
          left false e = e
  any_first (suc k) n [] x one any is = absurd cc
  any_first (suc k) n (y ∷ xs) x one any is = any_first k n xs x one any is

  pub refused_ends : (next : Machine) → Refuses m s next → (statement : Statement) → slice_get (statements_at m s) (length (replies_at m s)) ≡ Some statement → ends_block statement ≡ true
  refused_ends next by statement is =
      let n = length (told_at m s) + 1 in
      let size : length (replies_at m s) ≡ length (told_at m s) = ap (λ (o : Option Open). length (with_replies (told_at m s) o)) by.closed in
      let replies : length (replies_at m s) ≡ n - 1 = omega (arith, size) in
      let parts = and_parts (list_any ends_block (part n n (statements_at m s))) _ by.stray in
      any_first (n - 1) (n - (n - 1)) (statements_at m s) statement (omega arith) parts.0 (subst (λ (i : ℕ). slice_get (statements_at m s) i ≡ Some statement) replies is)
