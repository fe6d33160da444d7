-- An open group that is not at its end has a statement left.
use Rattle.std.proofs.Common.{◌≡◌, ℕ, ◌<◌, false, List, [], ◌∷◌, length, Option, Some, None, refl, sym, ap, subst, ◌∙◌, arith, inl, inr}
use Rattle.std.specs.Prelude.{nat_le}
use Rattle.std.specs.Option.{option_map_or}
use Rattle.std.proofs.lemmas.Bool.Decides.{nat_tests}
use Rattle.std.proofs.lemmas.List.{length-drop}
use Rattle.std.proofs.lemmas.Option.{same_Some}
use Rattle.bf_tree.specs.declared.statement.Statement.{Statement}
use Rattle.bf_sql.specs.Database.{Database}
use Rattle.bf_machine.specs.declared.stand.Stand.{Stand}
use Rattle.bf_machine.specs.declared.stand.Stand.TheVariants as stand
use Rattle.bf_machine.specs.interleaving.Calls.{StandsAs}
use Rattle.bf_machine.specs.interleaving.Events.{rest_of, text_of}
use Rattle.bf_machine.specs.interleaving.Kept.{IsKept}
use Rattle.bf_machine.specs.interleaving.Machines.{Machine, Open}
use Rattle.bf_machine.specs.interleaving.Serving.{HasMore, is_answered}
use Rattle.bf_machine.proofs.served.Exclusive.{open_can}

pub unanswered_more : (m : Machine) (s : ℕ) → is_answered m s ≡ false → HasMore m s
unanswered_more m s not_all o is none =
    let here : nat_le (length (text_of m s o)) (length o.replies) ≡ false = sym (ap (λ (found : Option Open). option_map_or (λ (o : Open). nat_le (length (text_of m s o)) (length o.replies)) found false) is) ∙ not_all in
    let below : length o.replies < length (text_of m s o) = grind (arith, nat_tests, here) in
    let size : length (rest_of m s o) ≡ 0 = ap (λ (ss : List Statement). length ss) none in
    omega (arith, below, size, length-drop (length o.replies) (text_of m s o))

-- nor is its next call its end
module _ {start : Database} (m : Machine) (kept : IsKept start m) (s : ℕ) where
  pub stands_more : (at : Stand) → StandsAs m s at → (at ≡ stand.Commit → ⊥) → (at ≡ stand.Abort → ⊥) → HasMore m s
  stands_more stand.Ended at commit abort o is none = open_can m kept s o is (stand.Ended, at, refl)
  stands_more stand.Later at commit abort o is none = open_can m kept s o is (stand.Later, at, refl)
  stands_more (stand.Named h) at commit abort o is none = open_can m kept s o is (stand.Named h, at, refl)
  stands_more stand.Begin can commit abort o is none = let clash : None ≡ Some o = sym can.1.closed ∙ is in cc
  stands_more (stand.Statement n) at commit abort o is none = elim at as (λ _. ⊥) [
    | inl on ↦
        let left : rest_of m s o ≡ on.statement ∷ on.later = subst (λ (p : Open). rest_of m s p ≡ on.statement ∷ on.later) (same_Some on.o o (sym on.is ∙ is)) on.left in
        let clash : [] ≡ on.statement ∷ on.later = sym none ∙ left in
        cc
    | inr refused ↦
        let clash : None ≡ Some o = sym refused.0.1.closed ∙ is in
        cc
  ]
  stands_more stand.Commit at commit abort o is none = commit refl
  stands_more stand.Abort at commit abort o is none = abort refl
