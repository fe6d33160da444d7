-- The replies of a session as they stand.
use Rattle.std.proofs.Common.{◌≡◌, ℕ, zero, suc, ◌-◌, ◌<◌, List, [], ◌∷◌, length, map, Option, Some, None, refl, sym, ap, ap₂, arith, option_map}
use Rattle.std.specs.Prelude.{zip, slice_index_or}
use Rattle.std.proofs.lemmas.List.{take-append-drop}
use Rattle.bf_tree.specs.declared.reply.Reply.{Reply}
use Rattle.bf_machine.specs.declared.so_far.OpenGroup.{OpenGroup}
use Rattle.bf_machine.specs.declared.so_far.SessionSoFar.{SessionSoFar}
use Rattle.bf_machine.specs.interleaving.Machines.{with_replies}
use Rattle.bf_machine.specs.interleaving.Seen.{group_seen, open_seen, told_before, told_seen}

-- those before an open group, with the group's
pub replies_joined : (replies : List Reply) (group : Option OpenGroup) → with_replies (told_before replies group) (option_map (group_seen replies) group) ≡ replies
replies_joined replies None = refl
replies_joined replies (Some o) = take-append-drop (o.first - 1) replies

pub all_joined : (sessions : List SessionSoFar) → map (λ so_far. so_far.replies.items) sessions ≡ map (λ p. with_replies p.0 p.1) (zip (map told_seen sessions) (map open_seen sessions))
all_joined [] = refl
all_joined (x ∷ sessions) = ap₂ (λ (t : List Reply) (ts : List (List Reply)). t ∷ ts) (sym (replies_joined x.replies.items x.«open»)) (all_joined sessions)

-- an item of a list that is read otherwise
pub item_of : {X Y : Type 0} (f : X → Y) (xs : List X) (i : ℕ) (x : X) (d : Y) → i < length xs → slice_index_or xs i x ≡ x → slice_index_or (map f xs) i d ≡ f x
item_of f [] i x d below at = absurd (omega (arith, below))
item_of f (y ∷ xs) zero x d below at = ap f at
item_of f (y ∷ xs) (suc i) x d below at = item_of f xs i x d (omega (arith, below)) at
