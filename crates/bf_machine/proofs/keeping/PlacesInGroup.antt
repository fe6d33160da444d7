-- Whether a session's next statement stands in its open block, and whether its open group has all its replies.
use Rattle.std.proofs.Common.{◌≡◌, ℕ, ◌+◌, ◌-◌, ◌≤◌, Bool, true, false, List, [], ◌∷◌, length, drop, Option, Some, None, refl, sym, ap, subst, ◌∙◌, arith, option_map}
use Rattle.std.specs.Prelude.{nat_le}
use Rattle.std.specs.Global.{Vec}
use Rattle.std.specs.Option.{option_map_or}
use Rattle.std.proofs.lemmas.Bool.Decides.{nat_tests}
use Rattle.std.proofs.lemmas.List.{length-drop, length-map}
use Rattle.bf_locks.specs.Locks.{Locks}
use Rattle.bf_tree.specs.declared.history.Entry.{Entry}
use Rattle.bf_tree.specs.declared.reply.Reply.{Reply}
use Rattle.bf_tree.specs.declared.script.Script.{Script}
use Rattle.bf_sql.specs.Database.{Database}
use Rattle.bf_image.specs.Registries.{Registry}
use Rattle.bf_store.specs.Stores.{Store}
use Rattle.bf_machine.specs.declared.so_far.Began.{Began as BeganGroup}
use Rattle.bf_machine.specs.declared.so_far.OpenGroup.{OpenGroup}
use Rattle.bf_machine.specs.declared.so_far.SessionSoFar.{SessionSoFar}
use Rattle.bf_machine.specs.interleaving.Calls.{IsPlace}
use Rattle.bf_machine.specs.interleaving.Events.{rest_of, stands_inside, text_of}
use Rattle.bf_machine.specs.interleaving.Machines.{Machine, Open, open_at}
use Rattle.bf_machine.specs.interleaving.Seen.{group_seen, open_seen, seen}
use Rattle.bf_machine.specs.interleaving.Serving.{is_answered, is_in_block}
use Rattle.bf_machine.proofs.keeping.Ending.{left_size, there}
use Rattle.bf_machine.proofs.keeping.Places.{open_there}
use Rattle.bf_machine.proofs.keeping.Stands.{IsThere}

-- a statement with a reply before it stands inside
inside_behind : (rs : List Reply) → nat_le 1 (length rs) ≡ stands_inside rs
inside_behind [] = refl
inside_behind (r ∷ rs) = let some : nat_le 1 (length (r ∷ rs)) ≡ true = grind (arith, nat_tests) in some

block_of : (first : ℕ) (rs : List Reply) → 1 ≤ first → nat_le first (length rs) ≡ nat_le 1 (length (drop (first - 1) rs))
block_of first rs low = let size = length-drop (first - 1) rs in grind (arith, nat_tests)

module _ {opening : Database} {registry : Registry} {given : Script} {logged : Bool} {script : Script} {retries : ℕ} {store : Store} {locks : Locks} {began : List BeganGroup}
    {sessions : List SessionSoFar} {history : Vec Entry} {commits : ℕ} {transcripts : Vec (List Reply)}
    {now : Machine} {s : ℕ} {x : SessionSoFar} (session : IsThere opening registry given logged script retries store locks began sessions history commits transcripts now s x) where
  abbrev m : Machine
  m = seen logged script retries store locks began sessions history.items

  low : 1 ≤ s
  low = session.place.0

  high : s ≤ length sessions
  high =
      let here : IsPlace script s = subst (λ (m : Machine). IsPlace m.script s) (sym session.view) session.place in
      omega (arith, here.1, session.sound.kept.shaped.opens, length-map sessions open_seen)

  -- with no open group
  module _ (is : x.«open» ≡ None) where
    closed : open_at m s ≡ None
    closed = open_there logged script retries store locks began sessions history.items x s low high (sym session.is) ∙ ap (option_map (group_seen x.replies.items)) is

    pub in_no_block : false ≡ is_in_block now s
    in_no_block =
        subst (λ (m : Machine). false ≡ is_in_block m s) session.view
        (sym (ap (λ (found : Option Open). option_map_or (λ (o : Open). stands_inside o.replies) found false) closed))

    pub not_answered : false ≡ is_answered now s
    not_answered =
        subst (λ (m : Machine). false ≡ is_answered m s) session.view
        (sym (ap (λ (found : Option Open). option_map_or (λ (o : Open). nat_le (length (text_of m s o)) (length o.replies)) found false) closed))

  -- with one, where the session has so many replies
  module _ (g : OpenGroup) (is : x.«open» ≡ Some g) (count : ℕ) (counted : count ≡ length x.replies.items) where
    abbrev o : Open
    o = group_seen x.replies.items g

    open_is : open_at m s ≡ Some o
    open_is = there logged script retries store locks began sessions history commits transcripts session.sound s low high x (sym session.is) g is

    pub block_there : 1 ≤ g.first → nat_le g.first count ≡ is_in_block now s
    block_there first =
        subst (λ (m : Machine). nat_le g.first count ≡ is_in_block m s) session.view
        (ap (nat_le g.first) counted
        ∙ (block_of g.first x.replies.items first
        ∙ (inside_behind o.replies
        ∙ sym (ap (λ (found : Option Open). option_map_or (λ (o : Open). stands_inside o.replies) found false) open_is))))

    all_answered : nat_le g.last count ≡ nat_le (length (text_of m s o)) (length o.replies)
    all_answered =
        let left = left_size logged script retries store locks began sessions history commits transcripts session.sound s low high x (sym session.is) g is in
        let size = length-drop (length o.replies) (text_of m s o) in
        same_tests g.last count (length (text_of m s o)) (length o.replies) (length (rest_of m s o)) (omega (arith, left, counted)) size
      where
        same_tests : (last count text replies rest : ℕ) → rest + count ≡ last → rest ≡ text - replies → nat_le last count ≡ nat_le text replies
        same_tests last count text replies rest left size = grind (arith, nat_tests)

    pub answered_there : nat_le g.last count ≡ is_answered now s
    answered_there =
        subst (λ (m : Machine). nat_le g.last count ≡ is_answered m s) session.view
        (all_answered
        ∙ sym (ap (λ (found : Option Open). option_map_or (λ (o : Open). nat_le (length (text_of m s o)) (length o.replies)) found false) open_is))
