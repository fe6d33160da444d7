-- The end of a session's open group by a cause of a log.
use Rattle.std.proofs.Common.{◌≡◌, ℕ, ◌+◌, ◌-◌, ◌≤◌, Bool, true, List, ◌++◌, map, replicate, take, Some, None, refl, sym, ap, subst, ◌∙◌, arith, vec_capacity}
use Rattle.std.specs.Prelude.{slice_index_or, slice_set}
use Rattle.std.specs.Arc.{arc_value}
use Rattle.bf_locks.specs.Locks.{Locks, without_owner}
use Rattle.bf_tree.specs.declared.reply.Cause.{Cause}
use Rattle.bf_tree.specs.declared.reply.Reply.{Reply}
use Rattle.bf_tree.specs.declared.reply.Reply.TheVariants.{Ended}
use Rattle.bf_tree.specs.declared.script.Script.{Script}
use Rattle.bf_sql.specs.Database.{Database}
use Rattle.bf_image.specs.Registries.{Registry}
use Rattle.bf_machine.specs.declared.machine.Machine.TheInside.{Inside}
use Rattle.bf_machine.specs.declared.so_far.OpenGroup.{OpenGroup}
use Rattle.bf_machine.specs.declared.so_far.SessionSoFar.{SessionSoFar}
use Rattle.bf_machine.specs.interleaving.Calls.{CanFail, IsPlace}
use Rattle.bf_machine.specs.interleaving.Events.{EndsByLog, ended, text_of}
use Rattle.bf_machine.specs.interleaving.Kept.{is_of_log}
use Rattle.bf_machine.specs.interleaving.Machines.{EndedGroup, IsAmong, Machine, Open, any_if, open_at}
use Rattle.bf_machine.specs.interleaving.Seen.{group_seen}
use Rattle.bf_machine.proofs.interleaving.Failing.{log_keeps_all}
use Rattle.bf_machine.proofs.interleaving.Texts.{are_texts}
use Rattle.bf_machine.proofs.keeping.Closing.{SoundWith, all_told, bounds, closed_seen, closed_sound, room_for_text, seen_with, there}

-- where a log may end any group it may end this one
any_may : (logged : Bool) → logged ≡ true → (g : EndedGroup) → IsAmong (any_if logged) g
any_may logged may g = subst (λ (b : Bool). IsAmong (any_if b) g) (sym may) tt

-- THE OPEN GROUP g of a session, of which the code has x
module _ {N : Type 0} {opening : Database} {registry : Registry} {given : Script} {logged : Bool} (i : Inside N) (sound : SoundWith logged i i.locks i.began.items i.sessions.items opening registry given) (before : Machine)
    (view : seen_with logged i i.locks i.began.items i.sessions.items ≡ before)
    (s : ℕ) (place : IsPlace before.script s) (x : SessionSoFar) (at : slice_index_or i.sessions.items (s - 1) x ≡ x) (g : OpenGroup)
    (is : x.«open» ≡ Some g) where
  abbrev m : Machine
  m = seen_with logged i i.locks i.began.items i.sessions.items

  abbrev o : Open
  o = group_seen x.replies.items g

  is_open : open_at m s ≡ Some o
  is_open = there i sound before view s place x at g is

  -- so many statements are told the cause
  pub count_is : g.last - g.first + 1 ≡ g.last + 1 - g.first
  count_is = let b = bounds i sound before view s place x at g is in omega (arith, b.1)

  pub room_to_fail : g.first - 1 + (g.last - g.first + 1) ≤ vec_capacity x.replies
  room_to_fail = let room = room_for_text i sound before view s place x at g is in omega (arith, room, count_is)

  module _ (can : CanFail before s) (cause : Cause) (may : logged ≡ true) (of_log : is_of_log cause ≡ true) (free : Locks) (freed : free ≡ without_owner i.locks g.start)
      (y : SessionSoFar) (closed : y.«open» ≡ None) (replies : y.replies.items ≡ take (g.first - 1) x.replies.items ++ replicate (g.last - g.first + 1) (Ended cause)) where
    abbrev answers : List Reply
    answers = map (λ _. Ended cause) (text_of m s o)

    replies_of_it : y.replies.items ≡ take (g.first - 1) x.replies.items ++ answers
    replies_of_it =
        replies
        ∙ ap (λ (rs : List Reply). take (g.first - 1) x.replies.items ++ rs)
        (ap (λ (n : ℕ). replicate n (Ended cause)) count_is ∙ sym (all_told i sound before view s place x at g is (Ended cause)))

    abbrev then : Machine
    then = seen_with logged i free i.began.items (slice_set i.sessions.items (s - 1) y)

    then_is : then ≡ ended m s o answers
    then_is = closed_seen i sound before view s place x at g is answers y closed replies_of_it free freed i.began.items

    ends : EndsByLog m s then
    ends =
        let seen_so : CanFail m s = subst (λ (m : Machine). CanFail m s) (sym view) can in
        record { current = seen_so.current; o = o; is = is_open; cause = cause; may = any_may logged may (record { session = s; group = o.group; cause = cause }); of_log = of_log; goes = then_is }

    pub fails : (by : EndsByLog before s then) × (by.cause ≡ cause)
    unfolding ends
    fails = subst (λ (m : Machine). (by : EndsByLog m s then) × (by.cause ≡ cause)) view (ends, refl)

    pub fail_sound : y.latest ≡ x.latest → vec_capacity y.replies ≡ vec_capacity x.replies → SoundWith logged i free i.began.items (slice_set i.sessions.items (s - 1) y) opening registry given
    fail_sound latest capacity =
        closed_sound i sound before view s place x at g is answers y closed replies_of_it free i.began.items latest capacity (λ t k was. was)
        (log_keeps_all opening m sound.kept (are_texts (arc_value i.script)) s then ends)
