-- Nothing has begun.
use Rattle.std.proofs.Common.{◌≡◌, ◌^◌, ◌<◌, ◌≤◌, List, length, vec_capacity, ap, subst, ◌∙◌, arith}
use Rattle.std.specs.Arc.{arc_value}
use Rattle.bf_tree.specs.declared.script.Script.{Script}
use Rattle.bf_tree.specs.declared.script.Session.{Session}
use Rattle.bf_machine.specs.declared.so_far.SessionSoFar.{SessionSoFar}
use Rattle.bf_machine.specs.interleaving.Kept.{IsOpening, fresh}
use Rattle.bf_machine.specs.interleaving.Seen.{AreNew, IsLeastLeft, IsSound, seen}
use Rattle.bf_machine.proofs.keeping.Fresh.{new_is_sound, new_length, seen_new}
use Rattle.bf_machine.proofs.machine.Machine.new.Goals as goal

pub least_left-least_left-requires : goal.least_left-least_left-requires
least_left-least_left-requires g c =
    let script : Script = arc_value c.args.script in
    let sessions = c.in_ok-sessions.sessions.items in
    let all : AreNew script.sessions sessions = subst (λ (ss : List Session). AreNew ss sessions) (c.as_slice.ensures ∙ ap (λ (script : Script). script.sessions) c.deref-text.ensures) c.in_ok-sessions.ensures in
    let own = ap (λ (xs : List Session). length xs) (c.as_slice-2.ensures ∙ ap (λ (script : Script). script.sessions) c.deref-text.ensures) in
    let made = ap (λ (ys : List SessionSoFar). length ys) c.deref.ensures.value in
    omega (arith, own, made, new_length script.sessions sessions all)

pub invariant_of-result : goal.invariant_of-result
invariant_of-result g c =
    let script : Script = arc_value c.args.script in
    let sessions = c.in_ok-sessions.sessions.items in
    let all : AreNew script.sessions sessions = subst (λ (ss : List Session). AreNew ss sessions) (c.as_slice.ensures ∙ ap (λ (script : Script). script.sessions) c.deref-text.ensures) c.in_ok-sessions.ensures in
    let numbers : length script.sessions < 2 ^ 32 = omega (arith, c.in_ok-next_number.ensures.fits, c.len.ensures, ap (λ (script : Script). length script.sessions) c.deref-text.ensures) in
    let room : length sessions ≤ vec_capacity c.in_ok-transcripts.transcripts = omega (arith, c.in_ok-transcripts.ensures.exact, c.len-2.ensures, c.in_ok-sessions.sessions.ok.0) in
    let opening : IsOpening c.args.store = record { lazy_state = c.live.ensures.lazy_state; narrow = c.live.ensures.narrow; by_pass = c.migration.ensures.by_pass } in
    let sound : IsSound g.N.Opened.opening g.N.Opened.registry g.N.Opened.script g.N.Opened.logged script c.args.retries c.args.store c.new.result c.new-2.result.items sessions c.new-3.result 0 c.in_ok-transcripts.transcripts =
    rw (c.new.ensures.empty, c.new-2.ensures.items)
    (new_is_sound g.N.Opened.opening g.N.Opened.registry g.N.Opened.script g.N.Opened.logged c.args.store script c.args.retries sessions c.new-3.result c.in_ok-transcripts.transcripts c.requires.opening opening c.requires.registry c.requires.limits
    c.requires.script all c.new-3.ensures.items numbers c.in_ok-transcripts.ensures.items room) in
    let least : IsLeastLeft script.sessions sessions (length sessions) c.least_left-least_left.result =
    subst (λ (ys : List SessionSoFar). IsLeastLeft script.sessions ys (length ys) c.least_left-least_left.result) c.deref.ensures.value
    (subst (λ (xs : List Session). IsLeastLeft xs c.deref.result.now (length c.deref.result.now) c.least_left-least_left.result) (c.as_slice-2.ensures ∙ ap (λ (script : Script). script.sessions) c.deref-text.ensures) c.least_left-least_left.ensures) in
    (sound, least)

pub returns : goal.returns
returns g c =
    let script : Script = arc_value c.args.script in
    let sessions = c.in_ok-sessions.sessions.items in
    let all : AreNew script.sessions sessions = subst (λ (ss : List Session). AreNew ss sessions) (c.as_slice.ensures ∙ ap (λ (script : Script). script.sessions) c.deref-text.ensures) c.in_ok-sessions.ensures in
    let same : seen g.N.Opened.logged script c.args.retries c.args.store c.new.result c.new-2.result.items sessions c.new-3.result.items ≡ fresh g.N.Opened.logged c.args.store script c.args.retries =
    rw (c.new.ensures.empty, c.new-2.ensures.items, c.new-3.ensures.items) (seen_new g.N.Opened.logged c.args.store script c.args.retries sessions all) in
    same
