-- Whether a session has ended, as the code reads it.
use Rattle.std.proofs.Common.{◌≡◌, ◌≤◌, Bool, true, ◌&&◌, length, Option, Some, None, refl, ap, arith, option_map}
use Rattle.std.specs.Prelude.{nat_le}
use Rattle.std.specs.Option.{is_none}
use Rattle.std.proofs.lemmas.Bool.{and_from, and_parts, false≢true}
use Rattle.std.proofs.lemmas.Bool.Decides.{nat_tests}
use Rattle.bf_tree.specs.declared.script.Session.{Session}
use Rattle.bf_machine.specs.declared.so_far.OpenGroup.{OpenGroup}
use Rattle.bf_machine.specs.declared.so_far.SessionSoFar.{SessionSoFar}
use Rattle.bf_machine.specs.interleaving.Seen.{group_seen, open_seen, told_before, told_seen}

-- each statement of a session has its reply, and none of its groups is open
abbrev pub has_ended : Session → SessionSoFar → Bool
has_ended session so_far = is_none so_far.«open» && nat_le (length session.statements) (length so_far.replies.items)

closed : (o : Option OpenGroup) → is_none o ≡ true → o ≡ None
closed None is = refl
closed (Some o) is = absurd (false≢true is)

pub closed_seen : (x : SessionSoFar) → open_seen x ≡ None → x.«open» ≡ None
closed_seen x none = by x.«open» none
  where
    by : (o : Option OpenGroup) → option_map (group_seen x.replies.items) o ≡ None → o ≡ None
    by None is = refl
    by (Some o) is = absurd cc

abbrev pub IsEnded : Session → SessionSoFar → Type 0
IsEnded session so_far = (length session.statements ≤ length (told_seen so_far)) × (open_seen so_far ≡ None)

pub ended_so : (session : Session) (so_far : SessionSoFar) → has_ended session so_far ≡ true → IsEnded session so_far
ended_so session x has =
    let parts = and_parts (is_none x.«open») (nat_le (length session.statements) (length x.replies.items)) has in
    let none = closed x.«open» parts.0 in
    let all : length session.statements ≤ length x.replies.items = grind (arith, nat_tests, parts.1) in
    let told : length (told_seen x) ≡ length x.replies.items = ap (λ (o : Option OpenGroup). length (told_before x.replies.items o)) none in
    (omega (arith, all, told), ap (option_map (group_seen x.replies.items)) none)

pub has_ended_so : (session : Session) (so_far : SessionSoFar) → IsEnded session so_far → has_ended session so_far ≡ true
has_ended_so session x is =
    let none = closed_seen x is.1 in
    let told : length (told_seen x) ≡ length x.replies.items = ap (λ (o : Option OpenGroup). length (told_before x.replies.items o)) none in
    let all : length session.statements ≤ length x.replies.items = omega (arith, told, is.0) in
    let counts : nat_le (length session.statements) (length x.replies.items) ≡ true = grind (arith, nat_tests, all) in
    and_from (is_none x.«open») (nat_le (length session.statements) (length x.replies.items)) (ap is_none none) counts
