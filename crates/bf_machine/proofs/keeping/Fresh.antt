-- A machine in which nothing has begun.
use Rattle.std.proofs.Common.{◌≡◌, ℕ, zero, suc, ◌+◌, ◌^◌, ◌<◌, ◌≤◌, Bool, List, [], ◌∷◌, ◌++◌, length, map, Option, Some, false, refl, sym, ap, ap₂, subst, ◌∙◌, arith, vec_capacity, option_map}
use Rattle.std.specs.Prelude.{count_by, is_some, slice_index_or}
use Rattle.std.specs.FinMap as fin
use Rattle.std.specs.Global.{Vec}
use Rattle.bf_tree.specs.Limits.{HasNarrowTables}
use Rattle.bf_tree.specs.declared.history.Entry.{Entry}
use Rattle.bf_tree.specs.declared.reply.Reply.{Reply}
use Rattle.bf_tree.specs.declared.script.Script.{Script}
use Rattle.bf_tree.specs.declared.script.Session.{Session}
use Rattle.bf_sql.specs.Bound.{catalog_of}
use Rattle.bf_sql.specs.Database.{Database}
use Rattle.bf_sql.specs.migrations.Lazy.{view_of}
use Rattle.bf_image.specs.Registries.{Registry}
use Rattle.bf_store.specs.Stores.{IsOf, Store}
use Rattle.bf_sql.specs.Groups.{no_session, session_at}
use Rattle.bf_machine.specs.declared.so_far.SessionSoFar.{SessionSoFar}
use Rattle.bf_machine.specs.interleaving.Kept.{IsKept, IsOpening, IsWithinLimits, fresh, no_group, no_replies}
use Rattle.bf_machine.specs.interleaving.Machines.{Began, Open, any_if, began_at}
use Rattle.bf_machine.specs.interleaving.Seen.{AreNew, IsNew, IsSound, group_seen, is_open, open_seen, seen, told_before, told_seen}
use Rattle.bf_machine.proofs.interleaving.New.{new_is_kept}
use Rattle.bf_machine.proofs.interleaving.Settled.{narrow_view}

-- one session more
pub new_more : (sessions : List Session) (made : List SessionSoFar) (session : Session) (so_far : SessionSoFar) → AreNew sessions made → IsNew session so_far
    → AreNew (sessions ++ session ∷ []) (made ++ so_far ∷ [])
new_more [] [] session so_far all new = (new, tt)
new_more [] (x ∷ made) session so_far all new = absurd all
new_more (s ∷ sessions) [] session so_far all new = absurd all
new_more (s ∷ sessions) (x ∷ made) session so_far all new = (all.0, new_more sessions made session so_far all.1 new)

pub new_length : (sessions : List Session) (made : List SessionSoFar) → AreNew sessions made → length made ≡ length sessions
new_length [] [] all = refl
new_length [] (x ∷ made) all = absurd all
new_length (s ∷ sessions) [] all = absurd all
new_length (s ∷ sessions) (x ∷ made) all = ap suc (new_length sessions made all.1)

opens_new : (sessions : List Session) (made : List SessionSoFar) → AreNew sessions made → map open_seen made ≡ map no_group sessions
opens_new [] [] all = refl
opens_new [] (x ∷ made) all = absurd all
opens_new (s ∷ sessions) [] all = absurd all
opens_new (s ∷ sessions) (x ∷ made) all =
    ap₂ (λ (o : Option Open) (os : List (Option Open)). o ∷ os) (ap (option_map (group_seen x.replies.items)) all.0.closed) (opens_new sessions made all.1)

told_new : (sessions : List Session) (made : List SessionSoFar) → AreNew sessions made → map told_seen made ≡ map no_replies sessions
told_new [] [] all = refl
told_new [] (x ∷ made) all = absurd all
told_new (s ∷ sessions) [] all = absurd all
told_new (s ∷ sessions) (x ∷ made) all =
    ap₂ (λ (t : List Reply) (ts : List (List Reply)). t ∷ ts) (ap (told_before x.replies.items) all.0.closed ∙ all.0.replies) (told_new sessions made all.1)

none_open : (sessions : List Session) (made : List SessionSoFar) → AreNew sessions made → count_by is_open made ≡ 0
none_open [] [] all = refl
none_open [] (x ∷ made) all = absurd all
none_open (s ∷ sessions) [] all = absurd all
none_open (s ∷ sessions) (x ∷ made) all =
    let closed : is_open x ≡ false = ap is_some all.0.closed in
    let rest = none_open sessions made all.1 in
    rw closed (omega (arith, rest))

none_began : (n : ℕ) (b : Began) → began_at [] n ≡ Some b → ⊥
none_began zero b is = absurd cc
none_began (suc n) b is = absurd cc

session_next : (script : Script) (i : ℕ) → session_at script (i + 1) ≡ slice_index_or script.sessions i no_session
session_next script i =
    let next : i + 1 ≡ suc i = omega arith in
    rw next refl

item_new : (sessions : List Session) (made : List SessionSoFar) → AreNew sessions made → (i : ℕ) (so_far : SessionSoFar) → i < length made → slice_index_or made i so_far ≡ so_far
    → IsNew (slice_index_or sessions i no_session) so_far
item_new [] [] all i so_far below at = absurd (omega (arith, below))
item_new [] (x ∷ made) all i so_far below at = absurd all
item_new (s ∷ sessions) [] all i so_far below at = absurd all
item_new (s ∷ sessions) (x ∷ made) all zero so_far below at = subst (IsNew s) at all.0
item_new (s ∷ sessions) (x ∷ made) all (suc i) so_far below at = item_new sessions made all.1 i so_far (omega (arith, below)) at

pub seen_new : (logged : Bool) (store : Store) (script : Script) (retries : ℕ) (sessions : List SessionSoFar) → AreNew script.sessions sessions
    → seen logged script retries store fin.empty [] sessions [] ≡ fresh logged store script retries
seen_new logged store script retries sessions all =
    ap₂ (λ (opens : List (Option Open)) (told : List (List Reply)). record (fresh logged store script retries) { opens = opens; told = told })
    (opens_new script.sessions sessions all) (told_new script.sessions sessions all)

pub new_is_sound : (opening : Database) (registry : Registry) (given : Script) (logged : Bool) (store : Store) (script : Script) (retries : ℕ) (sessions : List SessionSoFar) (history : Vec Entry) (transcripts : Vec (List Reply))
    → view_of store.lazy ≡ opening → IsOpening store → IsOf registry store.migration → IsWithinLimits script → script ≡ given → AreNew script.sessions sessions → history.items ≡ [] → length script.sessions < 2 ^ 32 → transcripts.items ≡ [] → length sessions ≤ vec_capacity transcripts
    → IsSound opening registry given logged script retries store fin.empty [] sessions history 0 transcripts
new_is_sound opening registry given logged store script retries sessions history transcripts view is one within same all none numbers empty room = record {
  is_given = same;
  narrow = subst (λ (db : Database). HasNarrowTables (catalog_of db)) view (narrow_view store.lazy is.lazy_state is.narrow);
  one = one;
  kept =
      let made : IsKept opening (fresh logged store script retries) = subst (λ (db : Database). IsKept db (fresh logged store script retries)) view (new_is_kept (any_if logged) store script retries is within) in
      rw none (subst (IsKept opening) (sym (seen_new logged store script retries sessions all)) made);
  counted = rw none refl;
  sessions_numbered = numbers;
  roomy = λ i so_far below at.
      let new = item_new script.sessions sessions all i so_far below at in
      let own : session_at script (i + 1) ≡ slice_index_or script.sessions i no_session = session_next script i in record {
        room = rw own new.room;
        numbers = rw own new.numbers;
        latest = record {
          last = λ group k has. absurd (none_began k _ has.is);
          has = λ some. absurd (omega (arith, some, new.latest));
        };
      };
  room =
      let shut = none_open script.sessions sessions all in
      let nothing : length history.items ≡ 0 = ap (λ (es : List Entry). length es) none in
      omega (arith, shut, nothing);
  no_transcripts = empty;
  transcripts_room = room;
}
