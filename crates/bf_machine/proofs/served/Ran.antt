-- Sessions that were served in sequence to their ends ran in order.
use Rattle.std.proofs.Common.{◌≡◌, ◌≢◌, ℕ, zero, suc, ◌+◌, ◌-◌, ◌<◌, ◌≤◌, Bool, true, false, cond, not, ◌&&◌, ◌||◌, List, [], ◌∷◌, ◌++◌, length, map, filter, zip, Option, Some, None, refl, sym, ap, ap₂, subst, ◌∙◌, arith, inl, inr, length-append}
use Rattle.std.specs.Prelude.{Contains, find, nat_le, nat_lt, ◌==◌}
use Rattle.std.specs.Option.{option_map_or}
use Rattle.std.specs.List.{AllByRecursion, list_all, list_any, slice_index_or}
use Rattle.std.proofs.lemmas.Bool.{and_parts, cases_Bool, false≢true}
use Rattle.std.proofs.lemmas.Bool.Decides.{nat_tests}
use Rattle.std.proofs.lemmas.List.Elements.{filter-append}
use Rattle.bf_base.specs.Lists.{with_before_from}
use Rattle.bf_tree.specs.Answered.{IsAllAnswered}
use Rattle.bf_tree.specs.declared.history.Entry.{Entry}
use Rattle.bf_tree.specs.declared.history.Outcome.{Outcome}
use Rattle.bf_tree.specs.declared.reply.Cause.{Cause}
use Rattle.bf_tree.specs.declared.reply.Cause.TheVariants.{Died}
use Rattle.bf_tree.specs.declared.reply.Reply.{Reply}
use Rattle.bf_tree.specs.declared.script.Script.{Script}
use Rattle.bf_tree.specs.declared.script.Session.{Session}
use Rattle.bf_tree.specs.declared.statement.Statement.{Statement}
use Rattle.bf_sql.specs.Database.{Database, empty_database}
use Rattle.bf_sql.specs.Groups.{ends_block, groups_in, has_statement, no_session, outcomes_from, session_at, statements_in, statements_of}
use Rattle.bf_sql.specs.History.{IsApart, IsLegalHistory, is_whole_group, may_precede, stands_in}
use Rattle.bf_sql.specs.migrations.Lazy.{sweep_of}
use Rattle.bf_machine.specs.InOrder.{IsRunInOrder, NoCause, entries_in_order, entry_of, groups_in_order, none_open}
use Rattle.bf_machine.specs.Movement.{sweep_told}
use Rattle.bf_machine.specs.interleaving.Calls.{HasSessionEnded, IsPlace}
use Rattle.bf_machine.specs.interleaving.Kept.{AllowedNow, IsKept}
use Rattle.bf_machine.specs.interleaving.Machines.{Began, Group, IsAmong, Machine, MayEnd, Open, open_at, told_at, transcripts_of, with_replies}
use Rattle.bf_machine.specs.interleaving.Serving.{IsInSequence, SessionsRiseFrom, deaths_at}
use Rattle.bf_machine.proofs.interleaving.Naming.{none_among}
use Rattle.bf_machine.proofs.interleaving.Answers.{Told, all_of_back, all_of_front, told_from, told_in}
use Rattle.bf_machine.proofs.interleaving.Entries.{any_of}
use Rattle.bf_machine.proofs.interleaving.Places.{from_one}
use Rattle.bf_machine.proofs.interleaving.Telling.{length-part}
use Rattle.bf_machine.proofs.interleaving.Texts.{are_texts, one_group}
use Rattle.bf_machine.proofs.served.Stuck.{group_place}
use Rattle.bf_machine.proofs.served.Swept.{sweep_is}
use Rattle.bf_machine.proofs.served.Whole.{IsBefore, Placed, Rises, in_placed, one_rising, placed_from, placed_in, placed_rise}

-- the group of an entry
abbrev pub placed : Entry → Placed
placed e = (e.session, (e.first, e.last))

-- a test that holds of some item
record Holds {X : Type 0} (p : X → Bool) (xs : List X) : Type 0 where
  pub item : X
  pub there : Contains xs item
  pub is : p item ≡ true

found_in : {X : Type 0} (p : X → Bool) (xs : List X) → list_any p xs ≡ true → Holds p xs
found_in p [] any = absurd (false≢true any)
found_in p (x ∷ xs) any = elim (cases_Bool (p x)) as (λ _. Holds p (x ∷ xs)) [
  | inl here ↦ record { item = x; there = (0, omega arith, refl); is = here }
  | inr out ↦
      let rest : list_any p xs ≡ true = rw out at any in
      let later = found_in p xs rest in
      record { item = later.item; there = (suc later.there.0, omega (arith, later.there.1), later.there.2); is = later.is }
]

each_of : {X : Type 0} (p : X → Bool) (xs : List X) → list_all p xs ≡ true → (x : X) → Contains xs x → p x ≡ true
each_of p [] all x there = absurd (omega (arith, there.1))
each_of p (y ∷ xs) all x (zero, within, is) = subst (λ (z : _). p z ≡ true) is (and_parts (p y) (list_all p xs) all).0
each_of p (y ∷ xs) all x (suc k, within, is) = each_of p xs (and_parts (p y) (list_all p xs) all).1 x (k, omega (arith, within), is)

-- of the replies to a session, the one at a place: where a test keeps it, what holds of all that are kept holds of it
told_there_in : (P : Told → Type 0) (p : Told → Bool) (k n : ℕ) (replies : List Reply) → AllByRecursion P (filter p (told_in k n replies)) → (j : ℕ) → n ≤ j → j < n + length replies
    → (r : Reply) × (p (k, j, r) ≡ true → P (k, j, r))
told_there_in P p k n [] all j from to = absurd (omega (arith, from, to))
told_there_in P p k n (r ∷ replies) all j from to = elim (cases_Bool (nat_le j n)) as (λ _. (r : Reply) × (p (k, j, r) ≡ true → P (k, j, r))) [
  | inl first ↦
      let here : j ≤ n = grind (arith, nat_tests, first) in
      let same : n ≡ j = omega (arith, here, from) in
      let own : p (k, n, r) ≡ true → P (k, n, r) = λ stays. (let both : AllByRecursion P ((k, n, r) ∷ filter p (told_in k (n + 1) replies)) = rw stays at all in both.0) in
      (r, subst (λ (i : ℕ). p (k, i, r) ≡ true → P (k, i, r)) same own)
  | inr later ↦
      let above : n < j = grind (arith, nat_tests, later) in
      let rest : AllByRecursion P (filter p (told_in k (n + 1) replies)) =
      elim (p (k, n, r)) as (λ b. AllByRecursion P (cond b ((k, n, r) ∷ filter p (told_in k (n + 1) replies)) (filter p (told_in k (n + 1) replies))) → AllByRecursion P (filter p (told_in k (n + 1) replies))) [ true ↦ λ h. h.1 | false ↦ λ h. h ] all in
      told_there_in P p k (n + 1) replies rest j (omega (arith, above)) (omega (arith, to))
]

-- of all replies, those to one session
told_there : (P : Told → Type 0) (p : Told → Bool) (k : ℕ) (told : List (List Reply)) → AllByRecursion P (filter p (told_from k told)) → (i j : ℕ) → 1 ≤ j → j ≤ length (slice_index_or told i [])
    → (r : Reply) × (p (k + i, j, r) ≡ true → P (k + i, j, r))
told_there P p k [] all i j from to = absurd (omega (arith, from, to))
told_there P p k (x ∷ told) all zero j from to =
    let split = rw filter-append at all in
    let here : k + 0 ≡ k = omega arith in
    rw here (told_there_in P p k 1 x (all_of_front P (filter p (told_in k 1 x)) _ split) j from (omega (arith, to)))
told_there P p k (x ∷ told) all (suc i) j from to =
    let split = rw filter-append at all in
    let next : k + 1 + i ≡ k + suc i = omega arith in
    let rest = told_there P p (k + 1) told (all_of_back P (filter p (told_in k 1 x)) _ split) i j from to in
    subst (λ (s : ℕ). (r : Reply) × (p (s, j, r) ≡ true → P (s, j, r))) next rest

in_longer : {X : Type 0} (xs ys : List X) (x : X) → Contains xs x → Contains (xs ++ ys) x
in_longer [] ys x there = absurd (omega (arith, there.1))
in_longer (y ∷ xs) ys x (zero, within, is) = (0, omega arith, is)
in_longer (y ∷ xs) ys x (suc k, within, is) = let rest = in_longer xs ys x (k, omega (arith, within), is) in (suc rest.0, omega (arith, rest.1), rest.2)

pub last_in : {X : Type 0} (xs : List X) (x : X) → Contains (xs ++ x ∷ []) x
last_in [] x = (0, omega arith, refl)
last_in (y ∷ xs) x = let rest = last_in xs x in (suc rest.0, omega (arith, rest.1), rest.2)

in_map : {X Y : Type 0} (f : X → Y) (xs : List X) (x : X) → Contains xs x → Contains (map f xs) (f x)
in_map f [] x there = absurd (omega (arith, there.1))
in_map f (y ∷ xs) x (zero, within, is) = (0, omega arith, ap f is)
in_map f (y ∷ xs) x (suc k, within, is) = let rest = in_map f xs x (k, omega (arith, within), is) in (suc rest.0, omega (arith, rest.1), rest.2)

of_map : {X Y : Type 0} (f : X → Y) (xs : List X) (y : Y) → Contains (map f xs) y → (x : X) × Contains xs x × (f x ≡ y)
of_map f [] y there = absurd (omega (arith, there.1))
of_map f (x ∷ xs) y (zero, within, is) = (x, (0, omega arith, refl), is)
of_map f (x ∷ xs) y (suc k, within, is) =
    let rest = of_map f xs y (k, omega (arith, within), is) in
    (rest.0, (suc rest.1.0, omega (arith, rest.1.1), rest.1.2), rest.2)

all_placed : (x : Entry) (es : List Entry) → ((e : Entry) → Contains es e → IsBefore (placed x) (placed e)) → AllByRecursion (IsBefore (placed x)) (map placed es)
all_placed x [] each = tt
all_placed x (e ∷ es) each = (each e (0, omega arith, refl), all_placed x es (λ d there. each d (suc there.0, omega (arith, there.1), there.2)))

entries_again : (es : List Entry) → map entry_of (zip (map placed es) (map (λ (e : Entry). e.outcome) es)) ≡ es
entries_again [] = refl
entries_again (e ∷ es) = ap (λ (rest : List Entry). e ∷ rest) (entries_again es)

texts_again : (script : Script) (es : List Entry) → map (statements_of script) es ≡ map (λ (group : Placed). statements_in script group.0 group.1) (map placed es)
texts_again script [] = refl
texts_again script (e ∷ es) = ap (λ (rest : List (List Statement)). statements_of script e ∷ rest) (texts_again script es)

-- what stands apart for a cause that cannot come is a stray
weaker : (script : Script) (Allowed : ℕ → Group → Cause → Type 0) (told : List (List Reply)) → ((s : ℕ) (group : Group) (cause : Cause) → Allowed s group cause → ⊥) → (xs : List Told)
    → AllByRecursion (IsApart script Allowed told) xs → AllByRecursion (IsApart script NoCause told) xs
weaker script Allowed told none [] all = tt
weaker script Allowed told none (x ∷ xs) all =
    (elim all.0 as (λ _. IsApart script NoCause told x) [ inl stray ↦ inl stray | inr caused ↦ absurd (none x.0 caused.0 caused.1 caused.3) ], weaker script Allowed told none xs all.1)

there_next : {X : Type 0} (none d : X) (xs : List X) (i : ℕ) → slice_index_or xs i d ≡ slice_index_or (none ∷ xs) (i + 1) d
there_next none d xs i =
    let next : i + 1 ≡ suc i = omega arith in
    rw next refl

lengths_are : (told : List (List Reply)) (sessions : List Session) → length told ≡ length sessions
    → ((i : ℕ) → i < length told → length (slice_index_or told i []) ≡ length (slice_index_or sessions i no_session).statements)
    → map (λ (t : List Reply). length t) told ≡ map (λ (s : Session). length s.statements) sessions
lengths_are [] [] same each = refl
lengths_are [] (s ∷ sessions) same each = absurd (omega (arith, same))
lengths_are (t ∷ told) [] same each = absurd (omega (arith, same))
lengths_are (t ∷ told) (s ∷ sessions) same each =
    ap₂ (λ (n : ℕ) (ns : List ℕ). n ∷ ns) (each 0 (omega arith)) (lengths_are told sessions (omega (arith, same)) (λ i within. each (suc i) (omega (arith, within))))

with_none : (told : List (List Reply)) (opens : List (Option Open)) → length told ≡ length opens → ((i : ℕ) → i < length opens → slice_index_or opens i None ≡ None)
    → map (λ (p : List Reply × Option Open). with_replies p.0 p.1) (zip told opens) ≡ told
with_none [] [] same each = refl
with_none [] (o ∷ opens) same each = absurd (omega (arith, same))
with_none (t ∷ told) [] same each = absurd (omega (arith, same))
with_none (t ∷ told) (o ∷ opens) same each =
    ap₂ (λ (x : List Reply) (xs : List (List Reply)). x ∷ xs) (ap (with_replies t) (each 0 (omega arith)))
    (with_none told opens (omega (arith, same)) (λ i within. each (suc i) (omega (arith, within))))

some_long : {X : Type 0} (p : X → Bool) (xs : List X) → list_any p xs ≡ true → 1 ≤ length xs
some_long p [] any = absurd (false≢true any)
some_long p (x ∷ xs) any = omega arith

some_find : (p : Group → Bool) (xs : List Group) (g : Group) → find p xs ≡ Some g → Contains xs g × (p g ≡ true)
some_find p [] g is = absurd cc
some_find p (x ∷ xs) g is = elim (cases_Bool (p x)) as (λ _. Contains (x ∷ xs) g × (p g ≡ true)) [
  | inl here ↦
      let e : Some x ≡ Some g = rw here at is in
      let same : x ≡ g = cc in
      ((0, omega arith, same), subst (λ (y : Group). p y ≡ true) same here)
  | inr other ↦
      let e : find p xs ≡ Some g = rw other at is in
      let later = some_find p xs g e in
      ((suc later.0.0, omega (arith, later.0.1), later.0.2), later.1)
]

none_is_open : (s j : ℕ) (gs : List Group) → list_any (λ (g : Group). none_open s g && has_statement j g) gs ≡ false
none_is_open s j [] = refl
none_is_open s j (g ∷ gs) = none_is_open s j gs

-- entries of which each may precede the later ones, and whose sessions rise, rise
sessions_above : (s : ℕ) (es : List Entry) → SessionsRiseFrom s es → (e : Entry) → Contains es e → s ≤ e.session
sessions_above s [] rise e there = absurd (omega (arith, there.1))
sessions_above s (x ∷ es) rise e (zero, within, is) = subst (λ (e : Entry). s ≤ e.session) is rise.0
sessions_above s (x ∷ es) rise e (suc k, within, is) = let later = sessions_above x.session es rise.1 e (k, omega (arith, within), is) in omega (arith, rise.0, later)

module _ (script : Script) where
  abbrev InTurn : List Entry → List Entry → Type 0
  InTurn seen es = list_all (λ (p : List Entry × Entry). list_all (λ (d : Entry). may_precede script d p.1) p.0) (with_before_from seen es) ≡ true

  -- one that was seen may precede each that comes
  precede : (seen es : List Entry) → InTurn seen es → (d e : Entry) → Contains seen d → Contains es e → may_precede script d e ≡ true
  precede seen [] turn d e there at = absurd (omega (arith, at.1))
  precede seen (x ∷ es) turn d e there (zero, within, is) =
      let parts = and_parts (list_all (λ (c : Entry). may_precede script c x) seen) _ turn in
      subst (λ (e : Entry). may_precede script d e ≡ true) is (each_of (λ (c : Entry). may_precede script c x) seen parts.0 d there)
  precede seen (x ∷ es) turn d e there (suc k, within, is) =
      let parts = and_parts (list_all (λ (c : Entry). may_precede script c x) seen) _ turn in
      precede (seen ++ x ∷ []) es parts.1 d e (in_longer seen (x ∷ []) d there) (k, omega (arith, within), is)

  before_of : (d e : Entry) → d.first ≤ d.last → d.session ≤ e.session → may_precede script d e ≡ true → IsBefore (placed d) (placed e)
  before_of d e within low may = elim (cases_Bool (d.session == e.session)) as (λ _. IsBefore (placed d) (placed e)) [
    | inr apart ↦
        let other : d.session ≢ e.session = grind (arith, nat_tests, apart) in
        inl (grind (arith, other, low))
    | inl same ↦
        let one : d.session ≡ e.session = grind (arith, nat_tests, same) in
        let parts = and_parts (not (d.session == e.session) || nat_lt d.last e.first) _ may in
        let ahead : d.last < e.first = grind (arith, nat_tests, parts.0, same) in
        inr (one, omega (arith, within, ahead))
  ]

  entries_rise : (seen es : List Entry) (s : ℕ) → InTurn seen es → SessionsRiseFrom s es → ((e : Entry) → Contains es e → e.first ≤ e.last) → Rises (map placed es)
  entries_rise seen [] s turn rise within = tt
  entries_rise seen (x ∷ es) s turn rise within =
      let parts = and_parts (list_all (λ (c : Entry). may_precede script c x) seen) _ turn in
      let all : (e : Entry) → Contains es e → IsBefore (placed x) (placed e) =
      λ e there. before_of x e (within x (0, omega arith, refl)) (sessions_above x.session es rise.1 e there) (precede (seen ++ x ∷ []) es parts.1 x e (last_in seen x) there) in
      (all_placed x es all, entries_rise (seen ++ x ∷ []) es x.session parts.1 rise.1 (λ e there. within e (suc there.0, omega (arith, there.1), there.2)))

  -- an entry is a group of its session
  pub group_of : (history : List Entry) → list_all (is_whole_group script) history ≡ true → (e : Entry) → Contains history e → Contains (groups_in script e.session) (e.first, e.last)
  group_of history whole e there =
      let found = found_in (λ (g : Group). e.first == g.0 && e.last == g.1) (groups_in script e.session) (each_of (is_whole_group script) history whole e there) in
      let parts = and_parts (e.first == found.item.0) (e.last == found.item.1) found.is in
      let one : e.first ≡ found.item.0 = grind (arith, nat_tests, parts.0) in
      let other : e.last ≡ found.item.1 = grind (arith, nat_tests, parts.1) in
      let same : ◌≡◌ {A = Group} (e.first, e.last) found.item = ap₂ (λ (a b : ℕ). (a, b)) one other in
      subst (Contains {X = Group} (groups_in script e.session)) (sym same) found.there

module _ {start : Database} (m : Machine) (kept : IsKept start m) where
  abbrev kept_apart : Told → Bool
  kept_apart a = not (list_any (stands_in a.0 a.1) m.history || list_any (λ (h : Group). none_open a.0 h && has_statement a.1 h) (groups_in m.script a.0))

  -- a reply that is told, where no entry has it
  told_apart : (s j : ℕ) → 1 ≤ s → 1 ≤ j → j ≤ length (told_at m s) → list_any (stands_in s j) m.history ≡ false
      → (r : Reply) × IsApart m.script (AllowedNow start m) m.told (s, j, r)
  told_apart s j low from to none =
      let told : slice_index_or m.told (s - 1) [] ≡ told_at m s = from_one [] [] m.told s low in
      let size : length (slice_index_or m.told (s - 1) []) ≡ length (told_at m s) = ap (λ (rs : List Reply). length rs) told in
      let back : 1 + (s - 1) ≡ s = omega (arith, low) in
      let P : Told → Type 0 = IsApart m.script (AllowedNow start m) m.told in
      let at = told_there P kept_apart 1 m.told kept.history_legal.legal.others (s - 1) j from (omega (arith, size, to)) in
      let here : kept_apart (s, j, at.0) ≡ true → P (s, j, at.0) = subst (λ (t : ℕ). kept_apart (t, j, at.0) ≡ true → P (t, j, at.0)) back at.1 in
      let stays : kept_apart (s, j, at.0) ≡ true = rw (none, none_is_open s j (groups_in m.script s)) refl in
      (at.0, here stays)

  -- no session is told more than it asks
  no_more_than : (s : ℕ) → 1 ≤ s → length (told_at m s) ≤ length (session_at m.script s).statements
  no_more_than s low = elim (cases_Bool (nat_le 1 (length (told_at m s)))) as (λ _. length (told_at m s) ≤ length (session_at m.script s).statements) [
    | inr nothing ↦ let less : length (told_at m s) < 1 = grind (arith, nat_tests, nothing) in omega (arith, less)
    | inl some ↦
        let from : 1 ≤ length (told_at m s) = grind (arith, nat_tests, some) in
        let j = length (told_at m s) in
        elim (cases_Bool (list_any (stands_in s j) m.history)) as (λ _. length (told_at m s) ≤ length (session_at m.script s).statements) [
          | inl entered ↦
              let found = found_in (stands_in s j) m.history entered in
              let e : Entry = found.item in
              let parts = and_parts (e.session == s) (has_statement j (e.first, e.last)) found.is in
              let own : e.session ≡ s = grind (arith, nat_tests, parts.0) in
              let sides = and_parts (nat_le e.first j) (nat_le j e.last) parts.1 in
              let to : j ≤ e.last = grind (arith, nat_tests, sides.1) in
              let theirs : Contains {X = Group} (groups_in m.script s) (e.first, e.last) =
              subst (λ (t : ℕ). Contains {X = Group} (groups_in m.script t) (e.first, e.last)) own (group_of m.script m.history kept.history_legal.legal.whole_groups e found.there) in
              let bounds = (are_texts m.script).bounds s (e.first, e.last) theirs in
              omega (arith, to, bounds.2)
          | inr none ↦
              let apart = told_apart s j low from (omega arith) none in
              elim apart.1 as (λ _. length (told_at m s) ≤ length (session_at m.script s).statements) [
                | inl stray ↦
                    let parts = and_parts (list_any ends_block (statements_in m.script s (j, j))) (not (list_any (has_statement j) (groups_in m.script s))) stray.0 in
                    let long = some_long ends_block (statements_in m.script s (j, j)) parts.0 in
                    omega (arith, long, from, length-part j j (session_at m.script s).statements)
                | inr caused ↦
                    let found = some_find (has_statement j) (groups_in m.script s) caused.0 caused.2 in
                    let bounds = (are_texts m.script).bounds s caused.0 found.0 in
                    let sides = and_parts (nat_le caused.0.0 j) (nat_le j caused.0.1) found.1 in
                    let to : j ≤ caused.0.1 = grind (arith, nat_tests, sides.1) in
                    omega (arith, to, bounds.2)
              ]
        ]
  ]

module _ {start : Database} (m : Machine) (kept : IsKept start m) (ended : (s : ℕ) → IsPlace m.script s → HasSessionEnded m s) where
  -- sessions that have ended have all their replies
  pub all_are_answered : IsAllAnswered m.script m.told
  all_are_answered =
      lengths_are m.told m.script.sessions kept.shaped.told
      (λ i within.
      let told : slice_index_or m.told i [] ≡ told_at m (i + 1) = there_next [] [] m.told i in
      let text : slice_index_or m.script.sessions i no_session ≡ session_at m.script (i + 1) = there_next no_session no_session m.script.sessions i in
      let most = no_more_than m kept (i + 1) (omega arith) in
      let done = (ended (i + 1) (omega arith, omega (arith, within, kept.shaped.told))).0 in
      let one : length (slice_index_or m.told i []) ≡ length (told_at m (i + 1)) = ap (λ (rs : List Reply). length rs) told in
      let other : length (slice_index_or m.script.sessions i no_session).statements ≡ length (session_at m.script (i + 1)).statements = ap (λ (x : Session). length x.statements) text in
      omega (arith, one, other, most, done))

  -- and none of them has an open group
  pub transcripts_are_told : transcripts_of m ≡ m.told
  transcripts_are_told = with_none m.told m.opens (kept.shaped.told ∙ sym kept.shaped.opens)
      (λ i within.
      let here : slice_index_or m.opens i None ≡ open_at m (i + 1) = there_next None None m.opens i in
      here ∙ (ended (i + 1) (omega arith, omega (arith, within, kept.shaped.opens))).1)

module _ (m : Machine) (kept : IsKept empty_database m) (sequence : IsInSequence empty_database m) (ended : (s : ℕ) → IsPlace m.script s → HasSessionEnded m s) where
  abbrev legal : IsLegalHistory m.script (AllowedNow empty_database m) none_open empty_database m.told m.history
  legal = kept.history_legal.legal

  -- nothing has a cause
  no_cause : (s : ℕ) (group : Group) (cause : Cause) → AllowedNow empty_database m s group cause → ⊥
  no_cause s group (Died h) allowed =
      let has = allowed.0.has in
      let alive : deaths_at m allowed.0.own ≡ has.deaths = ap (λ (found : Option Began). option_map_or (λ (b : Began). b.deaths) found []) has.is in
      let size : length (allowed.1 ++ h ∷ []) ≡ 0 = ap (λ (ds : List ℕ). length ds) (sym allowed.2 ∙ (sym alive ∙ sequence.no_death allowed.0.own)) in
      omega (arith, size, length-append allowed.1 (h ∷ []))
  no_cause s group other allowed = none_among (record { session = s; group = group; cause = other }) (subst (λ (may_end : MayEnd). IsAmong may_end (record { session = s; group = group; cause = other })) sequence.unlogged allowed)

  -- each group of the text has its entry
  in_history : (s : ℕ) (g : Group) → IsPlace m.script s → Contains (groups_in m.script s) g → Contains {X = Placed} (map placed m.history) (s, g)
  in_history s g place whole = elim (cases_Bool (list_any (stands_in s g.0) m.history)) as (λ _. Contains {X = Placed} (map placed m.history) (s, g)) [
    | inl some ↦
        let found = found_in (stands_in s g.0) m.history some in
        let e : Entry = found.item in
        let parts = and_parts (e.session == s) (has_statement g.0 (e.first, e.last)) found.is in
        let own : e.session ≡ s = grind (arith, nat_tests, parts.0) in
        let sides = and_parts (nat_le e.first g.0) (nat_le g.0 e.last) parts.1 in
        let from : e.first ≤ g.0 = grind (arith, nat_tests, sides.0) in
        let to : g.0 ≤ e.last = grind (arith, nat_tests, sides.1) in
        let bounds = (are_texts m.script).bounds s g whole in
        let theirs : Contains {X = Group} (groups_in m.script s) (e.first, e.last) = subst (λ (t : ℕ). Contains {X = Group} (groups_in m.script t) (e.first, e.last)) own (group_of m.script m.history legal.whole_groups e found.there) in
        let same : ◌≡◌ {A = Group} (e.first, e.last) g = one_group m.script s (e.first, e.last) g theirs whole g.0 from to (omega arith) bounds.1 in
        let it : ◌≡◌ {A = Placed} (placed e) (s, g) = ap₂ (λ (t : ℕ) (h : Group). (t, h)) own same in
        subst (Contains {X = Placed} (map placed m.history)) it (in_map placed m.history e found.there)
    | inr none ↦ absurd (apart none)
  ]
    where
      apart : list_any (stands_in s g.0) m.history ≡ false → ⊥
      apart none =
          let bounds = (are_texts m.script).bounds s g whole in
          let told = told_apart m kept s g.0 place.0 bounds.0 (omega (arith, bounds.1, bounds.2, (ended s place).0)) none in
          elim told.1 as (λ _. ⊥) [
            | inl stray ↦
                let parts = and_parts (list_any ends_block (statements_in m.script s (g.0, g.0))) (not (list_any (has_statement g.0) (groups_in m.script s))) stray.0 in
                let has : has_statement g.0 g ≡ true = grind (arith, nat_tests, bounds.1) in
                let there : list_any (has_statement g.0) (groups_in m.script s) ≡ true = any_of (has_statement g.0) (groups_in m.script s) g whole has in
                let both : false ≡ true = ap not (sym there) ∙ parts.1 in
                false≢true both
            | inr caused ↦ no_cause s caused.0 caused.1 caused.3
          ]

  groups_are : map placed m.history ≡ groups_in_order m.script
  groups_are =
      one_rising (map placed m.history) (placed_from m.script 1 (length m.script.sessions))
      (entries_rise m.script [] m.history 1 legal.in_order sequence.rises
      (λ e there. let bounds = (are_texts m.script).bounds e.session (e.first, e.last) (group_of m.script m.history legal.whole_groups e there) in bounds.1))
      (placed_rise m.script (length m.script.sessions) 1)
      (λ x there.
      let from = of_map placed m.history x there in
      let whole = group_of m.script m.history legal.whole_groups from.0 from.1 in
      let place = group_place m kept (are_texts m.script) from.0.session (from.0.first, from.0.last) whole in
      subst (Contains {X = Placed} (placed_from m.script 1 (length m.script.sessions))) from.2
      (in_placed m.script (length m.script.sessions) 1 from.0.session (from.0.first, from.0.last) place.0 (omega (arith, place.1)) whole))
      (λ x there.
      let at = placed_in m.script (length m.script.sessions) 1 x there in
      in_history x.0 x.1 (at.0, omega (arith, at.1)) at.2)

  pub entries_are : m.history ≡ entries_in_order m.script
  entries_are =
      sym (entries_again m.history)
      ∙ (ap (λ (os : List Outcome). map entry_of (zip (map placed m.history) os)) (legal.outcomes ∙ ap (outcomes_from 1) (texts_again m.script m.history))
      ∙ ap (λ (gs : List Placed). map entry_of (zip gs (outcomes_from 1 (map (λ (group : Placed). statements_in m.script group.0 group.1) gs)))) groups_are)

  legal_without_cause : IsLegalHistory m.script NoCause none_open empty_database m.told m.history
  legal_without_cause = record {
    whole_groups = legal.whole_groups;
    in_order = legal.in_order;
    outcomes = legal.outcomes;
    replies = legal.replies;
    others = weaker m.script (AllowedNow empty_database m) m.told no_cause _ legal.others;
  }

  pub ran_in_order : IsRunInOrder m.script (transcripts_of m) m.history (sweep_of m.lazy.last)
  ran_in_order = record {
    history_legal = subst (λ (ts : List (List Reply)). IsLegalHistory m.script NoCause none_open empty_database ts m.history) (sym (transcripts_are_told m kept ended)) legal_without_cause;
    all_answered = subst (IsAllAnswered m.script) (sym (transcripts_are_told m kept ended)) (all_are_answered m kept ended);
    entries_are_in_order = entries_are;
    moves_only_needed = sweep_is m.lazy.live m.lazy.last kept.store_valid.seen_as.lazy_state.last ∙ ap sweep_told sequence.moved;
  }
