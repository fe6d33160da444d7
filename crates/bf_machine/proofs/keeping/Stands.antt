-- Where a session stands, by the fields of the machine.
use Rattle.std.proofs.Common.{◌≡◌, ◌≢◌, ℕ, zero, suc, ◌+◌, ◌-◌, ◌^◌, ◌<◌, ◌≤◌, Bool, true, false, List, [], ◌∷◌, ◌++◌, length, map, drop, take, Option, Some, None, refl, sym, ap, ap₂, subst, ◌∙◌, arith, inl, inr, option_map}
use Rattle.std.specs.Prelude.{Contains, IfSome, is_some, nat_lt, slice_get, slice_index_or}
use Rattle.std.proofs.lemmas.Bool.{cases_Bool, false≢true}
use Rattle.std.proofs.lemmas.Bool.Decides.{nat_tests}
use Rattle.std.specs.Global.{Vec}
use Rattle.std.proofs.lemmas.List.{drop_more, length-append, length-map, take-append-drop}
use Rattle.bf_locks.specs.Locks.{Locks}
use Rattle.bf_tree.specs.declared.history.Entry.{Entry}
use Rattle.bf_tree.specs.declared.reply.Reply.{Reply}
use Rattle.bf_tree.specs.declared.script.Script.{Script}
use Rattle.bf_tree.specs.declared.script.Session.{Session}
use Rattle.bf_tree.specs.declared.statement.Statement.{Statement}
use Rattle.bf_tree.specs.declared.statement.Statement.TheVariants.{Begin, Commit, Rollback}
use Rattle.bf_sql.specs.Database.{Database}
use Rattle.bf_sql.specs.Groups.{ends_block, groups_in, no_session, session_at}
use Rattle.bf_image.specs.Registries.{Registry}
use Rattle.bf_store.specs.Stores.{Store}
use Rattle.bf_machine.specs.declared.so_far.Began.{Began as BeganGroup}
use Rattle.bf_machine.specs.declared.so_far.OpenGroup.{OpenGroup}
use Rattle.bf_machine.specs.declared.so_far.SessionSoFar.{SessionSoFar}
use Rattle.bf_machine.specs.interleaving.Calls.{CanAbort, CanBegin, CanCommit, CanRefuse, GoesOn, HasSessionEnded, IsNamed, IsPlace, replies_at}
use Rattle.bf_machine.specs.interleaving.Kept.{IsCurrent, IsKept, IsOpenGroup}
use Rattle.bf_machine.specs.interleaving.Machines.{Began, Group, Machine, Open, began_at, open_at, told_at, with_replies}
use Rattle.bf_machine.specs.interleaving.Seen.{IsRoomy, IsSound, began_seen, group_seen, open_seen, seen, told_before, told_seen}
use Rattle.bf_machine.proofs.interleaving.Texts.{are_texts}
use Rattle.bf_machine.proofs.keeping.Current.{closed_seen, has_ended, has_ended_so}
use Rattle.bf_machine.proofs.keeping.Places.{open_there, told_there}
use Rattle.bf_machine.proofs.keeping.Sessions.{replies_joined}
use Rattle.bf_machine.proofs.keeping.Standing.{abort_end, abort_next, began_within, begins_behind, begins_first, begins_other, begins_unnamed, commit_end, commit_next, goes_on_next, group_next, last_split, named_place, named_within, none_last, refuse_next, waits_for}

-- an item of a list is read whatever stands for one that is not there
pub item_is : {X : Type 0} (xs : List X) (i : ℕ) (x d : X) → i < length xs → slice_index_or xs i x ≡ x → slice_index_or xs i d ≡ x
item_is [] i x d below at = absurd (omega (arith, below))
item_is (y ∷ xs) zero x d below at = at
item_is (y ∷ xs) (suc i) x d below at = item_is xs i x d (omega (arith, below)) at

-- and the rest of the list begins with it
pub rest_from : {X : Type 0} (xs : List X) (i : ℕ) (x : X) → i < length xs → slice_index_or xs i x ≡ x → drop i xs ≡ x ∷ drop (i + 1) xs
rest_from xs i x below at = drop_more xs i x below ∙ ap (λ y. y ∷ drop (i + 1) xs) at

pub session_there : (script : Script) (s : ℕ) (x : Session) → 1 ≤ s → s ≤ length script.sessions → slice_index_or script.sessions (s - 1) x ≡ x
    → session_at script s ≡ x
session_there script zero x low high at = absurd (omega (arith, low))
session_there script (suc s) x low high at =
    let here : suc s - 1 ≡ s = omega arith in
    item_is script.sessions s x no_session (omega (arith, high)) (rw here at at)

-- a statement of a session, as the code reads it
pub statement_there : {read own : List Statement} {i n : ℕ} {statement : Statement} → read ≡ own → i ≡ n
    → statement ≡ slice_index_or read i statement → slice_index_or own n statement ≡ statement
statement_there {statement = statement} all place is = sym (is ∙ ap₂ (λ (ss : List Statement) (k : ℕ). slice_index_or ss k statement) all place)

-- a group that has begun, by its start number
pub began_there : (began : List BeganGroup) (n : ℕ) (b : BeganGroup) → 1 ≤ n → n ≤ length began → slice_index_or began (n - 1) b ≡ b
    → began_at (map began_seen began) n ≡ Some (began_seen b)
began_there began zero b low high at = absurd (omega (arith, low))
began_there began (suc n) b low high at =
    let here : suc n - 1 ≡ n = omega arith in
    some_there began n b (omega (arith, high)) (rw here at at)
  where
    some_there : (began : List BeganGroup) (n : ℕ) (b : BeganGroup) → n < length began → slice_index_or began n b ≡ b
        → slice_index_or (map Some (map began_seen began)) n None ≡ Some (began_seen b)
    some_there [] n b below at = absurd (omega (arith, below))
    some_there (c ∷ began) zero b below at = ap (λ (x : BeganGroup). Some (began_seen x)) at
    some_there (c ∷ began) (suc n) b below at = some_there began n b (omega (arith, below)) at

-- A SESSION at its place, in the fields of a machine, and the machine as it is seen
pub record IsThere (opening : Database) (registry : Registry) (given : Script) (logged : Bool) (script : Script) (retries : ℕ) (store : Store) (locks : Locks) (began : List BeganGroup)
    (sessions : List SessionSoFar) (history : Vec Entry) (commits : ℕ) (transcripts : Vec (List Reply))
    (now : Machine) (s : ℕ) (x : SessionSoFar) : Type 0 where
  pub sound : IsSound opening registry given logged script retries store locks began sessions history commits transcripts
  pub view : seen logged script retries store locks began sessions history.items ≡ now
  pub place : IsPlace now.script s
  pub is : x ≡ slice_index_or sessions (s - 1) x

pub is_there : {opening : Database} {registry : Registry} {given : Script} {logged : Bool} {script : Script} {retries : ℕ} {store : Store} {locks : Locks} {began : List BeganGroup}
    {sessions : List SessionSoFar} {history : Vec Entry} {commits : ℕ} {transcripts : Vec (List Reply)}
    {now : Machine} {s : ℕ} {x : SessionSoFar}
    → IsSound opening registry given logged script retries store locks began sessions history commits transcripts → seen logged script retries store locks began sessions history.items ≡ now
    → IsPlace now.script s
    → x ≡ slice_index_or sessions (s - 1) x → IsThere opening registry given logged script retries store locks began sessions history commits transcripts now s x
is_there sound view place is = record { sound = sound; view = view; place = place; is = is }

module _ {opening : Database} {registry : Registry} {given : Script} {logged : Bool} {script : Script} {retries : ℕ} {store : Store} {locks : Locks} {began : List BeganGroup}
    {sessions : List SessionSoFar} {history : Vec Entry} {commits : ℕ} {transcripts : Vec (List Reply)}
    {now : Machine} {s : ℕ} {x : SessionSoFar} (session : IsThere opening registry given logged script retries store locks began sessions history commits transcripts now s x) where
  abbrev m : Machine
  m = seen logged script retries store locks began sessions history.items

  abbrev own : List Statement
  own = (session_at now.script s).statements

  kept : IsKept opening now
  kept = subst (IsKept opening) session.view session.sound.kept

  began_is : map began_seen began ≡ now.began
  began_is = ap (λ (m : Machine). m.began) session.view

  began_count : length now.began ≡ length began
  began_count = ap (λ (bs : List Began). length bs) (sym began_is) ∙ length-map began began_seen

  low : 1 ≤ s
  low = session.place.0

  sizes : length now.script.sessions ≡ length sessions
  sizes = sym (subst (λ (n : Machine). length m.opens ≡ length n.script.sessions) session.view session.sound.kept.shaped.opens) ∙ length-map sessions open_seen

  high : s ≤ length sessions
  high = omega (arith, session.place.1, sizes)

  at : slice_index_or sessions (s - 1) x ≡ x
  at = sym session.is

  room : IsRoomy now.script now.began s x
  room =
      let next : s - 1 + 1 ≡ s = omega (arith, low) in
      let roomy : IsRoomy script (map began_seen began) (s - 1 + 1) x = session.sound.roomy (s - 1) x (omega (arith, low, high)) at in
      subst (λ (m : Machine). IsRoomy m.script m.began s x) session.view (subst (λ (t : ℕ). IsRoomy script (map began_seen began) t x) next roomy)

  -- what is seen of it
  opened : open_at now s ≡ open_seen x
  opened = subst (λ (m : Machine). open_at m s ≡ open_seen x) session.view (open_there logged script retries store locks began sessions history.items x s low high at)

  pub told : told_at now s ≡ told_seen x
  told = subst (λ (m : Machine). told_at m s ≡ told_seen x) session.view (told_there logged script retries store locks began sessions history.items x s low high at)

  pub all_replies_there : replies_at now s ≡ x.replies.items
  all_replies_there = ap₂ (λ (rs : List Reply) (o : Option Open). with_replies rs o) told opened ∙ replies_joined x.replies.items x.«open»

  -- its statements, as the code reads them
  pub own_there : {xs : List Session} {y : Session} {ss : List Statement} → xs ≡ script.sessions → y ≡ slice_index_or xs (s - 1) y
      → ss ≡ (slice_index_or xs (s - 1) y).statements → ss ≡ own
  own_there {y = y} all is text =
      let scripts : script.sessions ≡ now.script.sessions = ap (λ (m : Machine). m.script.sessions) session.view in
      let here : slice_index_or now.script.sessions (s - 1) y ≡ y =
      sym (is ∙ ap (λ (ys : List Session). slice_index_or ys (s - 1) y) (all ∙ scripts)) in
      text ∙ ap (λ (y : Session). y.statements) (sym is ∙ sym (session_there now.script s y low session.place.1 here))

  -- they have numbers
  pub numbers : length own < 2 ^ 32
  numbers = room.numbers

  -- with an open group
  module _ (g : OpenGroup) (is : x.«open» ≡ Some g) where
    abbrev o : Open
    o = group_seen x.replies.items g

    open_is : open_at now s ≡ Some o
    open_is = opened ∙ ap (option_map (group_seen x.replies.items)) is

    group : IsOpenGroup opening now s o
    group = kept.open_groups_replay.each s o open_is

    counts : length (told_at now s) + length o.replies ≡ length x.replies.items
    counts =
        let before : told_at now s ≡ take (g.first - 1) x.replies.items = told ∙ ap (told_before x.replies.items) is in
        let all : told_at now s ++ o.replies ≡ x.replies.items =
        ap (λ (rs : List Reply). rs ++ o.replies) before ∙ take-append-drop (g.first - 1) x.replies.items in
        sym (length-append (told_at now s) o.replies) ∙ ap (λ (rs : List Reply). length rs) all

    so_many : length x.replies.items + 1 ≡ g.first + length o.replies
    so_many = omega (arith, counts, group.next)

    pub bounds : (1 ≤ g.first) × (g.first ≤ g.last) × (g.last ≤ length own)
    bounds = (are_texts now.script).bounds s o.group group.whole

    first_within : g.first ≤ length x.replies.items + 1
    first_within = omega (arith, counts, group.next)

  -- it begins within the replies
  pub well_opened : IfSome x.«open» (λ group. (1 ≤ group.first) × (group.first ≤ length x.replies.items + 1))
  well_opened = by x.«open» refl
    where
      by : (o : Option OpenGroup) → x.«open» ≡ o → IfSome o (λ group. (1 ≤ group.first) × (group.first ≤ length x.replies.items + 1))
      by None is = tt
      by (Some g) is = ((bounds g is).0, first_within g is)

  pub some_open : is_some x.«open» ≡ true → is_some (open_at now s) ≡ true
  some_open is = ap is_some opened ∙ by x.«open» is
    where
      by : (o : Option OpenGroup) → is_some o ≡ true → is_some (option_map (group_seen x.replies.items) o) ≡ true
      by None is = absurd (false≢true is)
      by (Some o) is = refl

  -- or with none
  pub none_open : is_some x.«open» ≡ false → open_at now s ≡ None
  none_open none = opened ∙ by x.«open» none
    where
      by : (o : Option OpenGroup) → is_some o ≡ false → option_map (group_seen x.replies.items) o ≡ None
      by None is = refl
      by (Some o) is = absurd (false≢true (sym is))

  -- it has ended only where it is read so
  pub not_ended : (y : Session) → y.statements ≡ own → has_ended y x ≡ false → HasSessionEnded now s → ⊥
  not_ended y same not_yet is =
      let full : length y.statements ≤ length (told_seen x) =
      subst (λ (ss : List Statement). length ss ≤ length (told_seen x)) (sym same) (subst (λ (rs : List Reply). length own ≤ length rs) told is.0) in
      false≢true (sym not_yet ∙ has_ended_so y x (full, sym opened ∙ is.1))

  pub some_left : (y : Session) → y.statements ≡ own → has_ended y x ≡ false → is_some x.«open» ≡ false → length (told_at now s) < length own
  some_left y same not_yet none = elim (cases_Bool (nat_lt (length (told_at now s)) (length own))) as (λ _. length (told_at now s) < length own) [
    | inl low ↦ grind (arith, nat_tests, low)
    | inr high ↦
        let full : length own ≤ length (told_at now s) = grind (arith, nat_tests, high) in
        absurd (not_ended y same not_yet (full, none_open none))
  ]

  module _ (current : IsCurrent now s) where
    -- IN A GROUP: at a statement
    module _ (g : OpenGroup) (is : x.«open» ≡ Some g) {statement : Statement} where
      module _ (less : length x.replies.items < g.last) (here : slice_index_or own (length x.replies.items) statement ≡ statement) where
        left : drop (length x.replies.items) own ≡ statement ∷ drop (length x.replies.items + 1) own
        left = rest_from own (length x.replies.items) statement (omega (arith, less, (bounds g is).2)) here

        pub commit_here : statement ≡ Commit → CanCommit now s
        commit_here = commit_next opening now kept s current (o g is) (open_is g is) (length x.replies.items) (so_many g is) statement _ less left

        pub abort_here : statement ≡ Rollback → CanAbort now s
        abort_here = abort_next opening now kept s current (o g is) (open_is g is) (length x.replies.items) (so_many g is) statement _ less left

        pub goes_on_here : ends_block statement ≡ false → GoesOn now s (length x.replies.items + 1)
        goes_on_here = goes_on_next opening now kept s current (o g is) (open_is g is) (length x.replies.items) (so_many g is) statement _ less left

      -- or at its end
      module _ (full : g.last ≤ length x.replies.items) (here : slice_index_or own (g.first - 1) statement ≡ statement) where
        begins : drop (g.first - 1) own ≡ statement ∷ drop (g.first - 1 + 1) own
        begins = rest_from own (g.first - 1) statement (omega (arith, bounds g is)) here

        pub commit_at_end : (statement ≡ Begin → ⊥) → CanCommit now s
        commit_at_end = commit_end opening now kept s current (o g is) (open_is g is) (length x.replies.items) (so_many g is) statement _ full begins

        pub abort_at_end : statement ≡ Begin → CanAbort now s
        abort_at_end = abort_end opening now kept s current (o g is) (open_is g is) (length x.replies.items) (so_many g is) statement _ full begins

    module _ (closed : open_at now s ≡ None) where
      pub told_count : length x.replies.items ≡ length (told_at now s)
      told_count =
          let none : x.«open» ≡ None = closed_seen x (sym opened ∙ closed) in
          ap (λ (rs : List Reply). length rs) (sym (told ∙ ap (told_before x.replies.items) none))

      -- BETWEEN GROUPS
      module _ {statement : Statement} (below : length x.replies.items < length own) (here : slice_index_or own (length x.replies.items) statement ≡ statement) where
        rest : drop (length (told_at now s)) own ≡ statement ∷ drop (length x.replies.items + 1) own
        rest = ap (λ (n : ℕ). drop n own) (sym told_count) ∙ rest_from own (length x.replies.items) statement below here

        pub refuse_here : ends_block statement ≡ true → CanRefuse now s
        refuse_here = refuse_next opening now kept s current closed statement _ rest session.place

        pub group_here : ends_block statement ≡ false → (g : Group) × Contains (groups_in now.script s) g × (g.0 ≡ length (told_at now s) + 1)
        group_here = group_next opening now kept s current closed statement _ rest

      -- BEFORE A GROUP
      module _ (next : (g : Group) × Contains (groups_in now.script s) g × (g.0 ≡ length (told_at now s) + 1)) where
        pub begin_first : x.latest ≡ 0 → CanBegin now s
        begin_first = begins_first opening now kept s current closed next.0 next.1 next.2 x.latest room.latest

        module _ (some : 0 < x.latest) where
          pub latest_within : x.latest ≤ length began
          latest_within = omega (arith, (began_within now.began x.latest _ (room.latest.has some).1.is).1, began_count)

          module _ {b : BeganGroup} (b_at : b ≡ slice_index_or began (x.latest - 1) b) where
            b_is : began_at now.began x.latest ≡ Some (began_seen b)
            b_is = ap (λ (bs : List Began). began_at bs x.latest) (sym began_is) ∙ began_there began x.latest b (omega (arith, some)) latest_within (sym b_at)

            pub begin_other : b.first ≢ length x.replies.items + 1 → CanBegin now s
            begin_other other =
                begins_other opening now kept s current closed next.0 next.1 next.2 x.latest room.latest some (began_seen b) b_is
                (λ same. other (same ∙ ap (λ (n : ℕ). n + 1) (sym told_count)))

            module _ (again : b.first ≡ length x.replies.items + 1) where
              again_so : b.first ≡ length (told_at now s) + 1
              again_so = again ∙ ap (λ (n : ℕ). n + 1) told_count

              pub begin_unnamed : slice_get b.deaths.items (length b.deaths.items - 1) ≡ None → CanBegin now s
              begin_unnamed none =
                  begins_unnamed opening now kept s current closed next.0 next.1 next.2 x.latest room.latest some (began_seen b) b_is again_so (none_last b.deaths.items none)

              module _ {h : ℕ} (last : slice_get b.deaths.items (length b.deaths.items - 1) ≡ Some h) where
                split : (before : List ℕ) × (b.deaths.items ≡ before ++ h ∷ [])
                split = last_split b.deaths.items h last

                pub named_start : (1 ≤ h) × (h ≤ length began)
                named_start =
                    let within = named_within opening now kept s current closed next.0 next.1 next.2 x.latest room.latest some (began_seen b) b_is again_so split.0 h split.1 in
                    (within.0, omega (arith, within.1, began_count))

                module _ {n : BeganGroup} (n_at : n ≡ slice_index_or began (h - 1) n) where
                  n_is : began_at now.began h ≡ Some (began_seen n)
                  n_is = ap (λ (bs : List Began). began_at bs h) (sym began_is) ∙ began_there began h n named_start.0 named_start.1 (sym n_at)

                  pub named_session : IsPlace now.script n.session
                  named_session = named_place opening now kept s current closed next.0 next.1 next.2 x.latest room.latest some (began_seen b) b_is again_so split.0 h split.1 (began_seen n) n_is

                  pub named_within_sessions : n.session ≤ length sessions
                  named_within_sessions = omega (arith, named_session.1, sizes)

                  module _ (z : SessionSoFar) (z_told : told_at now n.session ≡ told_seen z) where
                    pub begin_behind : n.first ≤ length (told_seen z) → CanBegin now s
                    begin_behind ended =
                        begins_behind opening now kept s current closed next.0 next.1 next.2 x.latest room.latest some (began_seen b) b_is again_so split.0 h split.1 (began_seen n) n_is
                        (subst (λ (rs : List Reply). n.first ≤ length rs) (sym z_told) ended)

                    pub wait_for : length (told_seen z) < n.first → IsNamed now s h
                    wait_for goes_on =
                        waits_for opening now kept s current closed next.0 next.1 next.2 x.latest room.latest some (began_seen b) b_is again_so split.0 h split.1 (began_seen n) n_is
                        (subst (λ (rs : List Reply). length rs < n.first) (sym z_told) goes_on)
