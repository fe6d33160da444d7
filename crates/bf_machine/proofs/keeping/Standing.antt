-- Where a session stands: what the event of its next call is, where one can come.
use Rattle.std.proofs.Common.{◌≡◌, ◌≢◌, ◌⊎◌, ℕ, zero, suc, ◌+◌, ◌-◌, ◌<◌, ◌≤◌, Bool, true, false, not, List, [], ◌∷◌, ◌++◌, length, map, drop, take, Some, None, refl, sym, ap, subst, ◌∙◌, arith, inl, inr}
use Rattle.std.specs.Prelude.{Contains, nat_le, nat_lt, slice_get, slice_set}
use Rattle.std.specs.List.{list_any, slice_index_or}
use Rattle.std.proofs.Math.Seq.{get_or-append_seam}
use Rattle.std.proofs.lemmas.Bool.{and_from, cases_Bool, false≢true, or_left}
use Rattle.std.proofs.lemmas.Bool.Decides.{nat_tests}
use Rattle.std.proofs.lemmas.List.{drop-drop, drop-take, drop_all, length-append}
use Rattle.std.proofs.lemmas.Option.{same_Some}
use Rattle.bf_locks.specs.Locks.{Locks}
use Rattle.bf_tree.specs.declared.reply.Refusal.TheVariants.{NoTransaction}
use Rattle.bf_tree.specs.declared.reply.Reply.{Reply}
use Rattle.bf_tree.specs.declared.reply.Reply.TheVariants as reply
use Rattle.bf_tree.specs.declared.script.Script.{Script}
use Rattle.bf_tree.specs.declared.script.Session.{Session}
use Rattle.bf_tree.specs.declared.statement.Statement.{Statement}
use Rattle.bf_tree.specs.declared.statement.Statement.TheVariants.{Begin, Commit, Rollback}
use Rattle.bf_sql.specs.Database.{Database}
use Rattle.bf_sql.specs.Meaning.{executed}
use Rattle.bf_sql.specs.Groups.{commits as commits_text, ends_block, groups_in, groups_of, has_statement, last_is_commit, no_session, session_at, statements_in}
use Rattle.bf_live.specs.OpenGroups.{Answered, Replays}
use Rattle.bf_txn.specs.declared.write.Write.{Write}
use Rattle.bf_machine.specs.interleaving.Calls.{CanAbort, CanBegin, CanCommit, CanRefuse, GoesOn, IsNamed, IsPlace}
use Rattle.bf_machine.specs.interleaving.Events.{LastHasEnded, begun, begun_again, rest_of, rolled_back, text_of}
use Rattle.bf_machine.specs.interleaving.Groups.{Flip, HasRun, IsSchemaStep, NewIndex, NewTable, Nothing, Pending, Rows, answered_by}
use Rattle.bf_machine.specs.interleaving.Kept.{HasStart, IsCurrent, IsKept, IsOpenGroup}
use Rattle.bf_machine.specs.interleaving.Machines.{Began, Group, Machine, Open, began_at, open_at, told_at}
use Rattle.bf_machine.specs.interleaving.Seen.{IsLatest}
use Rattle.bf_machine.proofs.interleaving.Places.{there_in}
use Rattle.bf_machine.proofs.interleaving.Telling.{length-part}
use Rattle.bf_machine.proofs.interleaving.Texts.{are_texts, one_first}
use Rattle.bf_machine.proofs.keeping.Ends.{ends_once, first_goes_on, has_group}
use Rattle.bf_machine.proofs.keeping.Told.{told_whole}

-- a COMMIT has no reply while its group is open: the number of the commit would be any
committed_reply : (db : Database) (r : Reply) (after : Database) → ((commit : ℕ) → executed commit db true Commit ≡ (r, after)) → ⊥
committed_reply db r after meant =
    let zero_is : reply.Committed 0 ≡ r = ap (λ (t : Reply × Database). t.0) (meant 0) in
    let one_is : reply.Committed 1 ≡ r = ap (λ (t : Reply × Database). t.0) (meant 1) in
    let same : reply.Committed 0 ≡ reply.Committed 1 = zero_is ∙ sym one_is in
    let numbers : ◌≡◌ {A = ℕ} 0 1 = cc in
    omega (arith, numbers)

module _ (locks : Locks) (owner : ℕ) (db : Database) where
  not_replayed : (before after : List Write) (rs : List Reply) (ss : List Statement) → length ss ≤ length rs
      → Replays locks owner db before (answered_by true rs ss) after → last_is_commit ss ≡ false
  not_replayed before after rs [] within run = refl
  not_replayed before after [] (s ∷ ss) within run = absurd (omega (arith, within))
  not_replayed before after (r ∷ rs) (Commit ∷ []) within (bound, next, is, holds, step, run) = absurd (committed_reply _ r _ step.meant)
  not_replayed before after (r ∷ rs) (s ∷ []) within run = refl
  not_replayed before after (r ∷ rs) (s ∷ t ∷ ss) within (bound, next, is, holds, step, run) = not_replayed next after rs (t ∷ ss) (omega (arith, within)) run

  schema_alone : (change : Pending) (r : Reply) (rs : List Reply) (ss : List Statement) → length ss ≤ length rs
      → IsSchemaStep locks owner db (answered_by false (r ∷ rs) (Begin ∷ ss)) change → last_is_commit ss ≡ false
  schema_alone change r rs [] within run = refl
  schema_alone change r [] (s ∷ ss) within run = absurd (omega (arith, within))
  schema_alone change r (q ∷ rs) (s ∷ ss) within run = absurd (let sizes = ap (λ (more : List Answered). length more) run.alone in omega (arith, sizes))

  -- so a block that has all its replies while it is open does not commit
  not_committed : (p : Pending) (rs : List Reply) (ss : List Statement) → suc (length ss) ≤ length rs
      → HasRun locks owner db (answered_by false rs (Begin ∷ ss)) p → last_is_commit ss ≡ false
  not_committed p [] ss within run = absurd (omega (arith, within))
  not_committed (Rows writes) (r ∷ rs) ss within (bound, next, is, holds, step, run) = not_replayed next writes rs ss (omega (arith, within)) run
  not_committed (NewTable table) (r ∷ rs) ss within run = schema_alone (NewTable table) r rs ss (omega (arith, within)) run
  not_committed (NewIndex index) (r ∷ rs) ss within run = schema_alone (NewIndex index) r rs ss (omega (arith, within)) run
  not_committed (Flip plan) (r ∷ rs) ss within run = schema_alone (Flip plan) r rs ss (omega (arith, within)) run
  not_committed Nothing (r ∷ rs) ss within run = schema_alone Nothing r rs ss (omega (arith, within)) run

-- what is not BEGIN commits
commits_alone : (s : Statement) (ss : List Statement) → (s ≡ Begin → ⊥) → commits_text (s ∷ ss) ≡ true
commits_alone Begin ss other = absurd (other refl)
commits_alone s ss other = refl

-- what is no COMMIT or ROLLBACK ends no block
pub ends_none : (s : Statement) → (s ≡ Commit → ⊥) → (s ≡ Rollback → ⊥) → ends_block s ≡ false
ends_none Commit commit rollback = absurd (commit refl)
ends_none Rollback commit rollback = absurd (rollback refl)
ends_none s commit rollback = refl

pub ends_one : (s : Statement) → (s ≡ Commit) ⊎ (s ≡ Rollback) → ends_block s ≡ true
ends_one s is = elim is as (λ _. ends_block s ≡ true) [ inl commit ↦ ap ends_block commit | inr rollback ↦ ap ends_block rollback ]

take_more : {X : Type 0} (n : ℕ) (x : X) (xs : List X) → 0 < n → take n (x ∷ xs) ≡ x ∷ take (n - 1) xs
take_more zero x xs some = absurd (omega (arith, some))
take_more (suc n) x xs some =
    let here : suc n - 1 ≡ n = omega arith in
    rw here refl

abbrev began_of : ℕ → Group → List ℕ → Began
began_of s group deaths = record { session = s; group = group; deaths = deaths }

-- a start number that was given has its place
pub began_within : (began : List Began) (n : ℕ) (b : Began) → began_at began n ≡ Some b → (1 ≤ n) × (n ≤ length began)
began_within began zero b is = absurd cc
began_within began (suc n) b is = (omega arith, within began n b is)
  where
    within : (began : List Began) (n : ℕ) (b : Began) → slice_index_or (map Some began) n None ≡ Some b → suc n ≤ length began
    within [] n b is = absurd cc
    within (c ∷ began) zero b is = omega arith
    within (c ∷ began) (suc n) b is = omega (arith, within began n b is)

-- a session with a group is one of the script
in_list : (xs : List Session) (k : ℕ) (g : Group) → Contains (groups_of (slice_index_or xs k no_session).statements) g → k < length xs
in_list [] k g among = absurd (omega (arith, among.1))
in_list (x ∷ xs) zero g among = omega arith
in_list (x ∷ xs) (suc k) g among = omega (arith, in_list xs k g among)

in_script : (script : Script) (s : ℕ) (g : Group) → Contains (groups_in script s) g → IsPlace script s
in_script script zero g among = absurd (omega (arith, among.1))
in_script script (suc s) g among = (omega arith, omega (arith, in_list script.sessions s g among))

-- a test that no item of a list passes
none_passes : {X : Type 0} (p : X → Bool) (xs : List X) → ((x : X) → Contains xs x → p x ≡ false) → list_any p xs ≡ false
none_passes p [] none = refl
none_passes p (x ∷ xs) none =
    let here : p x ≡ false = none x (0, omega arith, refl) in
    rw here (none_passes p xs (λ y among. none y (suc among.0, omega (arith, among.1), among.2)))

-- the last item of a list
behind_one : (x h : ℕ) (xs : List ℕ) → (before : List ℕ) × (xs ≡ before ++ h ∷ []) → (before : List ℕ) × (x ∷ xs ≡ before ++ h ∷ [])
behind_one x h xs (before, is) = (x ∷ before, ap (λ (ys : List ℕ). x ∷ ys) is)

pub last_split : (xs : List ℕ) (h : ℕ) → slice_get xs (length xs - 1) ≡ Some h → (before : List ℕ) × (xs ≡ before ++ h ∷ [])
last_split [] h is = absurd cc
last_split (x ∷ []) h is = ([], ap (λ (y : ℕ). y ∷ []) (same_Some x h is))
last_split (x ∷ y ∷ ys) h is =
    let place : length (x ∷ y ∷ ys) - 1 ≡ suc (length (y ∷ ys) - 1) = omega arith in
    behind_one x h (y ∷ ys) (last_split (y ∷ ys) h (subst (λ (k : ℕ). slice_get (x ∷ y ∷ ys) k ≡ Some h) place is))

pub none_last : (xs : List ℕ) → slice_get xs (length xs - 1) ≡ None → xs ≡ []
none_last [] is = refl
none_last (x ∷ []) is = absurd cc
none_last (x ∷ y ∷ ys) is =
    let place : length (x ∷ y ∷ ys) - 1 ≡ suc (length (y ∷ ys) - 1) = omega arith in
    let rest : y ∷ ys ≡ [] = none_last (y ∷ ys) (subst (λ (k : ℕ). slice_get (x ∷ y ∷ ys) k ≡ None) place is) in
    absurd cc

module _ (start : Database) (m : Machine) (kept : IsKept start m) (s : ℕ) (current : IsCurrent m s) where
  abbrev own : List Statement
  own = (session_at m.script s).statements

  -- IN A GROUP, of the session's statements so many have replies
  module _ (o : Open) (there : open_at m s ≡ Some o) (answered : ℕ) (so_many : answered + 1 ≡ o.group.0 + length o.replies)
      (statement : Statement) (later : List Statement) where
    group : IsOpenGroup start m s o
    group = kept.open_groups_replay.each s o there

    bounds : (1 ≤ o.group.0) × (o.group.0 ≤ o.group.1) × (o.group.1 ≤ length own)
    bounds = (are_texts m.script).bounds s o.group group.whole

    rest_is : answered ≤ o.group.1 → rest_of m s o ≡ take (o.group.1 - answered) (drop answered own)
    rest_is within =
        let n = length o.replies in
        let count : o.group.1 - (o.group.0 - 1) ≡ n + (o.group.1 - answered) = omega (arith, so_many, bounds.0, within) in
        let place : o.group.0 - 1 + n ≡ answered = omega (arith, so_many, bounds.0) in
        ap (λ (k : ℕ). drop n (take k (drop (o.group.0 - 1) own))) count
        ∙ (drop-take n (o.group.1 - answered) (drop (o.group.0 - 1) own)
        ∙ ap (take (o.group.1 - answered)) (drop-drop n (o.group.0 - 1) own ∙ ap (λ (k : ℕ). drop k own) place))

    -- at a statement of it
    module _ (less : answered < o.group.1) (is : drop answered own ≡ statement ∷ later) where
      abbrev behind : List Statement
      behind = take (o.group.1 - answered - 1) later

      left : rest_of m s o ≡ statement ∷ behind
      left = rest_is (omega (arith, less)) ∙ (ap (take (o.group.1 - answered)) is ∙ take_more (o.group.1 - answered) statement later (omega (arith, less)))

      ends : ends_block statement ≡ true → (behind ≡ []) × (commits_text (text_of m s o) ≡ last_is_commit (statement ∷ []))
      ends is_end = ends_once m.script s o.group group.whole (length o.replies) statement behind left is_end

      pub commit_next : statement ≡ Commit → CanCommit m s
      commit_next same =
          let last = ends (ap ends_block same) in record {
            current = current;
            o = o;
            is = there;
            commits_so = last.1 ∙ ap (λ (c : Statement). last_is_commit (c ∷ [])) same;
            left = inr (left ∙ (ap (λ (ss : List Statement). statement ∷ ss) last.0 ∙ ap (λ (c : Statement). c ∷ []) same));
          }

      pub abort_next : statement ≡ Rollback → CanAbort m s
      abort_next same =
          let last = ends (ap ends_block same) in (
            rolled_back m s o,
            record {
              current = current;
              o = o;
              is = there;
              commits_so = last.1 ∙ ap (λ (c : Statement). last_is_commit (c ∷ [])) same;
              left = inr (left ∙ (ap (λ (ss : List Statement). statement ∷ ss) last.0 ∙ ap (λ (c : Statement). c ∷ []) same));
              goes = refl;
            },
          )

      pub goes_on_next : ends_block statement ≡ false → GoesOn m s (answered + 1)
      goes_on_next goes_on = record { current = current; o = o; is = there; statement = statement; later = behind; left = left; goes_on = goes_on; number = so_many }

    -- or at its end, by its first statement
    module _ (full : o.group.1 ≤ answered) (is : drop (o.group.0 - 1) own ≡ statement ∷ later) where
      sizes : length (text_of m s o) ≡ o.group.1 - (o.group.0 - 1)
      sizes = omega (arith, length-part o.group.0 o.group.1 own, bounds.0, bounds.1, bounds.2)

      nothing : rest_of m s o ≡ []
      nothing = drop_all (length o.replies) (text_of m s o) (omega (arith, sizes, so_many, full, bounds.0))

      abbrev behind_first : List Statement
      behind_first = take (o.group.1 - (o.group.0 - 1) - 1) later

      text : text_of m s o ≡ statement ∷ behind_first
      text = ap (take (o.group.1 - (o.group.0 - 1))) is ∙ take_more (o.group.1 - (o.group.0 - 1)) statement later (omega (arith, bounds.0, bounds.1))

      pub commit_end : (statement ≡ Begin → ⊥) → CanCommit m s
      commit_end other = record {
        current = current;
        o = o;
        is = there;
        commits_so = ap commits_text text ∙ commits_alone statement behind_first other;
        left = inl nothing;
      }

      pub abort_end : statement ≡ Begin → CanAbort m s
      abort_end same =
          let block : text_of m s o ≡ Begin ∷ behind_first = text ∙ ap (λ (c : Statement). c ∷ behind_first) same in
          let run : HasRun m.locks o.start m.db (answered_by false o.replies (Begin ∷ behind_first)) o.pending =
          subst (λ (ss : List Statement). HasRun m.locks o.start m.db (answered_by false o.replies ss) o.pending) block group.run in
          let count : length (text_of m s o) ≡ suc (length behind_first) = ap (λ (ss : List Statement). length ss) block in (
            rolled_back m s o,
            record {
              current = current;
              o = o;
              is = there;
              commits_so = ap commits_text block ∙ not_committed m.locks o.start m.db o.pending o.replies behind_first (omega (arith, count, sizes, so_many, full, bounds.0)) run;
              left = inl nothing;
              goes = refl;
            },
          )

  -- BETWEEN GROUPS, before a statement
  module _ (closed : open_at m s ≡ None) (statement : Statement) (later : List Statement) (is : drop (length (told_at m s)) own ≡ statement ∷ later) where
    abbrev next : ℕ
    next = length (told_at m s) + 1

    -- a group that has the statement begins with it
    begins_here : (g : Group) → Contains (groups_in m.script s) g → g.0 ≤ next → next ≤ g.1 → g.0 ≡ next
    begins_here g whole from to = elim (cases_Bool (nat_le g.0 (length (told_at m s)))) as (λ _. g.0 ≡ next) [
      | inl low ↦
          let before : g.0 ≤ length (told_at m s) = grind (arith, nat_tests, low) in
          absurd (omega (arith, told_whole start m kept s g whole before, to))
      | inr high ↦
          let above : length (told_at m s) < g.0 = grind (arith, nat_tests, high) in
          omega (arith, above, from)
    ]

    -- that is of no group where it ends a block
    in_none : ends_block statement ≡ true → (g : Group) → Contains (groups_in m.script s) g → has_statement next g ≡ false
    in_none ends g whole = elim (cases_Bool (has_statement next g)) as (λ _. has_statement next g ≡ false) [
      | inr out ↦ out
      | inl has ↦
          let from : g.0 ≤ next = grind (arith, nat_tests, has) in
          let to : next ≤ g.1 = grind (arith, nat_tests, has) in
          let begins : g.0 ≡ next = begins_here g whole from to in
          let place : g.0 - 1 ≡ length (told_at m s) = omega (arith, begins) in
          let text : statements_in m.script s g ≡ statement ∷ take (g.1 - (g.0 - 1) - 1) later =
          ap (λ (k : ℕ). take (g.1 - (g.0 - 1)) (drop k own)) place ∙ (ap (take (g.1 - (g.0 - 1))) is ∙ take_more (g.1 - (g.0 - 1)) statement later (omega (arith, place, to))) in
          absurd (false≢true (sym (first_goes_on (statements_in m.script s g) ((are_texts m.script).shape s g whole) statement _ text) ∙ ends))
    ]

    pub refuse_next : IsPlace m.script s → ends_block statement ≡ true → CanRefuse m s
    refuse_next place ends =
        let before : next - 1 ≡ length (told_at m s) = omega arith in
        let one : next - (next - 1) ≡ 1 = omega arith in
        let text : statements_in m.script s (next, next) ≡ statement ∷ [] =
        ap (λ (k : ℕ). take (next - (next - 1)) (drop k own)) before ∙ (ap (take (next - (next - 1))) is ∙ ap (λ (k : ℕ). take k (statement ∷ later)) one) in
        let ends_there : list_any ends_block (statements_in m.script s (next, next)) ≡ true =
        ap (list_any ends_block) text ∙ or_left (ends_block statement) false ends in
        let no_group : not (list_any (has_statement next) (groups_in m.script s)) ≡ true =
        ap not (none_passes (has_statement next) (groups_in m.script s) (in_none ends)) in
        let next_machine : Machine = record m { told = slice_set m.told (s - 1) (told_at m s ++ reply.Refused NoTransaction ∷ []) } in (
          next_machine,
          record {
            place = place;
            current = current;
            closed = closed;
            stray = and_from (list_any ends_block (statements_in m.script s (next, next))) (not (list_any (has_statement next) (groups_in m.script s))) ends_there no_group;
            goes = refl;
          },
        )

    -- and is a group's first where it does not
    pub group_next : ends_block statement ≡ false → (g : Group) × Contains (groups_in m.script s) g × (g.0 ≡ next)
    group_next goes_on =
        let there = has_group m.script s (length (told_at m s)) statement later is goes_on in
        (there.group, there.whole, begins_here there.group there.whole (omega (arith, there.from)) (omega (arith, there.to)))

  -- BEFORE A GROUP, where the group that began last has a start number
  module _ (closed : open_at m s ≡ None) (group : Group) (whole : Contains (groups_in m.script s) group) (first : group.0 ≡ length (told_at m s) + 1)
      (latest : ℕ) (is_latest : IsLatest m.began s latest) where
    begins_new : ((n : ℕ) → HasStart m.began s group n → ⊥) → CanBegin m s
    begins_new never = (begun m s group, record { current = current; closed = closed; group = group; whole = whole; first = first; goes = inl (never, refl) })

    pub begins_first : latest ≡ 0 → CanBegin m s
    begins_first none = begins_new (λ n has. none_at_zero n has (omega (arith, none, is_latest.last group n has)))
      where
        none_at_zero : (n : ℕ) → HasStart m.began s group n → n ≡ 0 → ⊥
        none_at_zero zero has is =
            let clash : None ≡ Some (began_of s group has.deaths) = has.is in
            cc
        none_at_zero (suc n) has is = omega (arith, is)

    -- of which it is, in its place
    module _ (some : 0 < latest) (b : Began) (is : began_at m.began latest ≡ Some b) where
      abbrev last : Group
      last = (is_latest.has some).0

      has_last : HasStart m.began s last latest
      has_last = (is_latest.has some).1

      began_is : began_of s last has_last.deaths ≡ b
      began_is = same_Some (began_of s last has_last.deaths) b (sym has_last.is ∙ is)

      pub begins_other : b.group.0 ≢ length (told_at m s) + 1 → CanBegin m s
      begins_other other =
          let bounds = (are_texts m.script).bounds s group whole in
          begins_new (λ n has. elim (cases_Bool (nat_lt n latest)) as (λ _. ⊥) [
            | inl low ↦
                let before : n < latest = grind (arith, nat_tests, low) in
                let has_ended : group.1 ≤ length (told_at m s) = kept.locks_consistent.by_session s group last n latest has has_last before in
                omega (arith, has_ended, first, bounds.1)
            | inr high ↦
                let not_before : latest ≤ n = grind (arith, nat_tests, high) in
                let same : n ≡ latest = omega (arith, not_before, is_latest.last group n has) in
                let one : began_of s group has.deaths ≡ b =
                same_Some (began_of s group has.deaths) b (sym has.is ∙ (ap (began_at m.began) same ∙ is)) in
                let start_is : group.0 ≡ b.group.0 = ap (λ (x : Began). x.group.0) one in
                other (sym start_is ∙ first)
          ])

      -- it is the next group that has begun before
      module _ (again : b.group.0 ≡ length (told_at m s) + 1) where
        same_group : last ≡ group
        same_group =
            let start_is : last.0 ≡ b.group.0 = ap (λ (x : Began). x.group.0) began_is in
            one_first m.script s last group (kept.locks_consistent.begun s last latest has_last).whole whole (start_is ∙ (again ∙ sym first))

        abbrev has : HasStart m.began s group latest
        has =
            let session_is : b.session ≡ s = ap (λ (x : Began). x.session) (sym began_is) in
            let group_is : b.group ≡ group = ap (λ (x : Began). x.group) (sym began_is) ∙ same_group in
            record {
              deaths = b.deaths;
              is = is ∙ ap Some (ap (λ (t : ℕ). began_of t b.group b.deaths) session_is ∙ ap (λ (g : Group). began_of s g b.deaths) group_is);
            }

        begins_again : LastHasEnded m s b.deaths → CanBegin m s
        begins_again has_ended = (begun_again m s latest group, record { current = current; closed = closed; group = group; whole = whole; first = first; goes = inr (latest, has, has_ended, refl) })

        -- without a death
        pub begins_unnamed : b.deaths ≡ [] → CanBegin m s
        begins_unnamed none =
            let count : length b.deaths ≡ 0 = ap (λ (hs : List ℕ). length hs) none in
            begins_again (λ i t other last_one has_other. absurd (omega (arith, last_one, count)))

        -- or with a last one, that named a group
        module _ (before : List ℕ) (h : ℕ) (split : b.deaths ≡ before ++ h ∷ []) where
          count : length b.deaths ≡ length before + 1
          count = ap (λ (hs : List ℕ). length hs) split ∙ length-append before (h ∷ [])

          last_is : (i : ℕ) → i + 1 ≡ length b.deaths → slice_index_or b.deaths i 0 ≡ h
          last_is i at_end =
              let place : i ≡ length before = omega (arith, at_end, count) in
              ap (λ (k : ℕ). slice_index_or b.deaths k 0) place ∙ (ap (λ (hs : List ℕ). slice_index_or hs (length before) 0) split ∙ get_or-append_seam before h [] 0)

          among : Contains b.deaths h
          among =
              let i = length before in
              let below : i < length b.deaths = omega (arith, count) in
              subst (Contains b.deaths) (last_is i (sym count)) (there_in b.deaths i below)

          pub record IsNamedGroup (named : Began) : Type 0 where
            pub is_named : began_at m.began h ≡ Some named
            pub is_whole : Contains (groups_in m.script named.session) named.group
            pub goes : (named.group.1 ≤ length (told_at m named.session)) ⊎ (named.group.0 ≡ length (told_at m named.session) + 1)

          pub named_group : (named : Began) × IsNamedGroup named
          named_group =
              let died = (kept.causes_allowed.deaths latest b is).each h among in
              let named : Began = began_of died.other died.theirs died.named.deaths in
              let begun_so = kept.locks_consistent.begun died.other died.theirs h died.named in
              (named, record { is_named = died.named.is; is_whole = begun_so.whole; goes = begun_so.goes })

          pub named_within : (1 ≤ h) × (h ≤ length m.began)
          named_within = began_within m.began h named_group.0 named_group.1.is_named

          module _ (named : Began) (at : began_at m.began h ≡ Some named) where
            is_group : IsNamedGroup named
            is_group =
                let same : named_group.0 ≡ named = same_Some named_group.0 named (sym named_group.1.is_named ∙ at) in
                subst IsNamedGroup same named_group.1

            pub named_place : IsPlace m.script named.session
            named_place = in_script m.script named.session named.group is_group.is_whole

            same_named : (t : ℕ) (other : Group) → HasStart m.began t other h → (named.session ≡ t) × (named.group ≡ other)
            same_named t other has_other =
                let theirs : Began = began_of t other has_other.deaths in
                let same : named ≡ theirs = same_Some named theirs (sym at ∙ has_other.is) in
                (ap (λ (x : Began). x.session) same, ap (λ (x : Began). x.group) same)

            -- which has ended
            pub begins_behind : named.group.0 ≤ length (told_at m named.session) → CanBegin m s
            begins_behind begun_there =
                let has_ended : named.group.1 ≤ length (told_at m named.session) =
                told_whole start m kept named.session named.group is_group.is_whole begun_there in
                begins_again (λ i t other last_one has_other.
                let theirs : HasStart m.began t other h = subst (HasStart m.began t other) (last_is i last_one) has_other in
                let same = same_named t other theirs in
                subst (λ (g : Group). g.1 ≤ length (told_at m t)) same.1 (subst (λ (u : ℕ). named.group.1 ≤ length (told_at m u)) same.0 has_ended))

            -- or has not
            pub waits_for : length (told_at m named.session) < named.group.0 → IsNamed m s h
            waits_for not_told =
                let bounds = (are_texts m.script).bounds named.session named.group is_group.is_whole in
                record {
                  current = current;
                  closed = closed;
                  group = group;
                  whole = whole;
                  first = first;
                  start = latest;
                  has = has;
                  before = before;
                  named = split;
                  goes_on = λ t other has_other has_ended.
                      let same = same_named t other has_other in
                      let there : named.group.1 ≤ length (told_at m named.session) =
                      subst (λ (u : ℕ). named.group.1 ≤ length (told_at m u)) (sym same.0) (subst (λ (g : Group). g.1 ≤ length (told_at m t)) (sym same.1) has_ended) in
                      omega (arith, there, not_told, bounds.1);
                }
