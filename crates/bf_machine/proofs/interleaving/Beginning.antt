-- A begin keeps all, of a group that begins for the first time or again.
use Rattle.std.proofs.Common.{◌≡◌, ◌≢◌, ◌⊎◌, ℕ, zero, suc, ◌+◌, ◌-◌, ◌<◌, ◌≤◌, Bool, not, ◌&&◌, ◌||◌, List, [], ◌∷◌, ◌++◌, length, map, filter, Option, Some, None, refl, sym, ap, subst, ◌∙◌, arith, inl, inr}
use Rattle.std.specs.Prelude.{Contains, nat_le}
use Rattle.std.specs.List.{AllByRecursion, list_any, slice_index_or}
use Rattle.std.proofs.lemmas.Bool.{cases_eq, cases_Bool}
use Rattle.std.proofs.lemmas.Bool.Decides.{nat_tests}
use Rattle.std.proofs.lemmas.List.{length-map, length-set, map-append}
use Rattle.bf_tree.specs.declared.history.Entry.{Entry}
use Rattle.bf_tree.specs.declared.reply.Cause.{Cause}
use Rattle.bf_tree.specs.declared.reply.Cause.TheVariants.{Died}
use Rattle.bf_tree.specs.declared.script.Script.{Script}
use Rattle.bf_tree.specs.declared.script.Session.{Session}
use Rattle.bf_sql.specs.Database.{Database}
use Rattle.bf_sql.specs.Groups.{session_at, groups_in, groups_of, has_statement, no_session}
use Rattle.bf_sql.specs.History.{IsApart, answered, stands_in}
use Rattle.bf_machine.proofs.interleaving.Texts.{AreTexts, one_first}
use Rattle.bf_machine.specs.interleaving.Machines.{Group, Began, Open, Machine, open_at, told_at, began_at}
use Rattle.bf_machine.specs.interleaving.Kept.{CanBePutInto, IsKept, HistoryLegal, LocksConsistent, DeathsAllowed, HasStart, DiedFor, IsAllowed, IsCurrent, HasBegun, phase_of}
use Rattle.bf_machine.specs.InOrder.{none_open}
use Rattle.bf_machine.specs.interleaving.Events.{Begins, LastHasEnded, begun, begun_again, opened}
use Rattle.bf_machine.proofs.interleaving.Answers.{Told, still}
use Rattle.bf_machine.proofs.interleaving.Places.{set_same, set_other, some_within, there_in}
use Rattle.bf_machine.proofs.interleaving.Opens.{begin_keeps_open}
use Rattle.bf_machine.proofs.interleaving.Storing.{each_with}
use Rattle.bf_store.proofs.seeing.Opening.{begins}

-- a start number of a list is one of a longer one
module _ (began : List Began) (b : Began) where
  abbrev more : List Began
  more = began ++ b ∷ []

  among_more : (xs ys : List (Option Began)) (n : ℕ) (x : Began) → slice_index_or xs n None ≡ Some x → slice_index_or (xs ++ ys) n None ≡ Some x
  among_more [] ys n x is = absurd cc
  among_more (y ∷ xs) ys zero x is = is
  among_more (y ∷ xs) ys (suc n) x is = among_more xs ys n x is

  behind : (xs : List (Option Began)) (y x : Option Began) (n : ℕ) → slice_index_or (xs ++ y ∷ []) n None ≡ x → (slice_index_or xs n None ≡ x) ⊎ ((n ≡ length xs) × (y ≡ x))
  behind [] y x zero is = inr (refl, is)
  behind [] y x (suc n) is = inl is
  behind (z ∷ xs) y x zero is = inl is
  behind (z ∷ xs) y x (suc n) is = elim (behind xs y x n is) as (λ _. (slice_index_or (z ∷ xs) (suc n) None ≡ x) ⊎ ((suc n ≡ length (z ∷ xs)) × (y ≡ x))) [
    | inl old ↦ inl old
    | inr new ↦ inr (ap suc new.0, new.1)
  ]

  at_more : (n : ℕ) → began_at more n ≡ slice_index_or ((None ∷ map Some began) ++ Some b ∷ []) n None
  at_more n = ap (λ (xs : List (Option Began)). slice_index_or (None ∷ xs) n None) (map-append Some began (b ∷ []))

  size : length (None ∷ map Some began) ≡ length began + 1
  size = let e = length-map began Some in omega (arith, e)

  pub began_then : (n : ℕ) (x : Began) → began_at began n ≡ Some x → began_at more n ≡ Some x
  began_then n x is = at_more n ∙ among_more (None ∷ map Some began) (Some b ∷ []) n x is

  pub began_was : (n : ℕ) (x : Began) → began_at more n ≡ Some x → (began_at began n ≡ Some x) ⊎ ((n ≡ length began + 1) × (b ≡ x))
  began_was n x is = elim (behind (None ∷ map Some began) (Some b) (Some x) n (sym (at_more n) ∙ is)) as (λ _. (began_at began n ≡ Some x) ⊎ ((n ≡ length began + 1) × (b ≡ x))) [
    | inl old ↦ inl old
    | inr new ↦ let same : b ≡ x = (let e = new.1 in cc) in inr (new.0 ∙ size, same)
  ]

  abbrev pub start_then : (t : ℕ) (g : Group) (n : ℕ) → HasStart began t g n → HasStart more t g n
  start_then t g n has = record { deaths = has.deaths; is = began_then n _ has.is }

  pub start_was : (t : ℕ) (g : Group) (n : ℕ) → HasStart more t g n → HasStart began t g n ⊎ ((n ≡ length began + 1) × (b.session ≡ t) × (b.group ≡ g))
  start_was t g n has = elim (began_was n _ has.is) as (λ _. HasStart began t g n ⊎ ((n ≡ length began + 1) × (b.session ≡ t) × (b.group ≡ g))) [
    | inl old ↦ inl (record { deaths = has.deaths; is = old })
    | inr new ↦ inr (new.0, ap (λ (b : Began). b.session) new.1, ap (λ (b : Began). b.group) new.1)
  ]

  at_end : (xs : List (Option Began)) (y : Option Began) → slice_index_or (xs ++ y ∷ []) (length xs) None ≡ y
  at_end [] y = refl
  at_end (x ∷ xs) y = at_end xs y

  pub start_new : HasStart more b.session b.group (length began + 1)
  start_new = record {
    deaths = b.deaths;
    is = at_more (length began + 1)
        ∙ (ap (λ (n : ℕ). slice_index_or ((None ∷ map Some began) ++ Some b ∷ []) n None) (sym size) ∙ at_end (None ∷ map Some began) (Some b));
  }

  -- and is at most as great as the list is long
  pub start_within : (n : ℕ) (x : Began) → began_at began n ≡ Some x → n ≤ length began
  start_within n x is = omega (arith, some_within (None ∷ map Some began) n x is, size)

  -- one that is not greater is of the list
  pub start_old : (t : ℕ) (g : Group) (n : ℕ) → n ≤ length began → HasStart more t g n → HasStart began t g n
  start_old t g n low has = elim (start_was t g n has) as (λ _. HasStart began t g n) [ inl old ↦ old | inr new ↦ absurd (omega (arith, new.0, low)) ]

module _ (start : Database) (m : Machine) (kept : IsKept start m) (texts : AreTexts m.script) (s : ℕ) (current : IsCurrent m s) (closed : open_at m s ≡ None)
    (group : Group) (low : 1 ≤ s) (high : s ≤ length m.opens) (whole : Contains (groups_in m.script s) group) (first : group.0 ≡ length (told_at m s) + 1)
    (never : (n : ℕ) → HasStart m.began s group n → ⊥) where
  abbrev b : Began
  b = record { session = s; group = group; deaths = [] }

  abbrev after : Machine
  after = begun m s group

  -- the session has statements left
  left : length (told_at m s) < length (session_at m.script s).statements
  left = let bounds = texts.bounds s group whole in omega (arith, first, bounds.1, bounds.2)

  current_then : (t : ℕ) → IsCurrent m t → IsCurrent after t
  current_then t then = λ u before.
      let was = then u before in (
        was.0,
        elim (cases_eq u s) as (λ _. open_at after u ≡ None) [
          | inl same ↦
              let full : length (session_at m.script s).statements ≤ length (told_at m s) = subst (λ (u : ℕ). length (session_at m.script u).statements ≤ length (told_at m u)) same was.0 in
              absurd (omega (arith, full, left))
          | inr apart ↦ set_other None None m.opens s u (Some (opened m s (length m.began + 1) group)) low apart ∙ was.1
        ],
      )

  turns_then : (history : List Entry) → AllByRecursion (λ d. IsCurrent m d.session) history → AllByRecursion (λ d. IsCurrent after d.session) history
  turns_then [] turns = tt
  turns_then (d ∷ history) turns = (current_then d.session turns.0, turns_then history turns.1)

  abbrev died_then : (t : ℕ) (g : Group) (h : ℕ) → DiedFor start m.script m.began m.history t g h → DiedFor start m.script (more m.began b) m.history t g h
  died_then t g h was = record {
    own = was.own;
    other = was.other;
    theirs = was.theirs;
    has = start_then m.began b t g was.own was.has;
    named = start_then m.began b was.other was.theirs h was.named;
    another = was.another;
    one_phase = was.one_phase;
    older = was.older;
    clash = was.clash;
  }

  allowed_then : (t : ℕ) (g : Group) (cause : Cause) → IsAllowed start m.script m.began m.history m.may_end m.retries t g cause → IsAllowed start m.script (more m.began b) m.history m.may_end m.retries t g cause
  allowed_then t g (Died h) was = (died_then t g h was.0, was.1, was.2, was.3)
  allowed_then t g other was = was

  apart_then : (a : Told) → IsApart m.script (IsAllowed start m.script m.began m.history m.may_end m.retries) m.told a → IsApart m.script (IsAllowed start m.script (more m.began b) m.history m.may_end m.retries) m.told a
  apart_then a was = elim was as (λ _. IsApart m.script (IsAllowed start m.script (more m.began b) m.history m.may_end m.retries) m.told a) [
    | inl stray ↦ inl stray
    | inr caused ↦ inr (caused.0, caused.1, caused.2, allowed_then a.0 caused.0 caused.1 caused.3, caused.4)
  ]

  others_then : (p : Told → Bool) (xs : List Told) → AllByRecursion (IsApart m.script (IsAllowed start m.script m.began m.history m.may_end m.retries) m.told) (filter p xs)
      → AllByRecursion (IsApart m.script (IsAllowed start m.script (more m.began b) m.history m.may_end m.retries) m.told) (filter p xs)
  others_then p xs all = still _ _ p p apart_then (λ a h. h) xs all

  -- what is open then is the new group, or was open in another session
  was_open : (t : ℕ) (q : Open) → open_at after t ≡ Some q → ((t ≡ s) × (q ≡ opened m s (length m.began + 1) group)) ⊎ ((t ≢ s) × (open_at m t ≡ Some q))
  was_open t q is_open = elim (cases_eq t s) as (λ _. ((t ≡ s) × (q ≡ opened m s (length m.began + 1) group)) ⊎ ((t ≢ s) × (open_at m t ≡ Some q))) [
    | inl same ↦
        let both : Some (opened m s (length m.began + 1) group) ≡ Some q =
        sym (set_same None None m.opens s (Some (opened m s (length m.began + 1) group)) low high) ∙ (ap (open_at after) (sym same) ∙ is_open) in
        let one : q ≡ opened m s (length m.began + 1) group = cc in
        inl (same, one)
    | inr apart ↦ inr (apart, sym (set_other None None m.opens s t (Some (opened m s (length m.began + 1) group)) low apart) ∙ is_open)
  ]

  still_open : (t : ℕ) (q : Open) → open_at m t ≡ Some q → open_at after t ≡ Some q
  still_open t q is_open = elim (cases_eq t s) as (λ _. open_at after t ≡ Some q) [
    | inl same ↦
        let clash : None ≡ Some q = sym closed ∙ (ap (open_at m) (sym same) ∙ is_open) in
        absurd cc
    | inr apart ↦ set_other None None m.opens s t (Some (opened m s (length m.began + 1) group)) low apart ∙ is_open
  ]

  -- a group that has begun is of this phase or an earlier one
  not_later : (t : ℕ) (g : Group) (n : ℕ) → HasStart m.began t g n → phase_of m.script t ≤ phase_of m.script s
  not_later t g n has = elim (cases_Bool (nat_le (phase_of m.script t) (phase_of m.script s))) [
    | inl is_low ↦ grind (arith, nat_tests)
    | inr is_high ↦
        let before : phase_of m.script s < phase_of m.script t = grind (arith, nat_tests) in
        let full = (kept.locks_consistent.in_turn t g n has s before).0 in
        absurd (omega (arith, full, left))
  ]

  -- BEGIN keeps locks
  pub begin_keeps_locks : LocksConsistent start after
  begin_keeps_locks = record {
    apart = kept.locks_consistent.apart;
    owners = λ name owner mode is.
        let was = kept.locks_consistent.owners name owner mode is in
        (was.0, was.1, still_open was.0 was.1 was.2, was.3, was.4);
    starts = λ t q is_open. elim (was_open t q is_open) as (λ _. HasStart (more m.began b) t q.group q.start) [
      | inl new ↦
          subst (λ (t : ℕ). HasStart (more m.began b) t q.group q.start) (sym new.0)
          (subst (λ (q : Open). HasStart (more m.began b) s q.group q.start) (sym new.1) (start_new m.began b))
      | inr old ↦ start_then m.began b t q.group q.start (kept.locks_consistent.starts t q old.1)
    ];
    once = λ t g i j x y. elim (start_was m.began b t g i x) as (λ _. i ≡ j) [
      | inl old_i ↦ elim (start_was m.began b t g j y) as (λ _. i ≡ j) [
        | inl old_j ↦ kept.locks_consistent.once t g i j old_i old_j
        | inr new_j ↦ absurd (never i (subst (λ (t : ℕ). HasStart m.began t group i) (sym new_j.1) (subst (λ (g : Group). HasStart m.began t g i) (sym new_j.2) old_i)))
      ]
      | inr new_i ↦ elim (start_was m.began b t g j y) as (λ _. i ≡ j) [
        | inl old_j ↦ absurd (never j (subst (λ (t : ℕ). HasStart m.began t group j) (sym new_i.1) (subst (λ (g : Group). HasStart m.began t g j) (sym new_i.2) old_j)))
        | inr new_j ↦ new_i.0 ∙ sym new_j.0
      ]
    ];
    in_turn = λ t g n x. elim (start_was m.began b t g n x) as (λ _. IsCurrent after t) [
      | inl old ↦ current_then t (kept.locks_consistent.in_turn t g n old)
      | inr new ↦ subst (IsCurrent after) new.1 (current_then s current)
    ];
    begun = λ t g n x. elim (start_was m.began b t g n x) as (λ _. HasBegun start after t g) [
      | inl old ↦ let was = kept.locks_consistent.begun t g n old in record { whole = was.whole; goes = was.goes }
      | inr new ↦ subst (λ (t : ℕ). HasBegun start after t g) new.1 (subst (λ (g : Group). HasBegun start after s g) new.2 (record { whole = whole; goes = inr first }))
    ];
    numbered = λ t g whole has_ended. let was = kept.locks_consistent.numbered t g whole has_ended in (was.0, start_then m.began b t g was.0 was.1);
    by_session = λ t one other i j x y before. elim (start_was m.began b t other j y) as (λ _. one.1 ≤ length (told_at m t)) [
      | inl old_j ↦
          let low_j = start_within m.began b j _ old_j.is in
          kept.locks_consistent.by_session t one other i j (start_old m.began b t one i (omega (arith, before, low_j)) x) old_j before
      | inr new_j ↦
          let old_i = start_old m.began b t one i (omega (arith, before, new_j.0)) x in
          elim (kept.locks_consistent.begun t one i old_i).goes as (λ _. one.1 ≤ length (told_at m t)) [
            | inl has_ended ↦ has_ended
            | inr next ↦
                let here : Contains (groups_in m.script s) one = subst (λ (t : ℕ). Contains (groups_in m.script t) one) (sym new_j.1) (kept.locks_consistent.begun t one i old_i).whole in
                let begins : one.0 ≡ group.0 = next ∙ (ap (λ (t : ℕ). length (told_at m t) + 1) (sym new_j.1) ∙ sym first) in
                let same : one ≡ group = one_first m.script s one group here whole begins in
                absurd (never i (subst (λ (g : Group). HasStart m.began s g i) same (subst (λ (t : ℕ). HasStart m.began t one i) (sym new_j.1) old_i)))
          ]
    ];
    by_phase = λ t u one other i j x y before. elim (start_was m.began b u other j y) as (λ _. phase_of m.script t ≤ phase_of m.script u) [
      | inl old_j ↦
          let low_j = start_within m.began b j _ old_j.is in
          kept.locks_consistent.by_phase t u one other i j (start_old m.began b t one i (omega (arith, before, low_j)) x) old_j before
      | inr new_j ↦
          let old_i = start_old m.began b t one i (omega (arith, before, new_j.0)) x in
          subst (λ (u : ℕ). phase_of m.script t ≤ phase_of m.script u) new_j.1 (not_later t one i old_i)
    ];
  }

  -- BEGIN keeps the history legal
  pub begin_keeps_legal : HistoryLegal start after
  begin_keeps_legal = record {
    legal = record {
      whole_groups = kept.history_legal.legal.whole_groups;
      in_order = kept.history_legal.legal.in_order;
      outcomes = kept.history_legal.legal.outcomes;
      replies = kept.history_legal.legal.replies;
      others = others_then
          (λ a. not (list_any (stands_in a.0 a.1) m.history || list_any (λ g. none_open a.0 g && has_statement a.1 g) (groups_in m.script a.0)))
          (answered m.told) kept.history_legal.legal.others;
    };
    replay = kept.history_legal.replay;
    database = kept.history_legal.database;
    placed = kept.history_legal.placed;
    in_turn = turns_then m.history kept.history_legal.in_turn;
  }

  -- and the causes
  module _ (n : ℕ) (x : Began) (old : began_at m.began n ≡ Some x) where
    was : DeathsAllowed start m n x
    was = kept.causes_allowed.deaths n x old

    named_low : (h : ℕ) → Contains x.deaths h → h ≤ length m.began
    named_low h among = start_within m.began b h _ (was.each h among).named.is

    deaths_then : DeathsAllowed start after n x
    deaths_then = record {
      each = λ h among. died_then x.session x.group h (was.each h among);
      sessions_differ = λ i j t one other li lj hi hj.
          was.sessions_differ i j t one other li lj (start_old m.began b t one _ (named_low _ (there_in x.deaths i li)) hi) (start_old m.began b t other _ (named_low _ (there_in x.deaths j lj)) hj);
      ended = λ i t g below has.
          let within : i < length x.deaths = omega (arith, below) in
          was.ended i t g below (start_old m.began b t g _ (named_low _ (there_in x.deaths i within)) has);
      last_ended = λ i t g q is_open is below has. elim (was_open x.session q is_open) as (λ _. g.1 ≤ length (told_at m t)) [
        | inl new ↦
            let at : q.start ≡ length m.began + 1 = ap (λ (q : Open). q.start) new.1 in
            absurd (omega (arith, at, is, start_within m.began b n x old))
        | inr before ↦ was.last_ended i t g q before.1 is below (start_old m.began b t g _ (named_low _ (there_in x.deaths i below)) has)
      ];
      later = λ h t k one other among hx hy before. elim (start_was m.began b t other k hy) as (λ _. n < k) [
        | inl old_k ↦ was.later h t k one other among (start_old m.began b t one h (named_low h among) hx) old_k before
        | inr new_k ↦ omega (arith, new_k.0, start_within m.began b n x old)
      ];
      most = was.most;
      retried = was.retried;
    }

  -- a new group has no deaths
  new_deaths : (n : ℕ) → DeathsAllowed start after n b
  new_deaths n = record {
    each = λ h among. absurd (omega (arith, among.1));
    sessions_differ = λ i j t one other li lj hi hj. absurd (omega (arith, li));
    ended = λ i t g below has. absurd (omega (arith, below));
    last_ended = λ i t g q is_open is below has. absurd (omega (arith, below));
    later = λ h t k one other among hx hy before. absurd (omega (arith, among.1));
    most = omega arith;
    retried = inl (omega arith);
  }

  -- BEGIN KEEPS ALL, where a group begins for the first time
  pub begin_keeps_all : IsKept start after
  begin_keeps_all = record {
    within = kept.within;
    store_valid = record {
      seen_as = kept.store_valid.seen_as;
      narrow = kept.store_valid.narrow;
      by_pass = kept.store_valid.by_pass;
      puts = each_with m.opens s low high (λ q. CanBePutInto m.lazy q.pending) (opened m s (length m.began + 1) group) (begins m.lazy kept.store_valid.seen_as.lazy_state) kept.store_valid.puts;
    };
    shaped = record { opens = length-set m.opens (s - 1) (Some (opened m s (length m.began + 1) group)) ∙ kept.shaped.opens; told = kept.shaped.told };
    history_legal = begin_keeps_legal;
    open_groups_replay = begin_keeps_open start m kept s (length m.began + 1) group low high whole first (more m.began b);
    locks_consistent = begin_keeps_locks;
    causes_allowed = record {
      deaths = λ n x is. elim (began_was m.began b n x is) as (λ _. DeathsAllowed start after n x) [
        | inl old ↦ deaths_then n x old
        | inr new ↦ subst (DeathsAllowed start after n) new.1 (new_deaths n)
      ];
    };
  }

-- a session with a group is one of the script
in_list : (xs : List Session) (k : ℕ) (g : Group) → Contains (groups_of (slice_index_or xs k no_session).statements) g → k < length xs
in_list [] k g among = absurd (omega (arith, among.1))
in_list (x ∷ xs) zero g among = omega arith
in_list (x ∷ xs) (suc k) g among = omega (arith, in_list xs k g among)

in_script : (script : Script) (s : ℕ) (g : Group) → Contains (groups_in script s) g → (1 ≤ s) × (s ≤ length script.sessions)
in_script script zero g among = absurd (omega (arith, among.1))
in_script script (suc s) g among = (omega arith, omega (arith, in_list script.sessions s g among))

module _ (start : Database) (m : Machine) (kept : IsKept start m) (texts : AreTexts m.script) (s : ℕ) where
  -- AGAIN: a group that died begins again
  module _ (current : IsCurrent m s) (closed : open_at m s ≡ None) (group : Group) (low : 1 ≤ s) (high : s ≤ length m.opens)
      (whole : Contains (groups_in m.script s) group) (first : group.0 ≡ length (told_at m s) + 1)
      (n : ℕ) (has : HasStart m.began s group n)
      (last_has : LastHasEnded m s has.deaths) where
    abbrev again : Machine
    again = begun_again m s n group

    room : length (told_at m s) < length (session_at m.script s).statements
    room = let bounds = texts.bounds s group whole in omega (arith, first, bounds.1, bounds.2)

    current_again : (t : ℕ) → IsCurrent m t → IsCurrent again t
    current_again t then = λ u before.
        let was = then u before in (
          was.0,
          elim (cases_eq u s) as (λ _. open_at again u ≡ None) [
            | inl same ↦
                let full : length (session_at m.script s).statements ≤ length (told_at m s) = subst (λ (u : ℕ). length (session_at m.script u).statements ≤ length (told_at m u)) same was.0 in
                absurd (omega (arith, full, room))
            | inr apart ↦ set_other None None m.opens s u (Some (opened m s n group)) low apart ∙ was.1
          ],
        )

    turns_again : (history : List Entry) → AllByRecursion (λ d. IsCurrent m d.session) history → AllByRecursion (λ d. IsCurrent again d.session) history
    turns_again [] turns = tt
    turns_again (d ∷ history) turns = (current_again d.session turns.0, turns_again history turns.1)

    was_open_again : (t : ℕ) (q : Open) → open_at again t ≡ Some q → ((t ≡ s) × (q ≡ opened m s n group)) ⊎ ((t ≢ s) × (open_at m t ≡ Some q))
    was_open_again t q is_open = elim (cases_eq t s) as (λ _. ((t ≡ s) × (q ≡ opened m s n group)) ⊎ ((t ≢ s) × (open_at m t ≡ Some q))) [
      | inl same ↦
          let both : Some (opened m s n group) ≡ Some q = sym (set_same None None m.opens s (Some (opened m s n group)) low high) ∙ (ap (open_at again) (sym same) ∙ is_open) in
          let one : q ≡ opened m s n group = cc in
          inl (same, one)
      | inr apart ↦ inr (apart, sym (set_other None None m.opens s t (Some (opened m s n group)) low apart) ∙ is_open)
    ]

    open_again : (t : ℕ) (q : Open) → open_at m t ≡ Some q → open_at again t ≡ Some q
    open_again t q is_open = elim (cases_eq t s) as (λ _. open_at again t ≡ Some q) [
      | inl same ↦
          let clash : None ≡ Some q = sym closed ∙ (ap (open_at m) (sym same) ∙ is_open) in
          absurd cc
      | inr apart ↦ set_other None None m.opens s t (Some (opened m s n group)) low apart ∙ is_open
    ]

    deaths_again : (k : ℕ) (x : Began) → began_at m.began k ≡ Some x → DeathsAllowed start again k x
    deaths_again k x is =
        let was = kept.causes_allowed.deaths k x is in
        record {
          each = was.each;
          sessions_differ = was.sessions_differ;
          ended = was.ended;
          last_ended = λ i t g q is_open at below named. elim (was_open_again x.session q is_open) as (λ _. g.1 ≤ length (told_at m t)) [
            | inl new ↦
                let same_n : n ≡ k = sym (ap (λ (q : Open). q.start) new.1) ∙ at in
                let both : Some (record { session = s; group = group; deaths = has.deaths }) ≡ Some x = sym has.is ∙ (ap (began_at m.began) same_n ∙ is) in
                let one : ◌≡◌ {A = Began} (record { session = s; group = group; deaths = has.deaths }) x = cc in
                let deaths : x.deaths ≡ has.deaths = ap (λ (b : Began). b.deaths) (sym one) in
                elim (cases_eq (i + 1) (length x.deaths)) as (λ _. g.1 ≤ length (told_at m t)) [
                  | inl last ↦ last_has i t g (last ∙ ap (λ (ds : List ℕ). length ds) deaths) (subst (λ (ds : List ℕ). HasStart m.began t g (slice_index_or ds i 0)) deaths named)
                  | inr not_last ↦ was.ended i t g (omega (arith, below, not_last)) named
                ]
            | inr old ↦ was.last_ended i t g q old.1 at below named
          ];
          later = was.later;
          most = was.most;
          retried = was.retried;
        }

    again_keeps_all : IsKept start again
    again_keeps_all = record {
      within = kept.within;
      store_valid = record {
        seen_as = kept.store_valid.seen_as;
        narrow = kept.store_valid.narrow;
        by_pass = kept.store_valid.by_pass;
        puts = each_with m.opens s low high (λ q. CanBePutInto m.lazy q.pending) (opened m s n group) (begins m.lazy kept.store_valid.seen_as.lazy_state) kept.store_valid.puts;
      };
      shaped = record { opens = length-set m.opens (s - 1) (Some (opened m s n group)) ∙ kept.shaped.opens; told = kept.shaped.told };
      history_legal = record {
        legal = kept.history_legal.legal;
        replay = kept.history_legal.replay;
        database = kept.history_legal.database;
        placed = kept.history_legal.placed;
        in_turn = turns_again m.history kept.history_legal.in_turn;
      };
      open_groups_replay = begin_keeps_open start m kept s n group low high whole first m.began;
      locks_consistent = record {
        apart = kept.locks_consistent.apart;
        owners = λ name owner mode is.
            let was = kept.locks_consistent.owners name owner mode is in
            (was.0, was.1, open_again was.0 was.1 was.2, was.3, was.4);
        starts = λ t q is_open. elim (was_open_again t q is_open) as (λ _. HasStart m.began t q.group q.start) [
          | inl new ↦
              subst (λ (t : ℕ). HasStart m.began t q.group q.start) (sym new.0) (subst (λ (q : Open). HasStart m.began s q.group q.start) (sym new.1) has)
          | inr old ↦ kept.locks_consistent.starts t q old.1
        ];
        once = kept.locks_consistent.once;
        in_turn = λ t g k x. current_again t (kept.locks_consistent.in_turn t g k x);
        begun = λ t g k x. let was = kept.locks_consistent.begun t g k x in record { whole = was.whole; goes = was.goes };
        numbered = kept.locks_consistent.numbered;
        by_session = kept.locks_consistent.by_session;
        by_phase = kept.locks_consistent.by_phase;
      };
      causes_allowed = record { deaths = deaths_again };
    }

  -- BEGIN KEEPS ALL
  pub begins_keeps_all : (next : Machine) → Begins m s next → IsKept start next
  begins_keeps_all next by =
      let place = in_script m.script s by.group by.whole in
      let high : s ≤ length m.opens = omega (arith, place.1, kept.shaped.opens) in
      elim by.goes as (λ _. IsKept start next) [
        | inl new ↦
            subst (IsKept start) (sym new.1)
            (begin_keeps_all start m kept texts s by.current by.closed by.group place.0 high by.whole by.first new.0)
        | inr old ↦
            subst (IsKept start) (sym old.3)
            (again_keeps_all by.current by.closed by.group place.0 high by.whole by.first old.0 old.1 old.2)
      ]
