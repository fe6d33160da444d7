-- A group that is told that it died is told so by the rule.
use Rattle.std.proofs.Common.{◌≡◌, ℕ, zero, suc, ◌+◌, ◌-◌, ◌<◌, ◌≤◌, ◌==◌, Bool, true, false, cond, not, eqb, List, [], ◌∷◌, ◌++◌, length, Option, None, Some, refl, sym, ap, subst, ◌∙◌, arith, inl, inr, length-append}
use Rattle.std.specs.Prelude.{Contains, find, slice_get}
use Rattle.std.specs.List.{AllByRecursion, IsDistinct, slice_index_or}
use Rattle.std.specs.Option.{option_map_or}
use Rattle.std.proofs.lemmas.Bool.{cases_Bool}
use Rattle.std.proofs.lemmas.Bool.Decides.{nat_tests}
use Rattle.std.proofs.lemmas.Option.{same_Some}
use Rattle.bf_base.specs.Lists.{part}
use Rattle.bf_tree.specs.declared.reply.Cause.TheVariants.{Died}
use Rattle.bf_tree.specs.declared.reply.Reply.{Reply}
use Rattle.bf_tree.specs.declared.reply.Reply.TheVariants.{Begun, Ended}
use Rattle.bf_sql.specs.Database.{Database}
use Rattle.bf_sql.specs.Groups.{groups_in, has_statement}
use Rattle.bf_machine.specs.interleaving.Calls.{replies_at, reply_at}
use Rattle.bf_machine.specs.interleaving.Kept.{AllowedNow, DeathsAllowed, DiedFor, HasStart, IsKept, phase_of}
use Rattle.bf_machine.specs.interleaving.Machines.{Began, Group, Machine, began_at, transcripts_of}
use Rattle.bf_machine.specs.interleaving.Serving.{deaths_at}
use Rattle.bf_machine.proofs.interleaving.Texts.{are_texts}
use Rattle.bf_run.specs.Deaths.{HasFewInPhases, HasRivals, HasSurvivor, IsRival, MayDie, groups_before, is_death, tell_no_death, tells_no_death}
use Rattle.bf_run.proofs.deaths.Lists.{apart_test, at_is, first_in, later_in, of_part, test_all}
use Rattle.bf_run.proofs.deaths.Numbers.{above_earlier, within_phase}
use Rattle.bf_run.proofs.deaths.Replies.{death_is}
use Rattle.bf_run.proofs.deaths.Rivals.{fewer}
use Rattle.bf_run.proofs.deaths.Told.{dead, none_tells, tells_there, transcript_at}

-- a reply that is there
got : (xs : List Reply) (j : ℕ) (r : Reply) → slice_get xs j ≡ Some r → (j < length xs) × (slice_index_or xs j Begun ≡ r)
got [] j r is = let none : ◌≡◌ {A = Option Reply} None (Some r) = is in absurd cc
got (x ∷ xs) zero r is = let same : x ≡ r = same_Some x r is in (omega arith, same)
got (x ∷ xs) (suc j) r is = let later = got xs j r is in (omega (arith, later.0), later.1)

-- a group's deaths by its start number
same_deaths : (began : List Began) (t k n : ℕ) (g : Group) (one : HasStart began t g k) (other : HasStart began t g n) → k ≡ n → one.deaths ≡ other.deaths
same_deaths began t k n g one other same =
    let mine : Began = record { session = t; group = g; deaths = one.deaths } in
    let theirs : Began = record { session = t; group = g; deaths = other.deaths } in
    let both : mine ≡ theirs = same_Some mine theirs (sym one.is ∙ (ap (began_at began) same ∙ other.is)) in
    ap (λ (b : Began). b.deaths) both

not_empty : (deaths before : List ℕ) (h : ℕ) → deaths ≡ before ++ h ∷ [] → deaths ≡ [] → ⊥
not_empty deaths before h is none =
    let size : length (before ++ h ∷ []) ≡ 0 = ap (λ (ds : List ℕ). length ds) (sym is ∙ none) in
    omega (arith, size, length-append before (h ∷ []))

module _ {start : Database} (m : Machine) (kept : IsKept start m) where
  module _ (s : ℕ) (group : Group) where
    abbrev Died_for : ℕ → Type 0
    Died_for k = DiedFor start m.script m.began m.history s group k

    -- the sessions of the groups for which it died
    abbrev rivals_of : (ds : List ℕ) → ((k : ℕ) → Contains ds k → Died_for k) → List ℕ
    rivals_of [] each = []
    rivals_of (d ∷ ds) each = (each d (first_in d ds)).other ∷ rivals_of ds (λ k there. each k (later_in d k ds there))

    length-rivals : (ds : List ℕ) (each : (k : ℕ) → Contains ds k → Died_for k) → length (rivals_of ds each) ≡ length ds
    length-rivals [] each = refl
    length-rivals (d ∷ ds) each = ap suc (length-rivals ds (λ k there. each k (later_in d k ds there)))

    all_rivals : (P : ℕ → Type 0) (ds : List ℕ) (each : (k : ℕ) → Contains ds k → Died_for k) → ((k : ℕ) (there : Contains ds k) → P (each k there).other) → AllByRecursion P (rivals_of ds each)
    all_rivals P [] each so = tt
    all_rivals P (d ∷ ds) each so = (so d (first_in d ds), all_rivals P ds (λ k there. each k (later_in d k ds there)) (λ k there. so k (later_in d k ds there)))

    abbrev Differ : List ℕ → Type 0
    Differ ds = (i j t : ℕ) (one other : Group) → i < length ds → j < length ds → HasStart m.began t one (slice_index_or ds i 0) → HasStart m.began t other (slice_index_or ds j 0) → i ≡ j

    distinct_rivals : (ds : List ℕ) (each : (k : ℕ) → Contains ds k → Died_for k) → Differ ds → IsDistinct eqb (rivals_of ds each)
    unfolding IsDistinct
    distinct_rivals [] each differ = tt
    distinct_rivals (d ∷ ds) each differ =
        let first = each d (first_in d ds) in (
          all_rivals (λ y. eqb first.other y ≡ false) ds (λ k there. each k (later_in d k ds there))
              (λ k there. (
              let second = each k (later_in d k ds there) in
              apart_test first.other second.other (λ same. (
              let at : slice_index_or ds there.0 0 ≡ k = at_is ds there.0 0 k there.1 ∙ there.2 in
              let e = differ 0 (suc there.0) second.other first.theirs second.theirs (omega arith) (omega (arith, there.1))
              (subst (λ (t : ℕ). HasStart m.began t first.theirs d) same first.named) (subst (HasStart m.began second.other second.theirs) (sym at) second.named) in
              omega (arith, e))))),
          distinct_rivals ds (λ k there. each k (later_in d k ds there))
              (λ i j t one other low high has_one has_other. (let e = differ (suc i) (suc j) t one other (omega (arith, low)) (omega (arith, high)) has_one has_other in omega (arith, e))),
        )

    is_rival : (k : ℕ) (died : Died_for k) → IsRival start m.script m.history s group died.other
    is_rival k died = record {
      another = died.another;
      one_phase = died.one_phase;
      theirs = died.theirs;
      whole = (kept.locks_consistent.begun died.other died.theirs k died.named).whole;
      clash = died.clash;
    }

    module _ (h : ℕ) (allowed : AllowedNow start m s group (Died h)) where
      abbrev died : Died_for h
      died = allowed.0

      abbrev deaths : List ℕ
      deaths = died.has.deaths

      so : DeathsAllowed start m died.own (record { session = s; group = group; deaths = deaths })
      so = kept.causes_allowed.deaths died.own _ died.has.is

      pub own_whole : Contains (groups_in m.script s) group
      own_whole = (kept.locks_consistent.begun s group died.own died.has).whole

      pub rivals : HasRivals start m.script m.history s group (m.retries + 1)
      rivals = record {
        sessions = rivals_of deaths so.each;
        differ = distinct_rivals deaths so.each so.sessions_differ;
        each = all_rivals (IsRival start m.script m.history s group) deaths so.each (λ k there. is_rival k (so.each k there));
        enough = omega (arith, length-rivals deaths so.each, ap (λ (ds : List ℕ). length ds) allowed.2, length-append allowed.1 (h ∷ []), allowed.3);
      }

  -- SURVIVORS: a group that has not died is not told that it has
  alive : (t n : ℕ) (g : Group) (has : HasStart m.began t g n) → has.deaths ≡ [] → tells_no_death (part g.0 g.1 (replies_at m t)) ≡ true
  alive t n g has none = test_all (λ r. not (is_death r)) (part g.0 g.1 (replies_at m t)) one
    where
      whole : Contains (groups_in m.script t) g
      whole = (kept.locks_consistent.begun t g n has).whole

      not_dead : (r : Reply) → Contains (part g.0 g.1 (replies_at m t)) r → is_death r ≡ true → ⊥
      not_dead r there tells =
          let told = death_is r tells in
          let p = of_part g.0 g.1 (replies_at m t) r there in
          let is = tells_there (replies_at m t) p.place r told.number p.below p.is told.is in
          let d = dead m kept t p.place told.number p.below is in
          let own = (are_texts m.script).found t g whole (1 + p.place) (omega (arith, p.from)) (omega (arith, p.to)) in
          let same : d.group ≡ g = same_Some d.group g (sym d.found ∙ own) in
          let allowed : AllowedNow start m t g (Died told.number) = subst (λ (x : Group). AllowedNow start m t x (Died told.number)) same d.allowed in
          let theirs = allowed.0.has in
          let number : allowed.0.own ≡ n = kept.locks_consistent.once t g allowed.0.own n theirs has in
          not_empty allowed.0.has.deaths allowed.1 told.number allowed.2 (same_deaths m.began t allowed.0.own n g theirs has number ∙ none)

      one : (r : Reply) → Contains (part g.0 g.1 (replies_at m t)) r → not (is_death r) ≡ true
      one r there = elim (cases_Bool (is_death r)) as (λ _. not (is_death r) ≡ true) [
        | inl tells ↦ absurd (not_dead r there tells)
        | inr other ↦ rw other refl
      ]

  -- so, going from a group to an older one for which it died, one is found
  survivor_from : (bound n t : ℕ) (g : Group) (has : HasStart m.began t g n) → n < bound → HasSurvivor m.script (transcripts_of m) (phase_of m.script t)
  survivor_from zero n t g has below = absurd (omega (arith, below))
  survivor_from (suc bound) n t g has below = elim (has.deaths) as (λ ds. has.deaths ≡ ds → HasSurvivor m.script (transcripts_of m) (phase_of m.script t)) [
    | [] ↦ λ none. record {
      session = t;
      group = g;
      whole = (kept.locks_consistent.begun t g n has).whole;
      of_phase = refl;
      lives = subst (λ (rs : List Reply). tells_no_death (part g.0 g.1 rs) ≡ true) (sym (transcript_at m kept t)) (alive t n g has none);
    }
    | d ∷ ds ↦ λ some.
        let died = (kept.causes_allowed.deaths n _ has.is).each d (subst (λ (xs : List ℕ). Contains xs d) (sym some) (first_in d ds)) in
        let number : died.own ≡ n = kept.locks_consistent.once t g died.own n died.has has in
        subst (HasSurvivor m.script (transcripts_of m)) died.one_phase (survivor_from bound d died.other died.theirs died.named (omega (arith, died.older, number, below)))
  ] refl

  -- THE RULE
  pub may_die : (s : ℕ) (group : Group) (h : ℕ) → AllowedNow start m s group (Died h) → MayDie start m.script m.history m.retries (transcripts_of m) s group h
  may_die s group h allowed =
      let died = allowed.0 in
      let above : groups_before m.script (phase_of m.script s) < h =
      subst (λ (p : ℕ). groups_before m.script p < h) died.one_phase (above_earlier m kept died.other died.theirs h died.named) in
      record {
        rivals = rivals s group h allowed;
        above = above;
        below = omega (arith, died.older, within_phase m kept s group died.own died.has);
        survivor = survivor_from (suc died.own) died.own s group died.has (omega arith);
      }

  -- of a reply at a place counted from 1
  pub by_rule : (s n h : ℕ) → reply_at m s n ≡ Some (Ended (Died h))
      → (group : Group) × (find (has_statement n) (groups_in m.script s) ≡ Some group) × MayDie start m.script m.history m.retries (transcripts_of m) s group h
  by_rule s zero h is = let none : ◌≡◌ {A = Option Reply} None (Some (Ended (Died h))) = is in absurd cc
  by_rule s (suc j) h is =
      let here : suc j - 1 ≡ j = omega arith in
      let test : (suc j == 0) ≡ false = grind (arith, nat_tests) in
      let found : slice_get (replies_at m s) (suc j - 1) ≡ Some (Ended (Died h)) =
      subst (λ (b : Bool). cond b None (slice_get (replies_at m s) (suc j - 1)) ≡ Some (Ended (Died h))) test is in
      let own : slice_get (replies_at m s) j ≡ Some (Ended (Died h)) = subst (λ (i : ℕ). slice_get (replies_at m s) i ≡ Some (Ended (Died h))) here found in
      let reply = got (replies_at m s) j (Ended (Died h)) own in
      let d = dead m kept s j h reply.0 reply.1 in
      let number : 1 + j ≡ suc j = omega arith in
      (d.group, subst (λ (n : ℕ). find (has_statement n) (groups_in m.script s) ≡ Some d.group) number d.found, may_die s d.group h d.allowed)

  -- NONE IS TOLD where none may be
  none_if : ((s : ℕ) (group : Group) (h : ℕ) → AllowedNow start m s group (Died h) → ⊥) → tell_no_death (transcripts_of m) ≡ true
  none_if none = none_tells (transcripts_of m) none_there
    where
      none_there : (s j h : ℕ) → j < length (slice_index_or ([] ∷ transcripts_of m) s []) → slice_index_or (slice_index_or ([] ∷ transcripts_of m) s []) j Begun ≡ Ended (Died h) → ⊥
      none_there s j h below is =
          let own = transcript_at m kept s in
          let within : j < length (replies_at m s) = subst (λ (rs : List Reply). j < length rs) own below in
          let here : slice_index_or (replies_at m s) j Begun ≡ Ended (Died h) = subst (λ (rs : List Reply). slice_index_or rs j Begun ≡ Ended (Died h)) own is in
          let d = dead m kept s j h within here in
          none s d.group h d.allowed

  -- as where no phase has more sessions than a group has lives
  pub none_told : (most : ℕ) → HasFewInPhases most m.script → most ≤ m.retries + 1 → tell_no_death (transcripts_of m) ≡ true
  none_told most few lives = none_if (λ s group h allowed. (
      let less = fewer start m.script m.history s group most (m.retries + 1) few (rivals s group h allowed) (own_whole s group h allowed) in
      omega (arith, less, lives)))

  -- and where none has died
  pub none_died : ((n : ℕ) → deaths_at m n ≡ []) → tell_no_death (transcripts_of m) ≡ true
  none_died none = none_if (λ s group h allowed. (
      let has = allowed.0.has in
      let own : deaths_at m allowed.0.own ≡ has.deaths = ap (λ (found : Option Began). option_map_or (λ (b : Began). b.deaths) found []) has.is in
      not_empty has.deaths allowed.1 h allowed.2 (sym own ∙ none allowed.0.own)))
