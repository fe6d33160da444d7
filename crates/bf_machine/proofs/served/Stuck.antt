-- Where no call of any session can come, each has ended: the oldest group that is to begin again may begin, and the first phase that has
-- not ended is the current one.
use Rattle.std.proofs.Common.{◌≡◌, ◌⊎◌, ℕ, zero, suc, ◌+◌, ◌<◌, ◌≤◌, false, List, [], ◌∷◌, ◌++◌, length, None, refl, sym, ap, subst, ◌∙◌, arith, inl, inr, length-append}
use Rattle.std.specs.Prelude.{Contains, nat_le}
use Rattle.std.specs.List.{slice_index_or}
use Rattle.std.proofs.lemmas.Bool.{cases_Bool}
use Rattle.std.proofs.lemmas.Bool.Decides.{nat_tests}
use Rattle.bf_tree.specs.declared.script.Script.{Script}
use Rattle.bf_tree.specs.declared.script.Session.{Session}
use Rattle.bf_sql.specs.Database.{Database}
use Rattle.bf_sql.specs.Groups.{groups_in, no_session, session_at}
use Rattle.bf_machine.specs.declared.stand.Stand.{Stand}
use Rattle.bf_machine.specs.declared.stand.Stand.TheVariants as stand
use Rattle.bf_machine.specs.interleaving.Calls.{HasSessionEnded, IsNamed, IsPlace, StandsAs}
use Rattle.bf_machine.specs.interleaving.Kept.{HasBegun, HasEnded, HasStart, IsCurrent, IsKept, phase_of}
use Rattle.bf_machine.specs.interleaving.Machines.{Group, Machine, open_at, told_at}
use Rattle.bf_machine.specs.interleaving.Serving.{CannotGo, can_go}
use Rattle.bf_machine.proofs.interleaving.Progress.{oldest_may_begin}
use Rattle.bf_machine.proofs.interleaving.Texts.{AreTexts, one_first}

-- behind the last session there is none
beyond : {X : Type 0} (xs : List X) (n : ℕ) (d : X) → length xs ≤ n → slice_index_or xs n d ≡ d
beyond [] n d above = refl
beyond (x ∷ xs) zero d above = absurd (omega (arith, above))
beyond (x ∷ xs) (suc n) d above = beyond xs n d (omega (arith, above))

pub record IsNoPlace (script : Script) (s : ℕ) : Type 0 where
  pub none : session_at script s ≡ no_session
  pub outside : (s ≡ 0) ⊎ (length script.sessions < s)

pub place_or_none : (script : Script) (s : ℕ) → IsPlace script s ⊎ IsNoPlace script s
place_or_none script zero = inr (record { none = refl; outside = inl refl })
place_or_none script (suc s) = elim (cases_Bool (nat_le (suc s) (length script.sessions))) as (λ _. IsPlace script (suc s) ⊎ IsNoPlace script (suc s)) [
  | inl within ↦ let high : suc s ≤ length script.sessions = grind (arith, nat_tests, within) in inl (omega arith, high)
  | inr out ↦
      let above : length script.sessions < suc s = grind (arith, nat_tests, out) in
      inr (record { none = beyond script.sessions s no_session (omega (arith, above)); outside = inr above })
]

-- the last of a list
pub last_of : (before : List ℕ) (h : ℕ) → slice_index_or (before ++ h ∷ []) (length before) 0 ≡ h
last_of [] h = refl
last_of (x ∷ before) h = last_of before h

pub last_there : (before : List ℕ) (h : ℕ) → Contains (before ++ h ∷ []) h
last_there [] h = (0, omega arith, refl)
last_there (x ∷ before) h = let there = last_there before h in (suc there.0, omega (arith, there.1), there.2)

module _ {start : Database} (m : Machine) (kept : IsKept start m) (texts : AreTexts m.script) where
  -- a group's session is one of the script
  pub group_place : (s : ℕ) (group : Group) → Contains (groups_in m.script s) group → IsPlace m.script s
  group_place s group whole = elim (place_or_none m.script s) as (λ _. IsPlace m.script s) [
    | inl place ↦ place
    | inr none ↦
        let bounds = texts.bounds s group whole in
        let nothing : length (session_at m.script s).statements ≡ 0 = ap (λ (session : Session). length session.statements) none.none in
        absurd (omega (arith, bounds.0, bounds.1, bounds.2, nothing))
  ]

  -- a session of the current phase that is to begin a group again, once another has ended, is not stuck where that one has ended
  named_ends : (s : ℕ) (h : ℕ) (named : IsNamed m s h) → ((t k : ℕ) (other : Group) → HasStart m.began t other k → k < named.start → HasEnded m t other) → ⊥
  named_ends s h named older =
      let deaths = named.has.deaths in
      let among : Contains deaths h = subst (λ (ds : List ℕ). Contains ds h) (sym named.named) (last_there named.before h) in
      let died = (kept.causes_allowed.deaths named.start _ named.has.is).each h among in
      let size : length named.before + 1 ≡ length deaths = sym (ap (λ (ds : List ℕ). length ds) named.named ∙ length-append named.before (h ∷ [])) in
      let at : slice_index_or deaths (length named.before) 0 ≡ h = ap (λ (ds : List ℕ). slice_index_or ds (length named.before) 0) named.named ∙ last_of named.before h in
      let ended = oldest_may_begin start m kept s named.group named.start named.has (λ t other k has less. older t k other has less) in
      named.goes_on died.other died.theirs died.named
      (ended (length named.before) died.other died.theirs size (subst (λ (k : ℕ). HasStart m.began died.other died.theirs k) (sym at) died.named))

  module _ (stuck : (s : ℕ) → IsPlace m.script s → CannotGo m s) where
    ended_or : (t : ℕ) (other : Group) → (HasEnded m t other → ⊥) ⊎ HasEnded m t other
    ended_or t other = elim (cases_Bool (nat_le other.1 (length (told_at m t)))) as (λ _. (HasEnded m t other → ⊥) ⊎ HasEnded m t other) [
      | inl within ↦ let e : other.1 ≤ length (told_at m t) = grind (arith, nat_tests, within) in inr e
      | inr out ↦ inl (λ e. let above : length (told_at m t) < other.1 = grind (arith, nat_tests, out) in omega (arith, e, above))
    ]

    -- a group that has begun and not ended, where each older one has ended
    module _ (s k : ℕ) (group : Group) (has : HasStart m.began s group k) (goes_on : HasEnded m s group → ⊥)
        (older : (t j : ℕ) (other : Group) → HasStart m.began t other j → j < k → HasEnded m t other) where
      abbrev begun : HasBegun start m s group
      begun = kept.locks_consistent.begun s group k has

      first : group.0 ≡ length (told_at m s) + 1
      first = elim begun.goes as (λ _. group.0 ≡ length (told_at m s) + 1) [ inl ended ↦ absurd (goes_on ended) | inr next ↦ next ]

      oldest_stands : (at : Stand) → StandsAs m s at → can_go at ≡ false → ⊥
      oldest_stands stand.Ended ended none = let bounds = texts.bounds s group begun.whole in goes_on (omega (arith, ended.0, bounds.2))
      oldest_stands stand.Later later none = later.1 (kept.locks_consistent.in_turn s group k has)
      oldest_stands (stand.Named h) named none =
          let same : named.group ≡ group = one_first m.script s named.group group named.whole begun.whole (named.first ∙ sym first) in
          let start_is : named.start ≡ k = kept.locks_consistent.once s group named.start k (subst (λ (g : Group). HasStart m.began s g named.start) same named.has) has in
          named_ends s h named (λ t j other has_j below. older t j other has_j (omega (arith, below, start_is)))
      oldest_stands stand.Begin at none = absurd cc
      oldest_stands (stand.Statement n) at none = absurd cc
      oldest_stands stand.Commit at none = absurd cc
      oldest_stands stand.Abort at none = absurd cc

      none_is_oldest : ⊥
      none_is_oldest = let cannot = stuck s (group_place s group begun.whole) in oldest_stands cannot.0 cannot.1 cannot.2

    -- each group that has begun has ended, the older ones first
    begun_has_ended : (bound : ℕ) (s k : ℕ) (group : Group) → k < bound → HasStart m.began s group k → (HasEnded m s group → ⊥) → ⊥
    begun_has_ended zero s k group less has goes_on = absurd (omega (arith, less))
    begun_has_ended (suc bound) s k group less has goes_on =
        none_is_oldest s k group has goes_on
        (λ t j other has_j below. elim (ended_or t other) as (λ _. HasEnded m t other) [
          | inl not_yet ↦ absurd (begun_has_ended bound t j other (omega (arith, below, less)) has_j not_yet)
          | inr ended ↦ ended
        ])

    -- and each session, phase after phase
    module _ (closed : (t : ℕ) → open_at m t ≡ None) (s : ℕ) (place : IsPlace m.script s) (earlier : (t : ℕ) → IsPlace m.script t → phase_of m.script t < phase_of m.script s → HasSessionEnded m t) where
      current : IsCurrent m s
      current = λ t before. elim (place_or_none m.script t) as (λ _. HasSessionEnded m t) [
        | inl there ↦ earlier t there before
        | inr none ↦
            let nothing : length (session_at m.script t).statements ≡ 0 = ap (λ (session : Session). length session.statements) none.none in
            (omega (arith, nothing), closed t)
      ]

      first_stands : (at : Stand) → StandsAs m s at → can_go at ≡ false → HasSessionEnded m s
      first_stands stand.Ended ended none = ended
      first_stands stand.Later later none = absurd (later.1 current)
      first_stands (stand.Named h) named none =
          let bounds = texts.bounds s named.group named.whole in
          absurd (begun_has_ended (named.start + 1) s named.start named.group (omega arith) named.has (λ e. omega (arith, e, named.first, bounds.1)))
      first_stands stand.Begin at none = absurd cc
      first_stands (stand.Statement n) at none = absurd cc
      first_stands stand.Commit at none = absurd cc
      first_stands stand.Abort at none = absurd cc

    phase_has_ended : ((t : ℕ) → open_at m t ≡ None) → (bound : ℕ) (s : ℕ) → IsPlace m.script s → phase_of m.script s < bound → HasSessionEnded m s
    phase_has_ended closed zero s place less = absurd (omega (arith, less))
    phase_has_ended closed (suc bound) s place less =
        let cannot = stuck s place in
        first_stands closed s place (λ t there before. phase_has_ended closed bound t there (omega (arith, before, less))) cannot.0 cannot.1 cannot.2

    pub all_have_ended : ((t : ℕ) → open_at m t ≡ None) → (s : ℕ) → IsPlace m.script s → HasSessionEnded m s
    all_have_ended closed s place = phase_has_ended closed (phase_of m.script s + 1) s place (omega arith)
