-- Sessions that are served one after the other stay in sequence.
use Rattle.std.proofs.Common.{◌≡◌, ℕ, zero, suc, ◌+◌, ◌<◌, ◌≤◌, true, false, List, [], ◌∷◌, ◌++◌, length, Option, None, sym, ap, subst, ◌∙◌, arith, inl, inr, length-append}
use Rattle.std.specs.Prelude.{IsTrue, nat_le}
use Rattle.std.specs.List.{AllByRecursion, slice_index_or}
use Rattle.std.specs.Option.{option_map_or}
use Rattle.std.proofs.lemmas.Bool.{and_parts, cases_Bool, cases_eq}
use Rattle.std.proofs.lemmas.Bool.Decides.{nat_tests}
use Rattle.bf_tree.specs.declared.history.Entry.{Entry}
use Rattle.bf_tree.specs.declared.script.Script.{Script}
use Rattle.bf_tree.specs.declared.script.Session.{Session}
use Rattle.bf_tree.specs.declared.reply.Reply.{Reply}
use Rattle.bf_sql.specs.Database.{Database}
use Rattle.bf_sql.specs.Groups.{no_session, session_at}
use Rattle.bf_machine.specs.Movement.{movement, moving_seen}
use Rattle.bf_machine.specs.Runnable.{phases_rise_from}
use Rattle.bf_machine.specs.declared.stand.Stand.{Stand}
use Rattle.bf_machine.specs.declared.stand.Stand.TheVariants as stand
use Rattle.bf_machine.specs.interleaving.Calls.{HasSessionEnded, IsPlace, StandsAs, statements_at}
use Rattle.bf_machine.specs.interleaving.Kept.{IsCurrent, phase_of}
use Rattle.bf_machine.specs.interleaving.Machines.{Began, Machine, these, open_at, told_at}
use Rattle.bf_machine.specs.interleaving.Serving.{CannotGo, IsInSequence, Serves, SessionsRiseFrom, can_go, deaths_at}
use Rattle.bf_machine.proofs.served.Stuck.{place_or_none}

-- phases rise with sessions
abbrev phase_at : List Session → ℕ → ℕ
phase_at sessions i = (slice_index_or sessions i no_session).phase

above_first : (phase : ℕ) (sessions : List Session) (i : ℕ) → phases_rise_from phase sessions ≡ true → i < length sessions → phase ≤ phase_at sessions i
above_first phase [] i rise within = absurd (omega (arith, within))
above_first phase (x ∷ sessions) zero rise within =
    let parts = and_parts (nat_le phase x.phase) (phases_rise_from x.phase sessions) rise in
    grind (arith, nat_tests, parts.0)
above_first phase (x ∷ sessions) (suc i) rise within =
    let parts = and_parts (nat_le phase x.phase) (phases_rise_from x.phase sessions) rise in
    let here : phase ≤ x.phase = grind (arith, nat_tests, parts.0) in
    omega (arith, here, above_first x.phase sessions i parts.1 (omega (arith, within)))

rises : (phase : ℕ) (sessions : List Session) (i j : ℕ) → phases_rise_from phase sessions ≡ true → i ≤ j → j < length sessions → phase_at sessions i ≤ phase_at sessions j
rises phase [] i j rise below within = absurd (omega (arith, within))
rises phase (x ∷ sessions) zero zero rise below within = omega arith
rises phase (x ∷ sessions) zero (suc j) rise below within =
    let parts = and_parts (nat_le phase x.phase) (phases_rise_from x.phase sessions) rise in
    above_first x.phase sessions j parts.1 (omega (arith, within))
rises phase (x ∷ sessions) (suc i) zero rise below within = absurd (omega (arith, below))
rises phase (x ∷ sessions) (suc i) (suc j) rise below within =
    let parts = and_parts (nat_le phase x.phase) (phases_rise_from x.phase sessions) rise in
    rises x.phase sessions i j parts.1 (omega (arith, below)) (omega (arith, within))

pub phase_rises : (script : Script) → phases_rise_from 0 script.sessions ≡ true → (s t : ℕ) → IsPlace script s → IsPlace script t → s ≤ t → phase_of script s ≤ phase_of script t
phase_rises script rise zero t low place below = absurd (omega (arith, low.0))
phase_rises script rise (suc s) zero low place below = absurd (omega (arith, place.0))
phase_rises script rise (suc s) (suc t) low place below = rises 0 script.sessions s t rise (omega (arith, below)) (omega (arith, place.1))

-- a session of which no call can come, where those before it have ended
module _ {start : Database} (m : Machine) (sequence : IsInSequence start m) (s : ℕ) (own : IsPlace m.script s) (earlier : (t : ℕ) → 1 ≤ t → t < s → HasSessionEnded m t) where
  current : IsCurrent m s
  current = λ t before. elim (place_or_none m.script t) as (λ _. HasSessionEnded m t) [
    | inl there ↦ elim (cases_Bool (nat_le s t)) as (λ _. HasSessionEnded m t) [
      | inl behind ↦
          let above : s ≤ t = grind (arith, nat_tests, behind) in
          absurd (omega (arith, before, phase_rises m.script sequence.phases s t own there above))
      | inr ahead ↦
          let below : t < s = grind (arith, nat_tests, ahead) in
          earlier t there.0 below
    ]
    | inr none ↦
        let nothing : length (session_at m.script t).statements ≡ 0 = ap (λ (session : Session). length session.statements) none.none in
        (omega (arith, nothing), sequence.closed t)
  ]

  has_ended_by : (at : Stand) → StandsAs m s at → can_go at ≡ false → HasSessionEnded m s
  has_ended_by stand.Ended ended none = ended
  has_ended_by stand.Later later none = absurd (later.1 current)
  has_ended_by (stand.Named h) named none =
      let alive : deaths_at m named.start ≡ named.has.deaths = ap (λ (found : Option Began). option_map_or (λ (b : Began). b.deaths) found []) named.has.is in
      let size : length (named.before ++ h ∷ []) ≡ 0 = ap (λ (ds : List ℕ). length ds) (sym named.named ∙ (sym alive ∙ sequence.no_death named.start)) in
      absurd (omega (arith, size, length-append named.before (h ∷ [])))
  has_ended_by stand.Begin at none = absurd cc
  has_ended_by (stand.Statement n) at none = absurd cc
  has_ended_by stand.Commit at none = absurd cc
  has_ended_by stand.Abort at none = absurd cc

module _ {start : Database} (m : Machine) (sequence : IsInSequence start m) (first : ℕ) (place : IsPlace m.script first) (cannot : (s : ℕ) → 1 ≤ s → s < first → CannotGo m s) where
  -- the sessions before the first that can go on have ended
  before_has_ended : (bound s : ℕ) → s < bound → 1 ≤ s → s < first → HasSessionEnded m s
  before_has_ended zero s less low before = absurd (omega (arith, less))
  before_has_ended (suc bound) s less low before =
      let at = cannot s low before in
      has_ended_by m sequence s (low, omega (arith, before, place.1)) (λ t low_t ahead. before_has_ended bound t (omega (arith, ahead, less)) low_t (omega (arith, ahead, before))) at.0 at.1 at.2

  pub earlier_have_ended : (s : ℕ) → 1 ≤ s → s < first → HasSessionEnded m s
  earlier_have_ended s low before = before_has_ended (s + 1) s (omega arith) low before

  -- the entries are of those sessions, and of this one
  module _ (goes_on : HasSessionEnded m first → ⊥) where
    not_behind : (s : ℕ) → ((t : ℕ) → 1 ≤ t → t < s → HasSessionEnded m t) → s ≤ first
    not_behind s ended = elim (cases_Bool (nat_le s first)) as (λ _. s ≤ first) [
      | inl within ↦ grind (arith, nat_tests, within)
      | inr out ↦
          let above : first < s = grind (arith, nat_tests, out) in
          absurd (goes_on (ended first place.0 above))
    ]

    rise_more : (s : ℕ) (history more : List Entry) → s ≤ first → SessionsRiseFrom s history → AllByRecursion (λ (e : Entry). (t : ℕ) → 1 ≤ t → t < e.session → HasSessionEnded m t) history
        → AllByRecursion (λ (e : Entry). e.session ≡ first) more → SessionsRiseFrom s (history ++ more)
    rise_more s [] [] low rises ended one = tt
    rise_more s [] (e ∷ more) low rises ended one = (omega (arith, low, one.0), rise_more e.session [] more (omega (arith, one.0)) tt tt one.1)
    rise_more s (e ∷ history) more low rises ended one = (rises.0, rise_more e.session history more (not_behind e.session ended.0) rises.1 ended.1 one)

    module _ (next : Machine) (serves : Serves m first next) where
      ended_then : (t : ℕ) → HasSessionEnded m t → HasSessionEnded next t
      ended_then t ended = elim (cases_eq t first) as (λ _. HasSessionEnded next t) [
        | inl same ↦ absurd (goes_on (subst (HasSessionEnded m) same ended))
        | inr apart ↦
            let beside = serves.beside t apart in
            let told : length (told_at next t) ≡ length (told_at m t) = ap (λ (rs : List Reply). length rs) beside.1 in
            let text : length (statements_at next t) ≡ length (statements_at m t) = ap (λ (script : Script). length (session_at script t).statements) serves.script in
            (omega (arith, ended.0, told, text), beside.0 ∙ ended.1)
      ]

      ended_still : (history : List Entry) → AllByRecursion (λ (e : Entry). (t : ℕ) → 1 ≤ t → t < e.session → HasSessionEnded m t) history
          → AllByRecursion (λ (e : Entry). (t : ℕ) → 1 ≤ t → t < e.session → HasSessionEnded next t) history
      ended_still [] ended = tt
      ended_still (e ∷ history) ended = (λ t low before. ended_then t (ended.0 t low before), ended_still history ended.1)

      ended_new : (more : List Entry) → AllByRecursion (λ (e : Entry). e.session ≡ first) more → AllByRecursion (λ (e : Entry). (t : ℕ) → 1 ≤ t → t < e.session → HasSessionEnded next t) more
      ended_new [] one = tt
      ended_new (e ∷ more) one = (λ t low before. ended_then t (earlier_have_ended t low (omega (arith, before, one.0))), ended_new more one.1)

      both : (P : Entry → Type 0) (xs ys : List Entry) → AllByRecursion P xs → AllByRecursion P ys → AllByRecursion P (xs ++ ys)
      both P [] ys here there = there
      both P (x ∷ xs) ys here there = (here.0, both P xs ys here.1 there)

      pub stays_in_sequence : next.may_end ≡ these [] → ((t : ℕ) → open_at next t ≡ None) → moving_seen next.lazy.last ≡ movement next.script start next.history → IsInSequence start next
      stays_in_sequence unlogged closed moved =
          let more = serves.entries.0 in
          let same : next.history ≡ m.history ++ more = serves.entries.2 in record {
            unlogged = unlogged;
            phases = subst (λ (script : Script). IsTrue (phases_rise_from 0 script.sessions)) (sym serves.script) sequence.phases;
            closed = closed;
            no_death = λ n. serves.deaths n ∙ sequence.no_death n;
            rises = subst (SessionsRiseFrom 1) (sym same) (rise_more 1 m.history more place.0 sequence.rises sequence.ended serves.entries.1);
            ended = subst (AllByRecursion (λ (e : Entry). (t : ℕ) → 1 ≤ t → t < e.session → HasSessionEnded next t)) (sym same)
                (both (λ (e : Entry). (t : ℕ) → 1 ≤ t → t < e.session → HasSessionEnded next t) m.history more (ended_still m.history sequence.ended) (ended_new more serves.entries.1));
            moved = moved;
          }
