-- No phase of a script that a text spells has more sessions than the grammar allows.
use Rattle.std.proofs.Common.{◌≡◌, ℕ, ◌+◌, ◌<◌, ◌≤◌, ◌==◌, true, cond, List, [], ◌∷◌, ◌++◌, length, filter, Ok, refl, sym, subst, arith, inl, inr, length-append}
use Rattle.std.specs.Option.{is_none}
use Rattle.std.proofs.lemmas.Bool.{and_parts, cases_Bool}
use Rattle.std.proofs.lemmas.Bool.Decides.{nat_tests}
use Rattle.std.proofs.lemmas.List.Elements.{filter-append}
use Rattle.bf_tree.specs.declared.script.Script.{Script}
use Rattle.bf_tree.specs.declared.script.Session.{Session}
use Rattle.bf_tree.specs.declared.statement.Statement.{Statement}
use Rattle.bf_phrase.specs.Steps.{Session as SessionMark, Step, fault_at, within}
use Rattle.bf_parse.specs.Scripts.{IsScriptText, Phases, Progress, Sessions, no_phase, no_session, nothing_yet, phase, session, with_phase, with_session}
use Rattle.bf_run.specs.Deaths.{HasFewInPhases}
use Rattle.bf_run.proofs.Parsed.{within_parts}

abbrev of_phase : ℕ → List Session → ℕ
of_phase p ss = length (filter (λ (s : Session). s.phase == p) ss)

-- one session more
one_more : (p : ℕ) (ss : List Session) (s : Session) → of_phase p (ss ++ s ∷ []) ≡ of_phase p ss + length (cond (s.phase == p) (s ∷ []) [])
one_more p ss s = rw filter-append (length-append (filter (λ (s : Session). s.phase == p) ss) (cond (s.phase == p) (s ∷ []) []))

one_of_it : (p : ℕ) (ss : List Session) (s : Session) → s.phase ≡ p → of_phase p (ss ++ s ∷ []) ≡ of_phase p ss + 1
one_of_it p ss s same =
    let test : (s.phase == p) ≡ true = grind (arith, nat_tests, same) in
    let size : length (cond (s.phase == p) (s ∷ []) []) ≡ 1 = rw test refl in
    omega (arith, one_more p ss s, size)

one_of_other : (p : ℕ) (ss : List Session) (s : Session) → (s.phase ≡ p → ⊥) → of_phase p (ss ++ s ∷ []) ≡ of_phase p ss
one_of_other p ss s apart = elim (cases_Bool (s.phase == p)) as (λ _. of_phase p (ss ++ s ∷ []) ≡ of_phase p ss) [
  | inl same ↦ absurd (apart (grind (arith, nat_tests, same)))
  | inr test ↦
      let size : length (cond (s.phase == p) (s ∷ []) []) ≡ 0 = rw test refl in
      omega (arith, one_more p ss s, size)
]

-- the sessions so far: few of each phase, those of the present one are counted, and none is of a later one
record AreFew (p : Progress) : Type 0 where
  few : (q : ℕ) → of_phase q p.sessions ≤ 16
  own : of_phase p.phases p.sessions ≡ p.of_phase
  later : (q : ℕ) → p.phases < q → of_phase q p.sessions ≡ 0

room_for : (n k : ℕ) → is_none (fault_at (SessionMark n k)) ≡ true → k ≤ 16
room_for n k h = grind (arith, nat_tests)

few_with_session : (p : Progress) (x : List Statement × ℕ) → AreFew p → p.of_phase + 1 ≤ 16 → AreFew (with_session p x)
few_with_session p x h room =
    let s : Session = record { phase = p.phases; statements = x.0 } in
    let own = one_of_it p.phases p.sessions s refl in
    record {
      few = λ q. elim (cases_Bool (p.phases == q)) as (λ _. of_phase q (p.sessions ++ s ∷ []) ≤ 16) [
        | inl same ↦
            let is : p.phases ≡ q = grind (arith, nat_tests, same) in
            subst (λ (q : ℕ). of_phase q (p.sessions ++ s ∷ []) ≤ 16) is (omega (arith, own, h.own, room))
        | inr other ↦
            let apart : p.phases ≡ q → ⊥ = λ is. grind (arith, nat_tests, is, other) in
            omega (arith, one_of_other q p.sessions s apart, h.few q)
      ];
      own = omega (arith, own, h.own);
      later = λ q above. omega (arith, one_of_other q p.sessions s (λ is. omega (arith, is, above)), h.later q above);
    }

few_with_phase : (p : Progress) → AreFew p → AreFew (with_phase p)
few_with_phase p h = record {
  few = h.few;
  own = h.later (p.phases + 1) (omega arith);
  later = λ q above. h.later q (omega (arith, above));
}

sessions_few : (p : Progress) (steps : List Step) (q : Progress) → Sessions p steps q → within steps ≡ true → AreFew p → AreFew q
sessions_few p steps q (no_session e f) inside h = subst AreFew (sym f) h
sessions_few p steps q (session front back x ss more e) inside h =
    let mark = SessionMark (length p.sessions + 1) (p.of_phase + 1) in
    let marked = and_parts (is_none (fault_at mark)) (within (front ++ back)) (rw e at inside) in
    let parts = within_parts front back marked.1 in
    sessions_few (with_session p x) back q more parts.1 (few_with_session p x h (room_for (length p.sessions + 1) (p.of_phase + 1) marked.0))

phases_few : (p : Progress) (steps : List Step) (q : Progress) → Phases p steps q → within steps ≡ true → AreFew p → AreFew q
phases_few p steps q (no_phase e f) inside h = subst AreFew (sym f) h
phases_few p steps q (phase front back r ss more e) inside h =
    let parts = within_parts front back (rw e at inside) in
    phases_few r back q more parts.1 (sessions_few (with_phase p) front r ss parts.0 (few_with_phase p h))

pub script_has_few : (text : List ℕ) (script : Script) → IsScriptText text (Ok script) → HasFewInPhases 16 script
script_has_few text script h =
    let read = h.3 in
    let made = read.spells in
    let few = phases_few nothing_yet read.steps made.0 made.1 read.inside (record { few = λ q. omega arith; own = refl; later = λ q above. refl }) in
    subst (HasFewInPhases 16) (sym made.2) few.few
