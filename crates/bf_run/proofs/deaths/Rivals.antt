-- A group has fewer rivals than its phase has sessions.
use Rattle.std.proofs.Common.{◌≡◌, ℕ, zero, suc, ◌+◌, ◌<◌, ◌==◌, Bool, true, false, cond, eqb, List, [], ◌∷◌, length, filter, refl, sym, ap, subst, ◌∙◌, arith}
use Rattle.std.specs.Prelude.{Contains}
use Rattle.std.specs.List.{IsDistinct, list_any, slice_index_or, range_with_len}
use Rattle.std.proofs.lemmas.Bool.Decides.{nat_tests}
use Rattle.std.proofs.lemmas.Cmp.{nat_eq_equiv}
use Rattle.std.proofs.lemmas.Map.Made.{length-le_from_is_member}
use Rattle.bf_tree.specs.declared.history.Entry.{Entry}
use Rattle.bf_tree.specs.declared.script.Script.{Script}
use Rattle.bf_tree.specs.declared.script.Session.{Session}
use Rattle.bf_sql.specs.Database.{Database}
use Rattle.bf_sql.specs.Groups.{groups_in, no_session, session_at}
use Rattle.bf_machine.specs.interleaving.Calls.{IsPlace}
use Rattle.bf_machine.specs.interleaving.Kept.{phase_of}
use Rattle.bf_machine.specs.interleaving.Machines.{Group}
use Rattle.bf_run.specs.Deaths.{HasFewInPhases, HasRivals, IsRival}
use Rattle.bf_run.proofs.deaths.Lists.{all_at, all_from, any_in, apart_test, in_filter, in_range, of_any}
use Rattle.bf_run.proofs.deaths.Numbers.{place_of}

-- the places of sessions that pass a test are as many as these
count_places : (q : Session → Bool) (f : ℕ → Session) (k : ℕ) (xs : List Session) → ((i : ℕ) → i < length xs → f (k + i) ≡ slice_index_or xs i no_session)
    → length (filter (λ t. q (f t)) (range_with_len k (length xs))) ≡ length (filter q xs)
count_places q f k [] each = refl
count_places q f k (x ∷ xs) each =
    let same : k ≡ k + 0 = omega arith in
    let here : f k ≡ x = ap f same ∙ each 0 (omega arith) in
    let rest = count_places q f (k + 1) xs (λ i below. (let next : k + 1 + i ≡ k + suc i = omega arith in ap f next ∙ each (suc i) (omega (arith, below)))) in
    ap (λ (y : Session). length (cond (q y) (k ∷ filter (λ t. q (f t)) (range_with_len (k + 1) (length xs))) (filter (λ t. q (f t)) (range_with_len (k + 1) (length xs))))) here
    ∙ elim (q x) as (λ b. length (cond b (k ∷ filter (λ t. q (f t)) (range_with_len (k + 1) (length xs))) (filter (λ t. q (f t)) (range_with_len (k + 1) (length xs)))) ≡ length (cond b (x ∷ filter q xs) (filter q xs))) [
      | true ↦ ap suc rest
      | false ↦ rest
    ]

module _ (start : Database) (script : Script) (history : List Entry) (s : ℕ) (group : Group) where
  abbrev of_phase : ℕ → Bool
  of_phase t = phase_of script t == phase_of script s

  abbrev places : List ℕ
  places = filter of_phase (range_with_len 1 (length script.sessions))

  there : (t : ℕ) → IsPlace script t → phase_of script t ≡ phase_of script s → list_any (eqb t) places ≡ true
  there t place same =
      let passes : of_phase t ≡ true = grind (arith, nat_tests, same) in
      any_in places t (in_filter of_phase (range_with_len 1 (length script.sessions)) t (in_range (length script.sessions) 1 t place.0 (omega (arith, place.1))) passes)

  pub fewer : (most least : ℕ) → HasFewInPhases most script → HasRivals start script history s group least → Contains (groups_in script s) group → least < most
  unfolding IsDistinct
  fewer most least few rivals whole =
      let all = s ∷ rivals.sessions in
      let most_places = length-le_from_is_member nat_eq_equiv all places (distinct rivals) (λ q any. each q (of_any all q any)) in
      let count = count_places (λ (x : Session). x.phase == phase_of script s) (session_at script) 1 script.sessions (λ i below. (let next : 1 + i ≡ suc i = omega arith in ap (session_at script) next)) in
      omega (arith, most_places, count, few (phase_of script s), rivals.enough)
    where
      distinct : (rivals : HasRivals start script history s group least) → IsDistinct eqb (s ∷ rivals.sessions)
      distinct rivals = (
        all_from (λ y. eqb s y ≡ false) rivals.sessions
            (λ y among. apart_test s y (λ same. (all_at (IsRival start script history s group) rivals.sessions rivals.each y among).another (sym same))),
        rivals.differ,
      )

      each : (q : ℕ) → Contains (s ∷ rivals.sessions) q → list_any (eqb q) places ≡ true
      each q (zero, within, is) = subst (λ (t : ℕ). list_any (eqb t) places ≡ true) is (there s (place_of script s group whole) refl)
      each q (suc k, within, is) =
          let rival = all_at (IsRival start script history s group) rivals.sessions rivals.each q (k, omega (arith, within), is) in
          there q (place_of script q rival.theirs rival.whole) rival.one_phase
