-- Sessions in a row, and phases.
use Rattle.std.proofs.Common.{◌≡◌, ℕ, ◌+◌, List, [], ◌∷◌, ◌++◌, length, Some, None, Ok, Err, refl, sym, ap, subst, ◌∙◌, inl, inr}
use Rattle.bf_lex.specs.declared.fault.ScriptKind.{ScriptKind}
use Rattle.bf_lex.specs.declared.keyword.Keyword.TheVariants as keyword
use Rattle.bf_lex.specs.declared.sign.Sign.TheVariants as sign
use Rattle.bf_tree.specs.declared.statement.Statement.{Statement}
use Rattle.bf_phrase.specs.declared.error.ReadStop.{ReadStop}
use Rattle.bf_phrase.specs.Words.{Word, Keyword, Sign}
use Rattle.bf_phrase.specs.Steps.{Step, Say, Limit, Mark, Session, said, fault_at}
use Rattle.bf_phrase.specs.Rules.{Return, After, Marked, Then, Either}
use Rattle.bf_phrase.specs.Reading.{Ends, Reading, Read, Over, Fits}
use Rattle.bf_phrase.specs.Outcome.{IsBehind, IsExpected, stopped}
use Rattle.bf_parse.specs.Scripts.{Statements, Progress, with_session, Sessions, no_session, session, with_phase, Phases, no_phase, phase}
use Rattle.bf_parse.specs.StatementFollow.{first_statement, follow_sessions, follow_phases}
use Rattle.bf_phrase.proofs.Fitting.{fits_by}
use Rattle.bf_phrase.proofs.Lists.{weaker_ends}
use Rattle.bf_phrase.proofs.Chains.{marked_not_here, or_left}
use Rattle.bf_phrase.proofs.Moves.{Can, Passed, left_here, right_here, after_can, after_go, after_stop, after_not_here, behind_go, then_can, then_go, then_stop, marked_go, counted_over, return_fits, return_not_here}
use Rattle.bf_parse.proofs.StatementLists.{statements_can}

-- ---- sessions

abbrev mark_of : Progress → Mark
mark_of p = Session (length p.sessions + 1) (p.of_phase + 1)

abbrev BehindSession : Progress → List Step → Progress → Type 0
BehindSession p = After (Sign sign.Semicolon) (Then (Statements p.migrations []) (λ x. Sessions (with_session p x)))

abbrev OneSession : Progress → List Step → Progress → Type 0
OneSession p = Marked (mark_of p) (After (Keyword keyword.Session) (BehindSession p))

sessions_as : {p : Progress} {ws : List Word} {r : Reading Progress} → Fits follow_sessions (Either (OneSession p) (Return p)) ws r → Fits follow_sessions (Sessions p) ws r
sessions_as {p = p} {ws = ws} {r = r} f = record { it = fits_by follow_sessions (Either (OneSession p) (Return p)) (Sessions p) ws r f.it to (λ s b back g ends same. from s b g) }
  where
    to : (s : List Step) (q : Progress) → Either (OneSession p) (Return p) s q → Sessions p s q
    to s q (inr h) = no_session h.0 h.1
    to s q (inl h) =
        let t = h.2.2.2 in
        session t.0 t.1 t.2 t.4 t.5
        (h.1 ∙ ap (λ (z : List Step). Limit (mark_of p) ∷ z) (h.2.1 ∙ ap (λ (z : List Step). Say (Keyword keyword.Session) ∷ z) (h.2.2.1 ∙ ap (λ (z : List Step). Say (Sign sign.Semicolon) ∷ z) t.3)))

    from : (s : List Step) (q : Progress) → Sessions p s q → Either (OneSession p) (Return p) s q
    from s q (no_session e d) = inr (e, d)
    from s q (session front back x g more e) =
        inl (Say (Keyword keyword.Session) ∷ Say (Sign sign.Semicolon) ∷ (front ++ back), e, (Say (Sign sign.Semicolon) ∷ (front ++ back), refl, (front ++ back, refl, (front, back, x, refl, g, more))))

pub sessions_can : {p : Progress} → Can (Sessions p)
sessions_can {p = p} = record { it = ([], p, no_session refl refl) }

sessions_pass : (p : Progress) (s : List Step) (q : Progress) (back : List Word) → Sessions p s q → Ends follow_sessions back → Ends first_statement (said s ++ back)
sessions_pass p s q back (no_session e d) ends =
    subst (λ (z : List Step). Ends first_statement (said z ++ back)) (sym e) (weaker_ends first_statement follow_sessions (λ t n. or_left _ _ n) back ends)
sessions_pass p s q back (session front rest x g more e) ends = subst (λ (z : List Step). Ends first_statement (said z ++ back)) (sym e) refl

sessions_passed : {A : Type 0} {f : A → Progress} → Passed first_statement follow_sessions (λ x. Sessions (f x))
sessions_passed {f = f} = record { it = λ x s q back h ends. sessions_pass (f x) s q back h ends }

behind_session_can : (p : Progress) → Can (BehindSession p)
behind_session_can p = after_can (then_can (statements_can {m = p.migrations} {before = []}) (λ x. sessions_can))

pub session_over : {p : Progress} {ws rest : List Word} {kind : ScriptKind} (k : ℕ) → length ws ≡ k → fault_at (mark_of p) ≡ Some kind → IsBehind (Keyword keyword.Session) ws (Some rest) → Fits follow_sessions (Sessions p) ws (Over kind k)
session_over {p = p} {ws = ws} {kind = kind} k e high h =
    subst (λ (z : ℕ). Fits follow_sessions (Sessions p) ws (Over kind z)) e (sessions_as (left_here (return_not_here h refl) (counted_over high h.it (behind_session_can p))))

pub session_open : {p : Progress} {ws rest : List Word} {e : ReadStop} → fault_at (mark_of p) ≡ None → IsBehind (Keyword keyword.Session) ws (Some rest) → IsExpected (Sign sign.Semicolon) rest (Err e) → Fits follow_sessions (Sessions p) ws (stopped e)
session_open {p = p} low h semicolon = sessions_as (left_here (return_not_here h refl) (marked_go low (behind_go h (after_stop semicolon (then_can (statements_can {m = p.migrations} {before = []}) (λ x. sessions_can))))))

pub session_stop : {p : Progress} {ws rest mid : List Word} (e : ReadStop) → fault_at (mark_of p) ≡ None → IsBehind (Keyword keyword.Session) ws (Some rest) → IsExpected (Sign sign.Semicolon) rest (Ok mid) → Fits first_statement (Statements p.migrations []) mid (stopped e) → Fits follow_sessions (Sessions p) ws (stopped e)
session_stop {p = p} e low h semicolon f =
    sessions_as (left_here (return_not_here h refl) (marked_go low (behind_go h (after_go semicolon (then_stop e (sessions_passed {f = λ (x : List Statement × ℕ). with_session p x}) (λ x. sessions_can) f)))))

pub session_more : {p q : Progress} {ws rest mid last : List Word} {x : List Statement × ℕ} {r : Reading Progress} → fault_at (mark_of p) ≡ None → IsBehind (Keyword keyword.Session) ws (Some rest) → IsExpected (Sign sign.Semicolon) rest (Ok mid)
    → Fits first_statement (Statements p.migrations []) mid (Read x last) → q ≡ with_session p x → Fits follow_sessions (Sessions q) last r → Fits follow_sessions (Sessions p) ws r
session_more {p = p} {last = last} {r = r} low h semicolon f same g =
    sessions_as (left_here (return_not_here h refl) (marked_go low (behind_go h (after_go semicolon
    (then_go (sessions_passed {f = λ (x : List Statement × ℕ). with_session p x}) f (subst (λ (z : Progress). Fits follow_sessions (Sessions z) last r) same g))))))

pub sessions_end : {p : Progress} {ws : List Word} → IsBehind (Keyword keyword.Session) ws None → Fits follow_sessions (Sessions p) ws (Read p ws)
sessions_end h = sessions_as (right_here (marked_not_here (after_not_here h)) return_fits)

-- ---- phases

abbrev BehindPhase : Progress → List Step → Progress → Type 0
BehindPhase p = After (Sign sign.Semicolon) (Then (Sessions (with_phase p)) (λ q. Phases q))

abbrev OnePhase : Progress → List Step → Progress → Type 0
OnePhase p = After (Keyword keyword.Phase) (BehindPhase p)

phases_as : {p : Progress} {ws : List Word} {r : Reading Progress} → Fits follow_phases (Either (OnePhase p) (Return p)) ws r → Fits follow_phases (Phases p) ws r
phases_as {p = p} {ws = ws} {r = r} f = record { it = fits_by follow_phases (Either (OnePhase p) (Return p)) (Phases p) ws r f.it to (λ s b back g ends same. from s b g) }
  where
    to : (s : List Step) (q : Progress) → Either (OnePhase p) (Return p) s q → Phases p s q
    to s q (inr h) = no_phase h.0 h.1
    to s q (inl h) =
        let t = h.2.2 in
        phase t.0 t.1 t.2 t.4 t.5 (h.1 ∙ ap (λ (z : List Step). Say (Keyword keyword.Phase) ∷ z) (h.2.1 ∙ ap (λ (z : List Step). Say (Sign sign.Semicolon) ∷ z) t.3))

    from : (s : List Step) (q : Progress) → Phases p s q → Either (OnePhase p) (Return p) s q
    from s q (no_phase e d) = inr (e, d)
    from s q (phase front back x g more e) = inl (Say (Sign sign.Semicolon) ∷ (front ++ back), e, (front ++ back, refl, (front, back, x, refl, g, more)))

pub phases_can : {p : Progress} → Can (Phases p)
phases_can {p = p} = record { it = ([], p, no_phase refl refl) }

phases_pass : (p : Progress) (s : List Step) (q : Progress) (back : List Word) → Phases p s q → Ends follow_phases back → Ends follow_sessions (said s ++ back)
phases_pass p s q back (no_phase e d) ends =
    subst (λ (z : List Step). Ends follow_sessions (said z ++ back)) (sym e) (weaker_ends follow_sessions follow_phases (λ t n. or_left _ _ n) back ends)
phases_pass p s q back (phase front rest x g more e) ends = subst (λ (z : List Step). Ends follow_sessions (said z ++ back)) (sym e) refl

phases_passed : Passed follow_sessions follow_phases (λ (p : Progress). Phases p)
phases_passed = record { it = λ p s q back h ends. phases_pass p s q back h ends }

pub phase_open : {p : Progress} {ws rest : List Word} {e : ReadStop} → IsBehind (Keyword keyword.Phase) ws (Some rest) → IsExpected (Sign sign.Semicolon) rest (Err e) → Fits follow_phases (Phases p) ws (stopped e)
phase_open {p = p} h semicolon = phases_as (left_here (return_not_here h refl) (behind_go h (after_stop semicolon (then_can (sessions_can {p = with_phase p}) (λ x. phases_can)))))

pub phase_stop : {p q : Progress} {ws rest mid : List Word} (e : ReadStop) → IsBehind (Keyword keyword.Phase) ws (Some rest) → IsExpected (Sign sign.Semicolon) rest (Ok mid) → q ≡ with_phase p → Fits follow_sessions (Sessions q) mid (stopped e) → Fits follow_phases (Phases p) ws (stopped e)
phase_stop {mid = mid} e h semicolon same f =
    phases_as (left_here (return_not_here h refl) (behind_go h (after_go semicolon (then_stop e phases_passed (λ x. phases_can) (subst (λ (z : Progress). Fits follow_sessions (Sessions z) mid (stopped e)) same f)))))

pub phase_more : {p q x : Progress} {ws rest mid last : List Word} {r : Reading Progress} → IsBehind (Keyword keyword.Phase) ws (Some rest) → IsExpected (Sign sign.Semicolon) rest (Ok mid) → q ≡ with_phase p → Fits follow_sessions (Sessions q) mid (Read x last)
    → Fits follow_phases (Phases x) last r → Fits follow_phases (Phases p) ws r
phase_more {x = x} {mid = mid} {last = last} h semicolon same f g =
    phases_as (left_here (return_not_here h refl) (behind_go h (after_go semicolon (then_go phases_passed (subst (λ (z : Progress). Fits follow_sessions (Sessions z) mid (Read x last)) same f) g))))

pub phases_end : {p : Progress} {ws : List Word} → IsBehind (Keyword keyword.Phase) ws None → Fits follow_phases (Phases p) ws (Read p ws)
phases_end h = phases_as (right_here (after_not_here h) return_fits)
