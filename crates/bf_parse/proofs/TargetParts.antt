-- The targets of a MIGRATE.
use Rattle.std.proofs.Common.{◌≡◌, ℕ, suc, ◌+◌, ◌<◌, ◌≤◌, List, [], ◌∷◌, ◌++◌, length, Some, None, refl, sym, ap, subst, ◌∙◌, inl, inr, arith, length-append}
use Rattle.std.proofs.lemmas.Bool.{lt-ltb, le-ltb}
use Rattle.bf_lex.specs.declared.fault.ScriptKind.TheVariants.{TooManyTargets}
use Rattle.bf_lex.specs.declared.keyword.Keyword.TheVariants as keyword
use Rattle.bf_lex.specs.declared.sign.Sign.TheVariants as sign
use Rattle.bf_tree.specs.declared.migration.Target.{Target}
use Rattle.bf_phrase.specs.declared.error.ReadStop.{ReadStop}
use Rattle.bf_phrase.specs.Words.{Word, Keyword, Sign}
use Rattle.bf_phrase.specs.Steps.{Step, Say, Limit, Target as TargetMark, said, fault_at}
use Rattle.bf_phrase.specs.Rules.{Return, After, Marked, Then, Either}
use Rattle.bf_phrase.specs.Reading.{CanGoOn, Ends, Reading, Read, Over, Stuck, Fits, first}
use Rattle.bf_phrase.specs.Outcome.{IsBehind, stopped}
use Rattle.bf_parse.specs.Migrations.{ArmRule, Arms, TargetRule, Targets, no_target, target, target_of}
use Rattle.bf_parse.specs.MigrationFollow.{TargetsRule, follow_arms, follow_targets}
use Rattle.bf_phrase.proofs.Fitting.{fits_by, mark_over, mark_stuck}
use Rattle.bf_phrase.proofs.Chains.{or_left}
use Rattle.bf_phrase.proofs.Clears.{Clear, clear_passed}
use Rattle.bf_parse.proofs.MigrateShapes.{arm_can, arms_can, target_can, targets_can}
use Rattle.bf_phrase.proofs.Moves.{Can, Passed, after_not_here, behind_go, left_here, right_here, marked_go, return_can, return_fits, return_not_here, then_can, then_go, then_stop}

-- ---- the limit of targets

pub target_low : (n : ℕ) → n < 8 → fault_at (TargetMark (n + 1)) ≡ None
target_low n low = rw (le-ltb 8 (n + 1) (omega arith)) refl

target_high : (n : ℕ) → 8 ≤ n → fault_at (TargetMark (n + 1)) ≡ Some TooManyTargets
target_high n high = rw (lt-ltb 8 (n + 1) (omega arith)) refl

-- behind CREATE
create_can : CanGoOn TargetRule (Say (Keyword keyword.Create) ∷ [])
create_can =
    let c = target_can.it in
    (c.2.0, c.1, subst (λ (z : List Step). TargetRule z c.1) c.2.1 c.2)

pub target_over : (n : ℕ) {ws rest : List Word} (k : ℕ) → length ws ≡ k → 8 ≤ n → IsBehind (Keyword keyword.Create) ws (Some rest) → Fits follow_arms (Marked (TargetMark (n + 1)) TargetRule) ws (Over TooManyTargets k)
target_over n {ws = ws} {rest = rest} k e high h =
    subst (λ (z : ℕ). Fits follow_arms (Marked (TargetMark (n + 1)) TargetRule) ws (Over TooManyTargets z)) e
    (record { it = mark_over follow_arms (TargetMark (n + 1)) TargetRule (Say (Keyword keyword.Create) ∷ []) (Keyword keyword.Create) ws rest TooManyTargets (target_high n high) h.it refl create_can })

pub target_none : (n : ℕ) {ws : List Word} (k : ℕ) → length ws ≡ k → IsBehind (Keyword keyword.Create) ws None → Fits follow_arms (Marked (TargetMark (n + 1)) TargetRule) ws (Stuck k)
target_none n {ws = ws} k e h =
    subst (λ (z : ℕ). Fits follow_arms (Marked (TargetMark (n + 1)) TargetRule) ws (Stuck z)) e
    (record { it = mark_stuck follow_arms (TargetMark (n + 1)) TargetRule ws target_can.it (λ s b back g ends same. h.it (sym same ∙ ap (λ (z : List Step). first (said z ++ back)) g.1)) })

-- ---- targets

abbrev BehindSemicolon : ℕ → List Target → List Step → List Target → Type 0
BehindSemicolon n acc = Then (Marked (TargetMark n) TargetRule) (λ t. Targets (suc n) (acc ++ t ∷ []))

targets_as : {n : ℕ} {acc : List Target} {ws : List Word} {r : Reading (List Target)} → Fits follow_targets (Either (After (Sign sign.Semicolon) (BehindSemicolon n acc)) (Return acc)) ws r → Fits follow_targets (Targets n acc) ws r
targets_as {n = n} {acc = acc} {ws = ws} {r = r} f = record { it = fits_by follow_targets (Either (After (Sign sign.Semicolon) (BehindSemicolon n acc)) (Return acc)) (Targets n acc) ws r f.it to (λ s b back g ends same. from s b g) }
  where
    to : (s : List Step) (b : List Target) → Either (After (Sign sign.Semicolon) (BehindSemicolon n acc)) (Return acc) s b → Targets n acc s b
    to s b (inr h) = no_target h.0 h.1
    to s b (inl h) =
        let m = h.2.4 in
        target m.0 h.2.1 h.2.2 m.2 h.2.5 (h.1 ∙ ap (λ (z : List Step). Say (Sign sign.Semicolon) ∷ z) (h.2.3 ∙ ap (λ (z : List Step). z ++ h.2.1) m.1))

    from : (s : List Step) (b : List Target) → Targets n acc s b → Either (After (Sign sign.Semicolon) (BehindSemicolon n acc)) (Return acc) s b
    from s b (no_target p q) = inr (p, q)
    from s b (target front rest c f m p) = inl (Limit (TargetMark n) ∷ (front ++ rest), p, (Limit (TargetMark n) ∷ front, rest, c, refl, (front, refl, f), m))

targets_clear : (n : ℕ) (acc : List Target) → Clear follow_arms (Targets n acc)
targets_clear n acc = record { it = by }
  where
    by : (s : List Step) (b : List Target) → Targets n acc s b → Ends follow_arms (said s)
    by s b (no_target p q) = subst (λ (z : List Step). Ends follow_arms (said z)) (sym p) tt
    by s b (target front rest c f m p) = subst (λ (z : List Step). Ends follow_arms (said z)) (sym p) refl

targets_passed : (n : ℕ) (acc : List Target) → Passed follow_arms follow_targets (λ t. Targets n (acc ++ t ∷ []))
targets_passed n acc = clear_passed (λ t. targets_clear n (acc ++ t ∷ [])) (λ t e. or_left _ _ e)

pub targets_stop : {ws : List Word} (e : ReadStop) → Fits follow_arms TargetRule ws (stopped e) → Fits follow_targets TargetsRule ws (stopped e)
targets_stop e f = then_stop e (targets_passed 2 []) (λ a. targets_can) (marked_go refl f)

pub targets_first : {items : List Target} {ws mid : List Word} {a : Target} {r : Reading (List Target)} → Fits follow_arms TargetRule ws (Read a mid) → items ≡ a ∷ [] → Fits follow_targets (Targets (length items + 1) items) mid r → Fits follow_targets TargetsRule ws r
targets_first {mid = mid} {r = r} f e h =
    then_go (targets_passed 2 []) (marked_go refl f) (subst (λ (z : List Target). Fits follow_targets (Targets (length z + 1) z) mid r) e h)

targets_full : (n : ℕ) {acc : List Target} {ws rest : List Word} (e : ReadStop) → IsBehind (Sign sign.Semicolon) ws (Some rest) → Fits follow_arms (Marked (TargetMark (n + 1)) TargetRule) rest (stopped e) → Fits follow_targets (Targets (n + 1) acc) ws (stopped e)
targets_full n {acc = acc} e h f = targets_as (left_here (return_not_here h refl) (behind_go h (then_stop e (targets_passed (suc (n + 1)) acc) (λ a. targets_can) f)))

pub targets_full_at : (acc : List Target) {n : ℕ} {ws rest : List Word} (e : ReadStop) → n ≡ length acc → IsBehind (Sign sign.Semicolon) ws (Some rest) → Fits follow_arms (Marked (TargetMark (n + 1)) TargetRule) rest (stopped e) → Fits follow_targets (Targets (length acc + 1) acc) ws (stopped e)
targets_full_at acc {rest = rest} e is h f = targets_full (length acc) e h (subst (λ (m : ℕ). Fits follow_arms (Marked (TargetMark (m + 1)) TargetRule) rest (stopped e)) is f)

pub targets_next_stop_at : (acc : List Target) {n : ℕ} {ws rest : List Word} (e : ReadStop) → n ≡ length acc → fault_at (TargetMark (n + 1)) ≡ None → IsBehind (Sign sign.Semicolon) ws (Some rest) → Fits follow_arms TargetRule rest (stopped e) → Fits follow_targets (Targets (length acc + 1) acc) ws (stopped e)
targets_next_stop_at acc e is low h f = targets_full_at acc e is h (marked_go low f)

pub targets_next : (acc : List Target) {n : ℕ} {items : List Target} {ws rest mid : List Word} {a : Target} {r : Reading (List Target)} → n ≡ length acc → fault_at (TargetMark (n + 1)) ≡ None → IsBehind (Sign sign.Semicolon) ws (Some rest) → Fits follow_arms TargetRule rest (Read a mid) → items ≡ acc ++ a ∷ []
    → Fits follow_targets (Targets (length items + 1) items) mid r → Fits follow_targets (Targets (length acc + 1) acc) ws r
targets_next acc {n = n} {mid = mid} {a = a} {r = r} is low h f e g =
    let count : length (acc ++ a ∷ []) + 1 ≡ suc (length acc + 1) = omega (arith, length-append acc (a ∷ [])) in
    let k = subst (λ (z : List Target). Fits follow_targets (Targets (length z + 1) z) mid r) e g in
    let more = subst (λ (m : ℕ). Fits follow_targets (Targets m (acc ++ a ∷ [])) mid r) count k in
    let room : fault_at (TargetMark (length acc + 1)) ≡ None = subst (λ (m : ℕ). fault_at (TargetMark (m + 1)) ≡ None) is low in
    targets_as (left_here (return_not_here h refl) (behind_go h (then_go (targets_passed (suc (length acc + 1)) acc) (marked_go room f) more)))

pub targets_end : {n : ℕ} {acc : List Target} {ws : List Word} → IsBehind (Sign sign.Semicolon) ws None → Fits follow_targets (Targets n acc) ws (Read acc ws)
targets_end h = targets_as (right_here (after_not_here h) return_fits)

-- ---- the arms of a target

pub arms_end_can : (name : List ℕ) → Can (Then ArmRule (λ a. Then (Arms (a ∷ [])) (λ arms. Return (target_of name arms))))
arms_end_can name = then_can arm_can (λ a. then_can arms_can (λ arms. return_can))
