-- Statements in a row.
use Rattle.std.proofs.Common.{◌≡◌, ℕ, ◌+◌, Bool, true, false, List, [], ◌∷◌, ◌++◌, length, Some, None, Ok, Err, refl, sym, ap, subst, ◌∙◌, inl, inr}
use Rattle.std.proofs.lemmas.List.{append-nil}
use Rattle.std.specs.Prelude.{◌||◌}
use Rattle.bf_lex.specs.declared.fault.ScriptKind.{ScriptKind}
use Rattle.bf_lex.specs.declared.keyword.Keyword.TheVariants as keyword
use Rattle.bf_lex.specs.declared.sign.Sign.TheVariants as sign
use Rattle.bf_tree.specs.declared.migration.Migrate.{Migrate as MigrateTree}
use Rattle.bf_tree.specs.declared.statement.Statement.{Statement}
use Rattle.bf_tree.specs.declared.statement.Statement.TheVariants.{Migrate}
use Rattle.bf_phrase.specs.declared.error.ReadStop.{ReadStop}
use Rattle.bf_phrase.specs.Words.{Word, Keyword, Sign}
use Rattle.bf_phrase.specs.Steps.{Step, Say, Limit, Migration, said, fault_at}
use Rattle.bf_phrase.specs.Rules.{Return, After, Marked, Then, Either}
use Rattle.bf_phrase.specs.Reading.{CanGoOn, Ends, Reading, Read, Over, Fits, first}
use Rattle.bf_phrase.specs.Outcome.{IsBehind, IsExpected, stopped}
use Rattle.bf_phrase.specs.First.{begins}
use Rattle.bf_phrase.specs.Follow.{nothing}
use Rattle.bf_parse.specs.Statements.{OrdinaryRule}
use Rattle.bf_parse.specs.StatementFollow.{follow_ordinary, first_migrate, first_ordinary, first_statement}
use Rattle.bf_parse.specs.Migrations.{MigrateRule}
use Rattle.bf_parse.specs.Scripts.{Statements, no_statement, ordinary, migrate}
use Rattle.bf_parse.specs.ScriptParts.{StatementRule}
use Rattle.bf_phrase.proofs.Fitting.{fits_by, mark_over}
use Rattle.bf_phrase.proofs.Factors.{begins-append, begins_behind, whole}
use Rattle.bf_phrase.proofs.Beginnings.{Begun, other_not_here}
use Rattle.bf_phrase.proofs.Moves.{Can, NotHere, left_here, right_here, after_go, after_stop, after_passed, then_go, then_stop, marked_go, return_can, return_fits, return_passed}
use Rattle.bf_parse.proofs.MigrateShapes.{migrate_can}

-- ---- a statement

ordinary_begun : (s : List Step) (b : Statement) → OrdinaryRule s b → begins first_ordinary (said s) ≡ true
ordinary_begun s b (inl h) = ap (λ (z : List Step). begins first_ordinary (said z)) h.1
ordinary_begun s b (inr (inl h)) = ap (λ (z : List Step). begins first_ordinary (said z)) h.1
ordinary_begun s b (inr (inr (inl h))) = ap (λ (z : List Step). begins first_ordinary (said z)) h.1
ordinary_begun s b (inr (inr (inr (inl h)))) = ap (λ (z : List Step). begins first_ordinary (said z)) h.1
ordinary_begun s b (inr (inr (inr (inr (inl h))))) = ap (λ (z : List Step). begins first_ordinary (said z)) h.1
ordinary_begun s b (inr (inr (inr (inr (inr (inl h)))))) = ap (λ (z : List Step). begins first_ordinary (said z)) h.1
ordinary_begun s b (inr (inr (inr (inr (inr (inr (inl h))))))) = ap (λ (z : List Step). begins first_ordinary (said z)) h.1
ordinary_begun s b (inr (inr (inr (inr (inr (inr (inr h))))))) = ap (λ (z : List Step). begins first_ordinary (said z)) h.1

abbrev OrdinaryPart : ℕ → List Step → Statement × ℕ → Type 0
OrdinaryPart m = Then OrdinaryRule (λ s. Return (s, m))

abbrev Migrated : ℕ → List Step → Statement × ℕ → Type 0
Migrated m = Then MigrateRule (λ t. Return (Migrate t, m + 1))

ordinary_part_begun : (m : ℕ) → Begun first_ordinary (OrdinaryPart m)
ordinary_part_begun m = record { it = λ s b h. ap (λ (z : List Step). begins first_ordinary (said z)) h.3 ∙ begins-append first_ordinary h.0 h.1 (ordinary_begun h.0 h.2 h.4) }

migrate_part_begun : (m : ℕ) → Begun first_migrate (Marked (Migration (m + 1)) (Migrated m))
migrate_part_begun m = record {
  it = λ s b h.
      ap (λ (z : List Step). begins first_migrate (said z)) (h.1 ∙ ap (λ (z : List Step). Limit (Migration (m + 1)) ∷ z) h.2.3)
      ∙ begins-append first_migrate h.2.0 h.2.1 (ap (λ (z : List Step). begins first_migrate (said z)) h.2.4.1);
}

migrate_not_here : {w : Word → Bool} (m : ℕ) {ws : List Word} → IsBehind (Keyword keyword.Migrate) ws None → NotHere w (Marked (Migration (m + 1)) (Migrated m)) ws
migrate_not_here m h = record {
  it = λ s b back g ends same.
      h.it (sym same ∙ ap (λ (z : List Step). first (said z ++ back)) (g.1 ∙ ap (λ (z : List Step). Limit (Migration (m + 1)) ∷ z) (g.2.3 ∙ ap (λ (z : List Step). z ++ g.2.1) g.2.4.1)));
}

ordinary_not_here : {w : Word → Bool} (m : ℕ) {ws rest : List Word} → IsBehind (Keyword keyword.Migrate) ws (Some rest) → NotHere w (OrdinaryPart m) ws
ordinary_not_here m {ws = ws} {rest = rest} h = other_not_here (ordinary_part_begun m) (begins_behind first_ordinary ws rest (Keyword keyword.Migrate) h.it refl)

pub ordinary_stop : {m : ℕ} {ws : List Word} (e : ReadStop) → IsBehind (Keyword keyword.Migrate) ws None → Fits follow_ordinary OrdinaryRule ws (stopped e) → Fits follow_ordinary (StatementRule m) ws (stopped e)
ordinary_stop {m = m} e h f = left_here (migrate_not_here m h) (then_stop e (return_passed (λ t p. p)) (λ s. return_can) f)

pub ordinary_read : {m : ℕ} {ws rest : List Word} {s : Statement} → IsBehind (Keyword keyword.Migrate) ws None → Fits follow_ordinary OrdinaryRule ws (Read s rest) → Fits follow_ordinary (StatementRule m) ws (Read (s, m) rest)
ordinary_read {m = m} h f = left_here (migrate_not_here m h) (then_go (return_passed (λ t p. p)) f return_fits)

migrated_can : (m : ℕ) → CanGoOn (Migrated m) (Say (Keyword keyword.Migrate) ∷ [])
migrated_can m =
    let c = migrate_can.it in
    (c.2.0, (Migrate c.1, m + 1), (c.0, [], c.1, sym c.2.1 ∙ sym (append-nil c.0), c.2, (refl, refl)))

pub migrate_over : {m : ℕ} {ws rest : List Word} {kind : ScriptKind} (k : ℕ) → length ws ≡ k → fault_at (Migration (m + 1)) ≡ Some kind → IsBehind (Keyword keyword.Migrate) ws (Some rest) → Fits follow_ordinary (StatementRule m) ws (Over kind k)
migrate_over {m = m} {ws = ws} {rest = rest} {kind = kind} k e high h =
    subst (λ (z : ℕ). Fits follow_ordinary (StatementRule m) ws (Over kind z)) e
    (right_here (ordinary_not_here m h) (record { it = mark_over follow_ordinary (Migration (m + 1)) (Migrated m) (Say (Keyword keyword.Migrate) ∷ []) (Keyword keyword.Migrate) ws rest kind high h.it refl (migrated_can m) }))

pub migrate_stop : {m : ℕ} {ws rest : List Word} (e : ReadStop) → fault_at (Migration (m + 1)) ≡ None → IsBehind (Keyword keyword.Migrate) ws (Some rest) → Fits nothing MigrateRule ws (stopped e) → Fits follow_ordinary (StatementRule m) ws (stopped e)
migrate_stop {m = m} e low h f = right_here (ordinary_not_here m h) (marked_go low (then_stop e (return_passed (λ t p. refl)) (λ t. return_can) f))

pub migrate_read : {m n : ℕ} {ws rest behind : List Word} {t : MigrateTree} → n ≡ m + 1 → fault_at (Migration (m + 1)) ≡ None → IsBehind (Keyword keyword.Migrate) ws (Some rest) → Fits nothing MigrateRule ws (Read t behind) → Fits follow_ordinary (StatementRule m) ws (Read (Migrate t, n) behind)
migrate_read {m = m} {ws = ws} {behind = behind} {t = t} same low h f =
    subst (λ (k : ℕ). Fits follow_ordinary (StatementRule m) ws (Read (Migrate t, k) behind)) (sym same)
    (right_here (ordinary_not_here m h) (marked_go low (then_go (return_passed (λ t p. refl)) f return_fits)))

-- ---- statements

abbrev Further : ℕ → List Statement → List Step → List Statement × ℕ → Type 0
Further m before = Then (StatementRule m) (λ y. After (Sign sign.Semicolon) (Statements y.1 (before ++ y.0 ∷ [])))

to_further : (m : ℕ) (before : List Statement) (s front back : List Step) (y : Statement × ℕ) (b : List Statement × ℕ) → s ≡ front ++ back → StatementRule m front y
    → After (Sign sign.Semicolon) (Statements y.1 (before ++ y.0 ∷ [])) back b → Statements m before s b
to_further m before s front back y b split (inl g) semi =
    ordinary g.0 semi.0 g.2 g.4
    (subst (λ (z : Statement × ℕ). Statements z.1 (before ++ z.0 ∷ []) semi.0 b) g.5.1 semi.2)
    (split ∙ ap (λ (z : List Step). z ++ back) (whole front g.0 g.1 g.3 g.5.0) ∙ ap (λ (z : List Step). g.0 ++ z) semi.1)
to_further m before s front back y b split (inr g) semi =
    let t = g.2 in
    migrate t.0 semi.0 t.2 t.4
    (subst (λ (z : Statement × ℕ). Statements z.1 (before ++ z.0 ∷ []) semi.0 b) t.5.1 semi.2)
    (split ∙ ap (λ (z : List Step). z ++ back) (g.1 ∙ ap (λ (z : List Step). Limit (Migration (m + 1)) ∷ z) (whole g.0 t.0 t.1 t.3 t.5.0)) ∙ ap (λ (z : List Step). Limit (Migration (m + 1)) ∷ (t.0 ++ z)) semi.1)

statements_as : {m : ℕ} {before : List Statement} {ws : List Word} {r : Reading (List Statement × ℕ)} → Fits first_statement (Either (Further m before) (Return (before, m))) ws r → Fits first_statement (Statements m before) ws r
statements_as {m = m} {before = before} {ws = ws} {r = r} f = record { it = fits_by first_statement (Either (Further m before) (Return (before, m))) (Statements m before) ws r f.it to (λ s b back g ends same. from s b g) }
  where
    to : (s : List Step) (b : List Statement × ℕ) → Either (Further m before) (Return (before, m)) s b → Statements m before s b
    to s b (inr h) = no_statement h.0 h.1
    to s b (inl h) = to_further m before s h.0 h.1 h.2 b h.3 h.4 h.5

    from : (s : List Step) (b : List Statement × ℕ) → Statements m before s b → Either (Further m before) (Return (before, m)) s b
    from s b (no_statement p q) = inr (p, q)
    from s b (ordinary front back x g more p) = inl (front, Say (Sign sign.Semicolon) ∷ back, (x, m), p, inl (front, [], x, sym (append-nil front), g, (refl, refl)), (back, refl, more))
    from s b (migrate front back x g more p) =
        inl (Limit (Migration (m + 1)) ∷ front, Say (Sign sign.Semicolon) ∷ back, (Migrate x, m + 1), p, inr (front, refl, (front, [], x, sym (append-nil front), g, (refl, refl))), (back, refl, more))

pub statements_can : {m : ℕ} {before : List Statement} → Can (Statements m before)
statements_can {m = m} {before = before} = record { it = ([], (before, m), no_statement refl refl) }

begins_or_left : (a b : Word → Bool) (ws : List Word) → begins a ws ≡ true → begins (λ w. a w || b w) ws ≡ true
begins_or_left a b [] e = e
begins_or_left a b (w ∷ ws) e = ap (λ (z : Bool). z || b w) e

or_true : (b : Bool) → (b || true) ≡ true
or_true true = refl
or_true false = refl

begins_or_right : (a b : Word → Bool) (ws : List Word) → begins b ws ≡ true → begins (λ w. a w || b w) ws ≡ true
begins_or_right a b [] e = e
begins_or_right a b (w ∷ ws) e = ap (λ (z : Bool). a w || z) e ∙ or_true (a w)

statement_begun : (m : ℕ) (s : List Step) (y : Statement × ℕ) → StatementRule m s y → begins first_statement (said s) ≡ true
statement_begun m s y (inl h) = begins_or_left first_ordinary first_migrate (said s) ((ordinary_part_begun m).it s y h)
statement_begun m s y (inr h) = begins_or_right first_ordinary first_migrate (said s) ((migrate_part_begun m).it s y h)

further_begun : (m : ℕ) (before : List Statement) → Begun first_statement (Further m before)
further_begun m before = record { it = λ s b h. ap (λ (z : List Step). begins first_statement (said z)) h.3 ∙ begins-append first_statement h.0 h.1 (statement_begun m h.0 h.2 h.4) }

ends_begins : (w : Word → Bool) (back ws : List Word) → Ends w back → begins w ws ≡ true → first back ≡ first ws → ⊥
ends_begins w [] [] ends e same = cc
ends_begins w [] (u ∷ us) ends e same = cc
ends_begins w (t ∷ ts) [] ends e same = cc
ends_begins w (t ∷ ts) (u ∷ us) ends e same = let d : t ≡ u = cc in let f : false ≡ true = sym ends ∙ ap w d ∙ e in cc

-- where what may not follow stands, there is more
return_goes_on : {A : Type 0} {w : Word → Bool} {x : A} {ws : List Word} → begins w ws ≡ true → NotHere w (Return x) ws
return_goes_on {w = w} {ws = ws} e = record { it = λ s b back g ends same. ends_begins w back ws ends e (ap (λ (z : List Step). first (said z ++ back)) (sym g.0) ∙ same) }

pub statements_stop : {m : ℕ} {before : List Statement} {ws : List Word} (e : ReadStop) → begins first_statement ws ≡ true → Fits follow_ordinary (StatementRule m) ws (stopped e) → Fits first_statement (Statements m before) ws (stopped e)
statements_stop e here f = statements_as (left_here (return_goes_on here) (then_stop e (after_passed refl) (λ y. record { it = (Say (Sign sign.Semicolon) ∷ [], (_, _), ([], refl, no_statement refl refl)) }) f))

pub statements_open : {m : ℕ} {before : List Statement} {ws mid : List Word} {y : Statement × ℕ} {e : ReadStop} → begins first_statement ws ≡ true → Fits follow_ordinary (StatementRule m) ws (Read y mid) → IsExpected (Sign sign.Semicolon) mid (Err e) → Fits first_statement (Statements m before) ws (stopped e)
statements_open here f h = statements_as (left_here (return_goes_on here) (then_go (after_passed refl) f (after_stop h statements_can)))

pub statements_more : {m n : ℕ} {before : List Statement} {ws mid rest : List Word} {s : Statement} {r : Reading (List Statement × ℕ)} → begins first_statement ws ≡ true → Fits follow_ordinary (StatementRule m) ws (Read (s, n) mid) → IsExpected (Sign sign.Semicolon) mid (Ok rest)
    → Fits first_statement (Statements n (before ++ s ∷ [])) rest r → Fits first_statement (Statements m before) ws r
statements_more here f h g = statements_as (left_here (return_goes_on here) (then_go (after_passed refl) f (after_go h g)))

pub statements_end : {m : ℕ} {before : List Statement} {ws : List Word} → begins first_statement ws ≡ false → Fits first_statement (Statements m before) ws (Read (before, m) ws)
statements_end {m = m} {before = before} absent = statements_as (right_here (other_not_here (further_begun m before) absent) return_fits)
