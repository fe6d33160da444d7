-- Lists of any number of parts.
use Rattle.std.proofs.Common.{◌≡◌, List, [], ◌∷◌, ◌++◌, Some, None, refl, ap, subst, ◌∙◌, inl, inr}
use Rattle.bf_lex.specs.declared.sign.Sign.TheVariants as sign
use Rattle.bf_phrase.specs.declared.error.ReadStop.{ReadStop}
use Rattle.bf_phrase.specs.Words.{Word, Sign}
use Rattle.bf_phrase.specs.Steps.{Step, Say}
use Rattle.bf_phrase.specs.Rules.{Return, After, Either, Then}
use Rattle.bf_phrase.specs.Reading.{Reading, Read, Fits}
use Rattle.bf_phrase.specs.Outcome.{IsBehind, stopped}
use Rattle.bf_phrase.specs.Follow.{nothing, is_comma}
use Rattle.bf_parse.specs.Statements.{Further, no_more, more, Several}
use Rattle.bf_phrase.proofs.Moves.{Can, left_here, right_here, after_not_here, return_not_here, return_fits, behind_go, then_go, then_stop}
use Rattle.bf_phrase.proofs.Maps.{same_rule, any_passed}

abbrev Commas : {A : Type 0} → (List Step → A → Type 0) → List A → List Step → List A → Type 0
Commas G before = Either (After (Sign sign.Comma) (Then G (λ a. Further G (before ++ a ∷ [])))) (Return before)

module _ {A : Type 0} {G : List Step → A → Type 0} where
  further_to : (before : List A) (s : List Step) (b : List A) → Commas G before s b → Further G before s b
  further_to before s b (inr h) = no_more h.0 h.1
  further_to before s b (inl h) = more h.2.0 h.2.1 h.2.2 h.2.4 h.2.5 (h.1 ∙ ap (λ (z : List Step). Say (Sign sign.Comma) ∷ z) h.2.3)

  further_from : (before : List A) (s : List Step) (b : List A) → Further G before s b → Commas G before s b
  further_from before s b (no_more p q) = inr (p, q)
  further_from before s b (more front back a g m p) = inl (front ++ back, p, (front, back, a, refl, g, m))

  pub further_can : {before : List A} → Can (Further G before)
  further_can {before = before} = record { it = ([], before, no_more refl refl) }

  pub several_stop : {ws : List Word} (e : ReadStop) → Fits nothing G ws (stopped e) → Fits is_comma (Several G) ws (stopped e)
  several_stop e f = then_stop e any_passed (λ a. further_can) f

  pub several_begin : {ws mid : List Word} {a : A} {r : Reading (List A)} → Fits nothing G ws (Read a mid) → Fits is_comma (Further G (a ∷ [])) mid r → Fits is_comma (Several G) ws r
  several_begin f h = then_go any_passed f h

  pub further_stop : {before : List A} {ws rest : List Word} (e : ReadStop) → IsBehind (Sign sign.Comma) ws (Some rest) → Fits nothing G rest (stopped e) → Fits is_comma (Further G before) ws (stopped e)
  further_stop {before = before} e comma f = same_rule (further_to before) (further_from before) (left_here (return_not_here comma refl) (behind_go comma (then_stop e any_passed (λ a. further_can) f)))

  pub further_more : {before : List A} {ws rest mid : List Word} {a : A} {r : Reading (List A)} → IsBehind (Sign sign.Comma) ws (Some rest) → Fits nothing G rest (Read a mid) → Fits is_comma (Further G (before ++ a ∷ [])) mid r
      → Fits is_comma (Further G before) ws r
  further_more {before = before} comma f h = same_rule (further_to before) (further_from before) (left_here (return_not_here comma refl) (behind_go comma (then_go any_passed f h)))

  pub further_end : {before : List A} {ws : List Word} → IsBehind (Sign sign.Comma) ws None → Fits is_comma (Further G before) ws (Read before ws)
  further_end {before = before} comma = same_rule (further_to before) (further_from before) (right_here (after_not_here comma) return_fits)

  -- where a vector holds the parts
  pub several_first : {items : List A} {ws mid : List Word} {a : A} {r : Reading (List A)} → Fits nothing G ws (Read a mid) → items ≡ a ∷ [] → Fits is_comma (Further G items) mid r → Fits is_comma (Several G) ws r
  several_first {mid = mid} {r = r} f e h = several_begin f (subst (λ (z : List A). Fits is_comma (Further G z) mid r) e h)

  pub further_next : {before items : List A} {ws rest mid : List Word} {a : A} {r : Reading (List A)} → IsBehind (Sign sign.Comma) ws (Some rest) → Fits nothing G rest (Read a mid) → items ≡ before ++ a ∷ []
      → Fits is_comma (Further G items) mid r → Fits is_comma (Further G before) ws r
  further_next {mid = mid} {r = r} comma f e h = further_more comma f (subst (λ (z : List A). Fits is_comma (Further G z) mid r) e h)
