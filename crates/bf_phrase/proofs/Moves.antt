-- The moves of a proof that a function of the parser fits its rule.
use Rattle.std.proofs.Common.{◌≡◌, ℕ, suc, Bool, true, false, List, [], ◌∷◌, ◌++◌, length, Result, Ok, Err, Some, None, sym, subst}
use Rattle.std.specs.Result.{IsErrAnd}
use Rattle.bf_lex.specs.declared.fault.ScriptKind.{ScriptKind}
use Rattle.bf_lex.specs.declared.sign.Sign.TheVariants.{Comma}
use Rattle.bf_phrase.specs.declared.error.ReadStop.{ReadStop}
use Rattle.bf_phrase.specs.declared.error.ReadStop.TheVariants as stop
use Rattle.bf_phrase.specs.Words.{Word, Sign}
use Rattle.bf_phrase.specs.Steps.{Step, Mark, fault_at}
use Rattle.bf_phrase.specs.Rules.{Return, After, Named, Then, Marked, Either, Others}
use Rattle.bf_phrase.specs.Reading.{CanGoOn, Reading, Read, Over, Fits}
use Rattle.bf_phrase.specs.Outcome.{stopped, outcome, IsBehind, IsExpected, IsNamed}
use Rattle.bf_phrase.proofs.Fitting as on
use Rattle.bf_phrase.proofs.Lists as lists

-- something is spelled by the rule
pub record Can {A : Type 0} (G : List Step → A → Type 0) : Type 0 where
  pub it : CanGoOn G []

-- what the second rule spells, and what may follow, ends the first
pub record Passed {A B : Type 0} (v w : Word → Bool) (H : A → List Step → B → Type 0) : Type 0 where
  pub it : on.Passes v w H

-- the rule spells nothing from here
pub record NotHere {A : Type 0} (w : Word → Bool) (G : List Step → A → Type 0) (ws : List Word) : Type 0 where
  pub it : lists.NotHere w G ws

pub return_can : {A : Type 0} {x : A} → Can (Return x)
return_can {x = x} = record { it = on.return_can x }

pub after_can : {A : Type 0} {t : Word} {G : List Step → A → Type 0} → Can G → Can (After t G)
after_can {t = t} {G = G} h = record { it = on.after_can t G h.it }

pub named_can : {A : Type 0} {G : List ℕ → List Step → A → Type 0} → ((n : List ℕ) → Can (G n)) → Can (Named G)
named_can {G = G} h = record { it = on.named_can G (h []).it }

pub then_can : {A B : Type 0} {G : List Step → A → Type 0} {H : A → List Step → B → Type 0} → Can G → ((a : A) → Can (H a)) → Can (Then G H)
then_can {G = G} {H = H} g h = record { it = on.then_can_left G H [] g.it (λ a. (h a).it) }

pub marked_can : {A : Type 0} {m : Mark} {G : List Step → A → Type 0} → Can G → Can (Marked m G)
marked_can {m = m} {G = G} h = record { it = on.mark_can m G h.it }

pub left_can : {A : Type 0} {G H : List Step → A → Type 0} → Can G → Can (Either G H)
left_can {G = G} {H = H} h = record { it = lists.left_can G H h.it }

pub others_can : {A : Type 0} {G : List Step → A → Type 0} {n : ℕ} {acc : List A} → Can (Others G n acc)
others_can {G = G} {n = n} {acc = acc} = record { it = lists.others_can G n acc }

pub after_passed : {A B : Type 0} {v w : Word → Bool} {t : Word} {H : A → List Step → B → Type 0} → v t ≡ false → Passed v w (λ a. After t (H a))
after_passed {v = v} {w = w} {t = t} {H = H} e = record { it = on.passes_after v w t H e }

pub return_passed : {A B : Type 0} {v w : Word → Bool} {f : A → B} → ((t : Word) → w t ≡ false → v t ≡ false) → Passed v w (λ a. Return (f a))
return_passed {v = v} {w = w} {f = f} weaker = record { it = lists.return_passes v w f weaker }

pub others_passed : {A : Type 0} {v w : Word → Bool} {G : List Step → A → Type 0} (n : ℕ) (acc : List A) → v (Sign Comma) ≡ false → ((t : Word) → w t ≡ false → v t ≡ false) → Passed v w (λ e. Others G (suc n) (acc ++ e ∷ []))
others_passed {v = v} {w = w} {G = G} n acc comma weaker = record { it = lists.others_pass v w G n acc comma weaker }

pub return_fits : {A : Type 0} {w : Word → Bool} {x : A} {ws : List Word} → Fits w (Return x) ws (Read x ws)
return_fits {w = w} {x = x} {ws = ws} = record { it = on.fits_return w x ws }

pub then_go : {A B : Type 0} {v w : Word → Bool} {G : List Step → A → Type 0} {H : A → List Step → B → Type 0} {ws mid : List Word} {a : A} {r : Reading B} → Passed v w H → Fits v G ws (Read a mid) → Fits w (H a) mid r → Fits w (Then G H) ws r
then_go {v = v} {w = w} {G = G} {H = H} {ws = ws} {mid = mid} {a = a} {r = r} p f h = record { it = on.then_right v w G H ws mid a r p.it f.it h.it }

pub then_stop : {A B : Type 0} {v w : Word → Bool} {G : List Step → A → Type 0} {H : A → List Step → B → Type 0} {ws : List Word} (e : ReadStop) → Passed v w H → ((a : A) → Can (H a)) → Fits v G ws (stopped e) → Fits w (Then G H) ws (stopped e)
then_stop {v = v} {w = w} {G = G} {H = H} {ws = ws} e p can f = record { it = on.then_err v w G H ws e p.it (λ a. (can a).it) f.it }

pub lost : {A : Type 0} {w : Word → Bool} {G : List Step → A → Type 0} {ws : List Word} (e : ReadStop) → e ≡ stop.Memory → Fits w G ws (stopped e)
lost e h = rw h (record { it = tt })

-- ---- words

pub after_go : {A : Type 0} {w : Word → Bool} {t : Word} {G : List Step → A → Type 0} {ws rest : List Word} {r : Reading A} → IsExpected t ws (Ok rest) → Fits w G rest r → Fits w (After t G) ws r
after_go e f = record { it = on.after_read _ _ _ _ _ _ e.it f.it }

pub after_stop : {A : Type 0} {w : Word → Bool} {t : Word} {G : List Step → A → Type 0} {ws : List Word} {e : ReadStop} → IsExpected t ws (Err e) → Can G → Fits w (After t G) ws (stopped e)
after_stop {w = w} {t = t} {G = G} {ws = ws} {e = e} h can = record { it = on.after_err w t G ws e can.it h.it }

pub behind_go : {A : Type 0} {w : Word → Bool} {t : Word} {G : List Step → A → Type 0} {ws rest : List Word} {r : Reading A} → IsBehind t ws (Some rest) → Fits w G rest r → Fits w (After t G) ws r
behind_go e f = record { it = on.after_read _ _ _ _ _ _ e.it f.it }

pub named_go : {A : Type 0} {w : Word → Bool} {n : List ℕ} {G : List ℕ → List Step → A → Type 0} {ws rest : List Word} {r : Reading A} → IsNamed ws (Ok (n, rest)) → Fits w (G n) rest r → Fits w (Named G) ws r
named_go {w = w} {n = n} {G = G} {ws = ws} {rest = rest} {r = r} e f = record { it = on.named_read w n G ws rest r e.it f.it }

pub named_stop : {A : Type 0} {w : Word → Bool} {G : List ℕ → List Step → A → Type 0} {ws : List Word} {e : ReadStop} → IsNamed ws (Err e) → ((n : List ℕ) → Can (G n)) → Fits w (Named G) ws (stopped e)
named_stop {w = w} {G = G} {ws = ws} {e = e} h can = record { it = on.named_err w G ws e (can []).it h.it }

-- ---- choices

pub left_here : {A : Type 0} {w : Word → Bool} {G H : List Step → A → Type 0} {ws : List Word} {r : Reading A} → NotHere w H ws → Fits w G ws r → Fits w (Either G H) ws r
left_here {w = w} {G = G} {H = H} {ws = ws} {r = r} not f = record { it = lists.left_here w G H ws r not.it f.it }

pub right_here : {A : Type 0} {w : Word → Bool} {G H : List Step → A → Type 0} {ws : List Word} {r : Reading A} → NotHere w G ws → Fits w H ws r → Fits w (Either G H) ws r
right_here {w = w} {G = G} {H = H} {ws = ws} {r = r} not f = record { it = lists.right_here w G H ws r not.it f.it }

pub after_not_here : {A : Type 0} {w : Word → Bool} {t : Word} {G : List Step → A → Type 0} {ws : List Word} → IsBehind t ws None → NotHere w (After t G) ws
after_not_here {w = w} {t = t} {G = G} {ws = ws} h = record { it = lists.after_not_here w t G ws h.it }

pub return_not_here : {A : Type 0} {w : Word → Bool} {x : A} {t : Word} {ws rest : List Word} → IsBehind t ws (Some rest) → w t ≡ true → NotHere w (Return x) ws
return_not_here {w = w} {x = x} {t = t} {ws = ws} {rest = rest} h goes = record { it = lists.return_not_here w x t ws rest h.it goes }

-- ---- marks

pub marked_go : {A : Type 0} {w : Word → Bool} {m : Mark} {G : List Step → A → Type 0} {ws : List Word} {r : Reading A} → fault_at m ≡ None → Fits w G ws r → Fits w (Marked m G) ws r
marked_go {w = w} {m = m} {G = G} {ws = ws} {r = r} low f = record { it = on.mark_read w m G ws r low f.it }

pub counted_over : {A : Type 0} {w : Word → Bool} {m : Mark} {t : Word} {G : List Step → A → Type 0} {ws rest : List Word} {kind : ScriptKind} → fault_at m ≡ Some kind → ws ≡ t ∷ rest → Can G → Fits w (Marked m (After t G)) ws (Over kind (length ws))
counted_over {w = w} {m = m} {t = t} {G = G} {ws = ws} {rest = rest} {kind = kind} high e can = record { it = lists.counted_over w m t G ws rest kind high e can.it }

-- ---- lists

pub others_comma : {A : Type 0} {w : Word → Bool} {G : List Step → A → Type 0} {n : ℕ} {acc : List A} {ws rest : List Word} {r : Reading (List A)} → w (Sign Comma) ≡ true → IsBehind (Sign Comma) ws (Some rest) → Fits w (lists.CommaOthers G n acc) rest r → Fits w (Others G n acc) ws r
others_comma {w = w} {G = G} {n = n} {acc = acc} {ws = ws} {rest = rest} {r = r} goes e f =
    record { it = lists.others_as w G n acc ws r (lists.left_here w (After (Sign Comma) (lists.CommaOthers G n acc)) (Return acc) ws r (lists.return_not_here w acc (Sign Comma) ws rest e.it goes) (on.after_read w (Sign Comma) (lists.CommaOthers G n acc) ws rest r e.it f.it)) }

pub others_end : {A : Type 0} {w : Word → Bool} {G : List Step → A → Type 0} {n : ℕ} {acc : List A} {ws : List Word} → IsBehind (Sign Comma) ws None → Fits w (Others G n acc) ws (Read acc ws)
others_end {w = w} {G = G} {n = n} {acc = acc} {ws = ws} h =
    record { it = lists.others_as w G n acc ws (Read acc ws) (lists.right_here w (After (Sign Comma) (lists.CommaOthers G n acc)) (Return acc) ws (Read acc ws) (lists.after_not_here w (Sign Comma) (lists.CommaOthers G n acc) ws h.it) (on.fits_return w acc ws)) }

-- what a `?` passes on
pub exit : {X A : Type 0} {w : Word → Bool} {G : List Step → A → Type 0} {ws : List Word} (view : X → Reading A) (res : Result X ReadStop) (e : ReadStop) → IsErrAnd res (λ x. x ≡ e) → Fits w G ws (stopped e) → Fits w G ws (outcome view res)
exit view (Ok x) e h f = absurd h
exit view (Err x) e h f = rw h f

-- why it stopped, as a call told
pub told : {A : Type 0} {w : Word → Bool} {G : List Step → A → Type 0} {ws : List Word} (e d : ReadStop) → e ≡ d → Fits w G ws (stopped d) → Fits w G ws (stopped e)
told {w = w} {G = G} {ws = ws} e d same f = subst (λ (x : ReadStop). Fits w G ws (stopped x)) (sym same) f
