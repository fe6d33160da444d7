-- From the reading of a rule to what all of the words are.
use Rattle.std.proofs.Common.{◌≡◌, ℕ, Bool, List, [], ◌∷◌, ◌++◌, length, Some, None, Result, Ok, Err, refl, sym, ap, subst, ◌∙◌, append_assoc}
use Rattle.std.proofs.lemmas.List.{append-nil, append_cancel_left}
use Rattle.bf_lex.specs.declared.fault.ScriptKind.{ScriptKind}
use Rattle.bf_tree.specs.declared.script.Script.{Script}
use Rattle.bf_phrase.specs.declared.error.ReadStop.{ReadStop}
use Rattle.bf_phrase.specs.declared.error.ReadStop.TheVariants as stop
use Rattle.std.specs.Result.{IsErrAnd}
use Rattle.bf_lex.specs.declared.token.Token.{Token}
use Rattle.bf_phrase.specs.declared.cursor.Cursor.{Cursor}
use Rattle.bf_phrase.specs.Words.{Word, words_of}
use Rattle.bf_phrase.specs.Steps.{Step, Limit, said}
use Rattle.bf_phrase.specs.Rules.{Rule, Return, Then}
use Rattle.bf_phrase.specs.Reading.{Reading, Read, Stuck, FitsRead, FitsStuck, FitsOver, Fits, first}
use Rattle.bf_phrase.specs.Outcome.{outcome, stopped}
use Rattle.bf_phrase.specs.Cursors.{IsNext, words}
use Rattle.bf_parse.specs.Faults.{Answers, CantGoOn, IsOver, IsRead, IsStuck}
use Rattle.bf_parse.specs.Scripts.{Progress, Phases, ScriptRule, nothing_yet}
use Rattle.bf_parse.specs.StatementFollow.{follow_phases}
use Rattle.bf_parse.specs.ScriptParts.{script_of}
use Rattle.bf_phrase.proofs.Fitting.{fits_by}
use Rattle.bf_phrase.proofs.Factors.{whole}
use Rattle.bf_phrase.proofs.Places.{next_word}
use Rattle.bf_phrase.proofs.Moves.{return_can, return_fits, return_passed, then_go, then_stop}

module _ {A : Type 0} (w : Word → Bool) (G : List Step → A → Type 0) where
  cant : (ws : List Word) (left : ℕ) (used : List Step) (rest : List Word) (f : FitsStuck w G ws left) → f.used ≡ used → f.rest ≡ rest → CantGoOn G (said used) rest
  cant ws left used [] f p q = λ a h.
      f.only h.0 a [] [] h.2 tt (ap first (sym q)) (append-nil (said h.0) ∙ sym h.1 ∙ ap said (sym p) ∙ sym (append-nil (said f.used)))
  cant ws left used (t ∷ rest) f p q = λ more a h.
      f.only h.0 a [] (t ∷ more) h.2 tt (ap first (sym q)) (append-nil (said h.0) ∙ sym h.1 ∙ append_assoc (said used) (t ∷ []) more ∙ ap (λ (z : List Step). said z ++ t ∷ more) (sym p))

  pub whole_stuck : (ws : List Word) (left : ℕ) → FitsStuck w G ws left → IsStuck G ws left
  whole_stuck ws left f = record {
    steps = f.used;
    rest = f.rest;
    split = f.split;
    place = f.place;
    inside = f.inside;
    more = f.viable.0;
    value = f.viable.1;
    spells = f.viable.2;
    cant = cant ws left f.used f.rest f refl refl;
  }

  pub whole_over : (ws : List Word) (kind : ScriptKind) (left : ℕ) → FitsOver w G ws kind left → IsOver G ws kind left
  whole_over ws kind left f = record {
    steps = f.used;
    mark = f.mark;
    next = f.next;
    word = f.word;
    rest = f.rest;
    split = f.split;
    here = f.here;
    place = f.place;
    inside = f.inside;
    high = f.high;
    more = f.viable.0;
    value = f.viable.1;
    spells = f.viable.2;
    must = λ s b more h eq.
        let o = f.only more s b [] more h tt refl (append-nil (said s) ∙ eq) in
        (o.0, o.1 ∙ sym (append_assoc f.used (Limit f.mark ∷ []) o.0));
  }

  pub whole_read : (ws : List Word) (a : A) → FitsRead w G ws a [] → IsRead G ws a
  whole_read ws a f = record {
    steps = f.used;
    split = f.split ∙ append-nil (said f.used);
    spells = f.spells;
    inside = f.inside;
    only = λ b h. (f.only h.0 b [] [] h.2 tt refl (append-nil (said h.0) ∙ sym h.1 ∙ f.split)).1;
  }

  -- what is read leaves a word
  pub whole_past : (ws : List Word) (a : A) (t : Word) (rest : List Word) → FitsRead w G ws a (t ∷ rest) → IsStuck G ws (length (t ∷ rest))
  whole_past ws a t rest f = record {
    steps = f.used;
    rest = t ∷ rest;
    split = f.split;
    place = refl;
    inside = f.inside;
    more = [];
    value = a;
    spells = subst (λ (z : List Step). G z a) (sym (append-nil f.used)) f.spells;
    cant = λ more b h.
        let e : said h.0 ≡ said f.used ++ t ∷ more = sym h.1 ∙ append_assoc (said f.used) (t ∷ []) more in
        let o = f.only h.0 b [] (t ∷ more) h.2 tt refl (append-nil (said h.0) ∙ e) in
        let d : t ∷ more ≡ [] = append_cancel_left (said f.used) _ _ (sym e ∙ ap said o.0 ∙ sym (append-nil (said f.used))) in
        absurd cc;
  }

-- ---- scripts

script_as : {ws : List Word} {r : Reading Script} → Fits follow_phases (Then (Phases nothing_yet) (λ p. Return (script_of p))) ws r → Fits follow_phases ScriptRule ws r
script_as {ws = ws} {r = r} f = record { it = fits_by follow_phases (Then (Phases nothing_yet) (λ p. Return (script_of p))) ScriptRule ws r f.it to (λ s b back g ends same. from s b g) }
  where
    to : (s : List Step) (b : Script) → Then (Phases nothing_yet) (λ p. Return (script_of p)) s b → ScriptRule s b
    to s b h = (h.2, subst (λ (z : List Step). Phases nothing_yet z h.2) (sym (whole s h.0 h.1 h.3 h.5.0)) h.4, h.5.1)

    from : (s : List Step) (b : Script) → ScriptRule s b → Then (Phases nothing_yet) (λ p. Return (script_of p)) s b
    from s b h = (s, [], h.0, sym (append-nil s), h.1, (refl, h.2))

stop_told : (ws : List Word) (e : ReadStop) → Fits follow_phases ScriptRule ws (stopped e) → Answers ScriptRule ws (stopped e)
stop_told ws (stop.Syntax left) f = whole_stuck follow_phases ScriptRule ws left f.it
stop_told ws (stop.Limit kind left) f = whole_over follow_phases ScriptRule ws kind left f.it
stop_told ws stop.Memory f = tt

pub script_stop : (ws : List Word) (e : ReadStop) → Fits follow_phases (Phases nothing_yet) ws (stopped e) → Answers ScriptRule ws (stopped e)
script_stop ws e f = stop_told ws e (script_as (then_stop e (return_passed (λ t p. p)) (λ p. return_can) f))

script_fits : {ws rest : List Word} {p : Progress} → Fits follow_phases (Phases nothing_yet) ws (Read p rest) → Fits follow_phases ScriptRule ws (Read (script_of p) rest)
script_fits f = script_as (then_go (return_passed (λ t p. p)) f return_fits)

pub script_read : (ws rest : List Word) (p : Progress) → rest ≡ [] → Fits follow_phases (Phases nothing_yet) ws (Read p rest) → Answers ScriptRule ws (Read (script_of p) [])
script_read ws rest p e f = (refl, whole_read follow_phases ScriptRule ws (script_of p) (subst (λ (z : List Word). FitsRead follow_phases ScriptRule ws (script_of p) z) e (script_fits f).it))

pub script_past : (ws rest : List Word) (p : Progress) (k : ℕ) → length rest ≡ k → (rest ≡ [] → ⊥) → Fits follow_phases (Phases nothing_yet) ws (Read p rest) → Answers ScriptRule ws (Stuck k)
script_past ws [] p k e some f = absurd (some refl)
script_past ws (t ∷ rest) p k e some f = subst (λ (z : ℕ). IsStuck ScriptRule ws z) e (whole_past follow_phases ScriptRule ws (script_of p) t rest (script_fits f).it)

-- what a `?` passes on
pub answer_exit : {X A : Type 0} (G : Rule A) (ws : List Word) (view : X → Reading A) (res : Result X ReadStop) (e : ReadStop) → IsErrAnd res (λ x. x ≡ e) → Answers G ws (stopped e) → Answers G ws (outcome view res)
answer_exit G ws view (Ok x) e h f = absurd h
answer_exit G ws view (Err x) e h f = rw h f

pub no_words : (c : Cursor) → IsNext c None → words c ≡ []
no_words c h = ap (λ (ts : List Token). words_of c.text.now ts) h.it

pub some_words : (c behind : Cursor) (t : Token) → IsNext c (Some (t, behind)) → words c ≡ [] → ⊥
some_words c behind t h e = let d = next_word c behind t h in cc
