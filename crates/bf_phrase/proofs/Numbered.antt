-- A rule of which only what begins with a number is taken, or only what doesn't.
use Rattle.std.proofs.Common.{◌≡◌, ℕ, Bool, true, false, List, [], ◌∷◌, ◌++◌, refl, sym, ap, subst, ◌∙◌, append_assoc}
use Rattle.std.proofs.lemmas.List.{append-nil}
use Rattle.std.specs.Prelude.{◌&&◌, is_none}
use Rattle.bf_phrase.specs.Words.{Word, Number}
use Rattle.bf_phrase.specs.Steps.{Step, Say, Limit, Mark, Widest, said, within, fault_at}
use Rattle.bf_phrase.specs.Reading.{CanGoOn, first, Reading, Read, Stuck, Over, Lost, FitsAs}
use Rattle.bf_phrase.specs.Expressions.{is_number, begins_with_number}
use Rattle.bf_phrase.specs.First.{begins}
use Rattle.bf_phrase.proofs.Fitting.{said-append}
use Rattle.bf_phrase.proofs.Beginnings.{Begun}

abbrev pub Numbered : {A : Type 0} → Bool → (List Step → A → Type 0) → List Step → A → Type 0
Numbered flag G s b = G s b × (begins_with_number (said s) ≡ flag)

-- the steps begin with a word, or with a mark before a word that is no number unless the mark is that of the widest
pub data Headed : List Step → Type 0 where
  plain : {s : List Step} (w : Word) (rest : List Step) → s ≡ Say w ∷ rest → Headed s
  wide : {s : List Step} (v : ℕ) (rest : List Step) → s ≡ Limit Widest ∷ Say (Number v) ∷ rest → Headed s
  marked : {s : List Step} (m : Mark) (w : Word) (rest : List Step) → is_number w ≡ false → s ≡ Limit m ∷ Say w ∷ rest → Headed s

same_first : (x : List Word) (w : Word) (y z : List Word) → begins_with_number (x ++ w ∷ y) ≡ begins_with_number (x ++ w ∷ z)
same_first [] w y z = refl
same_first (v ∷ x) w y z = refl

front_unnumbered : (x y : List Word) → begins_with_number (x ++ y) ≡ false → begins_with_number x ≡ false
front_unnumbered [] y e = refl
front_unnumbered (w ∷ x) y e = e

-- whether a number stands first, where a word stands behind a mark
over_numbered : (flag : Bool) (used : List Step) (m : Mark) (next : List Step) (v : Word) (rest : List Word) (more : List Step) (ws : List Word) → ws ≡ said used ++ v ∷ rest → said next ≡ v ∷ []
    → begins_with_number ws ≡ flag → begins_with_number (said ((used ++ Limit m ∷ next) ++ more)) ≡ flag
over_numbered flag used m next v rest more ws split here is =
    ap begins_with_number (said-append (used ++ Limit m ∷ next) more ∙ ap (λ (z : List Word). z ++ said more) (said-append used (Limit m ∷ next) ∙ ap (λ (z : List Word). said used ++ z) here) ∙ append_assoc (said used) (v ∷ []) (said more))
    ∙ same_first (said used) v (said more) rest ∙ ap begins_with_number (sym split) ∙ is

module _ {A : Type 0} (w : Word → Bool) (G : List Step → A → Type 0) where
  -- how what is read so far goes on with no number first
  goes_unnumbered : ((s : List Step) (b : A) → G s b → Headed s) → CanGoOn (Numbered false G) [] → (used rest : List Step) (ws : List Word) (b : A) → within used ≡ true → G (used ++ rest) b
      → begins_with_number (said used ++ ws) ≡ false → CanGoOn (Numbered false G) used
  goes_unnumbered headed can [] rest ws b inside g no_number = can
  goes_unnumbered headed can (Say v ∷ used) rest ws b inside g no_number = (rest, b, (g, no_number))
  goes_unnumbered headed can (Limit m ∷ used) rest ws b inside g no_number = (rest, b, (g, by_head (headed _ b g)))
    where
      by_head : Headed (Limit m ∷ (used ++ rest)) → begins_with_number (said (used ++ rest)) ≡ false
      by_head (plain v r e) = absurd cc
      by_head (wide v r e) = let d : m ≡ Widest = cc in let f : (is_none (fault_at Widest) && within used) ≡ true = subst (λ (k : Mark). (is_none (fault_at k) && within used) ≡ true) d inside in absurd cc
      by_head (marked k v r none_there e) = let d : used ++ rest ≡ Say v ∷ r = cc in ap (λ (z : List Step). begins_with_number (said z)) d ∙ none_there

  pub unnumbered : ((s : List Step) (b : A) → G s b → Headed s) → CanGoOn (Numbered false G) [] → (ws : List Word) (r : Reading A) → begins_with_number ws ≡ false → FitsAs w G ws r → FitsAs w (Numbered false G) ws r
  unnumbered headed can ws (Read a rest) no_number f = record {
    used = f.used;
    split = f.split;
    inside = f.inside;
    spells = (f.spells, front_unnumbered (said f.used) rest (ap begins_with_number (sym f.split) ∙ no_number));
    only = λ front b back more g ends same eq. f.only front b back more g.0 ends same eq;
  }
  unnumbered headed can ws (Stuck left) no_number f = record {
    used = f.used;
    rest = f.rest;
    split = f.split;
    place = f.place;
    inside = f.inside;
    viable = goes_unnumbered headed can f.used f.viable.0 f.rest f.viable.1 f.inside f.viable.2 (ap begins_with_number (sym f.split) ∙ no_number);
    only = λ front b back more g ends same eq. f.only front b back more g.0 ends same eq;
  }
  unnumbered headed can ws (Over kind left) no_number f = record {
    used = f.used;
    mark = f.mark;
    next = f.next;
    word = f.word;
    rest = f.rest;
    split = f.split;
    here = f.here;
    place = f.place;
    inside = f.inside;
    high = f.high;
    viable = (f.viable.0, f.viable.1, (f.viable.2, over_numbered false f.used f.mark f.next f.word f.rest f.viable.0 ws f.split f.here no_number));
    only = λ any front b back more g ends same eq. f.only any front b back more g.0 ends same eq;
  }
  unnumbered headed can ws Lost no_number f = tt

  -- and with a number first
  goes_numbered : (v : ℕ) (used rest : List Step) (ws behind : List Word) (b : A) → ws ≡ Number v ∷ behind → (tail : List Word) → ws ≡ said used ++ tail → (said used ≡ [] → ⊥) → begins_with_number (said (used ++ rest)) ≡ true
  goes_numbered v used rest ws behind b e tail split some = by_said (said used) refl
    where
      by_said : (x : List Word) → said used ≡ x → begins_with_number (said (used ++ rest)) ≡ true
      by_said [] p = absurd (some p)
      by_said (u ∷ x) p =
          let d : u ∷ (x ++ tail) ≡ Number v ∷ behind = ap (λ (z : List Word). z ++ tail) (sym p) ∙ sym split ∙ e in
          let first_is : u ≡ Number v = cc in
          ap begins_with_number (said-append used rest ∙ ap (λ (z : List Word). z ++ said rest) p) ∙ ap is_number first_is

  pub numbered : (test : Word → Bool) → Begun test G → (v : ℕ) → ((s : List Step) × (b : A) × G s b × (said s ≡ Number v ∷ [])) → (ws behind : List Word) (r : Reading A) → ws ≡ Number v ∷ behind → FitsAs w G ws r → FitsAs w (Numbered true G) ws r
  numbered test begun v spelled ws behind (Read a rest) e f = record {
    used = f.used;
    split = f.split;
    inside = f.inside;
    spells = (f.spells, ap (λ (z : List Step). begins_with_number (said z)) (sym (append-nil f.used)) ∙ goes_numbered v f.used [] ws behind a e rest f.split (λ nothing_said. let d : false ≡ true = sym (ap (λ (z : List Word). begins test z) nothing_said) ∙ begun.it f.used a f.spells in cc));
    only = λ front b back more g ends same eq. f.only front b back more g.0 ends same eq;
  }
  numbered test begun v spelled ws behind (Stuck left) e f = record {
    used = f.used;
    rest = f.rest;
    split = f.split;
    place = f.place;
    inside = f.inside;
    viable = (
      f.viable.0,
      f.viable.1,
      (
        f.viable.2,
        goes_numbered v f.used f.viable.0 ws behind f.viable.1 e f.rest f.split
            (λ nothing_said. f.only spelled.0 spelled.1 [] (Number v ∷ []) spelled.2 tt (ap first (sym e ∙ f.split ∙ ap (λ (z : List Word). z ++ f.rest) nothing_said)) (append-nil (said spelled.0) ∙ spelled.3 ∙ ap (λ (z : List Word). z ++ Number v ∷ []) (sym nothing_said))),
      ),
    );
    only = λ front b back more g ends same eq. f.only front b back more g.0 ends same eq;
  }
  numbered test begun v spelled ws behind (Over kind left) e f = record {
    used = f.used;
    mark = f.mark;
    next = f.next;
    word = f.word;
    rest = f.rest;
    split = f.split;
    here = f.here;
    place = f.place;
    inside = f.inside;
    high = f.high;
    viable = (f.viable.0, f.viable.1, (f.viable.2, over_numbered true f.used f.mark f.next f.word f.rest f.viable.0 ws f.split f.here (ap begins_with_number e)));
    only = λ any front b back more g ends same eq. f.only any front b back more g.0 ends same eq;
  }
  numbered test begun v spelled ws behind Lost e f = tt
