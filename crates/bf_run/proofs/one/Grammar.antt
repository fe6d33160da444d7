-- Words are one thing by a rule, or have one first fault.
use Rattle.std.proofs.Common.{◌≡◌, ℕ, ◌<◌, ◌≤◌, true, List, [], ◌∷◌, ◌++◌, length, Some, refl, sym, ap, subst, ◌∙◌, inl, inr, arith, append_assoc, length-append}
use Rattle.std.proofs.lemmas.Bool.{cases_lt, cases_order}
use Rattle.std.proofs.lemmas.List.{append-nil}
use Rattle.bf_lex.specs.declared.fault.ScriptKind.{ScriptKind}
use Rattle.bf_phrase.specs.Words.{Word}
use Rattle.bf_phrase.specs.Steps.{Step, Limit, fault_at, said, within}
use Rattle.bf_phrase.specs.Rules.{Rule}
use Rattle.bf_parse.specs.Faults.{CantGoOn, IsRead, IsStuck, IsOver}
use Rattle.bf_run.proofs.one.Fronts.{longer, same_head}
use Rattle.bf_run.proofs.one.Marks.{said_behind, not_within, ends_before, one_first}

same_some : (one other : ScriptKind) → Some one ≡ Some other → one ≡ other
same_some one other e = cc

module _ {A : Type 0} (rule : Rule A) (words : List Word) where
  -- what is spelled by these steps begins with a front of the words, which so many are behind
  record Begins (left : ℕ) (steps : List Step) : Type 0 where
    value : A
    front : List Word
    back : List Word
    tail : List Word
    spelled : rule steps value
    split : words ≡ front ++ back
    goes : said steps ≡ front ++ tail
    place : length back ≡ left

  begins_read : {a : A} (r : IsRead rule words a) → Begins 0 r.steps
  begins_read {a = a} r = record {
    value = a;
    front = words;
    back = [];
    tail = [];
    spelled = r.spells;
    split = sym (append-nil words);
    goes = sym r.split ∙ sym (append-nil words);
    place = refl;
  }

  begins_stuck : {left : ℕ} (k : IsStuck rule words left) → Begins left (k.steps ++ k.more)
  begins_stuck k = record {
    value = k.value;
    front = said k.steps;
    back = k.rest;
    tail = said k.more;
    spelled = k.spells;
    split = k.split;
    goes = said_behind k.steps k.more;
    place = k.place;
  }

  begins_over : {kind : ScriptKind} {left : ℕ} (k : IsOver rule words kind left)
      → Begins (length k.rest) ((k.steps ++ Limit k.mark ∷ k.next) ++ k.more)
  begins_over k =
      let shown : said (k.steps ++ Limit k.mark ∷ k.next) ≡ said k.steps ++ k.word ∷ [] =
      said_behind k.steps (Limit k.mark ∷ k.next) ∙ ap (λ (ws : List Word). said k.steps ++ ws) k.here in
      record {
        value = k.value;
        front = said k.steps ++ k.word ∷ [];
        back = k.rest;
        tail = said k.more;
        spelled = k.spells;
        split = k.split ∙ sym (append_assoc (said k.steps) (k.word ∷ []) k.rest);
        goes = said_behind (k.steps ++ Limit k.mark ∷ k.next) k.more ∙ ap (λ (ws : List Word). ws ++ said k.more) shown;
        place = refl;
      }

  goes_not_past : (seen rest between back tail : List Word) (steps : List Step) (a : A) → CantGoOn rule seen rest
      → rest ≡ between ++ back → length back < length rest → rule steps a → said steps ≡ (seen ++ between) ++ tail → ⊥
  goes_not_past seen rest [] back tail steps a cant e short spelled goes = omega (arith, ap length e)
  goes_not_past seen [] (w ∷ between) back tail steps a cant e short spelled goes = omega arith
  goes_not_past seen (r ∷ rest) (w ∷ between) back tail steps a cant e short spelled goes =
      let word : r ≡ w = same_head r w rest (between ++ back) e in
      let path : (seen ++ r ∷ []) ++ (between ++ tail) ≡ said steps =
      append_assoc seen (r ∷ []) (between ++ tail)
      ∙ ap (λ (v : Word). seen ++ v ∷ (between ++ tail)) word
      ∙ sym (append_assoc seen (w ∷ between) tail)
      ∙ sym goes in
      cant (between ++ tail) a (steps, path, spelled)

  -- nothing is spelled past the word that is refused
  not_past_stuck : {left spot : ℕ} {steps : List Step} → Begins left steps → IsStuck rule words spot → left < spot → ⊥
  not_past_stuck {steps = steps} b k before =
      let shorter : length b.back < length k.rest = omega (arith, b.place, k.place) in
      let more = longer b.front b.back (said k.steps) k.rest (sym b.split ∙ k.split) (omega arith) in
      let goes : said steps ≡ (said k.steps ++ more.between) ++ b.tail =
      b.goes ∙ ap (λ (ws : List Word). ws ++ b.tail) more.front_is in
      goes_not_past (said k.steps) k.rest more.between b.back b.tail steps b.value k.cant more.rest_is shorter
      b.spelled goes

  not_past_read : {a : A} → IsRead rule words a → (seen rest : List Word) → CantGoOn rule seen rest
      → words ≡ seen ++ rest → ⊥
  not_past_read {a = a} r seen [] cant e = cant a (r.steps, sym (append-nil seen) ∙ sym e ∙ r.split, r.spells)
  not_past_read {a = a} r seen (w ∷ rest) cant e =
      cant rest a (r.steps, append_assoc seen (w ∷ []) rest ∙ sym e ∙ r.split, r.spells)

  -- what is spelled past the word at a limit has its mark
  has_mark : {kind : ScriptKind} {left spot : ℕ} {steps : List Step} → Begins left steps
      → (k : IsOver rule words kind spot) → left < spot → (tail : List Step) × (steps ≡ k.steps ++ Limit k.mark ∷ tail)
  has_mark {steps = steps} b k before =
      let shown = said k.steps ++ k.word ∷ [] in
      let split : b.front ++ b.back ≡ shown ++ k.rest =
      sym b.split ∙ k.split ∙ sym (append_assoc (said k.steps) (k.word ∷ []) k.rest) in
      let more = longer b.front b.back shown k.rest split (omega (arith, b.place, k.place)) in
      let goes : said steps ≡ shown ++ (more.between ++ b.tail) =
      b.goes ∙ ap (λ (ws : List Word). ws ++ b.tail) more.front_is ∙ append_assoc shown more.between b.tail in
      let has = k.must steps b.value (more.between ++ b.tail) b.spelled goes in
      (has.0, has.1 ∙ append_assoc k.steps (Limit k.mark ∷ []) has.0)

  -- ---- two answers

  pub one_read : {a b : A} → IsRead rule words a → IsRead rule words b → a ≡ b
  one_read {a = a} r s = s.only a (r.steps, r.split, r.spells)

  pub read_not_stuck : {a : A} {left : ℕ} → IsRead rule words a → IsStuck rule words left → ⊥
  read_not_stuck r k = not_past_read r (said k.steps) k.rest k.cant k.split

  pub read_not_over : {a : A} {kind : ScriptKind} {left : ℕ} → IsRead rule words a → IsOver rule words kind left → ⊥
  read_not_over {kind = kind} r k =
      let has = has_mark (begins_read r) k (omega (arith, k.place)) in
      not_within k.mark kind k.high k.steps has.0 (subst (λ (s : List Step). within s ≡ true) has.1 r.inside)

  pub one_stuck : {left spot : ℕ} → IsStuck rule words left → IsStuck rule words spot → left ≡ spot
  one_stuck {left = left} {spot = spot} k l = elim (cases_order left spot) [
    | inl same ↦ same
    | inr differs ↦ elim differs [
      | inl before ↦ absurd (not_past_stuck (begins_stuck k) l before)
      | inr behind ↦ absurd (not_past_stuck (begins_stuck l) k behind)
    ]
  ]

  pub stuck_not_over : {kind : ScriptKind} {left spot : ℕ} → IsStuck rule words left → IsOver rule words kind spot → ⊥
  stuck_not_over {kind = kind} {left = left} {spot = spot} k l = elim (cases_lt left spot) [
    | inl before ↦
        let has = has_mark (begins_stuck k) l before in
        let short = ends_before l.mark kind l.high k.steps k.more l.steps has.0 k.inside has.1 in
        let sizes = ap length (sym k.split ∙ l.split) in
        let k_size = length-append (said k.steps) k.rest in
        let l_size = length-append (said l.steps) (l.word ∷ l.rest) in
        omega (arith, k.place, l.place, short, sizes, k_size, l_size)
    | inr behind ↦ not_past_stuck (begins_over l) k (omega (arith, l.place))
  ]

  earlier_over : {one other : ScriptKind} {left spot : ℕ} → IsOver rule words one left → IsOver rule words other spot
      → left ≤ spot → (left ≡ spot) × (one ≡ other)
  earlier_over {one = one} {other = other} {left = left} {spot = spot} k l before =
      let has = has_mark (begins_over k) l (omega (arith, k.place)) in
      let marks : k.steps ++ Limit k.mark ∷ (k.next ++ k.more) ≡ l.steps ++ Limit l.mark ∷ has.0 =
      sym (append_assoc k.steps (Limit k.mark ∷ k.next) k.more) ∙ has.1 in
      let first = one_first k.mark l.mark one other k.high l.high k.steps l.steps (k.next ++ k.more) has.0
      k.inside l.inside marks in
      let sizes = ap length (sym k.split ∙ l.split) in
      let same_size = ap length first.words in
      let k_size = length-append (said k.steps) (k.word ∷ k.rest) in
      let l_size = length-append (said l.steps) (l.word ∷ l.rest) in
      let places : left ≡ spot = omega (arith, k.place, l.place, same_size, sizes, k_size, l_size) in
      (places, same_some one other (sym k.high ∙ ap fault_at first.mark ∙ l.high))

  pub one_over : {one other : ScriptKind} {left spot : ℕ} → IsOver rule words one left → IsOver rule words other spot
      → (left ≡ spot) × (one ≡ other)
  one_over {left = left} {spot = spot} k l = elim (cases_lt left spot) [
    | inl before ↦ earlier_over k l (omega arith)
    | inr behind ↦ let same = earlier_over l k behind in (sym same.0, sym same.1)
  ]
