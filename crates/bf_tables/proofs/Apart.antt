-- Of cases that are apart, word and number name one.
use Rattle.std.proofs.Common.{◌≡◌, ℕ, Bool, true, false, cond, not, ◌&&◌, ◌||◌, eqb, List, [], ◌∷◌, Option, Some, None, IfSome, IsSomeAnd, IsTrue, refl, sym, ap, subst, find}
use Rattle.std.specs.List.{list_any}
use Rattle.std.specs.Cmp.{nat_eq_equiv}
use Rattle.std.proofs.lemmas.Cmp.{nat_list_eq_equiv}
use Rattle.std.proofs.lemmas.Bool.Decides.{Decides-eqb}
use Rattle.std.specs.Option.{option_map}
use Rattle.std.specs.Str.{str_to_ascii_lowercase}
use Rattle.bf_tables.specs.Cases.{Case, same_word, share, are_apart, number_at, word_at, HasWord}

none_of_both : (a b : Bool) → (a || b) ≡ false → (a ≡ false) × (b ≡ false)
none_of_both true b e = absurd cc
none_of_both false b e = (refl, e)

-- the head of cases that are apart shares with none behind it, and these are apart
head_and_rest : (a b : Bool) → (not a && b) ≡ true → (a ≡ false) × (b ≡ true)
head_and_rest true b e = absurd cc
head_and_rest false b e = (refl, e)

-- a case that shares with none of some cases has no number that a word has among them
other_number : (c : Case) (cs : List Case) (word : List ℕ) (n : ℕ) → list_any (share c) cs ≡ false → number_at cs word ≡ Some n → eqb c.0 n ≡ false
other_number c [] word n apart is = absurd cc
other_number c (d ∷ ds) word n apart is =
    let parts : (share c d ≡ false) × (list_any (share c) ds ≡ false) = none_of_both _ _ apart in
    elim (same_word d.1 word) as (λ t. option_map (λ e. e.0) (cond t (Some d) (find (λ e. same_word e.1 word) ds)) ≡ Some n → eqb c.0 n ≡ false) [
      | true ↦ λ e. let same : d.0 ≡ n = cc in subst (λ m. eqb c.0 m ≡ false) same (none_of_both _ _ parts.0).0
      | false ↦ λ e. other_number c ds word n parts.1 e
    ] is

-- a case that shares with none of some cases has no word that a number has among them
other_word : (c : Case) (cs : List Case) (n : ℕ) (word : List ℕ) → list_any (share c) cs ≡ false → word_at cs n ≡ Some word → same_word c.1 word ≡ false
other_word c [] n word apart is = absurd cc
other_word c (d ∷ ds) n word apart is =
    let parts : (share c d ≡ false) × (list_any (share c) ds ≡ false) = none_of_both _ _ apart in
    elim (eqb d.0 n) as (λ t. option_map (λ e. e.1) (cond t (Some d) (find (λ e. eqb e.0 n) ds)) ≡ Some word → same_word c.1 word ≡ false) [
      | true ↦ λ e. let same : d.1 ≡ word = cc in subst (λ w. same_word c.1 w ≡ false) same (none_of_both _ _ parts.0).1
      | false ↦ λ e. other_word c ds n word parts.1 e
    ] is

follows : {T : Type 0} (P Q : T → Type 0) (o : Option T) → ((x : T) → o ≡ Some x → P x → Q x) → IfSome o P → IfSome o Q
follows P Q None f h = tt
follows P Q (Some x) f h = f x refl h

pub word_named : (cases : List Case) (word : List ℕ) → are_apart cases ≡ true → IfSome (number_at cases word) (λ n. HasWord cases n word)
word_named [] word apart = tt
word_named (c ∷ cs) word apart =
    let parts = head_and_rest _ _ apart in
    elim (same_word c.1 word) as (λ t. same_word c.1 word ≡ t → IfSome (option_map (λ e. e.0) (cond t (Some c) (find (λ e. same_word e.1 word) cs))) (λ n. HasWord (c ∷ cs) n word)) [
      | true ↦ λ e. subst (λ b. IsSomeAnd (option_map (λ f. f.1) (cond b (Some c) (find (λ f. eqb f.0 c.0) cs))) (λ found. IsTrue (same_word found word))) (sym (nat_eq_equiv.refl c.0)) e
      | false ↦ λ e. follows (λ n. HasWord cs n word) (λ n. HasWord (c ∷ cs) n word) (number_at cs word) (λ n is has.
          subst (λ b. IsSomeAnd (option_map (λ f. f.1) (cond b (Some c) (find (λ f. eqb f.0 n) cs))) (λ found. IsTrue (same_word found word))) (sym (other_number c cs word n parts.0 is)) has) (word_named cs word parts.1)
    ] refl

pub number_named : (cases : List Case) (n : ℕ) → are_apart cases ≡ true → IfSome (word_at cases n) (λ word. number_at cases word ≡ Some n)
number_named [] n apart = tt
number_named (c ∷ cs) n apart =
    let parts = head_and_rest _ _ apart in
    elim (eqb c.0 n) as (λ t. eqb c.0 n ≡ t → IfSome (option_map (λ e. e.1) (cond t (Some c) (find (λ e. eqb e.0 n) cs))) (λ word. number_at (c ∷ cs) word ≡ Some n)) [
      | true ↦ λ e. subst (λ b. option_map (λ f. f.0) (cond b (Some c) (find (λ f. same_word f.1 c.1) cs)) ≡ Some n) (sym (nat_list_eq_equiv.refl (str_to_ascii_lowercase c.1))) (ap Some ((Decides-eqb c.0 n).0 e))
      | false ↦ λ e. follows (λ word. number_at cs word ≡ Some n) (λ word. number_at (c ∷ cs) word ≡ Some n) (word_at cs n) (λ word is has.
          subst (λ b. option_map (λ f. f.0) (cond b (Some c) (find (λ f. same_word f.1 word) cs)) ≡ Some n) (sym (other_word c cs n word parts.0 is)) has) (number_named cs n parts.1)
    ] refl

-- the same where the words are read by `text`
pub read_named : {W : Type 0} (text : W → List ℕ) (P : List ℕ → Type 0) (o : Option W) (r : Option (List ℕ)) → option_map text o ≡ r → IfSome r P → IfSome o (λ w. P (text w))
read_named text P None r e h = tt
read_named text P (Some w) r e h = subst (λ o. IfSome o P) (sym e) h
