-- The keyword of a word: the one whose number goes with the word.
use Rattle.std.proofs.Common.{◌≡◌, ℕ, ◌<◌, length, get_or, false, List, [], ◌∷◌, map, Option, Some, None, Bor, find, refl, sym, subst, ap, ◌∙◌}
use Rattle.std.specs.List.{Contains}
use Rattle.std.proofs.lemmas.Bool.{or_parts}
use Rattle.std.proofs.lemmas.Cmp.{nat_list_eq_equiv}
use Rattle.std.proofs.lemmas.List.{get_or_default, get_or-map, length-map}
use Rattle.std.proofs.lemmas.List.Elements.{Contains-get_or}
use Rattle.bf_tables.specs.Cases.{Case, cases_by}
use Rattle.bf_base.specs.Lists.{has, same_name}
use Rattle.bf_lex.specs.declared.keyword.Keyword.{Keyword}
use Rattle.bf_lex.specs.declared.keyword.Keyword.TheVariants.{All, And, As, Begin, Between, By, Check, Commit, Count, Create, Delete, From, Group, Index, Insert, Int, Into, Join, Keep, Key, Max, Migrate, Min, Not, On, Or, Phase, Primary, Rollback, Select, Session, Set, Sum, Table, Union, Update, Values, Varchar, Where}
use Rattle.bf_lex.specs.Words.{word_of, number_of, keywords, keyword_of}

-- a pair and its word
pub case_at : (pairs : List (ℕ × Bor (List ℕ))) (i : ℕ) (d e : ℕ × Bor (List ℕ)) (word : List ℕ) → i < length pairs → (get_or pairs i d).1.now ≡ word
    → Contains (cases_by (λ w. w.now) pairs) ((get_or pairs i e).0, word)
case_at pairs i d e word inside is =
    let case : ℕ × Bor (List ℕ) → Case = λ pair. (pair.0, pair.1.now) in
    let cases : List Case = cases_by (λ w. w.now) pairs in
    let there : Contains cases (get_or cases i (case e)) = Contains-get_or cases i (case e) (rw length-map inside) in
    let same_pair : get_or pairs i e ≡ get_or pairs i d = get_or_default pairs i e d inside in
    let named : (get_or pairs i e).1.now ≡ word = ap (λ (p : ℕ × Bor (List ℕ)). p.1.now) same_pair ∙ is in
    subst (Contains cases) (get_or-map case pairs i e (case e) inside ∙ ap (λ (w : List ℕ). ((get_or pairs i e).0, w)) named) there

keyword_of_its_word : (k : Keyword) → keyword_of (word_of k) ≡ Some k
unfolding keyword_of
keyword_of_its_word All = refl
keyword_of_its_word And = refl
keyword_of_its_word As = refl
keyword_of_its_word Begin = refl
keyword_of_its_word Between = refl
keyword_of_its_word By = refl
keyword_of_its_word Check = refl
keyword_of_its_word Commit = refl
keyword_of_its_word Count = refl
keyword_of_its_word Create = refl
keyword_of_its_word Delete = refl
keyword_of_its_word From = refl
keyword_of_its_word Group = refl
keyword_of_its_word Index = refl
keyword_of_its_word Insert = refl
keyword_of_its_word Int = refl
keyword_of_its_word Into = refl
keyword_of_its_word Join = refl
keyword_of_its_word Keep = refl
keyword_of_its_word Key = refl
keyword_of_its_word Max = refl
keyword_of_its_word Migrate = refl
keyword_of_its_word Min = refl
keyword_of_its_word Not = refl
keyword_of_its_word On = refl
keyword_of_its_word Or = refl
keyword_of_its_word Phase = refl
keyword_of_its_word Primary = refl
keyword_of_its_word Rollback = refl
keyword_of_its_word Select = refl
keyword_of_its_word Session = refl
keyword_of_its_word Set = refl
keyword_of_its_word Sum = refl
keyword_of_its_word Table = refl
keyword_of_its_word Union = refl
keyword_of_its_word Update = refl
keyword_of_its_word Values = refl
keyword_of_its_word Varchar = refl
keyword_of_its_word Where = refl

-- the numbers and words of the keywords
abbrev pub case_of : Keyword → Case
case_of k = (number_of k, word_of k)

-- the keyword whose number and word go together
pub found : (word : List ℕ) (n : ℕ) (o : Option Keyword) → Contains (map case_of keywords) (n, word) → ((k : Keyword) → number_of k ≡ n → o ≡ Some k) → o ≡ keyword_of word
found word n o there is =
    let k : Keyword = get_or keywords there.0 All in
    let case : case_of k ≡ (n, word) = sym (get_or-map case_of keywords there.0 All (n, word) (rw length-map at there.1)) ∙ there.2 in
    is k (ap (λ (c : Case). c.0) case) ∙ sym (keyword_of_its_word k) ∙ ap (λ (c : Case). keyword_of c.1) case

none_named : (word : List ℕ) (ks : List Keyword) → has same_name (map word_of ks) word ≡ false → find (λ k. same_name (word_of k) word) ks ≡ None
none_named word [] e = refl
none_named word (k ∷ ks) e =
    let parts = or_parts _ _ e in
    let other : same_name (word_of k) word ≡ false = nat_list_eq_equiv.symm (word_of k) word ∙ parts.0 in
    rw other (none_named word ks parts.1)

pub not_found : (word : List ℕ) → has same_name (map word_of keywords) word ≡ false → None ≡ keyword_of word
unfolding keyword_of
not_found word e = sym (none_named word keywords e)
