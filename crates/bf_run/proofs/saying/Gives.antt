-- What a rule of the grammar gives of good steps, as a script within the limits has them: no name is a keyword, and no mark is a fault. What a rule is
-- made of says what it gives.
use Rattle.std.proofs.Common.{◌≡◌, ℕ, suc, ◌≤◌, ◌<◌, inl, inr, Bool, true, ◌&&◌, List, [], ◌∷◌, ◌++◌, length, refl, sym, subst, ◌∙◌, arith, length-append}
use Rattle.std.specs.List.{list_all, AllByRecursion}
use Rattle.std.specs.Option.{is_none}
use Rattle.std.proofs.lemmas.Bool.{and_parts, and_from, le-leb}
use Rattle.std.proofs.lemmas.List.Folds.{list_all-append}
use Rattle.bf_lex.specs.declared.sign.Sign.TheVariants.{Comma}
use Rattle.bf_phrase.specs.Words.{Word, Name, Sign}
use Rattle.bf_phrase.specs.Steps.{Step, Say, Limit, Mark, Part, fault_at}
use Rattle.bf_phrase.specs.Rules.{Rule, Return, After, Named, Marked, Either, Then, Others, no_other, other, Listed}
use Rattle.bf_phrase.specs.Phrases.{Enclosed}
use Rattle.bf_recover.specs.Spoken.{is_plain, is_list}
use Rattle.bf_run.proofs.Migrates.{all_one_more}
use Rattle.bf_run.proofs.Parsed.{part_within}

-- a word that is no keyword where it is a name
abbrev pub is_plain_word : Word → Bool
is_plain_word (Name name) = is_plain name
is_plain_word any = true

-- a step of a script that a text spells within the limits
abbrev pub is_good : Step → Bool
is_good (Say w) = is_plain_word w
is_good (Limit mark) = is_none (fault_at mark)

abbrev pub AreGood : List Step → Type 0
AreGood steps = list_all is_good steps ≡ true

pub good_parts : (steps front back : List Step) → steps ≡ front ++ back → AreGood steps → AreGood front × AreGood back
good_parts steps front back e good =
    and_parts (list_all is_good front) (list_all is_good back) (sym (list_all-append is_good front back) ∙ (rw e at good))

pub good_behind : (steps rest : List Step) (first : Step) → steps ≡ first ∷ rest → AreGood steps → (is_good first ≡ true) × AreGood rest
good_behind steps rest first e good = and_parts (is_good first) (list_all is_good rest) (rw e at good)

-- what is behind the word and the mark of a further part
pub record IsFurther (mark : Mark) (front back : List Step) : Type 0 where
  pub inside : is_none (fault_at mark) ≡ true
  pub part : AreGood front
  pub rest : AreGood back

pub further : (w : Word) (mark : Mark) (steps front back : List Step) → steps ≡ Say w ∷ Limit mark ∷ (front ++ back) → AreGood steps → IsFurther mark front back
further w mark steps front back e good =
    let worded = good_behind steps (Limit mark ∷ (front ++ back)) (Say w) e good in
    let marked = good_behind (Limit mark ∷ (front ++ back)) (front ++ back) (Limit mark) refl worded.1 in
    let both = good_parts (front ++ back) front back refl marked.1 in
    record { inside = marked.0; part = both.0; rest = both.1 }

-- each value that a rule spells by good steps is so
pub record Gives {A : Type 0} (rule : Rule A) (P : A → Type 0) : Type 0 where
  pub of : (steps : List Step) (a : A) → rule steps a → AreGood steps → P a

-- ---- what each word gives that makes rules of rules

pub of_return : {A : Type 0} {P : A → Type 0} {a : A} → P a → Gives (Return a) P
of_return {P = P} p = record { of = λ steps b h good. subst P (sym h.1) p }

pub of_after : {A : Type 0} {P : A → Type 0} {w : Word} {rule : Rule A} → Gives rule P → Gives (After w rule) P
of_after {w = w} g = record { of = λ steps a h good. g.of h.0 a h.2 (good_behind steps h.0 (Say w) h.1 good).1 }

pub of_named : {A : Type 0} {P : A → Type 0} {rule : List ℕ → Rule A} → ((name : List ℕ) → is_plain name ≡ true → Gives (rule name) P) → Gives (Named rule) P
of_named g = record { of = λ steps a h good. let parts = good_behind steps h.1 (Say (Name h.0)) h.2 good in (g h.0 parts.0).of h.1 a h.3 parts.1 }

pub of_marked : {A : Type 0} {P : A → Type 0} {mark : Mark} {rule : Rule A} → Gives rule P → Gives (Marked mark rule) P
of_marked {mark = mark} g = record { of = λ steps a h good. g.of h.0 a h.2 (good_behind steps h.0 (Limit mark) h.1 good).1 }

pub of_either : {A : Type 0} {P : A → Type 0} {one another : Rule A} → Gives one P → Gives another P → Gives (Either one another) P
of_either {A = A} {P = P} {one = one} {another = another} g h = record { of = by }
  where
    by : (steps : List Step) (a : A) → Either one another steps a → AreGood steps → P a
    by steps a (inl x) good = g.of steps a x good
    by steps a (inr x) good = h.of steps a x good

pub of_then : {A B : Type 0} {P : A → Type 0} {Q : B → Type 0} {first : Rule A} {second : A → Rule B} → Gives first P → ((a : A) → P a → Gives (second a) Q)
    → Gives (Then first second) Q
of_then g more = record {
  of = λ steps b h good.
      let parts = good_parts steps h.0 h.1 h.3 good in
      (more h.2 (g.of h.0 h.2 h.4 parts.0)).of h.1 b h.5 parts.1;
}

pub of_enclosed : {A B : Type 0} {P : A → Type 0} {Q : B → Type 0} {rule : Rule A} {next : A → Rule B} → Gives rule P → ((a : A) → P a → Gives (next a) Q)
    → Gives (Enclosed rule next) Q
of_enclosed g more = of_after (of_then g (λ a p. of_after (more a p)))

-- whatever it gives
pub of_any : {A : Type 0} {rule : Rule A} → Gives rule (λ a. Unit {0})
of_any = record { of = λ steps a h good. tt }

-- two tests that pass
infixl 10 ◌and◌
pub ◌and◌ : {a b : Bool} → a ≡ true → b ≡ true → (a && b) ≡ true
p and q = and_from _ _ p q

-- ---- parts of a list

-- what is so passes a test
pub all_pass : {X : Type 0} {P : X → Type 0} (test : X → Bool) → ((x : X) → P x → test x ≡ true) → (xs : List X) → AllByRecursion P xs → list_all test xs ≡ true
all_pass test passes [] all = refl
all_pass test passes (x ∷ xs) all = passes x all.0 and all_pass test passes xs all.1

-- parts that are so, at most so many and one at least
pub record AreParts {A : Type 0} (P : A → Type 0) (most : ℕ) (parts : List A) : Type 0 where
  pub each : AllByRecursion P parts
  pub some : 1 ≤ length parts
  pub few : length parts ≤ most

-- one part, and one more behind others
pub first_part : {A : Type 0} {P : A → Type 0} {most : ℕ} (a : A) → P a → 1 ≤ most → AreParts P most (a ∷ [])
first_part a p room = record { each = (p, tt); some = omega arith; few = omega arith }

pub next_part : {A : Type 0} {P : A → Type 0} {most : ℕ} (before : List A) (a : A) → AreParts P most before → P a → length before < most → AreParts P most (before ++ a ∷ [])
next_part {P = P} before a all p room = record {
  each = all_one_more P before a all.each p;
  some = omega (arith, length-append before (a ∷ []));
  few = omega (arith, length-append before (a ∷ []));
}

-- ( , part )* behind parts that are so
others_parts : {A : Type 0} {P : A → Type 0} (rule : Rule A) → Gives rule P → (n : ℕ) (before : List A) (steps : List Step) (all : List A) → Others rule n before steps all
    → n ≡ suc (length before) → AreGood steps → AreParts P 16 before → AreParts P 16 all
others_parts {P = P} rule g n before steps all (no_other e f) here good parts = subst (AreParts P 16) (sym f) parts
others_parts {P = P} rule g n before steps all (other front back a one more e) here good parts =
    let found = further (Sign Comma) (Part n) steps front back e good in
    let low : n ≤ 16 = part_within n found.inside in
    others_parts rule g (suc n) (before ++ a ∷ []) back all more (omega (arith, length-append before (a ∷ []))) found.rest
    (next_part before a parts (g.of front a one found.part) (omega arith))

-- part ( , part )*
pub of_listed : {A : Type 0} {P : A → Type 0} {rule : Rule A} → Gives rule P → Gives (Listed rule) (AreParts P 16)
of_listed {rule = rule} g = of_then (of_marked g) (λ a p. record { of = λ steps all h good. others_parts rule g 2 (a ∷ []) steps all h refl good (first_part a p (omega arith)) })

pub is_list_parts : {A : Type 0} {P : A → Type 0} (parts : List A) → AreParts P 16 parts → is_list parts ≡ true
is_list_parts parts h = le-leb _ _ h.some and le-leb _ _ h.few
