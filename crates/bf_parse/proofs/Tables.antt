-- The columns of a table, behind which stands a comma and PRIMARY: behind a comma stands a column or PRIMARY.
use Rattle.std.proofs.Common.{◌≡◌, ℕ, suc, ◌<◌, Bool, List, [], ◌∷◌, ◌++◌, Some, None, Ok, Err, refl, sym, ap, subst, ◌∙◌, inl, inr, arith, length, length-append, append_assoc}
use Rattle.bf_lex.specs.declared.keyword.Keyword.TheVariants as keyword
use Rattle.bf_lex.specs.declared.sign.Sign.TheVariants as sign
use Rattle.bf_tree.specs.declared.statement.ColumnRule.{ColumnRule}
use Rattle.bf_tree.specs.declared.statement.Statement.TheVariants as statement
use Rattle.bf_phrase.specs.declared.error.ReadStop.{ReadStop}
use Rattle.bf_phrase.specs.Words.{Word, Keyword, Name, Sign}
use Rattle.bf_phrase.specs.Steps.{Step, Say, Limit, Part, said}
use Rattle.bf_phrase.specs.Rules.{Return, After, Marked, Either, Then, Listed, Others, no_other, other}
use Rattle.bf_phrase.specs.Reading.{Ends, Reading, Read, Fits, first}
use Rattle.bf_phrase.specs.Outcome.{IsBehind, IsExpected, stopped}
use Rattle.bf_phrase.specs.Follow.{nothing, is_check}
use Rattle.bf_phrase.specs.Columns.{ColumnRuleRule}
use Rattle.bf_phrase.specs.Phrases.{NameRule, Enclosed}
use Rattle.bf_parse.specs.Statements.{TableRule, IndexRuleRule}
use Rattle.bf_parse.specs.Pieces.{ColumnsRule}
use Rattle.bf_phrase.proofs.Moves.{Can, NotHere, Passed, left_here, right_here, after_not_here, behind_go, return_fits, then_go, then_stop, then_can, after_can, return_can, others_can, left_can, named_can, after_go, after_stop, marked_go}
use Rattle.bf_phrase.proofs.Maps.{same_rule}
use Rattle.bf_phrase.proofs.Listings.{column_part, name_part}
use Rattle.bf_phrase.proofs.Parts.{list_can, part_low}

-- behind columns, from the n-th on
abbrev pub More : ℕ → List ColumnRule → List Step → List ColumnRule → Type 0
More n acc = Then (Others ColumnRuleRule n acc) (λ columns. After (Sign sign.Comma) (After (Keyword keyword.Primary) (Return columns)))

-- behind the comma
abbrev pub Choice : ℕ → List ColumnRule → List Step → List ColumnRule → Type 0
Choice n acc = Either (Then (Marked (Part n) ColumnRuleRule) (λ e. More (suc n) (acc ++ e ∷ []))) (After (Keyword keyword.Primary) (Return acc))

more_to : (n : ℕ) (acc : List ColumnRule) (s : List Step) (b : List ColumnRule) → After (Sign sign.Comma) (Choice n acc) s b → More n acc s b
more_to n acc s b h = by_choice h.2
  where
    by_choice : Choice n acc h.0 b → More n acc s b
    by_choice (inl k) =
        let m = k.4 in
        let rest = k.5 in
        let split : s ≡ (Say (Sign sign.Comma) ∷ Limit (Part n) ∷ (m.0 ++ rest.0)) ++ rest.1 =
        h.1 ∙ ap (λ (z : List Step). Say (Sign sign.Comma) ∷ z) (k.3 ∙ ap (λ (z : List Step). z ++ k.1) m.1 ∙ ap (λ (z : List Step). Limit (Part n) ∷ (m.0 ++ z)) rest.3 ∙ ap (λ (z : List Step). Limit (Part n) ∷ z) (sym (append_assoc m.0 rest.0 rest.1))) in
        (Say (Sign sign.Comma) ∷ Limit (Part n) ∷ (m.0 ++ rest.0), rest.1, rest.2, split, other m.0 rest.0 k.2 m.2 rest.4 refl, rest.5)
    by_choice (inr k) = ([], s, acc, refl, no_other refl refl, (h.0, h.1, k))

more_from : (n : ℕ) (acc : List ColumnRule) (s : List Step) (b : List ColumnRule) → More n acc s b → After (Sign sign.Comma) (Choice n acc) s b
more_from n acc s b h = by_others h.0 h.2 h.3 h.4 h.5
  where
    by_others : (front : List Step) (columns : List ColumnRule) → s ≡ front ++ h.1 → Others ColumnRuleRule n acc front columns → After (Sign sign.Comma) (After (Keyword keyword.Primary) (Return columns)) h.1 b → After (Sign sign.Comma) (Choice n acc) s b
    by_others front columns split (no_other p q) tail =
        let same : s ≡ h.1 = split ∙ ap (λ (z : List Step). z ++ h.1) p in
        (tail.0, same ∙ tail.1, inr (tail.2.0, tail.2.1, (tail.2.2.0, tail.2.2.1 ∙ q)))
    by_others front columns split (other f o x c others p) tail =
        let same : s ≡ Say (Sign sign.Comma) ∷ Limit (Part n) ∷ (f ++ (o ++ h.1)) = split ∙ ap (λ (z : List Step). z ++ h.1) p ∙ ap (λ (z : List Step). Say (Sign sign.Comma) ∷ Limit (Part n) ∷ z) (append_assoc f o h.1) in
        (Limit (Part n) ∷ (f ++ (o ++ h.1)), same, inl (Limit (Part n) ∷ f, o ++ h.1, x, refl, (f, refl, c), (o, h.1, columns, refl, others, tail)))

pub more_as : {n : ℕ} {acc : List ColumnRule} {ws : List Word} {r : Reading (List ColumnRule)} → Fits nothing (After (Sign sign.Comma) (Choice n acc)) ws r → Fits nothing (More n acc) ws r
more_as {n = n} {acc = acc} f = same_rule (more_to n acc) (more_from n acc) f

pub more_can : {n : ℕ} {acc : List ColumnRule} → Can (More n acc)
more_can {n = n} {acc = acc} = then_can (others_can {G = ColumnRuleRule} {n = n} {acc = acc}) (λ columns. after_can (after_can return_can))

pub choice_can : {n : ℕ} {acc : List ColumnRule} → Can (Choice n acc)
choice_can {n = n} {acc = acc} = record { it = (Say (Keyword keyword.Primary) ∷ [], acc, inr ([], refl, (refl, refl))) }

-- the n-th column is followed by a comma
pub more_passed : (n : ℕ) (acc : List ColumnRule) → Passed is_check nothing (λ e. More n (acc ++ e ∷ []))
more_passed n acc = record { it = λ a s b back h ends. let k = more_from n (acc ++ a ∷ []) s b h in subst (λ (z : List Step). Ends is_check (said z ++ back)) (sym k.1) refl }

-- ---- the first column

columns_to : (s : List Step) (b : List ColumnRule) → Then (Marked (Part 1) ColumnRuleRule) (λ e. More 2 (e ∷ [])) s b → ColumnsRule s b
columns_to s b h =
    let rest = h.5 in
    (h.0 ++ rest.0, rest.1, rest.2, h.3 ∙ ap (λ (z : List Step). h.0 ++ z) rest.3 ∙ sym (append_assoc h.0 rest.0 rest.1), (h.0, rest.0, h.2, refl, h.4, rest.4), rest.5)

columns_from : (s : List Step) (b : List ColumnRule) → ColumnsRule s b → Then (Marked (Part 1) ColumnRuleRule) (λ e. More 2 (e ∷ [])) s b
columns_from s b h =
    let list = h.4 in
    (list.0, list.1 ++ h.1, list.2, h.3 ∙ ap (λ (z : List Step). z ++ h.1) list.3 ∙ append_assoc list.0 list.1 h.1, list.4, (list.1, h.1, h.2, refl, list.5, h.5))

pub columns_stop : {ws : List Word} (e : ReadStop) → Fits is_check ColumnRuleRule ws (stopped e) → Fits nothing ColumnsRule ws (stopped e)
columns_stop e f = same_rule columns_to columns_from (then_stop e (more_passed 2 []) (λ a. more_can) (marked_go refl f))

pub columns_open : {ws mid : List Word} {a : ColumnRule} {e : ReadStop} → Fits is_check ColumnRuleRule ws (Read a mid) → IsExpected (Sign sign.Comma) mid (Err e) → Fits nothing ColumnsRule ws (stopped e)
columns_open f comma = same_rule columns_to columns_from (then_go (more_passed 2 []) (marked_go refl f) (more_as (after_stop comma choice_can)))

pub columns_begin : {ws mid rest : List Word} {a : ColumnRule} {r : Reading (List ColumnRule)} → Fits is_check ColumnRuleRule ws (Read a mid) → IsExpected (Sign sign.Comma) mid (Ok rest) → Fits nothing (Choice 2 (a ∷ [])) rest r
    → Fits nothing ColumnsRule ws r
columns_begin f comma h = same_rule columns_to columns_from (then_go (more_passed 2 []) (marked_go refl f) (more_as (after_go comma h)))

-- ---- behind a comma

-- where PRIMARY stands, no column does
column_not_here : (n : ℕ) (acc : List ColumnRule) (ws rest : List Word) → ws ≡ Keyword keyword.Primary ∷ rest → NotHere nothing (Then (Marked (Part n) ColumnRuleRule) (λ e. More (suc n) (acc ++ e ∷ []))) ws
column_not_here n acc ws rest e = record {
  it = λ s b back h ends same.
      let named = h.4.2 in
      let split : s ≡ Limit (Part n) ∷ Say (Name named.0) ∷ (named.1 ++ h.1) = h.3 ∙ ap (λ (z : List Step). z ++ h.1) (h.4.1 ∙ ap (λ (z : List Step). Limit (Part n) ∷ z) named.2) in
      let d : Some (Name named.0) ≡ Some (Keyword keyword.Primary) = ap (λ (z : List Step). first (said z ++ back)) (sym split) ∙ same ∙ ap first e in
      cc;
}

pub choice_end : {n : ℕ} {acc : List ColumnRule} {ws rest : List Word} → IsBehind (Keyword keyword.Primary) ws (Some rest) → Fits nothing (Choice n acc) ws (Read acc rest)
choice_end {n = n} {acc = acc} {ws = ws} {rest = rest} h = right_here (column_not_here n acc ws rest h.it) (behind_go h return_fits)

pub choice_stop : {n : ℕ} {acc : List ColumnRule} {ws : List Word} (e : ReadStop) → IsBehind (Keyword keyword.Primary) ws None → Fits is_check (Marked (Part n) ColumnRuleRule) ws (stopped e) → Fits nothing (Choice n acc) ws (stopped e)
choice_stop {n = n} {acc = acc} e h f = left_here (after_not_here h) (then_stop e (more_passed (suc n) acc) (λ a. more_can) f)

pub choice_open : {n : ℕ} {acc : List ColumnRule} {ws mid : List Word} {a : ColumnRule} {e : ReadStop} → IsBehind (Keyword keyword.Primary) ws None → Fits is_check (Marked (Part n) ColumnRuleRule) ws (Read a mid)
    → IsExpected (Sign sign.Comma) mid (Err e) → Fits nothing (Choice n acc) ws (stopped e)
choice_open {n = n} {acc = acc} h f comma = left_here (after_not_here h) (then_go (more_passed (suc n) acc) f (more_as (after_stop comma choice_can)))

pub choice_more : {n : ℕ} {acc : List ColumnRule} {ws mid rest : List Word} {a : ColumnRule} {r : Reading (List ColumnRule)} → IsBehind (Keyword keyword.Primary) ws None → Fits is_check (Marked (Part n) ColumnRuleRule) ws (Read a mid)
    → IsExpected (Sign sign.Comma) mid (Ok rest) → Fits nothing (Choice (suc n) (acc ++ a ∷ [])) rest r → Fits nothing (Choice n acc) ws r
choice_more {n = n} {acc = acc} h f comma k = left_here (after_not_here h) (then_go (more_passed (suc n) acc) f (more_as (after_go comma k)))

-- ---- where a vector holds the columns

pub columns_first : {items : List ColumnRule} {ws mid rest : List Word} {a : ColumnRule} {r : Reading (List ColumnRule)} → Fits is_check ColumnRuleRule ws (Read a mid) → IsExpected (Sign sign.Comma) mid (Ok rest) → items ≡ a ∷ []
    → Fits nothing (Choice (suc (length items)) items) rest r → Fits nothing ColumnsRule ws r
columns_first {rest = rest} {r = r} f comma e h = columns_begin f comma (subst (λ (z : List ColumnRule). Fits nothing (Choice (suc (length z)) z) rest r) e h)

pub choice_next : (acc : List ColumnRule) {items : List ColumnRule} {ws mid rest : List Word} {a : ColumnRule} {r : Reading (List ColumnRule)} → length acc < 16 → IsBehind (Keyword keyword.Primary) ws None → Fits is_check ColumnRuleRule ws (Read a mid)
    → IsExpected (Sign sign.Comma) mid (Ok rest) → items ≡ acc ++ a ∷ [] → Fits nothing (Choice (suc (length items)) items) rest r → Fits nothing (Choice (suc (length acc)) acc) ws r
choice_next acc {rest = rest} {a = a} {r = r} low h f comma e k =
    let count : length (acc ++ a ∷ []) ≡ suc (length acc) = omega (arith, length-append acc (a ∷ [])) in
    let same : Fits nothing (Choice (suc (length (acc ++ a ∷ []))) (acc ++ a ∷ [])) rest r = subst (λ (z : List ColumnRule). Fits nothing (Choice (suc (length z)) z) rest r) e k in
    choice_more h (marked_go (part_low (length acc) low) f) comma (subst (λ (n : ℕ). Fits nothing (Choice (suc n) (acc ++ a ∷ [])) rest r) count same)

-- ---- the table behind its columns

abbrev Flat : {B : Type 0} → (List ColumnRule → List Step → B → Type 0) → List Step → B → Type 0
Flat H = Then (Listed ColumnRuleRule) (λ columns. After (Sign sign.Comma) (After (Keyword keyword.Primary) (H columns)))

flat_to : {B : Type 0} (H : List ColumnRule → List Step → B → Type 0) (s : List Step) (b : B) → Then ColumnsRule H s b → Flat H s b
flat_to H s b h =
    let read = h.4 in
    let comma = read.5 in
    let primary = comma.2 in
    let tail : read.1 ≡ Say (Sign sign.Comma) ∷ Say (Keyword keyword.Primary) ∷ [] =
    comma.1 ∙ ap (λ (z : List Step). Say (Sign sign.Comma) ∷ z) (primary.1 ∙ ap (λ (z : List Step). Say (Keyword keyword.Primary) ∷ z) primary.2.0) in
    let split : s ≡ read.0 ++ Say (Sign sign.Comma) ∷ Say (Keyword keyword.Primary) ∷ h.1 =
    h.3 ∙ ap (λ (z : List Step). z ++ h.1) (read.3 ∙ ap (λ (z : List Step). read.0 ++ z) tail) ∙ append_assoc read.0 (Say (Sign sign.Comma) ∷ Say (Keyword keyword.Primary) ∷ []) h.1 in (
      read.0,
      Say (Sign sign.Comma) ∷ Say (Keyword keyword.Primary) ∷ h.1,
      read.2,
      split,
      read.4,
      (Say (Keyword keyword.Primary) ∷ h.1, refl, (h.1, refl, subst (λ (x : List ColumnRule). H x h.1 b) primary.2.1 h.5)),
    )

flat_from : {B : Type 0} (H : List ColumnRule → List Step → B → Type 0) (s : List Step) (b : B) → Flat H s b → Then ColumnsRule H s b
flat_from H s b h =
    let comma = h.5 in
    let primary = comma.2 in
    let split : s ≡ (h.0 ++ Say (Sign sign.Comma) ∷ Say (Keyword keyword.Primary) ∷ []) ++ primary.0 =
    h.3 ∙ ap (λ (z : List Step). h.0 ++ z) (comma.1 ∙ ap (λ (z : List Step). Say (Sign sign.Comma) ∷ z) primary.1) ∙ sym (append_assoc h.0 (Say (Sign sign.Comma) ∷ Say (Keyword keyword.Primary) ∷ []) primary.0) in (
      h.0 ++ Say (Sign sign.Comma) ∷ Say (Keyword keyword.Primary) ∷ [],
      primary.0,
      h.2,
      split,
      (h.0, Say (Sign sign.Comma) ∷ Say (Keyword keyword.Primary) ∷ [], h.2, refl, h.4, (Say (Keyword keyword.Primary) ∷ [], refl, ([], refl, (refl, refl)))),
      primary.2,
    )

pub columns_then : {B : Type 0} {w : Word → Bool} {H : List ColumnRule → List Step → B → Type 0} {ws : List Word} {r : Reading B} → Fits w (Then ColumnsRule H) ws r → Fits w (Flat H) ws r
columns_then {H = H} f = same_rule (flat_to H) (flat_from H) f

pub columns_can : Can ColumnsRule
columns_can = then_can (list_can column_part) (λ columns. after_can (after_can return_can))

pub table_rest_can : {n : List ℕ} → Can (Then (Listed ColumnRuleRule) (λ columns. After (Sign sign.Comma) (After (Keyword keyword.Primary) (After (Keyword keyword.Key) (Enclosed (Listed NameRule) (λ key.
    After (Sign sign.ClosingParenthesis) (Return (statement.CreateTable n columns key))))))))
table_rest_can = then_can (list_can column_part) (λ columns. after_can (after_can (after_can (after_can (then_can (list_can name_part) (λ key. after_can (after_can return_can)))))))

pub either_can : Can (Either TableRule IndexRuleRule)
either_can = left_can (after_can (named_can (λ n. after_can table_rest_can)))
