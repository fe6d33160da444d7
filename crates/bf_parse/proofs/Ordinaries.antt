-- Which statement stands, and what follows the parts of statements.
use Rattle.std.proofs.Common.{◌≡◌, ℕ, Bool, true, false, List, [], ◌∷◌, ◌++◌, length, Option, Some, None, refl, sym, ap, subst, ◌∙◌, inl, inr}
use Rattle.std.specs.Prelude.{◌||◌}
use Rattle.bf_lex.specs.declared.keyword.Keyword.{Keyword as KeywordCase}
use Rattle.bf_lex.specs.declared.keyword.Keyword.TheVariants as keyword
use Rattle.bf_tree.specs.declared.raw.Ref.{Ref}
use Rattle.bf_tree.specs.Trees.{Cond}
use Rattle.bf_tree.specs.declared.statement.Statement.{Statement}
use Rattle.bf_tree.specs.declared.statement.Statement.TheVariants as statement
use Rattle.bf_phrase.specs.declared.cursor.Cursor.{Cursor}
use Rattle.bf_phrase.specs.Words.{Word, Keyword}
use Rattle.bf_phrase.specs.Words as word
use Rattle.bf_phrase.specs.Steps.{Step, Say, said}
use Rattle.bf_phrase.specs.Rules.{Return, Then, Listed}
use Rattle.bf_phrase.specs.Reading.{Ends, Reading, Read, Stuck, Fits}
use Rattle.bf_phrase.specs.Outcome.{IsBehind}
use Rattle.bf_phrase.specs.First.{begins, IsFirstKeyword}
use Rattle.bf_phrase.specs.Follow.{follow_sum, nothing, follow_list, follow_where, is_comma}
use Rattle.bf_parse.specs.StatementFollow.{follow_ordinary}
use Rattle.bf_phrase.specs.Phrases.{WhereRule, SetRule}
use Rattle.bf_parse.specs.Statements.{InsertRule, SelectRule, UpdateRule, DeleteRule, OrdinaryRule}
use Rattle.bf_parse.specs.Pieces.{CreateRule}
use Rattle.bf_phrase.proofs.Beginnings.{Begun, other_stop}
use Rattle.bf_phrase.proofs.Chains.{or_left}
use Rattle.bf_phrase.proofs.Listings.{set_part}
use Rattle.bf_phrase.proofs.Lists.{weaker_ends}
use Rattle.bf_phrase.proofs.Maps.{wider, other_word, either_not_here}
use Rattle.bf_phrase.proofs.Moves.{Can, Passed, left_here, right_here, behind_go, return_fits}
use Rattle.bf_phrase.proofs.Parts.{list_can}
use Rattle.bf_phrase.proofs.Phrases.{or_right}

-- ---- what may follow

pub where_weaker : (t : Word) → follow_ordinary t ≡ false → follow_where t ≡ false
where_weaker t e = or_left _ _ (or_left _ _ e)

pub comma_weaker : (t : Word) → follow_ordinary t ≡ false → is_comma t ≡ false
comma_weaker t e = or_right _ _ e

both_false : (a b : Bool) → a ≡ false → b ≡ false → (a || b) ≡ false
both_false true b p q = p
both_false false b p q = q

sets_weaker : (t : Word) → follow_ordinary t ≡ false → follow_list follow_sum t ≡ false
sets_weaker t e = both_false (follow_sum t) (is_comma t) (or_right (follow_where t) (follow_sum t) (or_left (follow_where t || follow_sum t) (is_comma t) e)) (or_right (follow_where t || follow_sum t) (is_comma t) e)

-- sets, and then WHERE or what follows an UPDATE
pub sets_passed : {A B : Type 0} {f : A → Option (Cond Ref) → B} → Passed (follow_list follow_sum) follow_ordinary (λ a. Then WhereRule (λ cond. Return (f a cond)))
sets_passed {f = f} = record { it = λ a s b back h ends. subst (λ (z : List Step). Ends (follow_list follow_sum) (said z ++ back)) (sym h.3) (by_where h.0 h.1 h.2 back h.4 h.5.0 ends) }
  where
    by_where : (front rest : List Step) (cond : Option (Cond Ref)) (back : List Word) → WhereRule front cond → rest ≡ [] → Ends follow_ordinary back → Ends (follow_list follow_sum) (said (front ++ rest) ++ back)
    by_where front rest cond back (inl h) p ends = subst (λ (z : List Step). Ends (follow_list follow_sum) (said (z ++ rest) ++ back)) (sym h.0) (subst (λ (z : List Step). Ends (follow_list follow_sum) (said z ++ back)) (sym p) (weaker_ends (follow_list follow_sum) follow_ordinary sets_weaker back ends))
    by_where front rest cond back (inr h) p ends = subst (λ (z : List Step). Ends (follow_list follow_sum) (said (z ++ rest) ++ back)) (sym h.1) refl

pub sets_can : Can (Listed SetRule)
sets_can = list_can set_part

-- ---- which statement stands

pub create_first : {ws rest : List Word} {r : Reading Statement} → IsBehind (Keyword keyword.Create) ws (Some rest) → Fits nothing CreateRule ws r → Fits follow_ordinary OrdinaryRule ws r
create_first h f = left_here
    (either_not_here (other_word h.it (λ d. cc)) (either_not_here (other_word h.it (λ d. cc)) (either_not_here (other_word h.it (λ d. cc)) (either_not_here (other_word h.it (λ d. cc)) (either_not_here (other_word h.it (λ d. cc)) (either_not_here (other_word h.it (λ d. cc)) (other_word h.it (λ d. cc))))))))
    (wider (λ t e. refl) f)

pub insert_first : {ws rest : List Word} {r : Reading Statement} → IsBehind (Keyword keyword.Insert) ws (Some rest) → Fits is_comma InsertRule ws r → Fits follow_ordinary OrdinaryRule ws r
insert_first h f = right_here (other_word h.it (λ d. cc)) (left_here (either_not_here (other_word h.it (λ d. cc)) (either_not_here (other_word h.it (λ d. cc)) (either_not_here (other_word h.it (λ d. cc)) (either_not_here (other_word h.it (λ d. cc)) (either_not_here (other_word h.it (λ d. cc)) (other_word h.it (λ d. cc))))))) (wider comma_weaker f))

pub select_first : {ws rest : List Word} {r : Reading Statement} → IsBehind (Keyword keyword.Select) ws (Some rest) → Fits follow_where SelectRule ws r → Fits follow_ordinary OrdinaryRule ws r
select_first h f = right_here (other_word h.it (λ d. cc)) (right_here (other_word h.it (λ d. cc)) (left_here (either_not_here (other_word h.it (λ d. cc)) (either_not_here (other_word h.it (λ d. cc)) (either_not_here (other_word h.it (λ d. cc)) (either_not_here (other_word h.it (λ d. cc)) (other_word h.it (λ d. cc)))))) (wider where_weaker f)))

pub update_first : {ws rest : List Word} {r : Reading Statement} → IsBehind (Keyword keyword.Update) ws (Some rest) → Fits follow_ordinary UpdateRule ws r → Fits follow_ordinary OrdinaryRule ws r
update_first h f = right_here (other_word h.it (λ d. cc)) (right_here (other_word h.it (λ d. cc)) (right_here (other_word h.it (λ d. cc)) (left_here (either_not_here (other_word h.it (λ d. cc)) (either_not_here (other_word h.it (λ d. cc)) (either_not_here (other_word h.it (λ d. cc)) (other_word h.it (λ d. cc))))) f)))

pub delete_first : {ws rest : List Word} {r : Reading Statement} → IsBehind (Keyword keyword.Delete) ws (Some rest) → Fits follow_where DeleteRule ws r → Fits follow_ordinary OrdinaryRule ws r
delete_first h f = right_here (other_word h.it (λ d. cc)) (right_here (other_word h.it (λ d. cc)) (right_here (other_word h.it (λ d. cc)) (right_here (other_word h.it (λ d. cc)) (left_here (either_not_here (other_word h.it (λ d. cc)) (either_not_here (other_word h.it (λ d. cc)) (other_word h.it (λ d. cc)))) (wider where_weaker f)))))

pub begin_first : {ws rest : List Word} → IsBehind (Keyword keyword.Begin) ws (Some rest) → Fits follow_ordinary OrdinaryRule ws (Read statement.Begin rest)
begin_first h = right_here (other_word h.it (λ d. cc)) (right_here (other_word h.it (λ d. cc)) (right_here (other_word h.it (λ d. cc)) (right_here (other_word h.it (λ d. cc)) (right_here (other_word h.it (λ d. cc)) (left_here (either_not_here (other_word h.it (λ d. cc)) (other_word h.it (λ d. cc))) (behind_go h return_fits))))))

pub commit_first : {ws rest : List Word} → IsBehind (Keyword keyword.Commit) ws (Some rest) → Fits follow_ordinary OrdinaryRule ws (Read statement.Commit rest)
commit_first h = right_here (other_word h.it (λ d. cc)) (right_here (other_word h.it (λ d. cc)) (right_here (other_word h.it (λ d. cc)) (right_here (other_word h.it (λ d. cc)) (right_here (other_word h.it (λ d. cc)) (right_here (other_word h.it (λ d. cc)) (left_here (other_word h.it (λ d. cc)) (behind_go h return_fits)))))))

pub rollback_first : {ws rest : List Word} → IsBehind (Keyword keyword.Rollback) ws (Some rest) → Fits follow_ordinary OrdinaryRule ws (Read statement.Rollback rest)
rollback_first h = right_here (other_word h.it (λ d. cc)) (right_here (other_word h.it (λ d. cc)) (right_here (other_word h.it (λ d. cc)) (right_here (other_word h.it (λ d. cc)) (right_here (other_word h.it (λ d. cc)) (right_here (other_word h.it (λ d. cc)) (right_here (other_word h.it (λ d. cc)) (behind_go h return_fits)))))))

-- ---- where none does

abbrev is_verb : Word → Bool
is_verb (Keyword keyword.Create) = true
is_verb (Keyword keyword.Insert) = true
is_verb (Keyword keyword.Select) = true
is_verb (Keyword keyword.Update) = true
is_verb (Keyword keyword.Delete) = true
is_verb (Keyword keyword.Begin) = true
is_verb (Keyword keyword.Commit) = true
is_verb (Keyword keyword.Rollback) = true
is_verb other = false

ordinary_opens : (s : List Step) (b : Statement) → OrdinaryRule s b → begins is_verb (said s) ≡ true
ordinary_opens s b (inl h) = ap (λ (z : List Step). begins is_verb (said z)) h.1
ordinary_opens s b (inr (inl h)) = ap (λ (z : List Step). begins is_verb (said z)) h.1
ordinary_opens s b (inr (inr (inl h))) = ap (λ (z : List Step). begins is_verb (said z)) h.1
ordinary_opens s b (inr (inr (inr (inl h)))) = ap (λ (z : List Step). begins is_verb (said z)) h.1
ordinary_opens s b (inr (inr (inr (inr (inl h))))) = ap (λ (z : List Step). begins is_verb (said z)) h.1
ordinary_opens s b (inr (inr (inr (inr (inr (inl h)))))) = ap (λ (z : List Step). begins is_verb (said z)) h.1
ordinary_opens s b (inr (inr (inr (inr (inr (inr (inl h))))))) = ap (λ (z : List Step). begins is_verb (said z)) h.1
ordinary_opens s b (inr (inr (inr (inr (inr (inr (inr h))))))) = ap (λ (z : List Step). begins is_verb (said z)) h.1

pub ordinary_can : Can OrdinaryRule
ordinary_can = record { it = (Say (Keyword keyword.Begin) ∷ [], statement.Begin, inr (inr (inr (inr (inr (inl ([], refl, (refl, refl)))))))) }

ordinary_none : {ws : List Word} (k : ℕ) → length ws ≡ k → begins is_verb ws ≡ false → Fits follow_ordinary OrdinaryRule ws (Stuck k)
ordinary_none k e absent = other_stop k e begun ordinary_can absent
  where
    begun : Begun is_verb OrdinaryRule
    begun = record { it = ordinary_opens }

no_keyword : (ws : List Word) → IsFirstKeyword ws None → begins is_verb ws ≡ false
no_keyword [] h = refl
no_keyword (word.Keyword k ∷ ws) h = absurd (not h.it)
  where
    not : true ≡ false → ⊥
    not e = cc
no_keyword (word.Name n ∷ ws) h = refl
no_keyword (word.Number n ∷ ws) h = refl
no_keyword (word.Text t ∷ ws) h = refl
no_keyword (word.Minus b ∷ ws) h = refl
no_keyword (word.Sign s ∷ ws) h = refl

pub no_statement : {ws : List Word} (k : ℕ) → length ws ≡ k → IsFirstKeyword ws None → Fits follow_ordinary OrdinaryRule ws (Stuck k)
no_statement {ws = ws} k e h = ordinary_none k e (no_keyword ws h)

-- a keyword with which no statement but MIGRATE begins
pub record IsOther (k : KeywordCase) : Type 0 where
  pub create : k ≡ keyword.Create → ⊥
  pub insert : k ≡ keyword.Insert → ⊥
  pub select : k ≡ keyword.Select → ⊥
  pub update : k ≡ keyword.Update → ⊥
  pub delete : k ≡ keyword.Delete → ⊥
  pub begin : k ≡ keyword.Begin → ⊥
  pub commit : k ≡ keyword.Commit → ⊥
  pub rollback : k ≡ keyword.Rollback → ⊥

other_verb : (k : KeywordCase) → IsOther k → is_verb (Keyword k) ≡ false
other_verb keyword.Create h = absurd (h.create refl)
other_verb keyword.Insert h = absurd (h.insert refl)
other_verb keyword.Select h = absurd (h.select refl)
other_verb keyword.Update h = absurd (h.update refl)
other_verb keyword.Delete h = absurd (h.delete refl)
other_verb keyword.Begin h = absurd (h.begin refl)
other_verb keyword.Commit h = absurd (h.commit refl)
other_verb keyword.Rollback h = absurd (h.rollback refl)
other_verb other h = refl

pub other_statement : {ws : List Word} {found : KeywordCase} {behind : Cursor} (k : ℕ) → length ws ≡ k → IsFirstKeyword ws (Some (found, behind)) → IsOther found → Fits follow_ordinary OrdinaryRule ws (Stuck k)
other_statement {found = found} k e h not = ordinary_none k e (ap (λ (z : List Word). begins is_verb z) h.it ∙ other_verb found not)
