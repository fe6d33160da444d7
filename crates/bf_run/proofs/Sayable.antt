-- What holds of each statement of a script that a text spells: it is sayable. No name is a keyword, since a word of a text is a keyword or else a
-- name; and the limits of the grammar say so of the lengths of lists and of the nodes of trees.
use Rattle.std.proofs.Common.{◌≡◌, ℕ, ◌+◌, true, List, [], ◌∷◌, ◌++◌, length, refl, sym, subst, Ok}
use Rattle.std.specs.List.{list_all, AllByRecursion}
use Rattle.bf_lex.specs.declared.sign.Sign.TheVariants as sign
use Rattle.bf_lex.specs.declared.keyword.Keyword.TheVariants as keyword
use Rattle.bf_tree.specs.declared.script.Script.{Script}
use Rattle.bf_tree.specs.declared.script.Session.{Session}
use Rattle.bf_tree.specs.declared.statement.ColumnRule.{ColumnRule}
use Rattle.bf_tree.specs.declared.statement.Statement.{Statement}
use Rattle.bf_tree.specs.declared.statement.Statement.TheVariants.{Migrate}
use Rattle.bf_phrase.specs.Words as word
use Rattle.bf_phrase.specs.Words.{Word}
use Rattle.bf_phrase.specs.Steps.{Step, Say, Limit, Migration, Session as SessionMark}
use Rattle.bf_phrase.specs.Phrases.{NameRule}
use Rattle.bf_phrase.specs.Columns.{ColumnRuleRule}
use Rattle.bf_parse.specs.Statements.{TableRule, IndexRuleRule, InsertRule, SelectRule, UpdateRule, DeleteRule, OrdinaryRule}
use Rattle.bf_parse.specs.Scripts.{Statements, no_statement, ordinary, migrate, Progress, with_session, with_phase, nothing_yet, Sessions, no_session, session, Phases, no_phase, phase, IsScriptText}
use Rattle.bf_run.specs.Sayable.{IsSayable, IsSayableScript}
use Rattle.bf_recover.specs.Spoken.{is_plain}
use Rattle.bf_run.proofs.Migrates.{all_one_more}
use Rattle.bf_run.proofs.saying.Gives.{is_plain_word, AreGood, good_parts, good_behind, Gives, of_return, of_after, of_named, of_either, of_then, of_enclosed, of_listed, of_any, ◌and◌, all_pass, is_list_parts}
use Rattle.bf_run.proofs.saying.Migrating.{of_migrate}
use Rattle.bf_run.proofs.saying.Plain.{words_plain, steps_good}

-- ---- CREATE TABLE and CREATE INDEX

of_name : Gives NameRule (λ name. is_plain name ≡ true)
of_name = of_named (λ name plain. of_return plain)

of_column : Gives ColumnRuleRule (λ (rule : ColumnRule). is_plain rule.name ≡ true)
of_column = of_named (λ name plain. of_then of_any (λ form any. of_return plain))

of_table : Gives TableRule IsSayable
of_table =
    of_after (of_named (λ name plain. of_after (of_then (of_listed of_column) (λ columns parts. of_after (of_after (of_after (of_enclosed (of_listed of_name) (λ key places. of_after (of_return
    (plain and all_pass (λ (rule : ColumnRule). is_plain rule.name) (λ rule named. named) columns parts.each and is_list_parts columns parts and is_list_parts key places))))))))))

of_index : Gives IndexRuleRule IsSayable
of_index =
    of_after (of_named (λ name plain. of_after (of_named (λ table also. of_enclosed (of_listed of_name) (λ columns parts. of_return (plain and also and is_list_parts columns parts))))))

-- ---- other statements

of_insert : Gives InsertRule IsSayable
of_insert = of_after (of_after (of_named (λ table plain. of_after (of_then of_any (λ tuples any. of_return tt)))))

of_select : Gives SelectRule IsSayable
of_select = of_after (of_then of_any (λ list any. of_after (of_named (λ table plain. of_then of_any (λ cond also. of_return tt)))))

of_update : Gives UpdateRule IsSayable
of_update = of_after (of_named (λ table plain. of_after (of_then of_any (λ sets any. of_then of_any (λ cond also. of_return tt)))))

of_delete : Gives DeleteRule IsSayable
of_delete = of_after (of_after (of_named (λ table plain. of_then of_any (λ cond any. of_return tt))))

of_ordinary : Gives OrdinaryRule IsSayable
of_ordinary =
    of_either (of_after (of_either of_table of_index))
    (of_either of_insert (of_either of_select (of_either of_update (of_either of_delete
    (of_either (of_after (of_return tt)) (of_either (of_after (of_return tt)) (of_after (of_return tt))))))))

-- ---- scripts

abbrev AreSayable : List Statement → Type 0
AreSayable ss = AllByRecursion IsSayable ss

statements_sayable : (m : ℕ) (before : List Statement) (steps : List Step) (x : List Statement × ℕ) → Statements m before steps x → AreGood steps → AreSayable before
    → AreSayable x.0
statements_sayable m before steps x (no_statement e f) good all = subst (λ (y : List Statement × ℕ). AreSayable y.0) (sym f) all
statements_sayable m before steps x (ordinary front back s one more e) good all =
    let parts = good_parts steps front (Say (word.Sign sign.Semicolon) ∷ back) e good in
    let rest = good_behind _ back (Say (word.Sign sign.Semicolon)) refl parts.1 in
    statements_sayable m (before ++ s ∷ []) back x more rest.1 (all_one_more IsSayable before s all (of_ordinary.of front s one parts.0))
statements_sayable m before steps x (migrate front back t one more e) good all =
    let marked = good_behind steps (front ++ Say (word.Sign sign.Semicolon) ∷ back) (Limit (Migration (m + 1))) e good in
    let parts = good_parts _ front (Say (word.Sign sign.Semicolon) ∷ back) refl marked.1 in
    let rest = good_behind _ back (Say (word.Sign sign.Semicolon)) refl parts.1 in
    let fine = of_migrate.of front t one parts.0 in
    statements_sayable (m + 1) (before ++ Migrate t ∷ []) back x more rest.1 (all_one_more IsSayable before (Migrate t) all (fine.spoken, fine.shallow))

abbrev HasSayable : Session → Type 0
HasSayable s = AreSayable s.statements

-- what is behind a word of a part and its semicolon
behind_semicolon : (w : Word) (steps rest : List Step) → steps ≡ Say w ∷ Say (word.Sign sign.Semicolon) ∷ rest → AreGood steps → AreGood rest
behind_semicolon w steps rest e good =
    (good_behind _ rest (Say (word.Sign sign.Semicolon)) refl (good_behind steps (Say (word.Sign sign.Semicolon) ∷ rest) (Say w) e good).1).1

sessions_sayable : (p : Progress) (steps : List Step) (q : Progress) → Sessions p steps q → AreGood steps → AllByRecursion HasSayable p.sessions
    → AllByRecursion HasSayable q.sessions
sessions_sayable p steps q (no_session e f) good all = subst (λ (r : Progress). AllByRecursion HasSayable r.sessions) (sym f) all
sessions_sayable p steps q (session front back x ss more e) good all =
    let mark = SessionMark (length p.sessions + 1) (p.of_phase + 1) in
    let begun = Say (word.Keyword keyword.Session) ∷ Say (word.Sign sign.Semicolon) ∷ (front ++ back) in
    let marked = good_behind steps begun (Limit mark) e good in
    let parts = good_parts (front ++ back) front back refl (behind_semicolon (word.Keyword keyword.Session) begun (front ++ back) refl marked.1) in
    let own = statements_sayable p.migrations [] front x ss parts.0 tt in
    sessions_sayable (with_session p x) back q more parts.1 (all_one_more HasSayable p.sessions (record { phase = p.phases; statements = x.0 }) all own)

phases_sayable : (p : Progress) (steps : List Step) (q : Progress) → Phases p steps q → AreGood steps → AllByRecursion HasSayable p.sessions
    → AllByRecursion HasSayable q.sessions
phases_sayable p steps q (no_phase e f) good all = subst (λ (r : Progress). AllByRecursion HasSayable r.sessions) (sym f) all
phases_sayable p steps q (phase front back r ss more e) good all =
    let parts = good_parts (front ++ back) front back refl (behind_semicolon (word.Keyword keyword.Phase) steps (front ++ back) e good) in
    phases_sayable r back q more parts.1 (sessions_sayable (with_phase p) front r ss parts.0 all)

-- each statement of a script that a text spells is sayable
pub script_sayable : (text : List ℕ) (script : Script) → IsScriptText text (Ok script) → IsSayableScript script
script_sayable text script h =
    let read = h.3 in
    let made = read.spells in
    let plain = subst (λ (ws : List Word). list_all is_plain_word ws ≡ true) read.split (words_plain text h.1 h.2) in
    let all = phases_sayable nothing_yet read.steps made.0 made.1 (steps_good read.steps plain read.inside) tt in
    subst IsSayableScript (sym made.2) all
