-- The bytes of a report determine its parts.
use Rattle.std.proofs.Common.{◌≡◌, ℕ, Bool, ◌&&◌, IsTrue, List, [], ◌∷◌, ◌++◌, Option, refl, sym, ap, ◌∙◌, append_assoc}
use Rattle.std.specs.List.{list_all}
use Rattle.std.proofs.lemmas.Bool.{and_parts, and_from}
use Rattle.bf_base.specs.Names.{is_name}
use Rattle.bf_tree.specs.declared.history.Entry.{Entry}
use Rattle.bf_tree.specs.declared.history.Sweep.{Sweep}
use Rattle.bf_tree.specs.declared.reply.Reply.{Reply}
use Rattle.bf_tree.specs.declared.script.Script.{Script}
use Rattle.bf_text.specs.Report.{texts_from, session_text, entry_text, audit_text, end_text, commits_of, report_text}
use Rattle.bf_text.specs.Told.{IsTold, is_named, tables_of}
use Rattle.bf_text.specs.Numbers.{IsCounted, is_u64, are_u64, numbers_in}
use Rattle.bf_text.proofs.decoding.Sessions.{reply_fits, sessions_split}
use Rattle.bf_text.proofs.decoding.Endings.{history_splits, audit_splits, audit_behind, end_splits}

-- two tests of each, as one
both_tests : {X : Type 0} (p q : X → Bool) (xs : List X) → IsTrue (list_all p xs) → IsTrue (list_all q xs)
    → IsTrue (list_all (λ x. p x && q x) xs)
both_tests p q [] h k = refl
both_tests p q (x ∷ xs) h k =
    let left = and_parts (p x) (list_all p xs) h in
    let right = and_parts (q x) (list_all q xs) k in
    and_from (p x && q x) (list_all (λ y. p y && q y) xs) (and_from (p x) (q x) left.0 right.0)
    (both_tests p q xs left.1 right.1)

both_tests_each : {X : Type 0} (p q : X → Bool) (xss : List (List X)) → IsTrue (list_all (λ xs. list_all p xs) xss)
    → IsTrue (list_all (λ xs. list_all q xs) xss) → IsTrue (list_all (λ xs. list_all (λ x. p x && q x) xs) xss)
both_tests_each p q [] h k = refl
both_tests_each p q (xs ∷ xss) h k =
    let left = and_parts (list_all p xs) (list_all (λ ys. list_all p ys) xss) h in
    let right = and_parts (list_all q xs) (list_all (λ ys. list_all q ys) xss) k in
    and_from (list_all (λ x. p x && q x) xs) (list_all (λ ys. list_all (λ x. p x && q x) ys) xss)
    (both_tests p q xs left.0 right.0) (both_tests_each p q xss left.1 right.1)

pub parts_of_report : (script : Script) (replies others : List (List Reply)) (history another : List Entry)
    (audit second : Option (List (List ℕ × ℕ))) (sweep last : Sweep)
    → IsTold script replies audit → IsTold script others second → IsCounted replies history audit sweep
    → IsCounted others another second last
    → report_text replies history audit sweep ≡ report_text others another second last
    → (replies ≡ others) × (history ≡ another) × (tables_of audit ≡ tables_of second) × (sweep ≡ last)
parts_of_report script replies others history another audit second sweep last p q f g e =
    let fit : (rs : List (List Reply)) → IsTrue (list_all (λ told. list_all is_named told) rs)
    → IsTrue (list_all (λ told. list_all (λ r. are_u64 (numbers_in r)) told) rs)
    → IsTrue (list_all (λ told. list_all reply_fits told) rs) =
    λ rs a b. both_tests_each is_named (λ r. are_u64 (numbers_in r)) rs a b in
    let endings : List Entry → Option (List (List ℕ × ℕ)) → Sweep → List ℕ =
    λ h a x. audit_text a ++ end_text (commits_of h) x in
    let told_text : List (List Reply) → List ℕ = λ rs. texts_from session_text 1 rs in
    let done_text : List Entry → List ℕ = λ h. texts_from entry_text 1 h in
    let regroup : (rs : List (List Reply)) (h : List Entry) (a : Option (List (List ℕ × ℕ))) (x : Sweep)
    → report_text rs h a x ≡ told_text rs ++ (done_text h ++ endings h a x) =
    λ rs h a x. append_assoc (told_text rs ++ done_text h) (audit_text a) (end_text (commits_of h) x)
    ∙ append_assoc (told_text rs) (done_text h) (endings h a x) in
    let told = sessions_split replies others (texts_from entry_text 1 history ++ endings history audit sweep)
    (texts_from entry_text 1 another ++ endings another second last)
    (p.all_answered ∙ sym q.all_answered) (fit replies p.refusals_named f.replies)
    (fit others q.refusals_named g.replies) (sym (regroup replies history audit sweep) ∙ e
    ∙ regroup others another second last) in
    let ended = history_splits history another (endings history audit sweep) (endings another second last) f.entries
    g.entries (audit_behind audit (commits_of history) sweep) (audit_behind second (commits_of another) last)
    told.1 in
    let table_names = λ (t : List ℕ × ℕ). is_name t.0 in
    let table_rows = λ (t : List ℕ × ℕ). is_u64 t.1 in
    let audited = audit_splits audit second (commits_of history) (commits_of another) sweep last
    (both_tests table_names table_rows (tables_of audit) p.tables_named f.tables)
    (both_tests table_names table_rows (tables_of second) q.tables_named g.tables) ended.1 in
    let end : end_text (commits_of history) sweep ≡ end_text (commits_of history) last = audited.1
    ∙ ap (λ h. end_text (commits_of h) last) (sym ended.0) in
    (told.0, ended.0, audited.0, end_splits (commits_of history) sweep last f.sweep g.sweep end)
