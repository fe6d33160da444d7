-- A group is run statement after statement.
use Rattle.std.proofs.Common.{◌≡◌, ℕ, zero, suc, ◌+◌, ◌<◌, Bool, true, false, not, List, [], ◌∷◌, ◌++◌, length, get_or, drop, drop-cons, refl, sym, ap, ◌∙◌, arith, append_assoc}
use Rattle.std.specs.Prelude.{nat_lt}
use Rattle.std.proofs.Math.Seq.{drop-length}
use Rattle.std.proofs.lemmas.Bool.Decides.{nat_tests}
use Rattle.std.proofs.lemmas.List.{append-nil}
use Rattle.bf_tree.specs.Limits.{HasNarrowTables}
use Rattle.bf_tree.specs.declared.reply.Reply.{Reply}
use Rattle.bf_tree.specs.declared.statement.Statement.{Statement}
use Rattle.bf_sql.specs.Bound.{catalog_of, changes_schema}
use Rattle.bf_sql.specs.Database.{Database, IsDatabase}
use Rattle.bf_sql.specs.History.{commits_with, run_group}
use Rattle.bf_sql.specs.Meaning.{executed}
use Rattle.bf_live.specs.Live.{committed}
use Rattle.bf_live.specs.Open.{IsOpen}
use Rattle.bf_live.proofs.statements.Seeing.{narrow_seen, nothing_written}
use Rattle.bf_txn.specs.declared.write.Write.{Write}
use Rattle.bf_eager.specs.Eager.{Ran, outcome_of, ran_entry}
use Rattle.bf_eager.specs.Groups.{leave_schema, left_behind}
use Rattle.bf_eager.proofs.Alone.{none_in_block}

-- whether a statement at a place stands in its group's block
abbrev pub is_inside : ℕ → Bool
is_inside place = nat_lt 0 place

abbrev entry_with : ℕ → List Reply × Database → List Reply × Ran
entry_with n t = (t.0, record { commits = n; database = t.1 })

-- the run of a group whose first statements have these replies and left this database
abbrev pub run_from : ℕ → ℕ → List Reply → Database → List Statement → List Reply × Database
run_from commit place replies db ss =
    let rest = run_group commit (is_inside place) db (drop place ss) in
    (replies ++ rest.0, rest.1)

is_not : (b : Bool) → not b ≡ true → b ≡ false
is_not true never = absurd cc
is_not false _ = refl

-- the next statement leaves the schema
pub leaves_at : (ss : List Statement) (place : ℕ) (s d : Statement) → leave_schema ss ≡ true → place < length ss → s ≡ get_or ss place d → changes_schema (is_inside place) s ≡ false
leaves_at ss (suc n) s d leaves within is =
    let inside : is_inside (suc n) ≡ true = search (arith, nat_tests) in
    ap (λ (b : Bool). changes_schema b s) inside ∙ none_in_block s
leaves_at [] zero s d leaves within is = absurd (omega (arith, within))
leaves_at (t ∷ ss) zero s d leaves within is = ap (changes_schema false) is ∙ is_not (changes_schema false t) leaves

-- and is run on what those before it have left
pub run_more : (commit place : ℕ) (replies : List Reply) (db next : Database) (ss : List Statement) (s d : Statement) (reply : Reply) → place < length ss → s ≡ get_or ss place d
    → executed commit db (is_inside place) s ≡ (reply, next)
    → run_from commit place replies db ss ≡ run_from commit (place + 1) (replies ++ reply ∷ []) next ss
run_more commit place replies db next ss s d reply within is means =
    let rest = drop (place + 1) ss in
    let next_is : suc place ≡ place + 1 = omega arith in
    let here : drop place ss ≡ s ∷ rest =
    drop-cons ss place d within ∙ (ap (λ (x : Statement). x ∷ drop (suc place) ss) (sym is) ∙ ap (λ (n : ℕ). s ∷ drop n ss) next_is) in
    let inside : true ≡ is_inside (place + 1) = search (arith, nat_tests) in
    ap (λ (xs : List Statement). let ran = run_group commit (is_inside place) db xs in (replies ++ ran.0, ran.1)) here
    ∙ (ap (λ (t : Reply × Database). let ran = run_group commit true t.1 rest in (replies ++ t.0 ∷ ran.0, ran.1)) means
    ∙ (ap (λ (rs : List Reply). (rs, (run_group commit true next rest).1)) (sym (append_assoc replies (reply ∷ []) (run_group commit true next rest).0))
    ∙ ap (λ (b : Bool). let ran = run_group commit b next rest in ((replies ++ reply ∷ []) ++ ran.0, ran.1)) inside))

pub run_all : (commit : ℕ) (replies : List Reply) (db : Database) (ss : List Statement) → run_from commit (length ss) replies db ss ≡ (replies, db)
run_all commit replies db ss =
    ap (λ (xs : List Statement). let ran = run_group commit (is_inside (length ss)) db xs in (replies ++ ran.0, ran.1)) (drop-length ss)
    ∙ ap (λ (rs : List Reply). (rs, db)) (append-nil replies)

-- a group that has run is the run of its entry
pub ran_as : (ran : Ran) (commits : Bool) (n : ℕ) (writes : List Write) (ss : List Statement) (replies : List Reply) (after : Database) → n ≡ commits_with ran.commits (outcome_of commits)
    → run_group n false (committed ran.database []) ss ≡ (replies, committed ran.database writes) → after ≡ left_behind commits ran.database writes
    → (replies, record { commits = n; database = after }) ≡ ran_entry ran commits ss
ran_as ran true n writes ss replies after counted is left =
    let same : run_group n false ran.database ss ≡ (replies, after) =
    ap (λ (db : Database). run_group n false db ss) (sym (nothing_written ran.database)) ∙ (is ∙ ap (λ (db : Database). (replies, db)) (sym left)) in
    ap (λ (t : List Reply × Database). entry_with n t) (sym same) ∙ ap (λ (n : ℕ). entry_with n (run_group n false ran.database ss)) counted
ran_as ran false n writes ss replies after counted is left =
    let same : run_group n false ran.database ss ≡ (replies, committed ran.database writes) =
    ap (λ (db : Database). run_group n false db ss) (sym (nothing_written ran.database)) ∙ is in
    ap (λ (t : List Reply × Database). entry_with n (t.0, after)) (sym same)
    ∙ (ap (λ (db : Database). entry_with n ((run_group n false ran.database ss).0, db)) left
    ∙ ap (λ (n : ℕ). entry_with n ((run_group n false ran.database ss).0, ran.database)) counted)

-- what a group leaves is a database with narrow tables
pub leaves_database : (commits : Bool) (db : Database) (writes : List Write) → IsDatabase db → IsOpen db writes → IsDatabase (left_behind commits db writes)
leaves_database true db writes is opened = opened.database
leaves_database false db writes is opened = is

pub leaves_narrow : (commits : Bool) (db : Database) (writes : List Write) → HasNarrowTables (catalog_of db) → HasNarrowTables (catalog_of (left_behind commits db writes))
leaves_narrow true db writes narrow = narrow_seen db writes narrow
leaves_narrow false db writes narrow = narrow
