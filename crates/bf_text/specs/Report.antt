-- The text of a report: the replies, then the history, then the audit, then the end line.
use Rattle.std.specs.Prelude.{ℕ, ◌+◌, List, [], ◌∷◌, ◌++◌, flat_map, codes, Option, Some, None}
use Rattle.std.specs.Fmt.{decimal}
use Rattle.bf_tree.specs.declared.reply.Reply.{Reply}
use Rattle.bf_tree.specs.declared.history.Outcome.{Outcome}
use Rattle.bf_tree.specs.declared.history.Outcome.TheVariants.{Committed, RolledBack}
use Rattle.bf_tree.specs.declared.history.Entry.{Entry}
use Rattle.bf_tree.specs.declared.history.Sweep.{Sweep}
use Rattle.bf_tree.specs.declared.history.Sweep.TheVariants.{Never, Complete, Running}
use Rattle.bf_text.specs.Replies.{newline, numbered, reply_text}

-- the texts of things with the numbers from n on
abbrev pub texts_from : {X : Type 0} → (ℕ → X → List ℕ) → ℕ → List X → List ℕ
texts_from f n [] = []
texts_from f n (x ∷ xs) = f n x ++ texts_from f (n + 1) xs

abbrev pub session_text : ℕ → List Reply → List ℕ
session_text s replies = texts_from (reply_text s) 1 replies

abbrev pub outcome_text : Outcome → List ℕ
outcome_text (Committed n) = numbered (codes "committed ") n
outcome_text RolledBack = codes "rolled back"

-- the kth transaction: its session, its first and last statement, and how it ended
abbrev pub entry_text : ℕ → Entry → List ℕ
entry_text k e =
    numbered (codes "entry ") k ++ numbered (codes " session ") e.session ++ numbered (codes " from ") e.first ++ numbered (codes " to ") e.last
    ++ codes " " ++ outcome_text e.outcome ++ newline

-- a table's name and the number of its rows
abbrev pub table_line : List ℕ × ℕ → List ℕ
table_line table = (codes "audit table " ++ table.0) ++ numbered (codes " rows ") table.1 ++ newline

abbrev pub audit_text : Option (List (List ℕ × ℕ)) → List ℕ
audit_text None = []
audit_text (Some tables) = flat_map table_line tables

abbrev pub commit_of : Outcome → ℕ
commit_of (Committed n) = 1
commit_of RolledBack = 0

-- how many of some transactions committed
abbrev pub commits_of : List Entry → ℕ
commits_of [] = 0
commits_of (e ∷ es) = commit_of e.outcome + commits_of es

-- how far the last migration has come, if there was one
abbrev pub sweep_text : Sweep → List ℕ
sweep_text Never = codes "none"
sweep_text (Complete m moved) = decimal m ++ numbered (codes " complete ") moved
sweep_text (Running m moved unit position) =
    decimal m ++ numbered (codes " moved ") moved ++ numbered (codes " next unit ") unit ++ numbered (codes " position ") position

-- the number of commits, and the last migration
abbrev pub end_text : ℕ → Sweep → List ℕ
end_text commits sweep = numbered (codes "end commits ") commits ++ codes " migration " ++ sweep_text sweep ++ newline

-- REPORT
abbrev pub report_text : List (List Reply) → List Entry → Option (List (List ℕ × ℕ)) → Sweep → List ℕ
report_text transcripts history audit sweep =
    texts_from session_text 1 transcripts ++ texts_from entry_text 1 history ++ audit_text audit ++ end_text (commits_of history) sweep
