-- Why the numbers of a report have to be bounded: the text of a number has its last 64 digits, so without a bound two
-- replies have one report.
use Rattle.std.proofs.Common.{◌≡◌, ℕ, ◌*◌, ◌^◌, ◌==◌, Bool, true, List, [], ◌∷◌, Option, None, refl, ap}
use Rattle.std.specs.Fmt.{digits}
use Rattle.std.proofs.lemmas.Bool.{both_ways}
use Rattle.bf_tree.specs.declared.reply.Reply.{Reply}
use Rattle.bf_tree.specs.declared.reply.Reply.TheVariants.{Inserted}
use Rattle.bf_tree.specs.declared.history.Entry.{Entry}
use Rattle.bf_tree.specs.declared.history.Sweep.{Sweep}
use Rattle.bf_tree.specs.declared.history.Sweep.TheVariants.{Never}
use Rattle.bf_tree.specs.declared.script.Script.{Script}
use Rattle.bf_tree.specs.declared.statement.Statement.TheVariants.{Begin}
use Rattle.bf_text.specs.Report.{report_text}
use Rattle.bf_text.specs.Told.{IsTold, tables_of}

-- the replies to a script of one statement
abbrev inserted : ℕ → List (List Reply)
inserted n = (Inserted n ∷ []) ∷ []

pub same_reports : report_text (inserted (10 ^ 64)) [] None Never ≡ report_text (inserted (2 * 10 ^ 64)) [] None Never
unfolding digits
same_reports = refl

-- what a report's bytes determine, if its numbers had no bound
abbrev Unbounded : Type 0
Unbounded = (script : Script) (replies others : List (List Reply)) (history another : List Entry)
    (audit second : Option (List (List ℕ × ℕ))) (sweep last : Sweep) → IsTold script replies audit
    → IsTold script others second → report_text replies history audit sweep ≡ report_text others another second last
    → (replies ≡ others) × (history ≡ another) × (tables_of audit ≡ tables_of second) × (sweep ≡ last)

abbrev one_statement : Script
one_statement = record { phases = 1; sessions = record { phase = 1; statements = Begin ∷ [] } ∷ [] }

told : (n : ℕ) → IsTold one_statement (inserted n) None
told n = record { all_answered = refl; refusals_named = refl; tables_named = refl }

abbrev is_ten_to_64 : List (List Reply) → Bool
is_ten_to_64 ((Inserted n ∷ []) ∷ []) = n == 10 ^ 64
is_ten_to_64 other = true

pub unbounded_is_false : Unbounded → ⊥
unbounded_is_false law =
    let same = (law one_statement (inserted (10 ^ 64)) (inserted (2 * 10 ^ 64)) [] [] None None Never Never (told _)
    (told _) same_reports).0 in
    both_ways true (ap is_ten_to_64 same) refl
