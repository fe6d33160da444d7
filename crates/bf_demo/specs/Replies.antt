-- WHAT THE LAST SESSION of the demonstration is told, where each of its transactions has committed.
use Rattle.std.specs.Prelude.{◌≡◌, ℕ, ◌+◌, ◌*◌, ◌/◌, ◌%◌, List, [], ◌∷◌, map, IsTrue}
use Rattle.std.specs.List.{list_all}
use Rattle.bf_base.specs.Lists.{with_before}
use Rattle.bf_tree.specs.declared.history.Entry.{Entry}
use Rattle.bf_tree.specs.declared.reply.Cell.TheVariants as cells
use Rattle.bf_tree.specs.declared.reply.Reply.{Reply}
use Rattle.bf_tree.specs.declared.reply.Reply.TheVariants.{Rows}
use Rattle.bf_tree.specs.declared.script.Script.{Script}
use Rattle.bf_sql.specs.Database.{Database}
use Rattle.bf_sql.specs.Groups.{outcomes_from, statements_of}
use Rattle.bf_sql.specs.History.{is_whole_group, may_precede, replayed, told}
use Rattle.bf_demo.specs.Script.{number}

-- one row of a count and a sum
abbrev pub counted : ℕ → ℕ → Reply
counted count amount = Rows ((cells.Value (number count) ∷ cells.Value (number amount) ∷ []) ∷ [])

-- 0 + 1 + .. + r
abbrev pub triangle : ℕ → ℕ
triangle r = r * (r + 1) / 2

-- i mod 7 summed for i up to m: 21 for each 7 numbers, and what is left
abbrev pub sum_of_owners : ℕ → ℕ
sum_of_owners m = 21 * (m / 7) + triangle (m % 7)

-- each account began with 100, and 1, 2, 3 and 4 came to n of them each
abbrev pub last_replies : ℕ → List Reply
last_replies n = counted (16 * n) (1610 * n) ∷ counted (16 * n) (sum_of_owners (16 * n)) ∷ []

-- REPLAYED: transcripts and history are legal as far as that is about groups that have an entry. What groups without one are told is left out
pub record IsReplayed (script : Script) (start : Database) (transcripts : List (List Reply)) (history : List Entry) : Type 0 where
  pub whole_groups : IsTrue (list_all (is_whole_group script) history)
  pub in_order : IsTrue (list_all (λ p. list_all (λ d. may_precede script d p.1) p.0) (with_before history))
  pub outcomes : map (λ e. e.outcome) history ≡ outcomes_from 1 (map (statements_of script) history)
  pub replies : map (told transcripts) history ≡ (replayed script start history).0

-- the number of the demonstration's transactions
abbrev pub transactions : ℕ → ℕ
transactions n = 5 * n + 4
