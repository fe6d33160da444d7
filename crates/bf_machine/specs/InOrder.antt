-- A run on one thread, session after session.
use Rattle.std.specs.Prelude.{◌≡◌, ℕ, Bool, false, List, length, map, flat_map, zip}
use Rattle.std.specs.List.{range_with_len}
use Rattle.bf_tree.specs.declared.script.Script.{Script}
use Rattle.bf_tree.specs.declared.reply.Cause.{Cause}
use Rattle.bf_tree.specs.declared.reply.Reply.{Reply}
use Rattle.bf_tree.specs.declared.history.Outcome.{Outcome}
use Rattle.bf_tree.specs.declared.history.Entry.{Entry}
use Rattle.bf_tree.specs.declared.history.Sweep.{Sweep}
use Rattle.bf_sql.specs.Database.{empty_database}
use Rattle.bf_sql.specs.Groups.{groups_in, statements_in, outcomes_from}
use Rattle.bf_tree.specs.Answered.{IsAllAnswered}
use Rattle.bf_sql.specs.History.{IsLegalHistory}
use Rattle.bf_machine.specs.Movement.{movement, sweep_told}

-- the groups of a script, each as its session, its first and its last statement: session after session, in the order of
-- the text
abbrev pub groups_in_order : Script → List (ℕ × (ℕ × ℕ))
groups_in_order script = flat_map (λ s. map (λ group. (s, group)) (groups_in script s)) (range_with_len 1 (length script.sessions))

-- the entry of a group, given as its session with its first and its last statement, and of an outcome
abbrev pub entry_of : (ℕ × (ℕ × ℕ)) × Outcome → Entry
entry_of ended =
    let group = ended.0 in
    record { session = group.0; first = group.1.0; last = group.1.1; outcome = ended.1 }

-- HISTORY in order: an entry for each group, with the outcome that the text gives it
abbrev pub entries_in_order : Script → List Entry
entries_in_order script =
    let groups = groups_in_order script in
    map entry_of (zip groups (outcomes_from 1 (map (λ group. statements_in script group.0 group.1) groups)))

-- no cause ends a group, and none is open
abbrev pub NoCause : ℕ → ℕ × ℕ → Cause → Type 0
NoCause session group cause = ⊥

abbrev pub none_open : ℕ → ℕ × ℕ → Bool
none_open session group = false

-- RUN of a script from the empty database: transcripts and history are legal, every statement has its reply, the entries are
-- those of the groups in the order of the text, and of the last migration what statements have needed has moved, and no more
pub record IsRunInOrder (script : Script) (transcripts : List (List Reply)) (history : List Entry) (sweep : Sweep) : Type 0 where
  pub history_legal : IsLegalHistory script NoCause none_open empty_database transcripts history
  pub all_answered : IsAllAnswered script transcripts
  pub entries_are_in_order : history ≡ entries_in_order script
  pub moves_only_needed : sweep ≡ sweep_told (movement script empty_database history)
