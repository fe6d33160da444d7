-- The numbers that a report tells.
use Rattle.std.specs.Prelude.{ℕ, ◌^◌, Bool, nat_lt, List, [], ◌∷◌, length, flat_map, unsigned_abs, Option, IsTrue}
use Rattle.std.specs.List.{list_all}
use Rattle.bf_base.specs.declared.value.Value.{Value}
use Rattle.bf_base.specs.declared.value.Value.TheVariants.{Int, Text}
use Rattle.bf_tree.specs.declared.reply.Refusal.{Refusal}
use Rattle.bf_tree.specs.declared.reply.Refusal.TheVariants as refusal
use Rattle.bf_tree.specs.declared.reply.Cell.{Cell}
use Rattle.bf_tree.specs.declared.reply.Cell.TheVariants as cells
use Rattle.bf_tree.specs.declared.reply.Cause.{Cause}
use Rattle.bf_tree.specs.declared.reply.Cause.TheVariants as cause
use Rattle.bf_tree.specs.declared.reply.Reply.{Reply}
use Rattle.bf_tree.specs.declared.reply.Reply.TheVariants as reply
use Rattle.bf_tree.specs.declared.history.Outcome.{Outcome}
use Rattle.bf_tree.specs.declared.history.Outcome.TheVariants as outcome
use Rattle.bf_tree.specs.declared.history.Entry.{Entry}
use Rattle.bf_tree.specs.declared.history.Sweep.{Sweep}
use Rattle.bf_tree.specs.declared.history.Sweep.TheVariants.{Never, Complete, Running}
use Rattle.bf_text.specs.Told.{tables_of}

-- a number of at most 64 bits: `decimal` writes no more than 64 digits
abbrev pub is_u64 : ℕ → Bool
is_u64 n = nat_lt n (2 ^ 64)

abbrev pub are_u64 : List ℕ → Bool
are_u64 ns = list_all is_u64 ns

abbrev pub numbers_in_value : Value → List ℕ
numbers_in_value (Int z) = unsigned_abs z ∷ []
numbers_in_value (Text bytes) = []

abbrev pub numbers_in_cell : Cell → List ℕ
numbers_in_cell (cells.Value v) = numbers_in_value v
numbers_in_cell cells.Null = []

abbrev pub numbers_in_refusal : Refusal → List ℕ
numbers_in_refusal (refusal.DuplicateKey key) = flat_map numbers_in_value key
numbers_in_refusal (refusal.MayFail target item) = item ∷ []
numbers_in_refusal (refusal.TooManyRows table rows) = rows ∷ []
numbers_in_refusal (refusal.UnitLimit count) = count ∷ []
numbers_in_refusal other = []

abbrev pub numbers_in_cause : Cause → List ℕ
numbers_in_cause (cause.Died holder) = holder ∷ []
numbers_in_cause cause.DiskFault = []
numbers_in_cause (cause.Halted faults) = faults ∷ []
numbers_in_cause (cause.LogFull end need) = end ∷ need ∷ []
numbers_in_cause (cause.TooLarge need) = need ∷ []

abbrev pub numbers_in : Reply → List ℕ
numbers_in (reply.Inserted k) = k ∷ []
numbers_in (reply.Updated k) = k ∷ []
numbers_in (reply.Deleted k) = k ∷ []
numbers_in (reply.Rows rows) = length rows ∷ flat_map (λ row. flat_map numbers_in_cell row) rows
numbers_in (reply.Migrated k) = k ∷ []
numbers_in (reply.Committed k) = k ∷ []
numbers_in (reply.Refused refusal) = numbers_in_refusal refusal
numbers_in (reply.Ended cause) = numbers_in_cause cause
numbers_in other = []

abbrev pub numbers_in_outcome : Outcome → List ℕ
numbers_in_outcome (outcome.Committed n) = n ∷ []
numbers_in_outcome outcome.RolledBack = []

abbrev pub numbers_in_entry : Entry → List ℕ
numbers_in_entry e = e.session ∷ e.first ∷ e.last ∷ numbers_in_outcome e.outcome

abbrev pub numbers_in_sweep : Sweep → List ℕ
numbers_in_sweep Never = []
numbers_in_sweep (Complete m moved) = m ∷ moved ∷ []
numbers_in_sweep (Running m moved unit position) = m ∷ moved ∷ unit ∷ position ∷ []

-- each number of a report has at most 64 bits
pub record IsCounted (transcripts : List (List Reply)) (history : List Entry) (audit : Option (List (List ℕ × ℕ)))
    (last : Sweep) : Type 0 where
  pub replies : IsTrue (list_all (λ told. list_all (λ r. are_u64 (numbers_in r)) told) transcripts)
  pub entries : IsTrue (list_all (λ e. are_u64 (numbers_in_entry e)) history)
  pub tables : IsTrue (list_all (λ table. is_u64 table.1) (tables_of audit))
  pub sweep : IsTrue (are_u64 (numbers_in_sweep last))
