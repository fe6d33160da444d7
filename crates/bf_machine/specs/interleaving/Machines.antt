-- THE SEEN STATE of a machine whose sessions take turns, over one database.
use Rattle.std.specs.Prelude.{ℕ, ◌&&◌, ◌==◌, Bool, true, false, List, [], ◌∷◌, ◌++◌, map, zip, Option, Some, None, slice_index_or, Contains}
use Rattle.boxcar.specs.Table.{Where}
use Rattle.bf_locks.specs.Locks.{Locks}
use Rattle.bf_tree.specs.declared.history.Entry.{Entry}
use Rattle.bf_tree.specs.declared.reply.Cause.{Cause}
use Rattle.bf_tree.specs.declared.reply.Reply.{Reply}
use Rattle.bf_tree.specs.declared.script.Script.{Script}
use Rattle.bf_sql.specs.Database.{Database}
use Rattle.bf_sql.specs.Groups.{statements_in}
use Rattle.bf_sql.specs.migrations.Lazy.{LazyState}
use Rattle.bf_image.specs.declared.migration.Migration.{Migration}
use Rattle.bf_live.specs.OpenGroups.{Answered}
use Rattle.bf_machine.specs.interleaving.Groups.{Pending, answered_by}

-- a group by its first and last statement, counted from 1
abbrev pub Group : Type 0
Group = ℕ × ℕ

-- a group that has begun, with the start numbers that its deaths named, in order
pub record Began : Type 0 where
  pub session : ℕ
  pub group : Group
  pub deaths : List ℕ

-- a group that is open: its start number, the replies so far, and what it is to leave
pub record Open : Type 0 where
  pub start : ℕ
  pub group : Group
  pub replies : List Reply
  pub pending : Pending

-- a group that a log has ended, by this cause
pub record EndedGroup : Type 0 where
  pub session : ℕ
  pub group : Group
  pub cause : Cause

-- which groups a log may end, and by which causes: any, or these alone
pub data MayEnd : Type 0 where
  any : MayEnd
  these : List EndedGroup → MayEnd

abbrev pub IsAmong : MayEnd → EndedGroup → Type 0
IsAmong any g = Unit {0}
IsAmong (these groups) g = Contains groups g

-- any where there is a log, and none else
abbrev pub any_if : Bool → MayEnd
any_if true = any
any_if false = these []

-- `db` is what is seen of `lazy`, into which the rows of a migration move late, and `pass` reads that migration. `began` has the
-- groups in the order of their start numbers, from 1 on. `opens` and `told` have one item a session: its open group, and the
-- replies to its statements before that group. `may_end` tells which groups a log may end
pub record Machine : Type 0 where
  pub script : Script
  pub retries : ℕ
  pub may_end : MayEnd
  pub db : Database
  pub lazy : LazyState
  pub pass : Option (Where Migration)
  pub locks : Locks
  pub began : List Began
  pub opens : List (Option Open)
  pub told : List (List Reply)
  pub history : List Entry

-- session s, counted from 1
abbrev pub open_at : Machine → ℕ → Option Open
open_at m s = slice_index_or (None ∷ m.opens) s None

abbrev pub told_at : Machine → ℕ → List Reply
told_at m s = slice_index_or ([] ∷ m.told) s []

-- start number n, counted from 1
abbrev pub began_at : List Began → ℕ → Option Began
began_at began n = slice_index_or (None ∷ map Some began) n None

-- the statements of an open group that have their replies, with these
abbrev pub answered_in : Script → ℕ → Open → List Answered
answered_in script s o = answered_by false o.replies (statements_in script s o.group)

-- the replies of a session as they stand: those of an open group stand behind those before it
abbrev pub with_replies : List Reply → Option Open → List Reply
with_replies told None = told
with_replies told (Some o) = told ++ o.replies

abbrev pub transcripts_of : Machine → List (List Reply)
transcripts_of m = map (λ p. with_replies p.0 p.1) (zip m.told m.opens)

-- whether a group of session s is open
abbrev pub is_group : Group → Option Open → Bool
is_group g None = false
is_group g (Some o) = o.group.0 == g.0 && o.group.1 == g.1

abbrev pub has_open : Machine → ℕ → Group → Bool
has_open m s g = is_group g (open_at m s)
