-- THE MACHINE OF THE CODE, as it is seen, and what else its type keeps.
use Rattle.std.specs.Prelude.{◌≡◌, ℕ, ◌+◌, ◌-◌, ◌<◌, ◌≤◌, ◌^◌, ◌⊎◌, Bool, List, [], ◌∷◌, map, length, take, drop, Option, Some, None, option_map, count_by, is_some, slice_index_or, vec_capacity, if◌then◌else◌}
use Rattle.std.specs.Global.{Vec}
use Rattle.bf_locks.specs.Locks.{Locks}
use Rattle.bf_tree.specs.Limits.{HasNarrowTables}
use Rattle.bf_tree.specs.declared.history.Entry.{Entry}
use Rattle.bf_tree.specs.declared.reply.Reply.{Reply}
use Rattle.bf_tree.specs.declared.script.Script.{Script}
use Rattle.bf_tree.specs.declared.script.Session.{Session}
use Rattle.bf_tree.specs.declared.statement.Statement.{Statement}
use Rattle.bf_tree.specs.declared.statement.Statement.TheVariants.{Begin}
use Rattle.bf_sql.specs.Bound.{catalog_of}
use Rattle.bf_sql.specs.Database.{Database}
use Rattle.bf_sql.specs.migrations.Lazy.{view_of}
use Rattle.bf_image.specs.Registries.{Registry}
use Rattle.bf_store.specs.Stores.{IsOf, Store}
use Rattle.bf_sql.specs.Groups.{ends_block, no_session, session_at}
use Rattle.bf_machine.specs.declared.so_far.Began.{Began as BeganGroup}
use Rattle.bf_machine.specs.declared.so_far.OpenGroup.{OpenGroup}
use Rattle.bf_machine.specs.declared.so_far.Pending.{Pending as PendingChange}
use Rattle.bf_machine.specs.declared.so_far.Pending.TheVariants as change
use Rattle.bf_machine.specs.declared.so_far.SessionSoFar.{SessionSoFar}
use Rattle.bf_machine.specs.interleaving.Events.{commits_behind}
use Rattle.bf_machine.specs.interleaving.Groups.{Pending, Rows, NewTable, NewIndex, Flip, Nothing}
use Rattle.bf_machine.specs.interleaving.Kept.{HasStart, IsKept}
use Rattle.bf_machine.specs.interleaving.Machines.{Group, Began, Open, Machine, any_if}

abbrev pub pending_seen : PendingChange → Pending
pending_seen (change.Rows writes) = Rows writes
pending_seen (change.NewTable table) = NewTable table
pending_seen (change.NewIndex index) = NewIndex index
pending_seen (change.Flip plan) = Flip plan
pending_seen change.Nothing = Nothing

abbrev pub began_seen : BeganGroup → Began
began_seen b = record { session = b.session; group = (b.first, b.last); deaths = b.deaths.items }

-- an open group, and the replies before it, of all the replies of its session
abbrev pub group_seen : List Reply → OpenGroup → Open
group_seen replies o = record { start = o.start; group = (o.first, o.last); replies = drop (o.first - 1) replies; pending = pending_seen o.pending }

abbrev pub open_seen : SessionSoFar → Option Open
open_seen so_far = option_map (group_seen so_far.replies.items) so_far.open

abbrev pub told_before : List Reply → Option OpenGroup → List Reply
told_before replies None = replies
told_before replies (Some o) = take (o.first - 1) replies

abbrev pub told_seen : SessionSoFar → List Reply
told_seen so_far = told_before so_far.replies.items so_far.open

abbrev pub seen : Bool → Script → ℕ → Store → Locks → List BeganGroup → List SessionSoFar → List Entry → Machine
seen logged script retries store locks began sessions history = record {
  script = script;
  retries = retries;
  may_end = any_if logged;
  db = view_of store.lazy;
  lazy = store.lazy;
  pass = store.migration;
  locks = locks;
  began = map began_seen began;
  opens = map open_seen sessions;
  told = map told_seen sessions;
  history = history;
}

-- the session at a place, counted from 0, has ended
abbrev pub HasEndedAt : List Session → List SessionSoFar → ℕ → Type 0
HasEndedAt sessions so_far i =
    (length (slice_index_or sessions i no_session).statements ≤ length (slice_index_or (map told_seen so_far) i []))
    × (slice_index_or (map open_seen so_far) i None ≡ None)

-- LEAST LEFT of the sessions before place n: the place of one that has not ended, where each of them has ended or is of its
-- phase or a later one; none where all have ended
pub record IsLeastLeft (sessions : List Session) (so_far : List SessionSoFar) (n : ℕ) (found : Option ℕ) : Type 0 where
  pub left : (p : ℕ) → found ≡ Some p → (p < n) × (HasEndedAt sessions so_far p → ⊥)
  pub least : (i : ℕ) → i < n
      → HasEndedAt sessions so_far i
      ⊎ ((p : ℕ) × (found ≡ Some p) × ((slice_index_or sessions p no_session).phase ≤ (slice_index_or sessions i no_session).phase))

-- whether a group is open in a session
abbrev pub is_open : SessionSoFar → Bool
is_open so_far = is_some so_far.open

-- LATEST: the start number of the session's group that began last, and 0 where none has begun
pub record IsLatest (began : List Began) (s n : ℕ) : Type 0 where
  pub last : (group : Group) (k : ℕ) → HasStart began s group k → k ≤ n
  pub has : 0 < n → (group : Group) × HasStart began s group n

-- a session has room for a reply to each of its statements, which have numbers of 32 bits
pub record IsRoomy (script : Script) (began : List Began) (s : ℕ) (so_far : SessionSoFar) : Type 0 where
  pub room : length (session_at script s).statements ≤ vec_capacity so_far.replies
  pub numbers : length (session_at script s).statements < 2 ^ 32
  pub latest : IsLatest began s so_far.latest

-- SOUND: the script is the one that the run began with, and the tables that it began with are narrow; the pass of the migration is
-- of the run's registry; what is seen is kept, from the opening database on; the commits are counted; and there is room for each
-- reply, and for the entry of each open group
pub record IsSound (opening : Database) (registry : Registry) (given : Script) (logged : Bool) (script : Script) (retries : ℕ) (store : Store) (locks : Locks) (began : List BeganGroup) (sessions : List SessionSoFar) (history : Vec Entry) (commits : ℕ) (transcripts : Vec (List Reply)) : Type 0 where
  pub is_given : script ≡ given
  pub narrow : HasNarrowTables (catalog_of opening)
  pub one : IsOf registry store.migration
  pub kept : IsKept opening (seen logged script retries store locks began sessions history.items)
  pub counted : commits ≡ commits_behind 0 history.items
  pub sessions_numbered : length script.sessions < 2 ^ 32
  pub roomy : (i : ℕ) (so_far : SessionSoFar) → i < length sessions → slice_index_or sessions i so_far ≡ so_far → IsRoomy script (map began_seen began) (i + 1) so_far
  pub room : count_by is_open sessions + length history.items ≤ vec_capacity history
  pub no_transcripts : transcripts.items ≡ []
  pub transcripts_room : length sessions ≤ vec_capacity transcripts

-- NEW: sessions in which nothing has begun, with room for each reply
pub record IsNew (session : Session) (so_far : SessionSoFar) : Type 0 where
  pub replies : so_far.replies.items ≡ []
  pub closed : so_far.open ≡ None
  pub latest : so_far.latest ≡ 0
  pub room : length session.statements ≤ vec_capacity so_far.replies
  pub numbers : length session.statements < 2 ^ 32

abbrev pub AreNew : List Session → List SessionSoFar → Type 0
AreNew [] [] = Unit {0}
AreNew (session ∷ sessions) (so_far ∷ made) = IsNew session so_far × AreNew sessions made
AreNew sessions made = ⊥

-- the number of the last statement of a block, of which those up to number n are read
abbrev pub block_end : ℕ → List Statement → ℕ
block_end n [] = n
block_end n (s ∷ ss) = if ends_block s then n + 1 else block_end (n + 1) ss

-- the last statement of the group that begins at one
abbrev pub end_of : ℕ → List Statement → ℕ
end_of first [] = first
end_of first (Begin ∷ ss) = block_end first ss
end_of first (s ∷ ss) = first

abbrev pub last_from : ℕ → List Statement → ℕ
last_from first statements = end_of first (drop (first - 1) statements)
