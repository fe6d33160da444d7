-- The texts of values, refusals and replies.
use Rattle.std.specs.Prelude.{ℕ, ◌==◌, if◌then◌else◌, List, [], ◌∷◌, ◌++◌, length, map, flat_map, codes}
use Rattle.std.specs.Fmt.{decimal, signed_decimal}
use Rattle.bf_base.specs.declared.value.Value.{Value}
use Rattle.bf_base.specs.declared.value.Value.TheVariants.{Int, Text}
use Rattle.bf_tree.specs.declared.reply.Refusal.{Refusal}
use Rattle.bf_tree.specs.declared.reply.Refusal.TheVariants as refusal
use Rattle.bf_tree.specs.declared.reply.Cell.{Cell}
use Rattle.bf_tree.specs.declared.reply.Cell.TheVariants as cells
use Rattle.bf_tree.specs.declared.reply.Cause.{Cause}
use Rattle.bf_tree.specs.declared.reply.Cause.TheVariants as cause
use Rattle.bf_tree.specs.declared.reply.Reply.{Reply}
use Rattle.bf_tree.specs.declared.reply.Reply.TheVariants as reply

abbrev pub newline : List ℕ
newline = 10 ∷ []

-- words before a number
abbrev pub numbered : List ℕ → ℕ → List ℕ
numbered words n = words ++ decimal n

-- a byte of a text, a quote twice
abbrev pub quoted : ℕ → List ℕ
quoted byte = if byte == 39 then 39 ∷ 39 ∷ [] else byte ∷ []

-- a number in decimal, a text between quotes
abbrev pub value_text : Value → List ℕ
value_text (Int z) = signed_decimal z
value_text (Text bytes) = codes "'" ++ flat_map quoted bytes ++ codes "'"

abbrev pub cell_text : Cell → List ℕ
cell_text (cells.Value v) = value_text v
cell_text cells.Null = codes "NULL"

-- texts with a comma and a space between
abbrev pub listed : List (List ℕ) → List ℕ
listed [] = []
listed (x ∷ xs) = x ++ flat_map (λ y. codes ", " ++ y) xs

abbrev pub values_text : List Value → List ℕ
values_text vs = listed (map value_text vs)

abbrev pub refusal_text : Refusal → List ℕ
refusal_text (refusal.NoTable name) = codes "E1 no table " ++ name
refusal_text (refusal.NoColumn name) = codes "E2 no column " ++ name
refusal_text refusal.TypeMismatch = codes "E3 type mismatch"
refusal_text (refusal.DuplicateKey key) = codes "E4 duplicate key (" ++ values_text key ++ codes ")"
refusal_text refusal.OutOfRange = codes "E5 out of range"
refusal_text refusal.TooLong = codes "E6 too long"
refusal_text (refusal.TableExists name) = codes "E7 table exists " ++ name
refusal_text refusal.WrongCount = codes "E8 wrong count"
refusal_text (refusal.KeyColumn name) = codes "E9 key column " ++ name
refusal_text refusal.NoTransaction = codes "E10 no transaction"
refusal_text refusal.InTransaction = codes "E11 in transaction"
refusal_text refusal.MustBeAlone = codes "E12 must be alone"
refusal_text (refusal.NameTwice name) = codes "E13 name twice " ++ name
refusal_text (refusal.MayFail target item) = (codes "E14 may fail " ++ target) ++ numbered (codes " item ") item
refusal_text (refusal.KeyNotInherited target) = codes "E15 key not inherited " ++ target
refusal_text (refusal.SourceUnknown name) = codes "E16 source unknown " ++ name
refusal_text (refusal.TooManyRows table rows) = (codes "E17 too many rows " ++ table) ++ numbered (codes " ") rows
refusal_text (refusal.UnitLimit count) = numbered (codes "E18 unit limit ") count
refusal_text (refusal.IndexExists name) = codes "E19 index exists " ++ name

abbrev pub cause_text : Cause → List ℕ
cause_text (cause.Died holder) = numbered (codes "died older ") holder
cause_text cause.DiskFault = codes "disk fault"
cause_text (cause.Halted faults) = numbered (codes "halted ") faults
cause_text (cause.LogFull end need) = numbered (codes "log full ") end ++ numbered (codes " ") need
cause_text (cause.TooLarge need) = numbered (codes "too large ") need

-- S.N, where S is a session and N a statement
abbrev pub place_text : ℕ → ℕ → List ℕ
place_text s n = decimal s ++ codes "." ++ decimal n

-- a row that SELECT gave
abbrev pub row_line : ℕ → ℕ → List Cell → List ℕ
row_line s n row = place_text s n ++ codes " | " ++ listed (map cell_text row) ++ newline

-- a reply behind its place, and the lines of its rows
abbrev pub body_text : ℕ → ℕ → Reply → List ℕ
body_text s n reply.Created = codes "created" ++ newline
body_text s n (reply.Inserted k) = numbered (codes "inserted ") k ++ newline
body_text s n (reply.Updated k) = numbered (codes "updated ") k ++ newline
body_text s n (reply.Deleted k) = numbered (codes "deleted ") k ++ newline
body_text s n (reply.Rows rows) = numbered (codes "rows ") (length rows) ++ newline ++ flat_map (row_line s n) rows
body_text s n (reply.Migrated k) = numbered (codes "migrated ") k ++ newline
body_text s n reply.Begun = codes "begun" ++ newline
body_text s n (reply.Committed k) = numbered (codes "committed ") k ++ newline
body_text s n reply.RolledBack = codes "rolled back" ++ newline
body_text s n (reply.Refused refusal) = refusal_text refusal ++ newline
body_text s n (reply.Ended cause) = cause_text cause ++ newline

abbrev pub reply_text : ℕ → ℕ → Reply → List ℕ
reply_text s n reply = place_text s n ++ codes " " ++ body_text s n reply
