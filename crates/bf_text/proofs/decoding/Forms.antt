-- The lines of replies in pieces, and the reply that a line's front and its pieces tell.
use Rattle.std.proofs.Common.{◌≡◌, ℕ, ◌==◌, Bool, true, false, ◌&&◌, if◌then◌else◌, List, [], ◌∷◌, ◌++◌, length, map, flat_map, take, get_or, codes, refl, append_assoc, append-nil}
use Rattle.std.specs.List.{list_all}
use Rattle.bf_base.specs.Names.{is_name}
use Rattle.bf_base.specs.declared.value.Value.{Value}
use Rattle.bf_tree.specs.declared.reply.Refusal.{Refusal}
use Rattle.bf_tree.specs.declared.reply.Refusal.TheVariants as refusal
use Rattle.bf_tree.specs.declared.reply.Cell.{Cell}
use Rattle.bf_tree.specs.declared.reply.Cause.{Cause}
use Rattle.bf_tree.specs.declared.reply.Cause.TheVariants as cause
use Rattle.bf_tree.specs.declared.reply.Reply.{Reply}
use Rattle.bf_tree.specs.declared.reply.Reply.TheVariants as reply
use Rattle.bf_text.specs.Replies.{newline, row_line, body_text}
use Rattle.bf_text.specs.Told.{is_named}
use Rattle.bf_text.specs.Numbers.{numbers_in, numbers_in_cell}
use Rattle.bf_text.proofs.decoding.Pieces.{Piece, Words, Number, Name, Key, pieces_text, shape, names_of, numbers_of, is_parted}

abbrev refusal_line : Refusal → List Piece
refusal_line (refusal.NoTable name) = Words (codes "E1 no table ") ∷ Name name ∷ []
refusal_line (refusal.NoColumn name) = Words (codes "E2 no column ") ∷ Name name ∷ []
refusal_line refusal.TypeMismatch = Words (codes "E3 type mismatch") ∷ []
refusal_line (refusal.DuplicateKey key) = Words (codes "E4 duplicate key (") ∷ Key key ∷ Words (codes ")") ∷ []
refusal_line refusal.OutOfRange = Words (codes "E5 out of range") ∷ []
refusal_line refusal.TooLong = Words (codes "E6 too long") ∷ []
refusal_line (refusal.TableExists name) = Words (codes "E7 table exists ") ∷ Name name ∷ []
refusal_line refusal.WrongCount = Words (codes "E8 wrong count") ∷ []
refusal_line (refusal.KeyColumn name) = Words (codes "E9 key column ") ∷ Name name ∷ []
refusal_line refusal.NoTransaction = Words (codes "E10 no transaction") ∷ []
refusal_line refusal.InTransaction = Words (codes "E11 in transaction") ∷ []
refusal_line refusal.MustBeAlone = Words (codes "E12 must be alone") ∷ []
refusal_line (refusal.NameTwice name) = Words (codes "E13 name twice ") ∷ Name name ∷ []
refusal_line (refusal.MayFail target item) = Words (codes "E14 may fail ") ∷ Name target ∷ Words (codes " item ")
    ∷ Number item ∷ []
refusal_line (refusal.KeyNotInherited target) = Words (codes "E15 key not inherited ") ∷ Name target ∷ []
refusal_line (refusal.SourceUnknown name) = Words (codes "E16 source unknown ") ∷ Name name ∷ []
refusal_line (refusal.TooManyRows table rows) = Words (codes "E17 too many rows ") ∷ Name table ∷ Words (codes " ")
    ∷ Number rows ∷ []
refusal_line (refusal.UnitLimit count) = Words (codes "E18 unit limit ") ∷ Number count ∷ []
refusal_line (refusal.IndexExists name) = Words (codes "E19 index exists ") ∷ Name name ∷ []

abbrev cause_line : Cause → List Piece
cause_line (cause.Died holder) = Words (codes "died older ") ∷ Number holder ∷ []
cause_line cause.DiskFault = Words (codes "disk fault") ∷ []
cause_line (cause.Halted faults) = Words (codes "halted ") ∷ Number faults ∷ []
cause_line (cause.LogFull end need) = Words (codes "log full ") ∷ Number end ∷ Words (codes " ") ∷ Number need ∷ []
cause_line (cause.TooLarge need) = Words (codes "too large ") ∷ Number need ∷ []

abbrev ended_line : List Piece
ended_line = Words newline ∷ []

-- a reply's line, behind its place, with the line's end
abbrev pub reply_line : Reply → List Piece
reply_line reply.Created = Words (codes "created") ∷ ended_line
reply_line (reply.Inserted k) = Words (codes "inserted ") ∷ Number k ∷ ended_line
reply_line (reply.Updated k) = Words (codes "updated ") ∷ Number k ∷ ended_line
reply_line (reply.Deleted k) = Words (codes "deleted ") ∷ Number k ∷ ended_line
reply_line (reply.Rows rows) = Words (codes "rows ") ∷ Number (length rows) ∷ ended_line
reply_line (reply.Migrated k) = Words (codes "migrated ") ∷ Number k ∷ ended_line
reply_line reply.Begun = Words (codes "begun") ∷ ended_line
reply_line (reply.Committed k) = Words (codes "committed ") ∷ Number k ∷ ended_line
reply_line reply.RolledBack = Words (codes "rolled back") ∷ ended_line
reply_line (reply.Refused refusal) = refusal_line refusal ++ ended_line
reply_line (reply.Ended cause) = cause_line cause ++ ended_line

-- ---- the rows apart

abbrev pub rows_of : Reply → List (List Cell)
rows_of (reply.Rows rows) = rows
rows_of other = []

abbrev pub without_rows : Reply → Reply
without_rows (reply.Rows rows) = reply.Rows []
without_rows other = other

abbrev pub with_rows : List (List Cell) → Reply → Reply
with_rows rows (reply.Rows none) = reply.Rows rows
with_rows rows other = other

-- ---- what the pieces of a line tell, by its first three bytes

abbrev number_in : List Piece → ℕ
number_in ps = get_or (numbers_of ps) 0 0

abbrev second_in : List Piece → ℕ
second_in ps = get_or (numbers_of ps) 1 0

abbrev name_in : List Piece → List ℕ
name_in (Name name ∷ ps) = name
name_in (p ∷ ps) = name_in ps
name_in [] = []

abbrev key_in : List Piece → List Value
key_in (Key key ∷ ps) = key
key_in (p ∷ ps) = key_in ps
key_in [] = []

abbrev refused : (List Piece → Refusal) → List Piece → Reply
refused made ps = reply.Refused (made ps)

abbrev ended : (List Piece → Cause) → List Piece → Reply
ended made ps = reply.Ended (made ps)

abbrev forms : List (List ℕ × (List Piece → Reply))
forms =
    (codes "cre", λ ps. reply.Created) ∷
    (codes "ins", λ ps. reply.Inserted (number_in ps)) ∷
    (codes "upd", λ ps. reply.Updated (number_in ps)) ∷
    (codes "del", λ ps. reply.Deleted (number_in ps)) ∷
    (codes "row", λ ps. reply.Rows []) ∷
    (codes "mig", λ ps. reply.Migrated (number_in ps)) ∷
    (codes "beg", λ ps. reply.Begun) ∷
    (codes "com", λ ps. reply.Committed (number_in ps)) ∷
    (codes "rol", λ ps. reply.RolledBack) ∷
    (codes "E1 ", refused (λ ps. refusal.NoTable (name_in ps))) ∷
    (codes "E2 ", refused (λ ps. refusal.NoColumn (name_in ps))) ∷
    (codes "E3 ", refused (λ ps. refusal.TypeMismatch)) ∷
    (codes "E4 ", refused (λ ps. refusal.DuplicateKey (key_in ps))) ∷
    (codes "E5 ", refused (λ ps. refusal.OutOfRange)) ∷
    (codes "E6 ", refused (λ ps. refusal.TooLong)) ∷
    (codes "E7 ", refused (λ ps. refusal.TableExists (name_in ps))) ∷
    (codes "E8 ", refused (λ ps. refusal.WrongCount)) ∷
    (codes "E9 ", refused (λ ps. refusal.KeyColumn (name_in ps))) ∷
    (codes "E10", refused (λ ps. refusal.NoTransaction)) ∷
    (codes "E11", refused (λ ps. refusal.InTransaction)) ∷
    (codes "E12", refused (λ ps. refusal.MustBeAlone)) ∷
    (codes "E13", refused (λ ps. refusal.NameTwice (name_in ps))) ∷
    (codes "E14", refused (λ ps. refusal.MayFail (name_in ps) (number_in ps))) ∷
    (codes "E15", refused (λ ps. refusal.KeyNotInherited (name_in ps))) ∷
    (codes "E16", refused (λ ps. refusal.SourceUnknown (name_in ps))) ∷
    (codes "E17", refused (λ ps. refusal.TooManyRows (name_in ps) (number_in ps))) ∷
    (codes "E18", refused (λ ps. refusal.UnitLimit (number_in ps))) ∷
    (codes "E19", refused (λ ps. refusal.IndexExists (name_in ps))) ∷
    (codes "die", ended (λ ps. cause.Died (number_in ps))) ∷
    (codes "dis", ended (λ ps. cause.DiskFault)) ∷
    (codes "hal", ended (λ ps. cause.Halted (number_in ps))) ∷
    (codes "log", ended (λ ps. cause.LogFull (number_in ps) (second_in ps))) ∷
    (codes "too", ended (λ ps. cause.TooLarge (number_in ps))) ∷ []

abbrev pub same_bytes : List ℕ → List ℕ → Bool
same_bytes [] [] = true
same_bytes (a ∷ xs) (b ∷ ys) = a == b && same_bytes xs ys
same_bytes xs ys = false

abbrev made_by : List (List ℕ × (List Piece → Reply)) → List ℕ → List Piece → Reply
made_by [] front ps = reply.Created
made_by (form ∷ further) front ps = if same_bytes form.0 front then form.1 ps else made_by further front ps

-- the reply of a line with this front and these pieces
abbrev pub made : List ℕ → List Piece → Reply
made front ps = made_by forms front ps

-- ---- that they tell it

abbrev pub front_of : Reply → List ℕ
front_of r = take 3 (pieces_text (reply_line r))

pub front_is : (r : Reply) (u : List ℕ) → take 3 (pieces_text (reply_line r) ++ u) ≡ front_of r
front_is reply.Created u = refl
front_is (reply.Refused (refusal.NoTable name)) u = refl
front_is (reply.Ended cause.DiskFault) u = refl
front_is other u = refl

pub made_of : (r : Reply) → made (front_of r) (reply_line r) ≡ without_rows r
made_of reply.Created = refl
made_of (reply.Refused (refusal.NoTable name)) = refl
made_of (reply.Ended cause.DiskFault) = refl
made_of other = refl

pub shape_of : (r : Reply) → map shape (reply_line (made (front_of r) [])) ≡ map shape (reply_line r)
shape_of reply.Created = refl
shape_of (reply.Refused (refusal.NoTable name)) = refl
shape_of (reply.Ended cause.DiskFault) = refl
shape_of other = refl

pub line_parted : (r : Reply) → is_parted (reply_line r) ≡ true
line_parted reply.Created = refl
line_parted (reply.Refused (refusal.NoTable name)) = refl
line_parted (reply.Ended cause.DiskFault) = refl
line_parted other = refl

pub names_told : (r : Reply) → is_named r ≡ list_all is_name (names_of (reply_line r))
names_told reply.Created = refl
names_told (reply.Refused (refusal.NoTable name)) = refl
names_told (reply.Ended cause.DiskFault) = refl
names_told other = refl

pub numbers_told : (r : Reply) → numbers_in r ≡ numbers_of (reply_line r)
    ++ flat_map (λ row. flat_map numbers_in_cell row) (rows_of r)
numbers_told reply.Created = refl
numbers_told (reply.Refused (refusal.DuplicateKey key)) = simp append-nil
numbers_told (reply.Ended cause.DiskFault) = refl
numbers_told other = refl

pub body_is : (s n : ℕ) (r : Reply) → body_text s n r ≡ pieces_text (reply_line r)
    ++ flat_map (row_line s n) (rows_of r)
body_is s n reply.Created = refl
body_is s n (reply.Refused (refusal.NoTable name)) = simp (append_assoc, append-nil)
body_is s n (reply.Ended cause.DiskFault) = refl
body_is s n other = simp (append_assoc, append-nil)

pub rows_put_back : (r : Reply) → with_rows (rows_of r) (without_rows r) ≡ r
rows_put_back (reply.Rows rows) = refl
rows_put_back other = refl

-- the number of rows, if there are rows
abbrev pub count_in : Reply → List Piece → ℕ
count_in (reply.Rows none) ps = number_in ps
count_in other ps = 0

pub rows_counted_of : (r : Reply) → length (rows_of r) ≡ count_in (made (front_of r) []) (reply_line r)
rows_counted_of reply.Created = refl
rows_counted_of (reply.Refused (refusal.NoTable name)) = refl
rows_counted_of (reply.Ended cause.DiskFault) = refl
rows_counted_of other = refl
