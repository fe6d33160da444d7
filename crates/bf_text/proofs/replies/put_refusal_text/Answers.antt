use Rattle.bf_text.proofs.replies.put_refusal_text.Goals as goal

pub returns-in-NoTable : goal.returns-in-NoTable
returns-in-NoTable c = rw c.in-NoTable.is c.put_named.ensures

pub returns-in-NoColumn : goal.returns-in-NoColumn
returns-in-NoColumn c = rw c.in-NoColumn.is c.put_named-in-NoColumn.ensures

pub returns-in-TypeMismatch : goal.returns-in-TypeMismatch
returns-in-TypeMismatch c = rw c.in-TypeMismatch.is c.put.ensures

pub returns-in-DuplicateKey : goal.returns-in-DuplicateKey
returns-in-DuplicateKey c = rw (c.in-DuplicateKey.is, ← c.as_slice.ensures) c.put_between.ensures

pub returns-in-OutOfRange : goal.returns-in-OutOfRange
returns-in-OutOfRange c = rw c.in-OutOfRange.is c.put-in-OutOfRange.ensures

pub returns-in-TooLong : goal.returns-in-TooLong
returns-in-TooLong c = rw c.in-TooLong.is c.put-in-TooLong.ensures

pub returns-in-TableExists : goal.returns-in-TableExists
returns-in-TableExists c = rw c.in-TableExists.is c.put_named-in-TableExists.ensures

pub returns-in-KeyColumn : goal.returns-in-KeyColumn
returns-in-KeyColumn c = rw c.in-KeyColumn.is c.put_named-in-KeyColumn.ensures

pub returns-in-MustBeAlone : goal.returns-in-MustBeAlone
returns-in-MustBeAlone c = rw c.in-MustBeAlone.is c.put-in-MustBeAlone.ensures

pub returns-in-NameTwice : goal.returns-in-NameTwice
returns-in-NameTwice c = rw c.in-NameTwice.is c.put_named-in-NameTwice.ensures

pub returns-in-MayFail : goal.returns-in-MayFail
returns-in-MayFail c = rw (c.in-MayFail.is, ← c.from.ensures) c.put_named_numbered.ensures

pub returns-in-KeyNotInherited : goal.returns-in-KeyNotInherited
returns-in-KeyNotInherited c = rw c.in-KeyNotInherited.is c.put_named-in-KeyNotInherited.ensures

pub returns-in-TooManyRows : goal.returns-in-TooManyRows
returns-in-TooManyRows c = rw (c.in-TooManyRows.is, ← c.from-in-TooManyRows.ensures) c.put_named_numbered-in-TooManyRows.ensures
