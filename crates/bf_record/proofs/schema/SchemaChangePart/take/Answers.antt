use Rattle.std.proofs.Common.{arith}
use Rattle.std.proofs.lemmas.List.{take_rest}
use Rattle.bf_record.specs.Schema.{IsSchemaChange, schema_spelling}
use Rattle.bf_record.proofs.Codes.{none_here, no_table, no_index}
use Rattle.bf_record.proofs.schema.SchemaChangePart.take.Goals as goal

pub returns-in-None : goal.returns-in-None
returns-in-None c =
    let none = rw (take_rest, c.in-None.is) at c.in_ok-table-in-1.ensures in
    none_here IsSchemaChange schema_spelling c.args.bytes.now 1 (omega arith) (omega arith) (no_table _ none)

pub returns-in-None-2 : goal.returns-in-None-2
returns-in-None-2 c =
    let none = rw (take_rest, c.in-None-2.is) at c.in_ok-index-in-2.ensures in
    none_here IsSchemaChange schema_spelling c.args.bytes.now 2 (omega arith) (omega arith) (no_index _ none)
