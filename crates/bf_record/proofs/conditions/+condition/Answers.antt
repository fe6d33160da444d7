use Rattle.std.proofs.Common.{arith}
use Rattle.std.proofs.lemmas.List.{take_rest}
use Rattle.bf_tree.specs.Trees.{tests}
use Rattle.bf_record.specs.Apart.{conds_apart}
use Rattle.bf_record.specs.Conditions.{IsCond, cond_spelling}
use Rattle.bf_record.specs.Within.{IsWithin}
use Rattle.bf_record.proofs.Codes.{none_here, none_at_end, zero_of}
use Rattle.bf_record.proofs.CondCodes.{no_opposite, no_both, no_either, none_left, none_of_nothing}
use Rattle.bf_record.proofs.Trees.{none_second}
use Rattle.bf_record.proofs.conditions.+condition.Goals as goal

pub take_cond-returns-in_default : goal.take_cond-returns-in_default
take_cond-returns-in_default t c = none_left c.args.budget c.args.bytes.now (zero_of c.args.budget c.in_default.ensures)

pub take_cond-returns-in-empty : goal.take_cond-returns-in-empty
take_cond-returns-in-empty t c =
    none_at_end (IsWithin IsCond tests c.args.budget) cond_spelling c.args.bytes.now (omega arith) (none_of_nothing c.args.budget)

pub take_cond-returns-in-None : goal.take_cond-returns-in-None
take_cond-returns-in-None t c =
    let none = rw (take_rest, c.in-None.is) at c.in_ok-inner-in-3.ensures in
    none_here (IsWithin IsCond tests c.args.budget) cond_spelling c.args.bytes.now 3 (omega arith) (omega arith)
    (no_opposite c.in-Some.budget c.args.budget _ (omega (arith, c.in-Some.ensures)) none)

pub take_cond-returns-in-None-2 : goal.take_cond-returns-in-None-2
take_cond-returns-in-None-2 t c =
    let none = rw (take_rest, c.in-None-2.is) at c.in_ok-first-in-4.ensures in
    none_here (IsWithin IsCond tests c.args.budget) cond_spelling c.args.bytes.now 4 (omega arith) (omega arith)
    (no_both c.in-Some.budget c.args.budget _ (omega (arith, c.in-Some.ensures)) none)

pub take_cond-returns-in-None-3 : goal.take_cond-returns-in-None-3
take_cond-returns-in-None-3 t c =
    let none = rw (take_rest, c.in-None-3.is) at c.in_ok-first-in-5.ensures in
    none_here (IsWithin IsCond tests c.args.budget) cond_spelling c.args.bytes.now 5 (omega arith) (omega arith)
    (no_either c.in-Some.budget c.args.budget _ (omega (arith, c.in-Some.ensures)) none)

pub take_two-returns-in_default-2 : goal.take_two-returns-in_default-2
take_two-returns-in_default-2 t c =
    let first = rw c.in-Some.is at c.in_ok-first.ensures in
    let second = rw (take_rest, c.in_default-2.is) at c.in_ok-second.ensures in
    none_second IsCond cond_spelling tests conds_apart first second
