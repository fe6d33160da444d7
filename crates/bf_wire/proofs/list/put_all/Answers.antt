use Rattle.std.proofs.Common.{◌++◌, length, subst, rules, arith}
use Rattle.std.proofs.lemmas.List.Elements.{All-more}
use Rattle.bf_wire.specs.Spellings.{word_spelling}
use Rattle.bf_wire.specs.Taking.{KeepsFront}
use Rattle.bf_wire.proofs.Writing.{keeps_front, written_more}
use Rattle.bf_wire.proofs.list.put_all.Goals as goal

pub returns-in_err-put-2-clause-err : goal.returns-in_err-put-2-clause-err
returns-in_err-put-2-clause-err g c =
    let kept : KeepsFront c.args.out.now.items c.put-in-items.new.out.items = keeps_front _ _ _ _ _ c.items.invariant.written c.in_err-put-2.ensures.err in
    search rules

pub items-preserved : goal.items-preserved
items-preserved g c =
    let spelled = subst g.T.Field.HasSpelling c.item-item.is c.in_ok-put-2.ensures.spelled in
    record {
      all = All-more g.T.Field.HasSpelling c.args.items.now c.items.item-index c.item-item.result (omega arith) c.items.invariant.all spelled;
      written = written_more g.T.Field.spelling (c.args.out.now.items ++ word_spelling (length c.args.items.now)) c.args.items.now c.items.item-index c.item-item.result
          _ _ (omega arith) c.item-item.is c.items.invariant.written c.in_ok-put-2.ensures.ok;
    }
