use Rattle.std.proofs.Common.{◌++◌, length, subst, sym, arith}
use Rattle.std.proofs.lemmas.List.Elements.{All-get_or, All-more}
use Rattle.bf_wire.specs.Spellings.{word_spelling}
use Rattle.bf_wire.proofs.Writing.{written_more}
use Rattle.bf_record.proofs.lists.put_all.Goals as goal

pub items-preserved : goal.items-preserved
items-preserved g c = record {
  all = λ shallow.
      let here = subst g.T.Part.IsShallow (sym c.item-item.is) (All-get_or g.T.Part.IsShallow c.args.items.now c.items.item-index c.item-item.result (omega arith) shallow) in
      let spelled = subst g.T.Part.HasSpelling c.item-item.is (c.in_ok-put-2.ensures.spelled here) in
      All-more g.T.Part.HasSpelling c.args.items.now c.items.item-index c.item-item.result (omega arith) (c.items.invariant.all shallow) spelled;
  written = written_more g.T.Part.spelling (c.args.out.now.items ++ word_spelling (length c.args.items.now)) c.args.items.now c.items.item-index c.item-item.result
      _ _ (omega arith) c.item-item.is c.items.invariant.written c.in_ok-put-2.ensures.ok;
}
