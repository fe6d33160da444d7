use Rattle.std.proofs.Common.{◌∙◌, ap, ◌++◌, List, ℕ}
use Rattle.bf_wire.specs.Spellings.{word_spelling}
use Rattle.bf_wire.proofs.number.U32Field.put.Goals as goal

pub returns-clause-ok : goal.returns-clause-ok
unfolding word_spelling
returns-clause-ok c = c.in_ok-extend_from_slice.ensures.items ∙ ap (λ (bytes : List ℕ). c.args.out.now.items ++ bytes) c.write_u32.ensures
