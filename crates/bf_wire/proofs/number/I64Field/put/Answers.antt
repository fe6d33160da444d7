use Rattle.std.proofs.Common.{◌∙◌, ap, ◌++◌, List, ℕ, ℤ, SFits, w64, rules}
use Rattle.std.specs.Int.{cast_unsigned}
use Rattle.std.proofs.lemmas.Int.{to_z-of_z}
use Rattle.byteorder.specs.Endian.{little_bytes}
use Rattle.bf_wire.specs.Spellings.{int_spelling}
use Rattle.bf_wire.proofs.number.I64Field.put.Goals as goal

pub returns-clause-ok : goal.returns-clause-ok
unfolding int_spelling
returns-clause-ok c =
    let fits : SFits w64 c.args.self.now = search rules in
    let written = c.write_i64.ensures ∙ ap (λ (z : ℤ). little_bytes 8 (cast_unsigned w64 z)) (to_z-of_z w64 c.args.self.now fits) in
    c.in_ok-extend_from_slice.ensures.items ∙ ap (λ (bytes : List ℕ). c.args.out.now.items ++ bytes) written
