use Rattle.std.proofs.Common.{◌∙◌, ap, sym}
use Rattle.std.specs.Prelude.{Err}
use Rattle.std.proofs.lemmas.Bool.{false≢true}
use Rattle.bf_base.specs.Names.{is_name}
use Rattle.bf_wire.proofs.Texts.{differ, folded_name}
use Rattle.bf_wire.proofs.text.name_of.Goals as goal

pub returns-in-Ok : goal.returns-in-Ok
returns-in-Ok c = λ is. differ c.as_bytes.result.now c.args.bytes.now c.if-ne.ensures (c.as_bytes.ensures.value ∙ c.in-Ok.ensures.ok.0 ∙ folded_name c.args.bytes.now is)

pub returns-in-Err-BadName : goal.returns-in-Err-BadName
returns-in-Err-BadName c = λ is.
    let fails = c.of.ensures.bad_name.0 (c.in-Err-BadName.is ∙ ap Err c.in-Err-BadName.field-0-is) in
    false≢true (sym fails ∙ ap is_name (folded_name c.args.bytes.now is) ∙ is)
