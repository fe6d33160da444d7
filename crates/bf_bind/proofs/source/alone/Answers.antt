use Rattle.std.proofs.Common.{◌∙◌}
use Rattle.bf_bind.proofs.ArmSources.{key_itself}
use Rattle.bf_bind.proofs.source.alone.Goals as goal

pub returns : goal.returns
returns c =
    let key = c.in_ok-from_key.ensures ∙ key_itself _ ∙ c.as_slice.ensures in
    λ i. record { scope = c.of.ensures i; columns = c.in_ok-columns.ensures i; width = c.len.ensures i; from_key = key i; join_key = (c.of-2.ensures ∙ c.new.ensures.items) i }
