use Rattle.std.proofs.Common.{◌+◌, ℕ, List, map, ◌∙◌, ap₂, ◌++◌}
use Rattle.bf_base.specs.declared.table.Column.{Column}
use Rattle.bf_bind.proofs.ArmSources.{key_itself}
use Rattle.bf_bind.proofs.source.joined.Goals as goal

pub returns : goal.returns
returns c =
    let columns = c.in_ok-columns.ensures ∙ ap₂ (λ (a b : List Column). a ++ b) c.as_slice.ensures c.as_slice-2.ensures in
    let from_key = c.in_ok-from_key.ensures ∙ key_itself _ ∙ c.as_slice-3.ensures in
    let join_key = c.in_ok-join_key.ensures ∙ ap₂ (λ (n : ℕ) (key : List ℕ). map (λ place. n + place) key) c.len-width.ensures c.as_slice-4.ensures in
    λ i. record { scope = c.joined.ensures i; columns = columns i; width = c.len-width.ensures i; from_key = from_key i; join_key = join_key i }
