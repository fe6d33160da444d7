use Rattle.bf_machine.proofs.served.Binding.{has_keys}
use Rattle.bf_serve.proofs.requests.Request.of.Goals as goal

pub footprint-requires : goal.footprint-requires
footprint-requires g c = has_keys c.in_ok-bound.bound.action c.in_ok-bound.ensures.well_bound
