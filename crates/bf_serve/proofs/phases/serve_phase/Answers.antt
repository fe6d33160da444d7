-- What the sessions of a phase share may be shared.
use denote.Param.{param}
use denote.Ref.{NamedLft}
use denote.Param.Send.{IsSync, sendable}
use Rattle.bf_serve.specs.contracts.shared.Shared as Shared
use Rattle.bf_serve.proofs.Crosses.Engines.{Shared-sync}
use Rattle.bf_serve.proofs.phases.serve_phase.Goals as goal

pub map_indices-requires-sync-F : goal.map_indices-requires-sync-F
map_indices-requires-sync-F g c κs within =
    let shared : (κ κ' : NamedLft) → IsSync (Shared.the_row κ κ' (param 0 g.row.N) (param 1 g.row.J) (param 2 g.row.R) (param 3 g.row.G) g.N.Beginning g.N.Opened g.J.Journal) =
    λ κ κ'. Shared-sync (param 0 g.row.N) (param 1 g.row.J) g.N.Beginning g.N.Opened g.J.Journal κ κ' (param 2 g.row.R) (param 3 g.row.G) c.type_bounds.send-N c.type_bounds.sync-N c.type_bounds.send-J c.type_bounds.sync-R c.type_bounds.sync-G in
    search (sendable, shared) depth 60 fits 30000
