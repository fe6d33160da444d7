-- What lies under the lock may go to another thread where its journal may, and threads may share what they share.
use denote.RattleType.{RattleType}
use denote.Ref.{NamedLft}
use denote.Param.Send.{IsSend, IsSync, sendable}
use Rattle.std.proofs.Crossing as std
use Rattle.bf_image.proofs.Crossing.{Registry-sync}
use Rattle.bf_image.proofs.registry.CatalogPass.TheSendSync as catalog_pass
use Rattle.bf_image.proofs.registry.MigrationPass.TheSendSync as migration_pass
use Rattle.bf_image.proofs.value_indexes.ValueIndexes.TheSendSync as indexes
use Rattle.bf_machine.specs.declared.journal.Journal as Journal
use Rattle.bf_machine.specs.declared.opened.Opened as Opened
use Rattle.bf_serve.specs.contracts.engine.Engine as Engine
use Rattle.bf_machine.specs.contracts.lookups.Lookups as Lookups
use Rattle.bf_serve.specs.contracts.seats.Seat as Seat
use Rattle.bf_serve.specs.contracts.shared.Shared as Shared
use Rattle.bf_serve.specs.declared.engine.Beginning as Beginning
use Rattle.bf_trackers.proofs.Crosses.{seats_send, trackers_send, trackers_sync}
use Rattle.bf_serve.proofs.Crosses.Machines.{Machine-send}
use Rattle.bf_serve.proofs.Crosses.Scripts.{Script-send, Script-sync}

module _ (N : RattleType) (o : Opened.Ghosts N.Denot) where
  pub Lookups-send : IsSend N → IsSend (Lookups.the_row N o)
  Lookups-send n = search (sendable, std.crosses, migration_pass.the_send, indexes.the_send) depth 60 fits 30000

  pub Lookups-sync : IsSync N → IsSync (Lookups.the_row N o)
  Lookups-sync n = search (sendable, std.crosses, migration_pass.the_sync, indexes.the_sync) depth 60 fits 30000

  pub Seat-send : IsSend N → IsSend (Seat.the_row N o)
  Seat-send n = search (sendable, std.crosses, trackers_send, trackers_sync, seats_send) depth 60 fits 30000

module _ (N J : RattleType) (b : Beginning.Ghosts N.Denot J.Denot) (o : Opened.Ghosts N.Denot) (j : Journal.Ghosts J.Denot) where
  pub Engine-send : IsSend N → IsSync N → IsSend J → IsSend (Engine.the_row N J b o j)
  Engine-send n n' k = search (sendable, std.crosses, Machine-send, Lookups-send, Lookups-sync, Seat-send, catalog_pass.the_send) depth 60 fits 30000

  pub Shared-sync : (κ κ' : NamedLft) (R G : RattleType) → IsSend N → IsSync N → IsSend J → IsSync R → IsSync G → IsSync (Shared.the_row κ κ' N J R G b o j)
  Shared-sync κ κ' R G n n' k r g = search (sendable, std.crosses, Engine-send, Registry-sync, Script-send, Script-sync) depth 60 fits 30000
