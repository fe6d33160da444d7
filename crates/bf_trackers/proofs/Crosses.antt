-- Threads may share the trackers of a migration, which may go to another thread as well, and so may seats of them.
use denote.Param.Send.{IsSend, IsSync, sendable}
use Rattle.std.proofs.Crossing as std
use Rattle.bf_bits.proofs.bits.Bits.TheSendSync as bits
use Rattle.bf_bits.proofs.bits.BitSeat.TheSendSync as seat
use Rattle.bf_hash.proofs.stripe.Stripe.TheSendSync as stripe
use Rattle.bf_image.proofs.registry.MigrationPass.TheSendSync as pass
use Rattle.bf_trackers.specs.contracts.seats.TrackerSeats as TrackerSeats
use Rattle.bf_trackers.specs.contracts.stripes.Stripes as Stripes
use Rattle.bf_trackers.specs.contracts.trackers.Trackers as Trackers
use Rattle.bf_trackers.specs.contracts.units.UnitTracker as UnitTracker
use Rattle.bf_trackers.specs.contracts.units.UnitTrackers as UnitTrackers

pub seats_send : IsSend TrackerSeats.the_row
seats_send = search (sendable, std.crosses, seat.the_send) depth 60 fits 30000

stripes_send : IsSend Stripes.the_row
stripes_send = search (sendable, std.crosses, stripe.the_send) depth 60 fits 30000

stripes_sync : IsSync Stripes.the_row
stripes_sync = search (sendable, std.crosses, stripe.the_send) depth 60 fits 30000

unit_send : IsSend UnitTracker.the_field.row
unit_send = search (sendable, bits.the_send, stripes_send) depth 60 fits 30000

unit_sync : IsSync UnitTracker.the_field.row
unit_sync = search (sendable, bits.the_sync, stripes_sync) depth 60 fits 30000

pub units_send : IsSend UnitTrackers.the_row
units_send = search (sendable, std.crosses, unit_send) depth 60 fits 30000

pub units_sync : IsSync UnitTrackers.the_row
units_sync = search (sendable, std.crosses, unit_sync) depth 60 fits 30000

pub trackers_send : IsSend Trackers.the_row
trackers_send = search (sendable, pass.the_send, units_send) depth 60 fits 30000

pub trackers_sync : IsSync Trackers.the_row
trackers_sync = search (sendable, pass.the_sync, units_sync) depth 60 fits 30000
