-- A crate above the trackers finds that they go to other threads, and that threads share them.
use denote.Param.Send.{IsSend, IsSync}
use Rattle.bf_trackers.specs.contracts.seats.TrackerSeats as TrackerSeats
use Rattle.bf_trackers.specs.contracts.trackers.Trackers as Trackers
use Rattle.bf_trackers.proofs.Crosses.{seats_send, trackers_send, trackers_sync}

goes : IsSend Trackers.the_row
goes = search trackers_send

shared : IsSync Trackers.the_row
shared = search trackers_sync

seats_go : IsSend TrackerSeats.the_row
seats_go = search seats_send
