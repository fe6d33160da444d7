use Rattle.bf_run.specs.Creating.{shelf_of}
use Rattle.bf_run.proofs.Demonstrated.{begins_empty}
use Rattle.bf_run.proofs.demo_laws.the_demonstration_begins_empty.Goals as goal

pub returns : goal.returns
returns g c path start old new tells made =
    let shelf = shelf_of g.S.Disk.Disk.seen g.S.Disk.Disk.may_leave g.S.Disk.Disk.moment g.S.Disk.Disk.left_since g.S.Disk.Disk.fault_count g.S.Shelf.held g.S.Shelf.fault_count old new in
    begins_empty shelf path start tells made
