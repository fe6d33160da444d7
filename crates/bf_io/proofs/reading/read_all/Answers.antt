use Rattle.std.proofs.lemmas.Result.{err_from_is_err_and}
use Rattle.bf_io.proofs.Consuming.{lost_then}
use Rattle.bf_io.proofs.reading.read_all.Goals as goal

pub returns-in_err-extend_from_slice-clause-err : goal.returns-in_err-extend_from_slice-clause-err
returns-in_err-extend_from_slice-clause-err g c =
    let p = err_from_is_err_and c.from_residual-in_err-extend_from_slice.result c.from_residual-in_err-extend_from_slice.ensures.1 in
    rw (p.1) (lost_then _ _ _ _ _ c.loop-piece.invariant.0 c.in_ok-count.ensures.bytes.0)
