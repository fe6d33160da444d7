use Rattle.bf_phrase.proofs.Moves.{after_can, after_go, after_stop, exit, named_go, named_stop, return_can, return_fits, then_can, then_go, then_stop}
use Rattle.std.proofs.Common.{◌≡◌, to_z, of_z, w64, rules}
use Rattle.std.proofs.lemmas.Int.{to_z-of_z}
use Rattle.bf_phrase.proofs.Maps.{any_passed, map_go, map_stop}
use Rattle.bf_phrase.proofs.Numbers.{int_can, int_maps}
use Rattle.bf_phrase.proofs.column.range.Goals as goal

pub returns-in_err-checked-clause-fits : goal.returns-in_err-checked-clause-fits
returns-in_err-checked-clause-fits c = exit _ c.from_residual.result _ c.from_residual.ensures.1 (named_stop c.in_err-checked.ensures.found (λ n. after_can (then_can int_can (λ a. after_can (then_can int_can (λ a. return_can))))))

pub returns-in_err-rest-clause-fits : goal.returns-in_err-rest-clause-fits
returns-in_err-rest-clause-fits c = exit _ c.from_residual-in_err-rest.result _ c.from_residual-in_err-rest.ensures.1 (named_go c.in_ok-checked.ensures.found (after_stop c.in_err-rest.ensures.found (then_can int_can (λ a. after_can (then_can int_can (λ a. return_can))))))

pub returns-in_err-low-clause-fits : goal.returns-in_err-low-clause-fits
returns-in_err-low-clause-fits c = exit _ c.from_residual-in_err-low.result _ c.from_residual-in_err-low.ensures.1 (named_go c.in_ok-checked.ensures.found (after_go c.in_ok-rest.ensures.found (then_stop _ any_passed (λ a. after_can (then_can int_can (λ a. return_can))) (map_stop _ int_maps c.in_err-low.ensures.fits))))

pub returns-in_err-rest-2-clause-fits : goal.returns-in_err-rest-2-clause-fits
returns-in_err-rest-2-clause-fits c = exit _ c.from_residual-in_err-rest-2.result _ c.from_residual-in_err-rest-2.ensures.1 (named_go c.in_ok-checked.ensures.found (after_go c.in_ok-rest.ensures.found (then_go any_passed (map_go int_maps c.in_ok-low.ensures.fits) (after_stop c.in_err-rest-2.ensures.found (then_can int_can (λ a. return_can))))))

pub returns-in_err-high-clause-fits : goal.returns-in_err-high-clause-fits
returns-in_err-high-clause-fits c = exit _ c.from_residual-in_err-high.result _ c.from_residual-in_err-high.ensures.1 (named_go c.in_ok-checked.ensures.found (after_go c.in_ok-rest.ensures.found (then_go any_passed (map_go int_maps c.in_ok-low.ensures.fits) (after_go c.in_ok-rest-2.ensures.found (then_stop _ any_passed (λ a. return_can) (map_stop _ int_maps c.in_err-high.ensures.fits))))))

pub returns-clause-fits : goal.returns-clause-fits
returns-clause-fits c =
    let one : to_z w64 (of_z w64 c.in_ok-low.low) ≡ c.in_ok-low.low = to_z-of_z w64 c.in_ok-low.low (search rules) in
    let two : to_z w64 (of_z w64 c.in_ok-high.high) ≡ c.in_ok-high.high = to_z-of_z w64 c.in_ok-high.high (search rules) in
    rw (one, two) (named_go c.in_ok-checked.ensures.found (after_go c.in_ok-rest.ensures.found (then_go any_passed (map_go int_maps c.in_ok-low.ensures.fits) (after_go c.in_ok-rest-2.ensures.found (then_go any_passed (map_go int_maps c.in_ok-high.ensures.fits) return_fits)))))
