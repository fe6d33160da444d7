use Rattle.bf_phrase.proofs.Moves.{after_can, after_go, after_stop, exit, named_can, named_go, named_stop, return_can, return_fits, then_can, then_go, then_stop}
use Rattle.bf_phrase.proofs.Maps.{any_passed, enclosed_go, enclosed_stop}
use Rattle.bf_phrase.proofs.Listings.{name_part}
use Rattle.bf_parse.proofs.Tables.{columns_then, table_rest_can}
use Rattle.bf_parse.proofs.Forms.{names_can}
use Rattle.bf_parse.proofs.create.table.Goals as goal

pub returns-in_err-rest-clause-fits : goal.returns-in_err-rest-clause-fits
returns-in_err-rest-clause-fits c = exit _ c.from_residual.result _ c.from_residual.ensures.1 (after_stop c.in_err-rest.ensures.found (named_can (λ n. after_can (table_rest_can))))

pub returns-in_err-name-clause-fits : goal.returns-in_err-name-clause-fits
returns-in_err-name-clause-fits c = exit _ c.from_residual-in_err-name.result _ c.from_residual-in_err-name.ensures.1 (after_go c.in_ok-rest.ensures.found (named_stop c.in_err-name.ensures.found (λ n. after_can (table_rest_can))))

pub returns-in_err-rest-2-clause-fits : goal.returns-in_err-rest-2-clause-fits
returns-in_err-rest-2-clause-fits c = exit _ c.from_residual-in_err-rest-2.result _ c.from_residual-in_err-rest-2.ensures.1 (after_go c.in_ok-rest.ensures.found (named_go c.in_ok-name.ensures.found (after_stop c.in_err-rest-2.ensures.found (table_rest_can))))

pub returns-in_err-columns-clause-fits : goal.returns-in_err-columns-clause-fits
returns-in_err-columns-clause-fits c = exit _ c.from_residual-in_err-columns.result _ c.from_residual-in_err-columns.ensures.1 (after_go c.in_ok-rest.ensures.found (named_go c.in_ok-name.ensures.found (after_go c.in_ok-rest-2.ensures.found (columns_then (then_stop _ any_passed (λ a. after_can (after_can (then_can names_can (λ a. after_can (after_can return_can))))) c.in_err-columns.ensures.fits)))))

pub returns-in_err-rest-3-clause-fits : goal.returns-in_err-rest-3-clause-fits
returns-in_err-rest-3-clause-fits c = exit _ c.from_residual-in_err-rest-3.result _ c.from_residual-in_err-rest-3.ensures.1 (after_go c.in_ok-rest.ensures.found (named_go c.in_ok-name.ensures.found (after_go c.in_ok-rest-2.ensures.found (columns_then (then_go any_passed c.in_ok-columns.ensures.fits (after_stop c.in_err-rest-3.ensures.found (after_can (then_can names_can (λ a. after_can (after_can return_can))))))))))

pub returns-in_err-key-clause-fits : goal.returns-in_err-key-clause-fits
returns-in_err-key-clause-fits c = exit _ c.from_residual-in_err-key.result _ c.from_residual-in_err-key.ensures.1 (after_go c.in_ok-rest.ensures.found (named_go c.in_ok-name.ensures.found (after_go c.in_ok-rest-2.ensures.found (columns_then (then_go any_passed c.in_ok-columns.ensures.fits (after_go c.in_ok-rest-3.ensures.found (enclosed_stop _ (λ a. after_can return_can) c.in_err-key.ensures.fits)))))))

pub returns-in_err-rest-4-clause-fits : goal.returns-in_err-rest-4-clause-fits
returns-in_err-rest-4-clause-fits c = exit _ c.from_residual-in_err-rest-4.result _ c.from_residual-in_err-rest-4.ensures.1 (after_go c.in_ok-rest.ensures.found (named_go c.in_ok-name.ensures.found (after_go c.in_ok-rest-2.ensures.found (columns_then (then_go any_passed c.in_ok-columns.ensures.fits (after_go c.in_ok-rest-3.ensures.found (enclosed_go c.in_ok-key.ensures.fits (after_stop c.in_err-rest-4.ensures.found return_can))))))))

pub returns-clause-fits : goal.returns-clause-fits
returns-clause-fits c = rw (c.of-columns.ensures, c.of-key.ensures) (after_go c.in_ok-rest.ensures.found (named_go c.in_ok-name.ensures.found (after_go c.in_ok-rest-2.ensures.found (columns_then (then_go any_passed c.in_ok-columns.ensures.fits (after_go c.in_ok-rest-3.ensures.found (enclosed_go c.in_ok-key.ensures.fits (after_go c.in_ok-rest-4.ensures.found return_fits))))))))

pub enclosed_list-requires-clause-part : goal.enclosed_list-requires-clause-part
enclosed_list-requires-clause-part c = name_part
