use Rattle.std.proofs.Common.{ℕ, ◌+◌, List, [], ◌∷◌, ◌++◌, None, Some, drop, sym, ap, ◌∙◌, append_assoc}
use Rattle.std.proofs.lemmas.List.{append-nil}
use Rattle.bf_transpose.specs.Joined.{columns_of_on}
use Rattle.bf_transpose.proofs.Carried.{columns_next}
use Rattle.bf_transpose.proofs.joined.columns_of_on.Goals as goal

pub loop-pair-preserved : goal.loop-pair-preserved
loop-pair-preserved c =
    let items = c.args.items.now in
    let on = c.args.on.now in
    let n = c.loop-pair.pair-index in
    let column = c.in-Some.column in
    let before = c.loop-pair.columns.items in
    let rest = columns_of_on items (drop (n + 1) on) in
    let next = columns_next items on n c.loop-pair-test.true _ (Some column) (sym c.in-Some.ensures) in
    ap (λ (cs : List ℕ). cs ++ rest) c.in_ok-push.ensures.items
    ∙ (append_assoc before (column ∷ []) rest ∙ (ap (λ (cs : List ℕ). before ++ cs) (sym next) ∙ c.loop-pair.invariant))

pub returns-in_default : goal.returns-in_default
returns-in_default c =
    let items = c.args.items.now in
    let on = c.args.on.now in
    let n = c.loop-pair.pair-index in
    let before = c.loop-pair.columns.items in
    let last = columns_next items on n c.loop-pair-test.true _ None (sym c.in_default.ensures) in
    sym (append-nil before) ∙ (ap (λ (cs : List ℕ). before ++ cs) (sym last) ∙ c.loop-pair.invariant)
