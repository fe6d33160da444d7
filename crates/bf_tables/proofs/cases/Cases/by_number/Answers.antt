use Rattle.std.proofs.Common.{◌≡◌, Some}
use Rattle.bf_tables.specs.Cases.{cases_by, number_at}
use Rattle.bf_tables.proofs.Apart.{number_named, read_named}
use Rattle.bf_tables.proofs.cases.Cases.by_number.Goals as goal

pub returns-clause-one_case : goal.returns-clause-one_case
returns-clause-one_case g c =
    let cases = cases_by g.W.AsStr.text c.self.inside.pairs in
    rw (← c.self.view_is) (read_named g.W.AsStr.text (λ word. number_at cases word ≡ Some c.args.number) _ _ c.word_of_number.ensures (number_named cases c.args.number c.self.invariant))
