-- The group has its entry, or ends by the cause that the journal told; the catalog stays where its number does.
use Rattle.std.proofs.Common.{rules, ◌≡◌, sym, ap, ◌∙◌}
use Rattle.bf_tree.specs.Catalogs.{Catalog}
use Rattle.bf_machine.specs.interleaving.Machines.{Machine}
use Rattle.bf_serve.proofs.threads.Catalogs.{ending_catalog, present_with}
use Rattle.bf_serve.proofs.threads.Coming.{keeps_by_commit}
use Rattle.bf_serve.proofs.sections.commit.Goals as goal

pub returns-in_err-commit-clause-keeps : goal.returns-in_err-commit-clause-keeps
returns-in_err-commit-clause-keeps g c =
    let by = c.commit.ensures in
    keeps_by_commit g.J.Journal.Answers g.N.Opened.opening c.args.machine.now c.commit.new.self c.args.journal.now c.commit.new.journal c.args.session c.commit.result by.ending by.err by.beside by.refused

pub returns-then-number-clause-keeps : goal.returns-then-number-clause-keeps
returns-then-number-clause-keeps g c =
    let by = c.commit.ensures in
    keeps_by_commit g.J.Journal.Answers g.N.Opened.opening c.args.machine.now c.commit.new.self c.args.journal.now c.commit.new.journal c.args.session c.commit.result by.ending by.err by.beside by.refused

pub returns-clause-keeps : goal.returns-clause-keeps
returns-clause-keeps g c =
    let by = c.commit.ensures in
    keeps_by_commit g.J.Journal.Answers g.N.Opened.opening c.args.machine.now c.commit.new.self c.args.journal.now c.commit.new.journal c.args.session c.commit.result by.ending by.err by.beside by.refused

pub returns-clause-present : goal.returns-clause-present
returns-clause-present g c =
    let m : Machine = c.args.machine.now in
    let next : Machine = c.commit.new.self in
    let before : c.number-number.result ≡ m.db.number = c.number-number.ensures ∙ ap (λ (k : Catalog). k.number) c.catalog.ensures.catalog in
    let behind : c.number.result ≡ next.db.number = c.number.ensures ∙ ap (λ (k : Catalog). k.number) c.catalog-2.ensures.catalog in
    let same : c.number.result ≡ c.number-number.result = search rules in
    present_with g.N.Opened.registry m next c.args.catalog.now (ending_catalog m next c.args.session c.in_ok-commit.field-0 c.in_ok-commit.ensures.ending (sym behind ∙ (same ∙ before))) c.requires.present
