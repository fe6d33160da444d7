use Rattle.std.proofs.Common.{ap, ap₂}
use Rattle.bf_live.specs.Drafts.{Drafted}
use Rattle.bf_live.specs.Live.{rows_in}
use Rattle.bf_live.proofs.Paired.{one_each_put, paired_put}
use Rattle.bf_live.proofs.draft.Draft.put.Goals as goal

pub invariant_of-self : goal.invariant_of-self
invariant_of-self c =
    one_each_put c.self.inside.catalog.tables (rows_in c.self.inside.heaps.entries) c.self.invariant c.args.self.now.tables (ap (λ (d : Drafted). d.tables) c.self.view_is)
    c.args.name.now c.args.heap.entries (rows_in c.exchange_heap.new.heaps.entries) c.exchange_heap.ensures.rows

pub returns : goal.returns
returns c =
    ap₂ (λ ts is. record { tables = ts; indexes = is })
    (paired_put c.self.inside.catalog.tables (rows_in c.self.inside.heaps.entries) c.self.invariant c.args.self.now.tables (ap (λ (d : Drafted). d.tables) c.self.view_is)
    c.args.name.now c.args.heap.entries (rows_in c.exchange_heap.new.heaps.entries) c.exchange_heap.ensures.rows)
    (ap (λ (d : Drafted). d.indexes) c.self.view_is)
