-- What comes from the beginning that is picked comes from the new machine beside the journal that was given.
use Rattle.bf_sql.specs.migrations.Lazy.{view_of}
use Rattle.bf_machine.specs.interleaving.Kept.{fresh}
use Rattle.bf_serve.proofs.threads.Coming.{from_beginning}
use Rattle.bf_serve.proofs.phases.serve_script.Goals as goal

pub returns : goal.returns
returns g c =
    let come = c.serve_over.ensures.come in
    record { keeps = (come.0, from_beginning g.J.Journal.Answers (view_of c.args.store.lazy) (fresh g.J.Journal.ends c.args.store c.args.script c.args.crew.retries) c.args.journal come.0 _ come.1, come.2, come.3); migration = c.serve_over.ensures.migration }
