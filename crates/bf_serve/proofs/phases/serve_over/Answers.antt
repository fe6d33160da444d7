-- Where nothing was served the machine is still the one with which the run begins.
use Rattle.std.proofs.Common.{Option, refl, subst, sym}
use Rattle.boxcar.specs.Table.{Where}
use Rattle.bf_image.specs.declared.migration.Migration.{Migration}
use Rattle.bf_store.specs.Stores.{IsOf}
use Rattle.bf_machine.specs.interleaving.Kept.{fresh}
use Rattle.bf_serve.proofs.threads.Coming.{comes_at_once}
use Rattle.bf_serve.proofs.phases.serve_over.Goals as goal

pub returns-in_default : goal.returns-in_default
returns-in_default g c =
    let m = fresh g.N.Opened.logged c.args.store c.args.script c.args.crew.retries in
    record { come = (m, comes_at_once g.J.Journal.Answers g.N.Opened.opening g.N.Beginning.begins m c.args.journal (c.requires.begins m refl), tt, tt); migration = tt }

pub returns-in_default-try_clone : goal.returns-in_default-try_clone
returns-in_default-try_clone g c =
    let m = fresh g.N.Opened.logged c.args.store c.args.script c.args.crew.retries in
    record { come = (m, comes_at_once g.J.Journal.Answers g.N.Opened.opening g.N.Beginning.begins m c.args.journal (c.requires.begins m refl), tt, tt); migration = tt }

pub returns-in-Err : goal.returns-in-Err
returns-in-Err g c =
    let m = fresh g.N.Opened.logged c.args.store c.args.script c.args.crew.retries in
    record { come = (m, comes_at_once g.J.Journal.Answers g.N.Opened.opening g.N.Beginning.begins m c.args.journal (c.requires.begins m refl), tt, tt); migration = tt }

pub returns-in-Ok-served : goal.returns-in-Ok-served
returns-in-Ok-served g c =
    let by = c.serve_machine-machine.ensures in
    let next = c.serve_machine-machine.result.0 in
    let parts = c.into_parts.ensures in
    record {
      come = (
        next,
        by.come,
        record {
          ended = (let ended = by.ended in rw c.in-Ok-served.is at ended);
          lazy = λ i. (parts.store i).lazy;
          transcripts = parts.transcripts;
          history = parts.history;
        },
        (let finished = by.finished in rw c.in-Ok-served.is at finished),
      );
      migration = subst (λ (pass : Option (Where Migration)). IsOf g.N.Opened.registry pass) (sym (λ i. (parts.store i).migration)) c.migration.ensures.one;
    }
