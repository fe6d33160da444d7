-- What comes out of the lock has come from the beginning of the run, and what is served behind it, and moved behind that, comes behind that.
use Rattle.std.proofs.Common.{◌≡◌, subst}
use Rattle.std.specs.Prelude.{Result, Ok, Err, OnOk}
use Rattle.bf_tree.specs.declared.script.Script.{Script}
use Rattle.bf_machine.specs.interleaving.Calls.{IsPlace}
use Rattle.bf_machine.proofs.served.Ending.{reached_script}
use Rattle.bf_machine.proofs.served.Keeping.{keeps_reach}
use Rattle.bf_serve.proofs.threads.Coming.{comes_on}
use Rattle.bf_serve.proofs.phases.serve_machine.Goals as goal

on_ok : {A E : Type 0} {P : Type 0} (r : Result A E) → P → OnOk r P
on_ok (Ok a) p = p
on_ok (Err e) p = tt

pub returns-in_default-clause-come : goal.returns-in_default-clause-come
returns-in_default-clause-come g c =
    let parts = c.into_parts-machine.result in
    let served = c.in_order in
    comes_on g.J.Journal.Answers g.N.Opened.opening g.N.Beginning.begins parts.0 parts.1 served.new.machine served.new.journal c.into_parts-machine.ensures served.ensures.keeps

pub returns-then-not-crew-clause-come : goal.returns-then-not-crew-clause-come
returns-then-not-crew-clause-come g c =
    let parts = c.into_parts-machine.result in
    let served = c.in_order in
    comes_on g.J.Journal.Answers g.N.Opened.opening g.N.Beginning.begins parts.0 parts.1 served.new.machine served.new.journal c.into_parts-machine.ensures served.ensures.keeps

pub returns-clause-come : goal.returns-clause-come
returns-clause-come g c =
    let parts = c.into_parts-machine.result in
    let served = c.in_order in
    let finished = c.finish_migration-finished in
    let come =
    comes_on g.J.Journal.Answers g.N.Opened.opening g.N.Beginning.begins parts.0 parts.1 served.new.machine served.new.journal c.into_parts-machine.ensures served.ensures.keeps in
    comes_on g.J.Journal.Answers g.N.Opened.opening g.N.Beginning.begins served.new.machine served.new.journal finished.new.machine finished.new.journal come finished.ensures.keeps

pub returns-clause-ended : goal.returns-clause-ended
returns-clause-ended g c =
    let served = c.in_order in
    let finished = c.finish_migration-finished in
    let same : finished.new.machine.script ≡ served.new.machine.script =
    reached_script g.N.Opened.opening served.new.machine finished.new.machine
    (keeps_reach g.J.Journal.Answers g.N.Opened.opening served.new.machine served.new.journal finished.new.machine finished.new.journal finished.ensures.keeps) in
    on_ok finished.result (λ s place.
    let was = subst (λ (script : Script). IsPlace script s) same place in
    finished.ensures.ended s was (c.in-Ok.ensures.answered s was))
