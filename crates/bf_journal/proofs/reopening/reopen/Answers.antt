use Rattle.std.proofs.Common.{[], Err, inl, sym, ap, subst, Some}
use Rattle.bf_disk.specs.Images.{Only, OnlyRead}
use Rattle.bf_log.specs.declared.error.OpenError.{OpenError}
use Rattle.bf_journal.specs.Reading.{ReadsAll}
use Rattle.bf_journal.proofs.Replays.{read_then}
use Rattle.bf_journal.proofs.Reopened.{Fresh, is_reopened}
use Rattle.bf_journal.proofs.reopening.reopen.Goals as goal
use Rattle.bf_journal.proofs.reopening.reopen.Goals.{After-into_log}

pub returns-in-Err-clause-refused : goal.returns-in-Err-clause-refused
returns-in-Err-clause-refused g c = λ at is file told.
    let found = c.in-Err.ensures.not_a_log at is file told in
    (inl found.0, found.1)

-- the state and the log that were read
fresh : (g : _) (c : After-into_log g) → Fresh g.L.State.first g.L.State.Steps g.L.State.once {g = g.D.Disk} c.args.disk (g.R.Reader.kept c.read_all.new.state) c.into_log.result
fresh g c =
    let s = g.L.State in
    let disk = g.D.Disk in
    let all : OnlyRead disk.seen disk.may_leave disk.moment disk.left_since c.args.disk c.read_all.new.opening.disk =
    read_then disk.seen disk.may_leave disk.moment disk.left_since g.met.D.Disk.counts_now g.met.D.Disk.earlier g.met.D.Disk.only_now
    c.args.disk c.in-Ok.opening.disk c.read_all.new.opening.disk c.in-Ok.ensures.disk c.read_all.ensures.disk in
    record {
      ready = c.into_log.ensures.ready;
      read = subst (λ (now : _). OnlyRead disk.seen disk.may_leave disk.moment disk.left_since c.args.disk now) (sym c.into_log.ensures.disk) all;
      gives = λ file told. (c.in-Ok-read_all.ensures.reads file ([], c.in-Ok.ensures.opened file told, sym c.requires.first)).0;
      stored = λ file told.
          let read = (c.in-Ok-read_all.ensures.reads file ([], c.in-Ok.ensures.opened file told, sym c.requires.first)).1 in
          record { file = file; payloads = read.0; holds = c.into_log.ensures.holds file read.0 read.1; gives = read.2 };
    }

pub returns-in-Ok-read_all-clause-reopened : goal.returns-in-Ok-read_all-clause-reopened
returns-in-Ok-read_all-clause-reopened g c =
    let before = (goal.at.returns-in-Ok-read_all-clause-reopened g c).After-into_log in
    is_reopened g.L.State.first g.L.State.Steps g.L.State.once g.met.D.Disk.only_now c.args.disk (g.R.Reader.kept c.read_all.new.state) c.into_log.result (fresh g before)

pub returns-in-Err-read_all-clause-refused : goal.returns-in-Err-read_all-clause-refused
returns-in-Err-read_all-clause-refused g c = λ at is file told.
    let s = g.L.State in
    let reads = subst (λ (error : OpenError). ReadsAll s.first s.Steps {g = g.D.Disk} file (g.R.Reader.kept c.read_all.new.state) c.read_all.new.opening (Err error)) is
    (c.in-Err-read_all.ensures.reads file ([], c.in-Ok.ensures.opened file told, sym c.requires.first)) in
    (reads.0, subst (λ (back : _). Only file (g.D.Disk.may_leave back)) (sym c.into_disk.ensures) reads.1)
