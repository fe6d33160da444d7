use Rattle.std.proofs.Common.{◌≡◌, ◌+◌, drop, length, take, refl, sym, ◌∙◌, ap}
use Rattle.std.proofs.lemmas.List.{take_at}
use Rattle.bf_log.proofs.Gates.{goes_on}
use Rattle.bf_log.proofs.Storing.{told_at}
use Rattle.bf_log.proofs.opening.Opening.read_payload.Goals as goal

pub returns-clause-next : goal.returns-clause-next
returns-clause-next g c = λ file payloads read.
    let size : length c.deref_mut.result.now ≡ c.args.size = c.deref_mut.ensures.len ∙ c.in_ok-payload.ensures.len in
    let long : length c.read.new.into ≡ c.args.size = c.read.auto.into ∙ size in
    let whole : c.of.result ≡ c.read.new.into = c.of.ensures ∙ take_at c.read.new.into _ c.in_ok-payload.payload.len (long ∙ sym c.in_ok-payload.ensures.len) in
    let bytes = told_at (g.D.Disk.seen c.args.self.now.disk) (λ told. c.read.new.into ≡ take (length c.deref_mut.result.now) (drop (c.args.self.now.gate + 5) told)) file
    c.in_ok-read.ensures.bytes read.told in (
      read.gate,
      goes_on file payloads c.args.self.now read _ c.read.ensures.seen c.read.ensures.images c.of.result c.args.size (c.requires.opened file read.told)
          (whole ∙ bytes ∙ ap (λ n. take n (drop (c.args.self.now.gate + 5) file)) size) (ap length whole ∙ long) c.requires.small c.requires.room refl refl c.requires.reading,
    )
