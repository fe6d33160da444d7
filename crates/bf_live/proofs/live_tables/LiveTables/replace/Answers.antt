use Rattle.bf_live.specs.Live.{held_in}
use Rattle.bf_live.proofs.Exchanged.{names_apart}
use Rattle.bf_live.proofs.live_tables.LiveTables.replace.Goals as goal

pub prepare_exchange-requires : goal.prepare_exchange-requires
prepare_exchange-requires c = names_apart c.args.self.now c.args.gone.now (held_in c.args.new.items) c.requires.database

pub exchange-requires : goal.exchange-requires
exchange-requires c = record { new = held_in c.args.new.items; prepared = c.in_ok-exchange.ensures; database = c.requires.database; under_own_keys = c.requires.own_keys }

pub returns-clause-ok : goal.returns-clause-ok
returns-clause-ok c = c.exchange.ensures (held_in c.args.new.items) c.in_ok-exchange.ensures
