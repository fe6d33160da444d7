-- A machine in which nothing has happened is in sequence.
use Rattle.std.proofs.Common.{◌≡◌, ℕ, zero, suc, true, false, List, [], ◌∷◌, map, None, refl, ap}
use Rattle.std.specs.List.{slice_index_or}
use Rattle.bf_tree.specs.declared.script.Script.{Script}
use Rattle.bf_tree.specs.declared.script.Session.{Session}
use Rattle.bf_sql.specs.Database.{Database}
use Rattle.bf_store.specs.Stores.{Store}
use Rattle.bf_machine.specs.Movement.{moving_seen}
use Rattle.bf_machine.specs.Runnable.{phases_rise_from}
use Rattle.bf_machine.specs.interleaving.Kept.{fresh, no_group}
use Rattle.bf_machine.specs.interleaving.Machines.{open_at}
use Rattle.bf_machine.specs.interleaving.Serving.{IsInSequence, deaths_at}

none_at : (sessions : List Session) (i : ℕ) → slice_index_or (map no_group sessions) i None ≡ None
none_at [] i = refl
none_at (x ∷ sessions) zero = refl
none_at (x ∷ sessions) (suc i) = none_at sessions i

pub none_open : (store : Store) (script : Script) (retries : ℕ) (s : ℕ) → open_at (fresh false store script retries) s ≡ None
none_open store script retries zero = refl
none_open store script retries (suc s) = none_at script.sessions s

none_died : (store : Store) (script : Script) (retries n : ℕ) → deaths_at (fresh false store script retries) n ≡ []
none_died store script retries zero = refl
none_died store script retries (suc n) = refl

pub fresh_is_in_sequence : (start : Database) (store : Store) (script : Script) (retries : ℕ) → phases_rise_from 0 script.sessions ≡ true → store.lazy.last ≡ None
    → IsInSequence start (fresh false store script retries)
fresh_is_in_sequence start store script retries phases none = record {
  unlogged = refl;
  phases = phases;
  closed = none_open store script retries;
  no_death = none_died store script retries;
  rises = tt;
  ended = tt;
  moved = ap moving_seen none;
}
