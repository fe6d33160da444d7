-- A name as a part.
use Rattle.std.proofs.Common.{ℕ, List, Result, Ok, Err}
use Rattle.bf_phrase.specs.declared.cursor.Cursor.{Cursor}
use Rattle.bf_phrase.specs.declared.error.ReadStop.{ReadStop}
use Rattle.bf_phrase.specs.Words.{Word}
use Rattle.bf_phrase.specs.Cursors.{words}
use Rattle.bf_phrase.specs.Follow.{nothing}
use Rattle.bf_phrase.specs.Outcome.{IsNamed, outcome, seen}
use Rattle.bf_phrase.specs.Reading.{Read, Fits}
use Rattle.bf_phrase.specs.Phrases.{NameRule}
use Rattle.bf_phrase.proofs.Moves.{named_go, named_stop, return_can, return_fits}

pub name_fits : (ws : List Word) (res : Result (List ℕ × Cursor) ReadStop) → IsNamed ws (seen (λ x. (x.0, words x.1)) res) → Fits nothing NameRule ws (outcome (λ x. Read x.0 (words x.1)) res)
name_fits ws (Ok x) h = named_go h return_fits
name_fits ws (Err e) h = named_stop h (λ n. return_can)
