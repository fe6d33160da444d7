use Rattle.bf_wire.specs.Apart.{bytes_apart, ints_apart, names_apart, rows_apart, texts_apart, values_apart, words_apart}
use Rattle.bf_wire.proofs.laws.spellings_are_apart.Goals as goal

pub returns-clause-bytes : goal.returns-clause-bytes
returns-clause-bytes c = bytes_apart

pub returns-clause-words : goal.returns-clause-words
returns-clause-words c = words_apart

pub returns-clause-ints : goal.returns-clause-ints
returns-clause-ints c = ints_apart

pub returns-clause-names : goal.returns-clause-names
returns-clause-names c = names_apart

pub returns-clause-texts : goal.returns-clause-texts
returns-clause-texts c = texts_apart

pub returns-clause-values : goal.returns-clause-values
returns-clause-values c = values_apart

pub returns-clause-keys_and_rows : goal.returns-clause-keys_and_rows
returns-clause-keys_and_rows c = rows_apart
