-- What the words behind the program's name ask for.
use Rattle.std.specs.Prelude.{ℕ, Bool, if◌then◌else◌, List, [], ◌∷◌, Option, None, Some, option_and_then, option_map, unwrap_or}
use Rattle.bf_words.specs.Lines.{Line, is_waiting, nothing_read, verb_of, with_words}
use Rattle.bf_words.specs.declared.line.Line.{Line as ReadLine}
use Rattle.bf_words.specs.declared.verb.Verb.{Verb}
use Rattle.bf_words.specs.declared.verb.Verb.TheVariants as verb
use Rattle.bf_words.specs.declared.words.Words.{Words}
use Rattle.bf_words.specs.declared.words.Words.TheVariants as words

pub record Options : Type 0 where
  pub workers : ℕ
  pub retries : ℕ
  pub finish : Bool
  pub audit : Bool

-- to make a log under a path, to run a script over the log under a path, to run one over nothing, or to make a log
-- under a path and to run an example of a size over it
pub data Asked : Type 0 where
  creating : List ℕ → Asked
  running : List ℕ → Options → Asked
  trying : Asked
  demonstrating : ℕ → List ℕ → Asked

-- where no number is given
abbrev pub usual_workers : ℕ
usual_workers = 2

abbrev pub usual_retries : ℕ
usual_retries = 15

-- the options of a line
abbrev pub options_of : Line → Options
options_of line = record {
  workers = unwrap_or line.workers usual_workers;
  retries = unwrap_or line.retries usual_retries;
  finish = line.finish;
  audit = line.audit;
}

-- what a whole line asks for, where it has all that its first word wants
abbrev pub finished : Verb → Line → Option Asked
finished verb.Create line = option_map creating line.path
finished verb.Run line = option_map (λ path. running path (options_of line)) line.path
finished verb.Try line = Some trying
finished verb.Demo line = option_and_then (λ count. option_map (demonstrating count) line.path) line.count

-- what a line asks for, where no option lacks its number
abbrev pub ended : Verb → Line → Option Asked
ended verb line = if is_waiting line.place then None else finished verb line

-- what a first word and those behind it ask for
abbrev pub asked_behind : List ℕ → List (List ℕ) → Option Asked
asked_behind first rest =
    option_and_then (λ verb. option_and_then (ended verb) (with_words verb rest nothing_read)) (verb_of first)

-- what the words ask for; no words ask for nothing
abbrev pub asked : List (List ℕ) → Option Asked
asked [] = None
asked (first ∷ rest) = asked_behind first rest

-- what words that were read ask for
abbrev pub asked_by : Words → Asked
asked_by (words.Create path) = creating path.now
asked_by (words.Run path workers retries finish audit) = running path.now (record {
  workers = workers;
  retries = retries;
  finish = finish;
  audit = audit;
})
asked_by words.Try = trying
asked_by (words.Demo count path) = demonstrating count path.now

-- a line as it was read
abbrev pub seen : ReadLine → Line
seen line = record {
  place = line.place;
  count = line.count;
  path = option_map (λ p. p.now) line.path;
  workers = line.workers;
  retries = line.retries;
  finish = line.finish;
  audit = line.audit;
}
