-- Short words for worked examples.
use Rattle.std.specs.Prelude.{ℕ, Bool, List, Option, Some}
use Rattle.bf_words.specs.Words.{Asked, creating, demonstrating, running, trying}

abbrev pub makes : List ℕ → Option Asked
makes path = Some (creating path)

abbrev pub runs : List ℕ → ℕ → ℕ → Bool → Bool → Option Asked
runs path workers retries finish audit = Some (running path (record {
  workers = workers;
  retries = retries;
  finish = finish;
  audit = audit;
}))

abbrev pub tries : Option Asked
tries = Some trying

abbrev pub shows : ℕ → List ℕ → Option Asked
shows count path = Some (demonstrating count path)
