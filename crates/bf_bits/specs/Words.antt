-- Two bits for each position, `granules_per_word` positions in a word: the low one is the lock bit, the high one the migrate bit.
use Rattle.std.specs.Prelude.{ℕ, ◌≡◌, ◌+◌, ◌-◌, ◌*◌, ◌/◌, ◌%◌, ◌^◌, ◌==◌, max, List, if◌then◌else◌, slice_index}
use Rattle.std.specs.Int.{bit_at}
use Rattle.bf_bits.specs.declared.answer.Look.{Look}
use Rattle.bf_bits.specs.declared.answer.Look.TheVariants.{Free, Held, Done}
use Rattle.bf_bits.specs.Positions.{granules_per_word, word_of, times}

-- how many words that many granules take, and at least one word
abbrev pub word_count : ℕ → ℕ
word_count granules = max 1 ((granules + (granules_per_word - 1)) / granules_per_word)

abbrev pub lock_place : ℕ → ℕ
lock_place p = 2 * (p % granules_per_word)

abbrev pub migrate_place : ℕ → ℕ
migrate_place p = 2 * (p % granules_per_word) + 1

-- the word that has this bit alone, as the code's `1u64 << k`
abbrev pub mask : ℕ → ℕ
mask k = 1 * 2 ^ k % 2 ^ 64

abbrev pub lock_in : ℕ → ℕ → ℕ
lock_in word p = bit_at word (lock_place p)

abbrev pub migrate_in : ℕ → ℕ → ℕ
migrate_in word p = bit_at word (migrate_place p)

-- done where the migrate bit is set, held where the lock bit alone is
abbrev pub state_by : ℕ → ℕ → Look
state_by lock migrate = if migrate == 1 then Done else if lock == 1 then Held else Free

abbrev pub state_in : ℕ → ℕ → Look
state_in word p = state_by (lock_in word p) (migrate_in word p)

-- both bits are set of these positions, and of no others
abbrev pub AreMarked : List ℕ → List ℕ → Type 0
AreMarked words xs = (p : ℕ) → (lock_in (slice_index words (word_of p)) p ≡ times p xs) × (migrate_in (slice_index words (word_of p)) p ≡ times p xs)
