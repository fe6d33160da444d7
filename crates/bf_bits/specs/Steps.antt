-- What the steps on a word tell the seat that makes them. A step found a word, and leaves the seat with a view.
use Rattle.std.specs.Prelude.{ℕ, ◌≡◌, ◌+◌, List, ◌∷◌}
use Rattle.std.specs.Int.{bit_not}
use mir.Syntax.{w64}
use Rattle.atomic_table.specs.Table.{Me, Step}
use Rattle.bf_bits.specs.declared.answer.Look.{Look}
use Rattle.bf_bits.specs.declared.answer.Look.TheVariants.{Free, Held, Done}
use Rattle.bf_bits.specs.declared.rule.View.{View}
use Rattle.bf_bits.specs.Positions.{word_of, Has, without}
use Rattle.bf_bits.specs.Words.{lock_place, migrate_place, mask, state_in}

-- the view after one more step, which found a word and leaves these lists
abbrev pub next : View → ℕ → List ℕ → List ℕ → View
next v found held finished = record { held = held; finished = finished; found = found; steps = v.steps + 1 }

-- the held list after a claim of a position that was found in a state
abbrev pub held_after : ℕ → Look → List ℕ → List ℕ
held_after p Free held = p ∷ held
held_after p Held held = held
held_after p Done held = held

-- what the word says of the positions that the seat has itself
pub record Tells (found p : ℕ) (v : View) : Type 0 where
  pub held : Has v.held p → state_in found p ≡ Held
  pub finished : Has v.finished p → state_in found p ≡ Done

-- ---- the steps, each with its operand
-- a seat's view and the slots that it has taken, of which a tracker has none
abbrev pub Own : Type 0
Own = Me (Unit {0}) View

-- a step on the word of a position, with an operand
abbrev pub IsAt : Step (Unit {0}) → ℕ → ℕ → Type 0
IsAt st p operand = (st.word ≡ word_of p) × (st.first ≡ operand)

-- a load: the lists stay, and the word says of each position in it what the seat has
abbrev pub looked : Step (Unit {0}) → Own → ℕ → Own → Type 0
looked st v found w =
    (w ≡ (next v.0 found v.0.held v.0.finished, v.1)) × ((p : ℕ) → st.word ≡ word_of p → Tells found p v.0)

-- the lock bit is set: the seat holds the position where it was found free, and else its lists stay
abbrev pub claimed : Step (Unit {0}) → Own → ℕ → Own → Type 0
claimed st v found w =
    (p : ℕ) × IsAt st p (mask (lock_place p))
    × (w ≡ (next v.0 found (held_after p (state_in found p) v.0.held) v.0.finished, v.1))
    × Tells found p v.0

-- the migrate bit is set of a position that was found held: it goes from the held list to the finished one
abbrev pub finished_one : Step (Unit {0}) → Own → ℕ → Own → Type 0
finished_one st v found w =
    (p : ℕ) × IsAt st p (mask (migrate_place p))
    × (w ≡ (next v.0 found (without p v.0.held) (p ∷ v.0.finished), v.1))
    × (state_in found p ≡ Held)

-- the lock bit is cleared of a position that was found held: it leaves the held list
abbrev pub given_back : Step (Unit {0}) → Own → ℕ → Own → Type 0
given_back st v found w =
    (p : ℕ) × IsAt st p (bit_not w64 (mask (lock_place p)))
    × (w ≡ (next v.0 found (without p v.0.held) v.0.finished, v.1))
    × (state_in found p ≡ Held)
