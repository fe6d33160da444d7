-- What a claim answers.
use Rattle.std.specs.Prelude.{ℕ}
use Rattle.atomic_table.specs.Seated.{TableId}
use Rattle.bf_bits.specs.declared.answer.Look.{Look}
use Rattle.bf_bits.specs.declared.answer.Look.TheVariants.{Free, Held, Done}
use Rattle.bf_bits.specs.declared.bits.BitAnswer.{BitAnswer}
use Rattle.bf_bits.specs.declared.bits.BitAnswer.TheVariants.{Claimed, Busy, Done as Finished}

-- the answer to a claim of a table's position that was found in a state
abbrev pub answer_for : TableId → ℕ → Look → BitAnswer
answer_for table p Free = Claimed record { table = table; at = p }
answer_for table p Held = Busy
answer_for table p Done = Finished
