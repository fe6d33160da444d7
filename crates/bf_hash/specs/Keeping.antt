-- How a stripe is kept: a tree of marks, and the tickets that its held keys have taken.
use Rattle.std.specs.Prelude.{ℕ, ◌≡◌, Option, Some}
use Rattle.std.specs.FinMap.{from_entries}
use Rattle.std.specs.BTreeMap as tree
use Rattle.std.specs.BTreeMap.{BTreeMap}
use Rattle.bf_base.specs.Values.{key_cmp}
use Rattle.bf_hash.specs.declared.state.Mark.{Mark}
use Rattle.bf_hash.specs.declared.state.Mark.TheVariants.{Held}
use Rattle.bf_hash.specs.Tickets.{Pool, IsTaken}
use Rattle.bf_hash.specs.Stripes.{Cells, Marks}

abbrev pub marks_in : BTreeMap Cells Mark → Marks
marks_in states = from_entries states.entries

-- the taken tickets are those of the held keys, each of one key, where a key has what `look` finds
pub record AreTheirs (look : Cells → Option Mark) (tickets : Pool) : Type 0 where
  pub held : (key : Cells) (ticket : ℕ) → look key ≡ Some (Held ticket) → IsTaken tickets ticket
  pub taken : (ticket : ℕ) → IsTaken tickets ticket → (key : Cells) × (look key ≡ Some (Held ticket))
  pub differ : (key other : Cells) (ticket : ℕ) → look key ≡ Some (Held ticket) → look other ≡ Some (Held ticket) → key ≡ other

pub record IsSound (states : BTreeMap Cells Mark) (tickets : Pool) : Type 0 where
  pub ordered : tree.IsOrdered key_cmp states
  pub theirs : AreTheirs (tree.get key_cmp states) tickets
