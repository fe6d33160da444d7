-- Two trees that share a budget of nodes, one behind the other.
use Rattle.std.proofs.Common.{◌≡◌, ℕ, ◌+◌, ◌≤◌, List, ◌++◌, drop, Option, Some, None, ap, ◌∙◌, append_assoc, arith}
use Rattle.bf_wire.specs.Spellings.{IsPair, pair_spelling}
use Rattle.bf_wire.specs.Taking.{BeginWith, IsTakenFrom, AreApart}
use Rattle.bf_wire.proofs.Parts.{one_front}
use Rattle.bf_record.specs.Within.{IsWithin, IsTakenWithin}

module _ {A : Type 0} (HasSpelling : A → Type 0) (spelling : A → List ℕ) (size : A → ℕ) where
  abbrev size_of_both : A × A → ℕ
  size_of_both pair = size pair.0 + size pair.1

  pub none_second : AreApart HasSpelling spelling → {bytes : List ℕ} {a : A} {budget n left : ℕ}
      → IsTakenWithin HasSpelling spelling size budget bytes (Some (a, n, left)) → IsTakenWithin HasSpelling spelling size left (drop n bytes) None
      → IsTakenWithin (IsPair HasSpelling HasSpelling) (pair_spelling spelling spelling) size_of_both budget bytes None
  none_second apart {bytes} {a} {budget} {n} {left} first none pair rest is same =
      let begin : BeginWith HasSpelling spelling bytes a n = record { has_spelling = first.0.has_spelling.0; taken = first.0.taken; front = first.0.front } in
      let behind = one_front HasSpelling spelling apart begin pair.0 (spelling pair.1 ++ rest) is.0.0 (same ∙ append_assoc (spelling pair.0) (spelling pair.1) rest) in
      none pair.1 rest (is.0.1, omega (arith, first.1, is.1, ap size behind.0)) behind.1
