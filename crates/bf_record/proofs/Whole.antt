-- Bytes that go on behind a record.
use Rattle.std.proofs.Common.{◌≡◌, ◌≢◌, ℕ, List, [], length, sym, ap, ◌∙◌}
use Rattle.std.proofs.lemmas.List.{append-nil}
use Rattle.bf_wire.specs.Taking.{BeginWith, AreApart}
use Rattle.bf_wire.proofs.Parts.{one_front}

module _ {A : Type 0} (HasSpelling : A → Type 0) (spelling : A → List ℕ) where
  -- bytes that stand behind a record are no part of one
  pub no_whole : AreApart HasSpelling spelling → {bytes : List ℕ} {a : A} {n : ℕ} → BeginWith HasSpelling spelling bytes a n → n ≢ length bytes
      → (b : A) → HasSpelling b → bytes ≢ spelling b
  no_whole apart {bytes} {a} {n} begin less b is_b same =
      let behind = one_front HasSpelling spelling apart begin b [] is_b (same ∙ sym (append-nil (spelling b))) in
      less (begin.taken ∙ ap (λ (c : A). length (spelling c)) behind.0 ∙ sym (ap (λ (xs : List ℕ). length xs) same))
