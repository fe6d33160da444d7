-- Lists of rows with one more at their end.
use Rattle.std.proofs.Common.{◌≡◌, ℕ, ◌+◌, inl, inr, List, [], ◌∷◌, ◌++◌, sym, subst, ◌∙◌, ap, arith, Option, Some, None}
use Rattle.std.specs.List.{AllByRecursion}
use Rattle.bf_base.specs.declared.granule.Granule.{Granule}
use Rattle.bf_drive.specs.Lists.{AreDifferent, Lacks}
use Rattle.bf_drive.proofs.Places.{slice_get-snoc}
use Rattle.std.specs.Prelude.{IfSome}
use Rattle.std.proofs.Common.{length-append}
use Rattle.bench_tests.specs.Seen.{AreBefore, AreWanted, MayAdd, position_at}

pub before_next : (n : ℕ) (xs : List Granule) → AreBefore n xs → AreBefore (n + 1) xs
before_next n xs before i g at = (let less = before i g at in omega arith)

pub before_snoc : (n : ℕ) (xs : List Granule) (x : Granule) → position_at x.place ≡ n → AreBefore n xs → AreBefore (n + 1) (xs ++ x ∷ [])
before_snoc n xs x is before i g at = elim (slice_get-snoc xs x i g at) [
  | inl a ↦ before_next n xs before i g a
  | inr b ↦ (let same = ap (λ (y : Granule). position_at y.place) b.1 in omega (arith, same, is))
]

lacks_next : (n : ℕ) (xs : List Granule) (x : Granule) → position_at x.place ≡ n → AreBefore n xs → Lacks xs x
lacks_next n xs x is before i at = (let less = before i x at in omega (arith, is, less))

pub different_snoc : (n : ℕ) (xs : List Granule) (x : Granule) → position_at x.place ≡ n → AreBefore n xs → AreDifferent xs → AreDifferent (xs ++ x ∷ [])
different_snoc n xs x is before differ i j g p q =
    let lacks = lacks_next n xs x is before in
    elim (slice_get-snoc xs x i g p) [
      | inl a ↦ elim (slice_get-snoc xs x j g q) [ inl b ↦ differ i j g a b | inr b ↦ absurd (lacks i (a ∙ ap Some b.1)) ]
      | inr a ↦ elim (slice_get-snoc xs x j g q) [ inl b ↦ absurd (lacks j (b ∙ ap Some a.1)) | inr b ↦ a.0 ∙ sym b.0 ]
    ]

pub unit_snoc : (unit : ℕ) (xs : List Granule) (x : Granule) → x.unit ≡ unit → AllByRecursion (λ granule. granule.unit ≡ unit) xs → AllByRecursion (λ granule. granule.unit ≡ unit) (xs ++ x ∷ [])
unit_snoc unit [] x is all = (is, tt)
unit_snoc unit (y ∷ xs) x is all = (all.0, unit_snoc unit xs x is all.1)

some_unit : (wanted : Option ℕ) (xs : List Granule) (x : Granule) → IfSome wanted (λ unit. x.unit ≡ unit) → IfSome wanted (λ unit. AllByRecursion (λ granule. granule.unit ≡ unit) xs) → IfSome wanted (λ unit. AllByRecursion (λ granule. granule.unit ≡ unit) (xs ++ x ∷ []))
some_unit None xs x is all = tt
some_unit (Some unit) xs x is all = unit_snoc unit xs x is all

pub wanted_next : (n most : ℕ) (wanted : Option ℕ) (old new : List Granule) → AreWanted n most wanted old → MayAdd n most wanted old new → AreWanted (n + 1) most wanted new
wanted_next n most wanted old new are (inl same) = subst (λ (xs : List Granule). AreWanted (n + 1) most wanted xs) (sym same) (record {
  different = are.different;
  before = before_next n old are.before;
  few = are.few;
  unit = are.unit;
})
wanted_next n most wanted old new are (inr m) = subst (λ (xs : List Granule). AreWanted (n + 1) most wanted xs) (sym m.more) (record {
  different = different_snoc n old m.granule m.place are.before are.different;
  before = before_snoc n old m.granule m.place are.before;
  few = (let f = m.few in omega (arith, length-append old (m.granule ∷ [])));
  unit = some_unit wanted old m.granule m.unit are.unit;
})
