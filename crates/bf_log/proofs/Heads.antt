-- The head of a file: the magic with a byte behind it, or one first fault.
use Rattle.std.proofs.Common.{◌≡◌, ◌⊎◌, inl, inr, ℕ, zero, suc, ◌<◌, ◌≤◌, Some, List, ◌++◌, length, take, drop, get_or, refl, sym, ◌∙◌, ap, arith, add-one, length-append, take-append-drop}
use Rattle.std.specs.Prelude.{slice_get}
use Rattle.std.proofs.lemmas.Bool.{cases_lt, cases_eq}
use Rattle.std.proofs.lemmas.Option.{slice_get-get_or}
use Rattle.std.proofs.lemmas.List.{get_or-take, take_all, take_at, take_more_same, length-drop}
use Rattle.bf_log.specs.Format.{magic, HasMagic, DiffersAt, EndsAt, HeadFault}

-- lists that agree before a place beyond i have the same byte at i
same_byte : (xs ys : List ℕ) (n i : ℕ) → take n xs ≡ take n ys → i < n → i < length xs → i < length ys → slice_get xs i ≡ slice_get ys i
same_byte xs ys n i agree before in_xs in_ys =
    slice_get-get_or xs i 0 in_xs
    ∙ ap Some (sym (get_or-take n xs i 0 before) ∙ ap (λ (bytes : List ℕ). get_or bytes i 0) agree ∙ get_or-take n ys i 0 before)
    ∙ sym (slice_get-get_or ys i 0 in_ys)

-- a file agrees with the magic no further than to a byte that differs
agrees_to_it : (file : List ℕ) (at n : ℕ) → DiffersAt file at → take n file ≡ take n magic → n ≤ at
agrees_to_it file at n differs agree = elim (cases_lt at n) [
  | inl past ↦ absurd (differs.differs (same_byte file magic n at agree past differs.within.1 differs.within.0))
  | inr not_past ↦ not_past
]

-- a file that ends too early agrees with the magic to its end
agrees_to_end : (file : List ℕ) (at : ℕ) → EndsAt file at → take at file ≡ take at magic
agrees_to_end file at ends = take_all at file (omega (arith, ends.ends)) ∙ ends.agrees

-- a byte that differs comes before the file's end
not_behind_end : (file : List ℕ) (at end : ℕ) → DiffersAt file at → EndsAt file end → ⊥
not_behind_end file at end differs ends = omega (arith, agrees_to_it file at end differs (agrees_to_end file end ends), ends.ends, differs.within.1)

-- a head is at fault at one place
pub one_head_fault : (file : List ℕ) (at other : ℕ) → HeadFault file at → HeadFault file other → at ≡ other
one_head_fault file at other (inl one) (inl two) = omega (arith, agrees_to_it file at other one two.agrees, agrees_to_it file other at two one.agrees)
one_head_fault file at other (inl one) (inr two) = absurd (not_behind_end file at other one two)
one_head_fault file at other (inr one) (inl two) = absurd (not_behind_end file other at two one)
one_head_fault file at other (inr one) (inr two) = one.ends ∙ sym two.ends

-- the magic with a byte behind it is not at fault
pub head_holds : (file chain : List ℕ) (at : ℕ) → file ≡ magic ++ chain → 0 < length chain → HeadFault file at → ⊥
head_holds file chain at split more (inl differs) =
    let agree : HasMagic file = ap (take (length magic)) split ∙ take_at magic chain (length magic) refl in
    omega (arith, agrees_to_it file at (length magic) differs agree, differs.within.0)
head_holds file chain at split more (inr ends) = omega (arith, ap length split, length-append magic chain, ends.ends, ends.short)

-- a file has so many bytes, and they are those of the magic
abbrev Agrees : List ℕ → ℕ → Type 0
Agrees file n = (n ≤ length file) × (take n file ≡ take n magic)

-- the next byte agrees too, it differs, or the file ends before it
next_byte : (file : List ℕ) (n : ℕ) → n < length magic → Agrees file n → Agrees file (suc n) ⊎ HeadFault file n
next_byte file n below agree = elim (cases_lt n (length file)) [
  | inl more ↦ elim (cases_eq (get_or file n 0) (get_or magic n 0)) [
    | inl same ↦ inl (omega arith, rw add-one at (take_more_same file magic n 0 more below agree.1 same))
    | inr other ↦ inr (inl (record {
      within = (below, more);
      agrees = agree.1;
      differs = λ same. other (cc (slice_get-get_or file n 0 more, slice_get-get_or magic n 0 below));
    }))
  ]
  | inr ends ↦ inr (inr (record { ends = omega arith; short = omega arith; agrees = sym (take_all n file ends) ∙ agree.1 }))
]

-- a file agrees with the magic so far, or its head is at fault
agrees_or_fault : (file : List ℕ) (n : ℕ) → n ≤ length magic → Agrees file n ⊎ ((at : ℕ) × HeadFault file at)
agrees_or_fault file zero within = inl (omega arith, refl)
agrees_or_fault file (suc n) within = elim (agrees_or_fault file n (omega arith)) [
  | inl agree ↦ elim (next_byte file n (omega arith) agree) [ inl further ↦ inl further | inr fault ↦ inr (n, fault) ]
  | inr fault ↦ inr fault
]

-- a file has the magic with a byte behind it, or its head is at fault
pub head_cases : (file : List ℕ) → ((chain : List ℕ) × (file ≡ magic ++ chain) × (0 < length chain)) ⊎ ((at : ℕ) × HeadFault file at)
head_cases file = elim (agrees_or_fault file (length magic) (omega arith)) [
  | inl agree ↦ elim (cases_lt (length magic) (length file)) [
    | inl more ↦
        let chain = drop (length magic) file in
        inl (chain, sym (take-append-drop (length magic) file) ∙ ap (λ (front : List ℕ). front ++ chain) agree.1, omega (arith, length-drop (length magic) file))
    | inr ends ↦ inr (length magic, inr (record { ends = omega arith; short = omega arith; agrees = sym (take_all (length magic) file ends) ∙ agree.1 }))
  ]
  | inr fault ↦ inr fault
]
