-- What is told in one session grows.
use Rattle.std.proofs.Common.{◌≡◌, ◌≢◌, ℕ, suc, ◌+◌, ◌-◌, ◌≤◌, Bool, true, List, [], ◌∷◌, ◌++◌, length, map, filter, drop, Some, refl, sym, ap, ap₂, ◌∙◌, arith, inl, inr, length-append}
use Rattle.std.specs.Prelude.{Contains, find, min}
use Rattle.std.specs.List.{AllByRecursion, slice_index_or, slice_set}
use Rattle.std.proofs.lemmas.Bool.{cases_Bool, cases_eq}
use Rattle.std.proofs.lemmas.List.{length-drop, length-map, length-take}
use Rattle.bf_base.specs.Lists.{part}
use Rattle.bf_tree.specs.declared.history.Entry.{Entry}
use Rattle.bf_tree.specs.declared.reply.Cause.{Cause}
use Rattle.bf_tree.specs.declared.reply.Reply.{Reply}
use Rattle.bf_tree.specs.declared.reply.Reply.TheVariants.{Ended}
use Rattle.bf_sql.specs.Groups.{groups_in, has_statement, session_at, statements_in}
use Rattle.bf_sql.specs.History.{IsApart, replies_to, told}
use Rattle.bf_machine.specs.interleaving.Machines.{Group, Machine, told_at}
use Rattle.bf_machine.proofs.interleaving.Answers.{Told, told_from, told_in, told_more}
use Rattle.bf_machine.proofs.interleaving.Entries.{part_in_front}
use Rattle.bf_machine.proofs.interleaving.Places.{from_one, set_same, set_other}
use Rattle.bf_machine.proofs.interleaving.Texts.{AreTexts}

pub length-part : {X : Type 0} (first last : ℕ) (xs : List X) → length (part first last xs) ≡ min (last - (first - 1)) (length xs - (first - 1))
length-part first last xs = length-take (last - (first - 1)) (drop (first - 1) xs) ∙ ap (min (last - (first - 1))) (length-drop (first - 1) xs)

-- a group that is found is there
found_there : (p : Group → Bool) (xs : List Group) (g : Group) → find p xs ≡ Some g → Contains xs g
found_there p [] g is = absurd cc
found_there p (x ∷ xs) g is = elim (cases_Bool (p x)) as (λ _. Contains (x ∷ xs) g) [
  | inl here ↦
      let e : Some x ≡ Some g = rw here at is in
      let same : x ≡ g = cc in
      (0, omega arith, same)
  | inr other ↦
      let e : find p xs ≡ Some g = rw other at is in
      let later = found_there p xs g e in
      (suc later.0, omega (arith, later.1), later.2)
]

-- a statement that stands apart does so in transcripts in which each group that was told is told the same, where the cause that
-- it is told is still allowed
module _ (m : Machine) (texts : AreTexts m.script) (then : List (List Reply)) (alike : (t : ℕ) (g : Group) → g.1 ≤ length (told_at m t) → replies_to then t g ≡ replies_to m.told t g)
    (Allowed AllowedThen : ℕ → Group → Cause → Type 0) (allowed_still : (t : ℕ) (g : Group) (cause : Cause) → g.1 ≤ length (told_at m t) → Allowed t g cause → AllowedThen t g cause) where
  pub apart_as : (a : Told) → IsApart m.script Allowed m.told a → IsApart m.script AllowedThen then a
  apart_as a was = elim was as (λ _. IsApart m.script AllowedThen then a) [
    | inl stray ↦ inl stray
    | inr caused ↦
        let g = caused.0 in
        let cause = caused.1 in
        let among = found_there (has_statement a.1) (groups_in m.script a.0) g caused.2 in
        let b = texts.bounds a.0 g among in
        let sizes : length (replies_to m.told a.0 g) ≡ length (statements_in m.script a.0 g) =
        ap (λ (rs : List Reply). length rs) caused.4 ∙ length-map (statements_in m.script a.0 g) (λ _. Ended cause) in
        let within : g.1 ≤ length (told_at m a.0) =
        omega (arith, sizes, length-part g.0 g.1 (told_at m a.0), length-part g.0 g.1 (session_at m.script a.0).statements, b.0, b.1, b.2) in
        inr (g, cause, caused.2, allowed_still a.0 g cause within caused.3, alike a.0 g within ∙ caused.4)
  ]

module _ (m : Machine) (s : ℕ) (more : List Reply) (low : 1 ≤ s) (high : s ≤ length m.told) where
  abbrev pub told_then : List (List Reply)
  told_then = slice_set m.told (s - 1) (told_at m s ++ more)

  abbrev pub told_after : ℕ → List Reply
  told_after t = slice_index_or ([] ∷ told_then) t []

  -- in the session, and in the others
  pub told_here : told_after s ≡ told_at m s ++ more
  told_here = set_same [] [] m.told s (told_at m s ++ more) low high

  pub told_there : (t : ℕ) → t ≢ s → told_after t ≡ told_at m t
  told_there t apart = set_other [] [] m.told s t (told_at m s ++ more) low apart

  pub size_here : length (told_after s) ≡ length (told_at m s) + length more
  size_here = ap (λ (rs : List Reply). length rs) told_here ∙ length-append (told_at m s) more

  pub grows : (t : ℕ) → length (told_at m t) ≤ length (told_after t)
  grows t = elim (cases_eq t s) as (λ _. length (told_at m t) ≤ length (told_after t)) [
    | inl same ↦
        let sizes : length (told_after t) ≡ length (told_at m t) + length more =
        ap (λ (t : ℕ). length (told_after t)) same ∙ (size_here ∙ ap (λ (t : ℕ). length (told_at m t) + length more) (sym same)) in
        omega (arith, sizes)
    | inr apart ↦
        let sizes : length (told_after t) ≡ length (told_at m t) = ap (λ (rs : List Reply). length rs) (told_there t apart) in
        omega (arith, sizes)
  ]

  -- a group that lies in what was told is told the same
  pub told_alike : (t : ℕ) (g : Group) → g.1 ≤ length (told_at m t) → replies_to told_then t g ≡ replies_to m.told t g
  told_alike t g within = elim (cases_eq t s) as (λ _. replies_to told_then t g ≡ replies_to m.told t g) [
    | inl same ↦
        let here : told_after t ≡ told_at m t ++ more = ap told_after same ∙ (told_here ∙ ap (λ (s : ℕ). told_at m s ++ more) (sym same)) in
        ap (part g.0 g.1) here ∙ part_in_front g.0 g.1 (told_at m t) more within
    | inr apart ↦ ap (part g.0 g.1) (told_there t apart)
  ]

  -- and so are entries
  pub entries_alike : (history : List Entry) → AllByRecursion (λ d. d.last ≤ length (told_at m d.session)) history → map (told told_then) history ≡ map (told m.told) history
  entries_alike [] placed = refl
  entries_alike (d ∷ history) placed =
      ap₂ (λ (rs : List Reply) (rest : List (List Reply)). rs ∷ rest) (told_alike d.session (d.first, d.last) placed.0) (entries_alike history placed.1)

  pub placed_still : (history : List Entry) → AllByRecursion (λ d. d.last ≤ length (told_at m d.session)) history → AllByRecursion (λ d. d.last ≤ length (told_after d.session)) history
  placed_still [] placed = tt
  placed_still (d ∷ history) placed = (omega (arith, placed.0, grows d.session), placed_still history placed.1)

  -- a statement that stands apart still does
  pub apart_still : AreTexts m.script → (Allowed AllowedThen : ℕ → Group → Cause → Type 0) → ((t : ℕ) (g : Group) (cause : Cause) → g.1 ≤ length (told_at m t) → Allowed t g cause → AllowedThen t g cause)
      → (a : Told) → IsApart m.script Allowed m.told a → IsApart m.script AllowedThen told_then a
  apart_still texts Allowed AllowedThen allowed_still = apart_as m texts told_then told_alike Allowed AllowedThen allowed_still

  -- what is so of each statement that was told, and of those told then, is so of all
  pub others_told : (P Q : Told → Type 0) (p q : Told → Bool) → ((a : Told) → P a → Q a) → ((a : Told) → q a ≡ true → p a ≡ true)
      → AllByRecursion Q (filter q (told_in s (1 + length (told_at m s)) more)) → AllByRecursion P (filter p (told_from 1 m.told)) → AllByRecursion Q (filter q (told_from 1 told_then))
  others_told P Q p q weaker fewer new old =
      let i = s - 1 in
      let at : 1 + i ≡ s = omega (arith, low) in
      let here : slice_index_or m.told i [] ≡ told_at m s = from_one [] [] m.told s low in
      let all = told_more P Q p q weaker fewer 1 i m.told more (rw (here, at) new) old in
      rw here at all
