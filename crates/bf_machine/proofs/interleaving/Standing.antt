-- Transcripts as they stand, with the replies of open groups in their places, are legal.
use Rattle.std.proofs.Common.{◌≡◌, ℕ, zero, suc, ◌+◌, ◌<◌, ◌≤◌, Bool, true, false, not, ◌&&◌, ◌||◌, List, [], ◌∷◌, length, map, filter, Option, Some, None, refl, sym, ap, ap₂, subst, ◌∙◌, arith, inl, inr}
use Rattle.std.specs.Prelude.{zip}
use Rattle.std.specs.List.{AllByRecursion, list_any, slice_index_or}
use Rattle.std.proofs.lemmas.Bool.{and_from, cases_Bool, false≢true, or_right}
use Rattle.std.proofs.lemmas.Bool.Decides.{nat_tests}
use Rattle.std.proofs.lemmas.List.Elements.{filter-append}
use Rattle.bf_base.specs.Lists.{part}
use Rattle.bf_tree.specs.declared.history.Entry.{Entry}
use Rattle.bf_tree.specs.declared.reply.Cause.{Cause}
use Rattle.bf_tree.specs.declared.reply.Reply.{Reply}
use Rattle.bf_sql.specs.Database.{Database}
use Rattle.bf_sql.specs.Groups.{groups_in, has_statement, session_at}
use Rattle.bf_sql.specs.History.{IsApart, replies_to, stands_in, told}
use Rattle.bf_machine.specs.InOrder.{none_open}
use Rattle.bf_machine.specs.interleaving.Kept.{AllowedNow, IsKept, TranscriptsLegal}
use Rattle.bf_machine.specs.interleaving.Machines.{Group, Machine, Open, has_open, is_group, open_at, told_at, transcripts_of, with_replies}
use Rattle.bf_machine.proofs.interleaving.Answers.{Told, all_in_both, all_of_back, all_of_front, none_kept, still, told_from, told_in, told_in-append}
use Rattle.bf_machine.proofs.interleaving.Entries.{any_of, part_in_front}
use Rattle.bf_machine.proofs.interleaving.Telling.{apart_as, length-part}
use Rattle.bf_machine.proofs.interleaving.Texts.{are_texts}

-- the transcript of a session
standing : (ts : List (List Reply)) (os : List (Option Open)) (k : ℕ) → length ts ≡ length os
    → slice_index_or (map (λ p. with_replies p.0 p.1) (zip ts os)) k [] ≡ with_replies (slice_index_or ts k []) (slice_index_or os k None)
standing [] [] k same = refl
standing [] (o ∷ os) k same = absurd (omega (arith, same))
standing (t ∷ ts) [] k same = absurd (omega (arith, same))
standing (t ∷ ts) (o ∷ os) zero same = refl
standing (t ∷ ts) (o ∷ os) (suc k) same = standing ts os k (omega (arith, same))

-- what is told of a group behind which some replies may stand
in_front : (g : Group) (told : List Reply) (o : Option Open) → g.1 ≤ length told → part g.0 g.1 (with_replies told o) ≡ part g.0 g.1 told
in_front g told None within = refl
in_front g told (Some o) within = part_in_front g.0 g.1 told o.replies within

-- replies that no test keeps may stand behind those of each session
module _ (P Q : Told → Type 0) (p q : Told → Bool) (weaker : (a : Told) → P a → Q a) (fewer : (a : Told) → q a ≡ true → p a ≡ true) where
  abbrev AreOut : ℕ → ℕ → Option Open → Type 0
  AreOut k from o = (group : Open) → o ≡ Some group → (j : ℕ) (r : Reply) → 1 + from ≤ j → j < 1 + from + length group.replies → q (k, j, r) ≡ false

  own_still : (k : ℕ) (t : List Reply) (o : Option Open) → AreOut k (length t) o → AllByRecursion P (filter p (told_in k 1 t)) → AllByRecursion Q (filter q (told_in k 1 (with_replies t o)))
  own_still k t None out all = still P Q p q weaker fewer (told_in k 1 t) all
  own_still k t (Some o) out all =
      rw (told_in-append k 1 t o.replies, filter-append)
      (all_in_both Q (filter q (told_in k 1 t)) _ (still P Q p q weaker fewer (told_in k 1 t) all)
      (none_kept P Q p q weaker fewer k (1 + length t) o.replies (λ j r low high. out o refl j r low high)))

  all_still : (k : ℕ) (ts : List (List Reply)) (os : List (Option Open)) → length ts ≡ length os
      → ((i : ℕ) → AreOut (k + i) (length (slice_index_or ts i [])) (slice_index_or os i None))
      → AllByRecursion P (filter p (told_from k ts)) → AllByRecursion Q (filter q (told_from k (map (λ p. with_replies p.0 p.1) (zip ts os))))
  all_still k [] [] same out all = tt
  all_still k [] (o ∷ os) same out all = absurd (omega (arith, same))
  all_still k (t ∷ ts) [] same out all = absurd (omega (arith, same))
  all_still k (t ∷ ts) (o ∷ os) same out all =
      let split = rw filter-append at all in
      let here : k + 0 ≡ k = omega arith in
      let first = own_still k t o (subst (λ (n : ℕ). AreOut n (length t) o) here (out 0)) (all_of_front P (filter p (told_in k 1 t)) _ split) in
      let rest = all_still (k + 1) ts os (omega (arith, same))
      (λ i. let next : k + suc i ≡ k + 1 + i = omega arith in
      subst (λ (n : ℕ). AreOut n (length (slice_index_or ts i [])) (slice_index_or os i None)) next (out (suc i)))
      (all_of_back P (filter p (told_in k 1 t)) _ split) in
      rw filter-append (all_in_both Q (filter q (told_in k 1 (with_replies t o))) _ first rest)

none_in : (a : Told) (gs : List Group) → list_any (λ g. none_open a.0 g && has_statement a.1 g) gs ≡ false
none_in a [] = refl
none_in a (g ∷ gs) = none_in a gs

module _ (start : Database) (m : Machine) (kept : IsKept start m) where
  sizes : length m.told ≡ length m.opens
  sizes = kept.shaped.told ∙ sym kept.shaped.opens

  transcript_at : (t : ℕ) → slice_index_or ([] ∷ transcripts_of m) t [] ≡ with_replies (told_at m t) (open_at m t)
  transcript_at zero = refl
  transcript_at (suc t) = standing m.told m.opens t sizes

  alike : (t : ℕ) (g : Group) → g.1 ≤ length (told_at m t) → replies_to (transcripts_of m) t g ≡ replies_to m.told t g
  alike t g within = ap (part g.0 g.1) (transcript_at t) ∙ in_front g (told_at m t) (open_at m t) within

  entries_alike : (history : List Entry) → AllByRecursion (λ d. d.last ≤ length (told_at m d.session)) history → map (told (transcripts_of m)) history ≡ map (told m.told) history
  entries_alike [] placed = refl
  entries_alike (d ∷ history) placed =
      ap₂ (λ (rs : List Reply) (rest : List (List Reply)). rs ∷ rest) (alike d.session (d.first, d.last) placed.0) (entries_alike history placed.1)

  abbrev Allowed : ℕ → Group → Cause → Type 0
  Allowed = AllowedNow start m

  abbrev in_entry : Told → Bool
  in_entry a = list_any (stands_in a.0 a.1) m.history

  abbrev kept_by : (ℕ → Group → Bool) → Told → Bool
  kept_by is_open a = not (in_entry a || list_any (λ g. is_open a.0 g && has_statement a.1 g) (groups_in m.script a.0))

  fewer : (a : Told) → kept_by (has_open m) a ≡ true → kept_by none_open a ≡ true
  fewer a more = elim (cases_Bool (in_entry a)) as (λ _. kept_by none_open a ≡ true) [
    | inl there ↦
        let out : kept_by (has_open m) a ≡ false = rw there refl in
        absurd (false≢true (sym out ∙ more))
    | inr out ↦ rw (out, none_in a (groups_in m.script a.0)) refl
  ]

  -- the replies of an open group stand in it
  are_out : (i j : ℕ) (r : Reply) (o : Open) → open_at m (suc i) ≡ Some o → 1 + length (told_at m (suc i)) ≤ j → j < 1 + length (told_at m (suc i)) + length o.replies
      → kept_by (has_open m) (suc i, j, r) ≡ false
  are_out i j r o there low high =
      let group = kept.open_groups_replay.each (suc i) o there in
      let bounds = (are_texts m.script).bounds (suc i) o.group group.whole in
      let whole = length-part o.group.0 o.group.1 (session_at m.script (suc i)).statements in
      let from : o.group.0 ≤ j = omega (arith, group.next, low) in
      let to : j ≤ o.group.1 = omega (arith, group.next, group.within, whole, high, bounds.0, bounds.1, bounds.2) in
      let has : has_statement j o.group ≡ true = grind (arith, nat_tests, from, to) in
      let itself : is_group o.group (Some o) ≡ true = grind (arith, nat_tests) in
      let is_open : has_open m (suc i) o.group ≡ true = ap (is_group o.group) there ∙ itself in
      let found : list_any (λ g. has_open m (suc i) g && has_statement j g) (groups_in m.script (suc i)) ≡ true =
      any_of (λ g. has_open m (suc i) g && has_statement j g) (groups_in m.script (suc i)) o.group group.whole (and_from _ _ is_open has) in
      ap not (or_right (in_entry (suc i, j, r)) _ found)

  pub transcripts_legal : TranscriptsLegal start m
  transcripts_legal =
      let legal = kept.history_legal.legal in
      record {
        whole_groups = legal.whole_groups;
        in_order = legal.in_order;
        outcomes = legal.outcomes;
        replies = entries_alike m.history kept.history_legal.placed ∙ legal.replies;
        others = all_still (IsApart m.script Allowed m.told) (IsApart m.script Allowed (transcripts_of m)) (kept_by none_open) (kept_by (has_open m))
            (apart_as m (are_texts m.script) (transcripts_of m) alike Allowed Allowed (λ t g cause within allowed. allowed)) fewer 1 m.told m.opens sizes
            (λ i group there j r low high.
            let next : suc i ≡ 1 + i = omega arith in
            subst (λ (n : ℕ). kept_by (has_open m) (n, j, r) ≡ false) next (are_out i j r group there low high)) legal.others;
      }
