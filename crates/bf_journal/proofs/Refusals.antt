-- A file at which reopening stops does not reopen.
use Rattle.std.proofs.Common.{◌≡◌, inl, inr, ℕ, ◌<◌, ◌≤◌, All, suc, List, [], ◌∷◌, ◌++◌, length, flat_map, Option, None, Some, refl, sym, ◌∙◌, ap, subst, arith, length-append}
use Rattle.std.proofs.lemmas.List.{append_assoc, append_cancel_left}
use Rattle.bf_log.specs.Format.{HeadFault, magic, entry, front, longest_payload}
use Rattle.bf_log.proofs.Entries.{Entries, EndsEntries, one_entry, closed_ends, broken_ends, chain_entries, broken_entries}
use Rattle.bf_log.proofs.Heads.{head_holds}
use Rattle.bf_log.proofs.OneReading.{not_both, one_fault}
use Rattle.bf_journal.specs.Reopening.{After, IsIllegal, ReopensTo, RefusedAt, IllegalAt, BreaksAt}

-- what holds of all holds of the first and of those behind it
fits_first : (payload : List ℕ) (payloads : List (List ℕ)) → All (λ one. length one ≤ longest_payload) (payload ∷ payloads) → length payload ≤ longest_payload
fits_first payload payloads fit = fit 0 [] (omega arith)

fits_behind : (payload : List ℕ) (payloads : List (List ℕ)) → All (λ one. length one ≤ longest_payload) (payload ∷ payloads) → All (λ one. length one ≤ longest_payload) payloads
fits_behind payload payloads fit = λ k d within. fit (suc k) d (omega (arith, within))

-- an entry, and what is behind it
split : (payload : List ℕ) (payloads : List (List ℕ)) (rest bytes : List ℕ) → bytes ≡ flat_map entry (payload ∷ payloads) ++ rest
    → bytes ≡ entry payload ++ (flat_map entry payloads ++ rest)
split payload payloads rest bytes is = is ∙ append_assoc (entry payload) (flat_map entry payloads) rest

-- entries whose bytes begin with others have their payloads first
entries_first : {End : List ℕ → Type 0} → EndsEntries End → (payloads others : List (List ℕ)) (rest bytes : List ℕ) → All (λ one. length one ≤ longest_payload) payloads
    → 0 < length rest → bytes ≡ flat_map entry payloads ++ rest → Entries End others bytes → (more : List (List ℕ)) × (others ≡ payloads ++ more)
unfolding Entries
entries_first ends [] others rest bytes fit goes_on is chain = (others, refl)
entries_first ends (payload ∷ payloads) [] rest bytes fit goes_on is chain =
    absurd (ends.no_entry payload (flat_map entry payloads ++ rest) bytes chain (fits_first payload payloads fit) (split payload payloads rest bytes is)
    (omega (arith, goes_on, length-append (flat_map entry payloads) rest)))
entries_first ends (payload ∷ payloads) (other ∷ others) rest bytes fit goes_on is chain =
    let same = one_entry payload other (flat_map entry payloads ++ rest) chain.0 (fits_first payload payloads fit) chain.1
    (sym (split payload payloads rest bytes is) ∙ chain.2) in
    let first : payload ≡ other = same.0 in
    let later = entries_first ends payloads others rest chain.0 (fits_behind payload payloads fit) goes_on (sym same.1) chain.3 in
    (later.0, ap (λ (one : List ℕ). one ∷ others) (sym first) ∙ ap (λ (all : List (List ℕ)). payload ∷ all) later.1)

module _ {L : Type 0} (Steps : L → List ℕ → L → Type 0)
    (once : (state : L) (payload : List ℕ) (a b : L) → Steps state payload a → Steps state payload b → a ≡ b) where
  -- what is not legal in one state is not in the same
  illegal_there : (payload : List ℕ) (here there : L) → here ≡ there → IsIllegal Steps there payload → IsIllegal Steps here payload
  illegal_there payload here there same illegal = subst (λ (state : L). IsIllegal Steps state payload) (sym same) illegal

  -- behind a record that is not legal nothing is
  after_illegal : (payloads : List (List ℕ)) (payload : List ℕ) (more : List (List ℕ)) (start state last : L) → After Steps start payloads state
      → IsIllegal Steps state payload → After Steps start ((payloads ++ payload ∷ []) ++ more) last → ⊥
  after_illegal [] payload more start state last legal illegal made = illegal_there payload start state legal illegal made.0 made.1
  after_illegal (before ∷ payloads) payload more start state last legal illegal made =
      after_illegal payloads payload more legal.0 state last legal.2 illegal
      (subst (λ (next : L). After Steps next ((payloads ++ payload ∷ []) ++ more) last) (once start before made.0 legal.0 made.1 legal.1) made.2)

  -- two first records that are not legal are one
  same_place : (payloads others : List (List ℕ)) (payload other rest more bytes : List ℕ) (start state found : L)
      → All (λ one. length one ≤ longest_payload) (payloads ++ payload ∷ []) → All (λ one. length one ≤ longest_payload) (others ++ other ∷ [])
      → bytes ≡ flat_map entry (payloads ++ payload ∷ []) ++ rest → bytes ≡ flat_map entry (others ++ other ∷ []) ++ more
      → After Steps start payloads state → IsIllegal Steps state payload → After Steps start others found → IsIllegal Steps found other
      → payloads ≡ others
  same_place [] [] payload other rest more bytes start state found fit fits is has legal illegal good bad = refl
  same_place [] (next ∷ others) payload other rest more bytes start state found fit fits is has legal illegal good bad =
      let same = one_entry payload next (flat_map entry [] ++ rest) (flat_map entry (others ++ other ∷ []) ++ more) (fits_first payload [] fit)
      (fits_first next (others ++ other ∷ []) fits) (sym (split payload [] rest bytes is) ∙ split next (others ++ other ∷ []) more bytes has) in
      absurd (illegal_there payload start state legal illegal good.0 (subst (λ (made : List ℕ). Steps start made good.0) (sym same.0) good.1))
  same_place (next ∷ payloads) [] payload other rest more bytes start state found fit fits is has legal illegal good bad =
      let same = one_entry next other (flat_map entry (payloads ++ payload ∷ []) ++ rest) (flat_map entry [] ++ more) (fits_first next (payloads ++ payload ∷ []) fit)
      (fits_first other [] fits) (sym (split next (payloads ++ payload ∷ []) rest bytes is) ∙ split other [] more bytes has) in
      absurd (illegal_there other start found good bad legal.0 (subst (λ (made : List ℕ). Steps start made legal.0) same.0 legal.1))
  same_place (next ∷ payloads) (then ∷ others) payload other rest more bytes start state found fit fits is has legal illegal good bad =
      let same = one_entry next then (flat_map entry (payloads ++ payload ∷ []) ++ rest) (flat_map entry (others ++ other ∷ []) ++ more)
      (fits_first next (payloads ++ payload ∷ []) fit) (fits_first then (others ++ other ∷ []) fits)
      (sym (split next (payloads ++ payload ∷ []) rest bytes is) ∙ split then (others ++ other ∷ []) more bytes has) in
      let first : next ≡ then = same.0 in
      let reached : good.0 ≡ legal.0 = once start next good.0 legal.0 (subst (λ (made : List ℕ). Steps start made good.0) (sym first) good.1) legal.1 in
      let later = same_place payloads others payload other rest more (flat_map entry (payloads ++ payload ∷ []) ++ rest) legal.0 state found
      (fits_behind next (payloads ++ payload ∷ []) fit) (fits_behind then (others ++ other ∷ []) fits) refl same.1 legal.2 illegal
      (subst (λ (from : L). After Steps from others found) reached good.2) bad in
      ap (λ (all : List (List ℕ)). next ∷ all) later ∙ ap (λ (one : List ℕ). one ∷ others) first

module _ {L : Type 0} (first : L) (Steps : L → List ℕ → L → Type 0)
    (once : (state : L) (payload : List ℕ) (a b : L) → Steps state payload a → Steps state payload b → a ≡ b) where
  illegal_is_refused : (file : List ℕ) (at : ℕ) (state : L) → IllegalAt first Steps file at → ReopensTo first Steps file (Some state) → ⊥
  illegal_is_refused file at state illegal reopens =
      let begins : reopens.1.0 ≡ flat_map entry (illegal.payloads ++ illegal.payload ∷ []) ++ illegal.chain =
      append_cancel_left magic reopens.1.0 (flat_map entry (illegal.payloads ++ illegal.payload ∷ []) ++ illegal.chain)
      (sym reopens.1.1 ∙ illegal.there ∙ append_assoc magic (flat_map entry (illegal.payloads ++ illegal.payload ∷ [])) illegal.chain) in
      let found = entries_first closed_ends (illegal.payloads ++ illegal.payload ∷ []) reopens.0 illegal.chain reopens.1.0 illegal.fit illegal.goes_on begins (chain_entries reopens.0 reopens.1.0 reopens.1.2) in
      after_illegal Steps once illegal.payloads illegal.payload found.0 first illegal.state state illegal.legal illegal.illegal
      (subst (λ (all : List (List ℕ)). After Steps first all state) found.1 reopens.2)

  pub refused_is_refused : (file : List ℕ) (at : ℕ) (left : Option L) → RefusedAt first Steps file at → ReopensTo first Steps file left → left ≡ None
  refused_is_refused file at None refused reopens = refl
  refused_is_refused file at (Some state) (inl head) reopens = absurd (not_both file reopens.0 at reopens.1 (inl head))
  refused_is_refused file at (Some state) (inr (inl breaks)) reopens = absurd (not_both file reopens.0 at reopens.1 (inr (breaks.payloads, breaks.breaks)))
  refused_is_refused file at (Some state) (inr (inr illegal)) reopens = absurd (illegal_is_refused file at state illegal reopens)

  -- the bytes behind the magic, up to the record that is not legal
  behind_magic : (file : List ℕ) (at : ℕ) (illegal : IllegalAt first Steps file at)
      → file ≡ magic ++ (flat_map entry (illegal.payloads ++ illegal.payload ∷ []) ++ illegal.chain)
  behind_magic file at illegal = illegal.there ∙ append_assoc magic (flat_map entry (illegal.payloads ++ illegal.payload ∷ [])) illegal.chain

  sound_head : (file : List ℕ) (at other : ℕ) → IllegalAt first Steps file at → HeadFault file other → ⊥
  sound_head file at other illegal head =
      let bytes = flat_map entry (illegal.payloads ++ illegal.payload ∷ []) in
      head_holds file (bytes ++ illegal.chain) other (behind_magic file at illegal) (omega (arith, illegal.goes_on, length-append bytes illegal.chain)) head

  sound_chain : (file : List ℕ) (at other : ℕ) → IllegalAt first Steps file at → BreaksAt first Steps file other → ⊥
  sound_chain file at other illegal breaks =
      let chain = breaks.breaks.0 in
      let begins : chain ≡ flat_map entry (illegal.payloads ++ illegal.payload ∷ []) ++ illegal.chain =
      append_cancel_left magic chain (flat_map entry (illegal.payloads ++ illegal.payload ∷ []) ++ illegal.chain)
      (sym breaks.breaks.1 ∙ behind_magic file at illegal) in
      let found = entries_first broken_ends (illegal.payloads ++ illegal.payload ∷ []) breaks.payloads illegal.chain chain illegal.fit illegal.goes_on begins
      (broken_entries breaks.payloads chain breaks.breaks.2) in
      after_illegal Steps once illegal.payloads illegal.payload found.0 first illegal.state breaks.state illegal.legal illegal.illegal
      (subst (λ (all : List (List ℕ)). After Steps first all breaks.state) found.1 breaks.legal)

  pub one_refusal : (file : List ℕ) (at other : ℕ) → RefusedAt first Steps file at → RefusedAt first Steps file other → at ≡ other
  one_refusal file at other (inl one) (inl two) = one_fault file at other (inl one) (inl two)
  one_refusal file at other (inl one) (inr (inl two)) = one_fault file at other (inl one) (inr (two.payloads, two.breaks))
  one_refusal file at other (inl one) (inr (inr two)) = absurd (sound_head file other at two one)
  one_refusal file at other (inr (inl one)) (inl two) = one_fault file at other (inr (one.payloads, one.breaks)) (inl two)
  one_refusal file at other (inr (inl one)) (inr (inl two)) = one_fault file at other (inr (one.payloads, one.breaks)) (inr (two.payloads, two.breaks))
  one_refusal file at other (inr (inl one)) (inr (inr two)) = absurd (sound_chain file other at two one)
  one_refusal file at other (inr (inr one)) (inl two) = absurd (sound_head file at other one two)
  one_refusal file at other (inr (inr one)) (inr (inl two)) = absurd (sound_chain file at other one two)
  one_refusal file at other (inr (inr one)) (inr (inr two)) =
      let same : one.payloads ≡ two.payloads = same_place Steps once one.payloads two.payloads one.payload two.payload one.chain two.chain
      (flat_map entry (one.payloads ++ one.payload ∷ []) ++ one.chain) first one.state two.state one.fit two.fit refl
      (append_cancel_left magic (flat_map entry (one.payloads ++ one.payload ∷ []) ++ one.chain) (flat_map entry (two.payloads ++ two.payload ∷ []) ++ two.chain)
      (sym (behind_magic file at one) ∙ behind_magic file other two))
      one.legal one.illegal two.legal two.illegal in
      one.gate ∙ ap (λ (payloads : List (List ℕ)). length (front payloads)) same ∙ sym two.gate
