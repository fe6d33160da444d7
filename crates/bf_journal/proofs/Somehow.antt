-- Every file reopens, or there is a place at which reopening stops.
use Rattle.std.proofs.Common.{◌≡◌, ◌⊎◌, inl, inr, ⊎_elim, ℕ, ◌<◌, ◌≤◌, All, List, [], ◌∷◌, ◌++◌, length, flat_map, Some, refl, sym, ◌∙◌, ap, subst}
use Rattle.std.proofs.lemmas.List.{append_assoc}
use Rattle.std.proofs.lemmas.List.Elements.{All-nil, All-cons}
use Rattle.bf_log.specs.Format.{magic, entry, front, longest_payload}
use Rattle.bf_log.proofs.Entries.{Entries, EndsEntries, closed_ends, broken_ends, chain_entries, broken_entries, entries_there}
use Rattle.bf_log.proofs.SomeReading.{some_reading}
use Rattle.bf_journal.specs.Reopening.{After, IsIllegal, ReopensTo, RefusedAt, IllegalAt, BreaksAt}

-- some payloads, the first of which that is no legal record, and those behind it
record Stops {L : Type 0} (Steps : L → List ℕ → L → Type 0) (start : L) (payloads : List (List ℕ)) : Type 0 where
  pub before : List (List ℕ)
  pub payload : List ℕ
  pub more : List (List ℕ)
  pub state : L
  pub split : payloads ≡ (before ++ payload ∷ []) ++ more
  pub legal : After Steps start before state
  pub illegal : IsIllegal Steps state payload

module _ {L : Type 0} (Steps : L → List ℕ → L → Type 0)
    (decided : (state : L) (payload : List ℕ) → ((next : L) × Steps state payload next) ⊎ IsIllegal Steps state payload) where
  stops_or_gives : (payloads : List (List ℕ)) (start : L) → ((state : L) × After Steps start payloads state) ⊎ Stops Steps start payloads
  stops_or_gives [] start = inl (start, refl)
  stops_or_gives (payload ∷ payloads) start = ⊎_elim
      (λ made. ⊎_elim
      (λ given. inl (given.0, (made.0, made.1, given.1)))
      (λ stop. let later : Stops Steps start (payload ∷ payloads) = record {
        before = payload ∷ stop.before;
        payload = stop.payload;
        more = stop.more;
        state = stop.state;
        split = ap (λ (all : List (List ℕ)). payload ∷ all) stop.split;
        legal = (made.0, made.1, stop.legal);
        illegal = stop.illegal;
      } in inr later)
      (stops_or_gives payloads made.0))
      (λ illegal. let here : Stops Steps start (payload ∷ payloads) = record {
        before = [];
        payload = payload;
        more = payloads;
        state = start;
        split = refl;
        legal = refl;
        illegal = illegal;
      } in inr here)
      (decided start payload)

-- the first of some entries
record First (payloads : List (List ℕ)) (bytes : List ℕ) : Type 0 where
  pub rest : List ℕ
  pub split : bytes ≡ flat_map entry payloads ++ rest
  pub goes_on : 0 < length rest
  pub fit : All (λ one. length one ≤ longest_payload) payloads

first_of_entries : {End : List ℕ → Type 0} → EndsEntries End → (payloads more : List (List ℕ)) (bytes : List ℕ) → Entries End (payloads ++ more) bytes → First payloads bytes
unfolding Entries
first_of_entries ends [] more bytes is = record { rest = bytes; split = refl; goes_on = entries_there ends more bytes is; fit = All-nil _ }
first_of_entries ends (payload ∷ payloads) more bytes is =
    let later = first_of_entries ends payloads more is.0 is.3 in record {
      rest = later.rest;
      split = is.2 ∙ ap (λ (chain : List ℕ). entry payload ++ chain) later.split ∙ sym (append_assoc (entry payload) (flat_map entry payloads) later.rest);
      goes_on = later.goes_on;
      fit = All-cons (λ one. length one ≤ longest_payload) payload payloads is.1 later.fit;
    }

module _ {L : Type 0} (first : L) (Steps : L → List ℕ → L → Type 0)
    (decided : (state : L) (payload : List ℕ) → ((next : L) × Steps state payload next) ⊎ IsIllegal Steps state payload) where
  stops_there : {End : List ℕ → Type 0} → EndsEntries End → (file chain : List ℕ) (payloads : List (List ℕ)) → file ≡ magic ++ chain → Entries End payloads chain
      → Stops Steps first payloads → (at : ℕ) × IllegalAt first Steps file at
  stops_there {End = End} ends file chain payloads split entries stop =
      let begins = stop.before ++ stop.payload ∷ [] in
      let there = first_of_entries ends begins stop.more chain (subst (λ (all : List (List ℕ)). Entries End all chain) stop.split entries) in
      let illegal : IllegalAt first Steps file (length (front stop.before)) = record {
        payloads = stop.before;
        payload = stop.payload;
        chain = there.rest;
        there = split ∙ ap (λ (bytes : List ℕ). magic ++ bytes) there.split ∙ sym (append_assoc magic (flat_map entry begins) there.rest);
        fit = there.fit;
        goes_on = there.goes_on;
        gate = refl;
        state = stop.state;
        legal = stop.legal;
        illegal = stop.illegal;
      } in (length (front stop.before), illegal)

  pub some_way : (file : List ℕ) → All (λ byte. byte < 256) file → ((state : L) × ReopensTo first Steps file (Some state)) ⊎ ((at : ℕ) × RefusedAt first Steps file at)
  some_way file bytes = ⊎_elim
      (λ log. ⊎_elim
      (λ given. inl (given.0, (log.0, log.1, given.1)))
      (λ stop. let there = stops_there closed_ends file log.1.0 log.0 log.1.1 (chain_entries log.0 log.1.0 log.1.2) stop in inr (there.0, inr (inr there.1)))
      (stops_or_gives Steps decided log.0 first))
      (λ none. ⊎_elim
      (λ head. inr (none.0, inl head))
      (λ breaks. ⊎_elim
      (λ given. let broken : BreaksAt first Steps file none.0 = record { payloads = breaks.0; breaks = breaks.1; state = given.0; legal = given.1 } in inr (none.0, inr (inl broken)))
      (λ stop. let there = stops_there broken_ends file breaks.1.0 breaks.0 breaks.1.1 (broken_entries breaks.0 breaks.1.0 breaks.1.2) stop in inr (there.0, inr (inr there.1)))
      (stops_or_gives Steps decided breaks.0 first))
      none.1)
      (some_reading file bytes)
