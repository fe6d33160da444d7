-- Entries and what ends them: bytes begin with one list of entries at most.
use Rattle.std.proofs.Common.{◌≡◌, ◌≢◌, ℕ, ◌+◌, ◌<◌, ◌≤◌, List, [], ◌∷◌, ◌++◌, length, take, drop, get_or, inl, inr, refl, sym, ◌∙◌, ap, subst, arith, length-append}
use Rattle.std.proofs.lemmas.List.{take_at, drop_at}
use Rattle.byteorder.specs.Endian.{little_number}
use Rattle.byteorder.specs.Numbers.{little_number-reads_back}
use Rattle.bf_log.specs.Format.{open_gate, longest_payload, entry, IsChain, HasNoEntry, BreaksBehind}

-- these payloads in entries, and behind the last of them bytes of this kind
unfoldable pub Entries : (List ℕ → Type 0) → List (List ℕ) → List ℕ → Type 0
Entries End [] bytes = End bytes
Entries End (payload ∷ payloads) bytes =
    (chain : List ℕ) × (length payload ≤ longest_payload) × (bytes ≡ entry payload ++ chain) × Entries End payloads chain

-- a closed gate, with anything behind it
abbrev pub IsClosed : List ℕ → Type 0
IsClosed bytes = (gate : ℕ) × (behind : List ℕ) × (gate ≢ open_gate) × (bytes ≡ gate ∷ behind)

-- an open gate with no entry behind it
abbrev pub IsBroken : List ℕ → Type 0
IsBroken bytes = (behind : List ℕ) × (bytes ≡ open_gate ∷ behind) × HasNoEntry behind

-- a chain is entries, and a closed gate behind them
pub chain_entries : (payloads : List (List ℕ)) (bytes : List ℕ) → IsChain payloads bytes → Entries IsClosed payloads bytes
unfolding Entries
chain_entries [] bytes is = is
chain_entries (payload ∷ payloads) bytes is = (is.0, is.1, is.2, chain_entries payloads is.0 is.3)

-- what breaks is entries, and a broken gate behind them
pub broken_entries : (payloads : List (List ℕ)) (bytes : List ℕ) → BreaksBehind payloads bytes → Entries IsBroken payloads bytes
unfolding Entries
broken_entries [] bytes is = is
broken_entries (payload ∷ payloads) bytes is = (is.0, is.1, is.2, broken_entries payloads is.0 is.3)

-- the number that stands behind the gate of an entry is the length of its payload
length_there : (payload chain bytes : List ℕ) → length payload ≤ longest_payload → bytes ≡ entry payload ++ chain → little_number 4 (drop 1 bytes) ≡ length payload
length_there payload chain bytes small is =
    ap (λ (all : List ℕ). little_number 4 (drop 1 all)) is ∙ little_number-reads_back 4 (length payload) (payload ++ chain) (omega arith)

-- an entry tells its payload and what is behind it
pub one_entry : (payload other chain rest : List ℕ) → length payload ≤ longest_payload → length other ≤ longest_payload → entry payload ++ chain ≡ entry other ++ rest
    → (payload ≡ other) × (chain ≡ rest)
one_entry payload other chain rest small small_too same =
    let n = length payload in
    let size : length other ≡ n = sym (length_there other rest _ small_too same) ∙ length_there payload chain _ small refl in
    let behind : payload ++ chain ≡ other ++ rest = ap (drop 5) same in (
      sym (take_at payload chain n refl) ∙ ap (take n) behind ∙ take_at other rest n size,
      sym (drop_at payload chain n refl) ∙ ap (drop n) behind ∙ drop_at other rest n size,
    )

-- bytes that can end entries: there are some, and they begin with no entry that has a byte behind it
pub record EndsEntries (End : List ℕ → Type 0) : Type 0 where
  pub is_there : (bytes : List ℕ) → End bytes → 0 < length bytes
  pub no_entry : (payload chain bytes : List ℕ) → End bytes → length payload ≤ longest_payload → bytes ≡ entry payload ++ chain → 0 < length chain → ⊥

-- a closed gate is not open
shut_or_open : (bytes behind : List ℕ) → IsClosed bytes → bytes ≡ open_gate ∷ behind → ⊥
shut_or_open bytes behind closed is_open = closed.2 (ap (λ (all : List ℕ). get_or all 0 0) (sym closed.3 ∙ is_open))

-- a closed gate is not broken
pub closed_or_broken : (bytes : List ℕ) → IsClosed bytes → IsBroken bytes → ⊥
closed_or_broken bytes closed broken = shut_or_open bytes broken.0 closed broken.1

-- where an entry with a byte behind it stands none is missing
none_missing : (payload chain behind : List ℕ) → length payload ≤ longest_payload → open_gate ∷ behind ≡ entry payload ++ chain → 0 < length chain
    → HasNoEntry behind → ⊥
none_missing payload chain behind small is more none =
    let size : little_number 4 behind ≡ length payload = length_there payload chain (open_gate ∷ behind) small is in
    let whole : length behind ≡ 4 + length payload + length chain = omega (arith, ap length is, length-append payload chain) in
    elim none [ inl short ↦ omega arith | inr further ↦ elim further [ inl great ↦ omega arith | inr short ↦ omega arith ] ]

-- a closed gate ends entries
pub closed_ends : EndsEntries IsClosed
closed_ends = record {
  is_there = λ bytes is. omega (arith, ap length is.3);
  no_entry = λ payload chain bytes is small entry_is more. shut_or_open bytes _ is entry_is;
}

-- a broken gate ends entries
pub broken_ends : EndsEntries IsBroken
broken_ends = record {
  is_there = λ bytes is. omega (arith, ap length is.1);
  no_entry = λ payload chain bytes is small entry_is more. none_missing payload chain is.0 small (sym is.1 ∙ entry_is) more is.2;
}

-- entries and what ends them are some bytes
pub entries_there : {End : List ℕ → Type 0} → EndsEntries End → (payloads : List (List ℕ)) (bytes : List ℕ) → Entries End payloads bytes
    → 0 < length bytes
unfolding Entries
entries_there ends [] bytes is = ends.is_there bytes is
entries_there ends (payload ∷ payloads) bytes is = omega (arith, ap length is.2)

-- two lists of entries that bytes begin with are one list, and the same bytes end it
pub one_list : {End Other : List ℕ → Type 0} → EndsEntries End → EndsEntries Other → (payloads others : List (List ℕ)) (bytes : List ℕ)
    → Entries End payloads bytes → Entries Other others bytes → (payloads ≡ others) × ((rest : List ℕ) × End rest × Other rest)
unfolding Entries
one_list ends too [] [] bytes one two = (refl, (bytes, one, two))
one_list ends too [] (other ∷ others) bytes one two = absurd (ends.no_entry other two.0 bytes one two.1 two.2 (entries_there too others two.0 two.3))
one_list ends too (payload ∷ payloads) [] bytes one two = absurd (too.no_entry payload one.0 bytes two one.1 one.2 (entries_there ends payloads one.0 one.3))
one_list {Other = Other} ends too (payload ∷ payloads) (other ∷ others) bytes one two =
    let first = one_entry payload other one.0 two.0 one.1 two.1 (sym one.2 ∙ two.2) in
    let same = first.0 in
    let rest = one_list ends too payloads others one.0 one.3 (subst (λ (chain : List ℕ). Entries Other others chain) (sym first.1) two.3) in
    (cc (same, rest.0), rest.1)
