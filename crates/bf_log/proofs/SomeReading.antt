-- Every file is read in some way.
use Rattle.std.proofs.Common.{◌≡◌, ◌⊎◌, inl, inr, ℕ, zero, suc, ◌+◌, ◌*◌, ◌/◌, ◌%◌, ◌<◌, ◌≤◌, List, [], ◌∷◌, ◌++◌, length, take, drop, refl, sym, ◌∙◌, ap, subst, arith, length-append, take-append-drop}
use Rattle.std.specs.Prelude.{All}
use Rattle.std.proofs.lemmas.Bool.{cases_lt, cases_eq}
use Rattle.std.proofs.lemmas.List.{length-take, length-drop}
use Rattle.std.proofs.lemmas.List.Elements.{All-drop, All-same, All-tail}
use Rattle.byteorder.specs.Endian.{little_bytes, little_number}
use Rattle.bf_log.specs.Format.{magic, open_gate, longest_payload, entry, IsChain, HasNoEntry, BreaksBehind, IsLog, IsNoLog, front}
use Rattle.bf_log.proofs.Heads.{head_cases}

-- a number fits a byte
abbrev IsByte : ℕ → Type 0
IsByte byte = byte < 256

-- the four bytes of a number, by their values
number_bytes : (n a b c d : ℕ) → n ≡ a + 256 * (b + 256 * (c + 256 * d)) → IsByte a → IsByte b → IsByte c → IsByte d
    → little_bytes 4 n ≡ a ∷ b ∷ c ∷ d ∷ []
number_bytes n a b c d is first second third fourth =
    let lowest : n % 256 ≡ a = omega arith in
    let low : n / 256 % 256 ≡ b = omega arith in
    let high : n / 65536 % 256 ≡ c = omega arith in
    let highest : n / 16777216 % 256 ≡ d = omega arith in
    rw (lowest, low, high, highest) refl

-- the first four bytes are those of the number that is read from them
bytes_back : (bytes : List ℕ) → All IsByte bytes → 4 ≤ length bytes → little_bytes 4 (little_number 4 bytes) ≡ take 4 bytes
bytes_back (a ∷ b ∷ c ∷ d ∷ rest) all long =
    number_bytes _ a b c d (omega arith) (all 0 0 (omega arith)) (all 1 0 (omega arith)) (all 2 0 (omega arith)) (all 3 0 (omega arith))
bytes_back fewer all long = absurd (omega arith)

-- an entry, and a byte or more behind it
record BeginsWithEntry (bytes : List ℕ) : Type 0 where
  pub payload : List ℕ
  pub chain : List ℕ
  pub small : length payload ≤ longest_payload
  pub split : bytes ≡ entry payload ++ chain
  pub more : 0 < length chain
  pub all : All IsByte chain

-- behind an open gate a length that is not too great, so many bytes and one more are an entry with a byte behind it
entry_there : (behind : List ℕ) (n : ℕ) → All IsByte behind → n ≡ little_number 4 behind → 4 ≤ length behind → n ≤ longest_payload
    → 4 + n + 1 ≤ length behind → BeginsWithEntry (open_gate ∷ behind)
entry_there behind n all is long small fits =
    let payload = take n (drop 4 behind) in
    let chain = drop n (drop 4 behind) in
    let size : length payload ≡ n = simp (length-take, length-drop) (omega arith) in
    let number : little_bytes 4 (length payload) ≡ take 4 behind = ap (little_bytes 4) (size ∙ is) ∙ bytes_back behind all long in
    let rest : payload ++ chain ≡ drop 4 behind = take-append-drop n (drop 4 behind) in
    let split : behind ≡ little_bytes 4 (length payload) ++ (payload ++ chain) = sym (take-append-drop 4 behind) ∙ cc in
    record {
      payload = payload;
      chain = chain;
      small = omega arith;
      split = ap (λ (bytes : List ℕ). open_gate ∷ bytes) split;
      more = simp length-drop (omega arith);
      all = All-drop IsByte n (drop 4 behind) (All-drop IsByte 4 behind all);
    }

-- behind an open gate no entry stands, or one does
none_or_entry : (behind : List ℕ) → All IsByte behind → HasNoEntry behind ⊎ BeginsWithEntry (open_gate ∷ behind)
none_or_entry behind all =
    let n = little_number 4 behind in
    elim (cases_lt (length behind) 4) [
      | inl short ↦ inl (inl short)
      | inr long ↦ elim (cases_lt longest_payload n) [
        | inl great ↦ inl (inr (inl great))
        | inr small ↦ elim (cases_lt (length behind) (4 + n + 1)) [
          | inl short ↦ inl (inr (inr short))
          | inr fits ↦ inr (entry_there behind n all refl long small fits)
        ]
      ]
    ]

-- a chain, or what breaks
abbrev IsRead : List ℕ → Type 0
IsRead bytes = (payloads : List (List ℕ)) × (IsChain payloads bytes ⊎ BreaksBehind payloads bytes)

-- an entry before what is read is read too
read_more : (bytes : List ℕ) (begins : BeginsWithEntry bytes) → IsRead begins.chain → IsRead bytes
read_more bytes begins (payloads, inl whole) = (begins.payload ∷ payloads, inl (begins.chain, begins.small, begins.split, whole))
read_more bytes begins (payloads, inr broken) = (begins.payload ∷ payloads, inr (begins.chain, begins.small, begins.split, broken))

-- one byte or more, and no more than the fuel, are a chain or break
chain_or_broken : (fuel : ℕ) (bytes : List ℕ) → length bytes ≤ fuel → 0 < length bytes → All IsByte bytes → IsRead bytes
chain_or_broken fuel [] few there all = absurd (omega arith)
chain_or_broken zero (gate ∷ behind) few there all = absurd (omega arith)
chain_or_broken (suc fuel) (gate ∷ behind) few there all = elim (cases_eq gate open_gate) [
  | inl is_open ↦ elim (none_or_entry behind (All-tail IsByte gate behind all)) [
    | inl none ↦ ([], inr (behind, ap (λ (byte : ℕ). byte ∷ behind) is_open, none))
    | inr begins ↦
        let shorter : length begins.chain ≤ fuel = omega (arith, ap length begins.split, length-append begins.payload begins.chain) in
        subst (λ (byte : ℕ). IsRead (byte ∷ behind)) (sym is_open)
        (read_more (open_gate ∷ behind) begins (chain_or_broken fuel begins.chain shorter begins.more begins.all))
  ]
  | inr shut ↦ ([], inl (gate, behind, shut, refl))
]

-- what is read behind the magic makes a log, or is what breaks the grammar
log_or_fault : (file chain : List ℕ) → file ≡ magic ++ chain → IsRead chain → ((payloads : List (List ℕ)) × IsLog payloads file) ⊎ ((at : ℕ) × IsNoLog file at)
log_or_fault file chain split (payloads, inl whole) = inl (payloads, (chain, split, whole))
log_or_fault file chain split (payloads, inr broken) = inr (length (front payloads), inr (payloads, (chain, split, broken, refl)))

-- a file of bytes is a log, or something in it breaks the grammar
pub some_reading : (file : List ℕ) → All IsByte file → ((payloads : List (List ℕ)) × IsLog payloads file) ⊎ ((at : ℕ) × IsNoLog file at)
some_reading file all = elim (head_cases file) [
  | inl (chain, split, more) ↦
      let behind : chain ≡ drop (length magic) file = sym (ap (drop (length magic)) split) in
      let bytes : All IsByte chain = All-same IsByte chain (drop (length magic) file) behind (All-drop IsByte (length magic) file all) in
      log_or_fault file chain split (chain_or_broken (length chain) chain (omega arith) more bytes)
  | inr (at, fault) ↦ inr (at, inl fault)
]
