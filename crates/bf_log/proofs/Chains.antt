-- Chains of records, and what torn writes behind the last of them leave.
use Rattle.std.proofs.Common.{◌≡◌, ◌≢◌, inl, inr, ⊎_elim, ℕ, ◌+◌, ◌<◌, ◌≤◌, List, [], ◌∷◌, ◌++◌, length, take, drop, get_or, refl, sym, ◌∙◌, ap, arith, append_assoc, length-append, take-append-drop}
use Rattle.std.specs.List.{flat_map}
use Rattle.std.proofs.lemmas.Bool.{cases_eq}
use Rattle.std.proofs.lemmas.List.{length-take, length-drop, take_at, drop_at, drop_more, get_or-take, get_or-drop, ext_get_or}
use Rattle.bf_disk.specs.Images.{overwritten, Torn}
use Rattle.bf_log.specs.Append.{BeforeOrAfter}
use Rattle.bf_log.specs.Format.{magic, open_gate, longest_payload, entry, IsChain, IsLog, front}

-- none of the payloads is too large
unfoldable pub Fit : List (List ℕ) → Type 0
Fit [] = Unit {0}
Fit (payload ∷ payloads) = (length payload ≤ longest_payload) × Fit payloads

-- a log in two parts, with its closed gate between them
pub record Parts (payloads : List (List ℕ)) (file : List ℕ) : Type 0 where
  pub gate : ℕ
  pub behind : List ℕ
  pub shut : gate ≢ open_gate
  pub split : file ≡ front payloads ++ gate ∷ behind
  pub fit : Fit payloads

record ChainParts (payloads : List (List ℕ)) (chain : List ℕ) : Type 0 where
  pub gate : ℕ
  pub behind : List ℕ
  pub shut : gate ≢ open_gate
  pub split : chain ≡ flat_map entry payloads ++ gate ∷ behind
  pub fit : Fit payloads

chain_parts : (payloads : List (List ℕ)) (chain : List ℕ) → IsChain payloads chain → ChainParts payloads chain
unfolding Fit
chain_parts [] chain is = record { gate = is.0; behind = is.1; shut = is.2; split = is.3; fit = tt }
chain_parts (payload ∷ payloads) chain is =
    let rest = chain_parts payloads is.0 is.3 in
    record {
      gate = rest.gate;
      behind = rest.behind;
      shut = rest.shut;
      split = is.2 ∙ ap (λ (bytes : List ℕ). entry payload ++ bytes) rest.split ∙ sym (append_assoc (entry payload) (flat_map entry payloads) (rest.gate ∷ rest.behind));
      fit = (is.1, rest.fit);
    }

-- each log has its parts
pub parts : (payloads : List (List ℕ)) (file : List ℕ) → IsLog payloads file → Parts payloads file
parts payloads file is =
    let rest = chain_parts payloads is.0 is.2 in
    record {
      gate = rest.gate;
      behind = rest.behind;
      shut = rest.shut;
      split = is.1 ∙ ap (λ (bytes : List ℕ). magic ++ bytes) rest.split ∙ sym (append_assoc magic (flat_map entry payloads) (rest.gate ∷ rest.behind));
      fit = rest.fit;
    }

chain_closed : (payloads : List (List ℕ)) (gate : ℕ) (behind : List ℕ) → Fit payloads → gate ≢ open_gate → IsChain payloads (flat_map entry payloads ++ gate ∷ behind)
unfolding Fit
chain_closed [] gate behind fit shut = (gate, behind, shut, refl)
chain_closed (payload ∷ payloads) gate behind fit shut =
    (flat_map entry payloads ++ gate ∷ behind, fit.0, append_assoc (entry payload) (flat_map entry payloads) (gate ∷ behind), chain_closed payloads gate behind fit.1 shut)

-- behind the front a closed gate, whatever stands behind it
pub closed_log : (payloads : List (List ℕ)) (file : List ℕ) (gate : ℕ) (behind : List ℕ) → Fit payloads → gate ≢ open_gate
    → file ≡ front payloads ++ gate ∷ behind → IsLog payloads file
closed_log payloads file gate behind fit shut is =
    (flat_map entry payloads ++ gate ∷ behind, is ∙ append_assoc magic (flat_map entry payloads) (gate ∷ behind), chain_closed payloads gate behind fit shut)

chain_more : (payloads : List (List ℕ)) (payload : List ℕ) (chain : List ℕ) → Fit payloads → length payload ≤ longest_payload → IsChain [] chain
    → IsChain (payloads ++ payload ∷ []) (flat_map entry payloads ++ (entry payload ++ chain))
unfolding Fit
chain_more [] payload chain fit small is = (chain, small, refl, is)
chain_more (first ∷ payloads) payload chain fit small is = (
  flat_map entry payloads ++ (entry payload ++ chain),
  fit.0,
  append_assoc (entry first) (flat_map entry payloads) (entry payload ++ chain),
  chain_more payloads payload chain fit.1 small is,
)

-- behind the front one more record, and a closed gate
pub more_log : (payloads : List (List ℕ)) (payload file : List ℕ) (gate : ℕ) (behind : List ℕ) → Fit payloads → length payload ≤ longest_payload → gate ≢ open_gate
    → file ≡ front payloads ++ (entry payload ++ gate ∷ behind) → IsLog (payloads ++ payload ∷ []) file
more_log payloads payload file gate behind fit small shut is = (
  flat_map entry payloads ++ (entry payload ++ gate ∷ behind),
  is ∙ append_assoc magic (flat_map entry payloads) (entry payload ++ gate ∷ behind),
  chain_more payloads payload (gate ∷ behind) fit small (gate, behind, shut, refl),
)

-- what a torn write leaves before its range and behind it
torn_before : (at n : ℕ) (old image : List ℕ) → Torn at n old image → at ≤ length old → take at image ≡ take at old
torn_before at n old image torn le =
    let size : length (take at image) ≡ length (take at old) = omega (arith, torn.no_shorter, length-take at image, length-take at old) in
    ext_get_or 0 (take at image) (take at old) size (λ i below.
    let before : i < at = omega (arith, length-take at image) in
    let within : i < length old = omega arith in
    get_or-take at image i 0 before ∙ torn.stays i within (inl before) ∙ sym (get_or-take at old i 0 before))

torn_behind : (at n : ℕ) (old image : List ℕ) → Torn at n old image → at + n ≤ length old → drop (at + n) image ≡ drop (at + n) old
torn_behind at n old image torn le =
    let size : length (drop (at + n) image) ≡ length (drop (at + n) old) =
    omega (arith, torn.no_shorter, torn.no_longer, length-drop (at + n) image, length-drop (at + n) old) in
    ext_get_or 0 (drop (at + n) image) (drop (at + n) old) size (λ i below.
    let within : at + n + i < length old = omega (arith, length-drop (at + n) old) in
    let past : at + n ≤ at + n + i = omega arith in
    get_or-drop (at + n) image i 0 ∙ torn.stays (at + n + i) within (inr past) ∙ sym (get_or-drop (at + n) old i 0))

module _ (before : List ℕ) (gate : ℕ) (behind : List ℕ) (at : ℕ) (size : length before ≡ at) where
  abbrev pub file : List ℕ
  file = before ++ gate ∷ behind

  -- how long it is, and what there is of it up to the gate and behind it
  length-file : length file ≡ at + 1 + length behind
  length-file = omega (arith, length-append before (gate ∷ behind))

  with_gate : file ≡ (before ++ gate ∷ []) ++ behind
  with_gate = sym (append_assoc before (gate ∷ []) behind)

  length-with_gate : length (before ++ gate ∷ []) ≡ at + 1
  length-with_gate = omega (arith, length-append before (gate ∷ []))

  to_gate : take (at + 1) file ≡ before ++ gate ∷ []
  to_gate = ap (take (at + 1)) with_gate ∙ take_at (before ++ gate ∷ []) behind (at + 1) length-with_gate

  pub past_gate : drop (at + 1) file ≡ behind
  past_gate = ap (drop (at + 1)) with_gate ∙ drop_at (before ++ gate ∷ []) behind (at + 1) length-with_gate

  -- a write behind the gate, whatever it leaves, keeps what stands before it and the gate
  pub torn_record : (n : ℕ) (image : List ℕ) → Torn (at + 1) n file image → image ≡ before ++ gate ∷ drop (at + 1) image
  torn_record n image torn =
      let front_stays : take (at + 1) image ≡ before ++ gate ∷ [] = torn_before (at + 1) n file image torn (omega (arith, length-file)) ∙ to_gate in
      sym (take-append-drop (at + 1) image) ∙ ap (λ (bytes : List ℕ). bytes ++ drop (at + 1) image) front_stays
      ∙ append_assoc before (gate ∷ []) (drop (at + 1) image)

  -- a write of the gate keeps all but the gate
  pub torn_gate : (image : List ℕ) → Torn at 1 file image → image ≡ before ++ get_or image at 0 ∷ behind
  torn_gate image torn =
      let front_stays : take at image ≡ before = torn_before at 1 file image torn (omega (arith, length-file)) ∙ take_at before (gate ∷ behind) at size in
      let rest_stays : drop (at + 1) image ≡ behind = torn_behind at 1 file image torn (omega (arith, length-file)) ∙ past_gate in
      let here : at < length image = omega (arith, length-file, torn.no_shorter) in
      sym (take-append-drop at image) ∙ ap (λ (bytes : List ℕ). bytes ++ drop at image) front_stays
      ∙ ap (λ (bytes : List ℕ). before ++ bytes) (drop_more image at 0 here)
      ∙ ap (λ (bytes : List ℕ). before ++ get_or image at 0 ∷ bytes) rest_stays

  -- what a file is with bytes written behind the gate, and with a byte written in its place
  pub written_record : (bytes : List ℕ) → overwritten file (at + 1) bytes ≡ before ++ gate ∷ (bytes ++ drop (at + 1 + length bytes) file)
  written_record bytes =
      let after = drop (at + 1 + length bytes) file in
      ap (λ (front_bytes : List ℕ). front_bytes ++ bytes ++ after) to_gate
      ∙ append_assoc (before ++ gate ∷ []) bytes after ∙ append_assoc before (gate ∷ []) (bytes ++ after)

  pub written_gate : (byte : ℕ) → overwritten file at (byte ∷ []) ≡ before ++ byte ∷ behind
  written_gate byte =
      ap (λ (front_bytes : List ℕ). front_bytes ++ (byte ∷ []) ++ drop (at + 1) file) (take_at before (gate ∷ behind) at size)
      ∙ append_assoc before (byte ∷ []) (drop (at + 1) file)
      ∙ ap (λ (rest : List ℕ). before ++ byte ∷ rest) past_gate

-- a gate with any byte before a record and a closed gate: the log without the record or with it
pub gate_leaves : (payloads : List (List ℕ)) (payload image : List ℕ) (byte : ℕ) (rest : List ℕ) → Fit payloads → length payload ≤ longest_payload
    → (behind : List ℕ) → open_gate ∷ rest ≡ entry payload ++ 0 ∷ behind → image ≡ front payloads ++ byte ∷ rest → BeforeOrAfter payloads (payloads ++ payload ∷ []) image
gate_leaves payloads payload image byte rest fit small behind record_is is = ⊎_elim
    (λ (is_open : byte ≡ open_gate). inr (more_log payloads payload image 0 behind fit small (λ zero_open. absurd (omega arith))
    (is ∙ ap (λ (gate : ℕ). front payloads ++ gate ∷ rest) is_open ∙ ap (λ (bytes : List ℕ). front payloads ++ bytes) record_is)))
    (λ (shut : byte ≢ open_gate). inl (closed_log payloads image byte rest fit shut is))
    (cases_eq byte open_gate)
