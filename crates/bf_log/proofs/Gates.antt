-- What a read at the gate behind the payloads so far shows, and how far a log is read then.
use Rattle.std.proofs.Common.{◌≡◌, ◌≢◌, inl, inr, ℕ, zero, suc, ◌+◌, ◌-◌, ◌<◌, ◌≤◌, min, Some, List, [], ◌∷◌, ◌++◌, length, take, drop, get_or}
use Rattle.std.proofs.Common.{refl, sym, ◌∙◌, ap, subst, arith, append_assoc, length-append, take-append-drop}
use Rattle.std.specs.List.{All, flat_map}
use Rattle.std.proofs.lemmas.Bool.{cases_lt}
use Rattle.std.proofs.lemmas.List.{append-nil, length-take, take_all, length-drop, drop_at, drop_more, drop-drop, flat_map_more}
use Rattle.std.proofs.lemmas.List.Elements.{All-head, All-tail, All-push}
use Rattle.byteorder.specs.Endian.{little_bytes, little_number}
use Rattle.byteorder.specs.Numbers.{little_from-take}
use Rattle.bf_io.specs.Whole.{IfTold}
use Rattle.bf_disk.specs.declared.disk.Disk.{Ghosts}
use Rattle.bf_disk.specs.Images.{SameImages}
use Rattle.bf_log.specs.Format.{magic, open_gate, longest_payload, entry, front, IsLog, HasNoEntry, BreaksBehind, ChainFault}
use Rattle.bf_log.specs.Opening.{HasRead, Found}
use Rattle.bf_log.specs.declared.opening.Opening.{Opening}
use Rattle.bf_log.specs.declared.opening.Progress.TheVariants.{Reading}
use Rattle.bf_log.proofs.Chains.{Fit, closed_log}
use Rattle.bf_log.proofs.Storing.{front_more, told_at}

-- none of the payloads is too large, by recursion
fit_all : (payloads : List (List ℕ)) → All (λ payload. length payload ≤ longest_payload) payloads → Fit payloads
unfolding Fit
fit_all [] all = tt
fit_all (payload ∷ payloads) all =
    (All-head (λ bytes. length bytes ≤ longest_payload) payload payloads all, fit_all payloads (All-tail (λ bytes. length bytes ≤ longest_payload) payload payloads all))

-- behind these payloads an open gate, and no room for what it promises
chain_breaks : (payloads : List (List ℕ)) (behind : List ℕ) → Fit payloads → HasNoEntry behind → BreaksBehind payloads (flat_map entry payloads ++ open_gate ∷ behind)
unfolding Fit
chain_breaks [] behind fit none = (behind, refl, none)
chain_breaks (payload ∷ payloads) behind fit none =
    (flat_map entry payloads ++ open_gate ∷ behind, fit.0, append_assoc (entry payload) (flat_map entry payloads) (open_gate ∷ behind), chain_breaks payloads behind fit.1 none)

-- What a read shows of a chain: its gate and the length behind that, with zeros in the place of what is missing.
pub record IsFrame (chain frame : List ℕ) : Type 0 where
  pub there : 0 < length chain
  pub gate : get_or frame 0 0 ≡ get_or chain 0 0
  pub whole : 5 ≤ length chain → frame ≡ take 5 chain

-- what stands there before the read
abbrev pub zeros : List ℕ
zeros = 0 ∷ 0 ∷ 0 ∷ 0 ∷ 0 ∷ []

-- a read of five bytes, or of as many as there are, gives a frame
framed : (chain into : List ℕ) (known : ℕ) → 0 < length chain → known ≡ min (length chain) 5 → into ≡ take known chain → IsFrame chain (into ++ drop known zeros)
framed [] into known there size is = absurd (omega arith)
framed (gate ∷ behind) into zero there size is = absurd (omega arith)
framed (gate ∷ behind) into (suc known) there size is = record {
  there = there;
  gate = ap (λ (bytes : List ℕ). get_or (bytes ++ drop (suc known) zeros) 0 0) is;
  whole = λ long.
      let five : suc known ≡ 5 = omega arith in
      ap (λ (n : ℕ). into ++ drop n zeros) five ∙ append-nil into ∙ is ∙ ap (λ (n : ℕ). take n (gate ∷ behind)) five;
}

-- the read at the gate of an opening, of a file that is told
pub frame_read : {D : Type 0} {g : Ghosts D} (opening : Opening D g) (file into : List ℕ) (known : ℕ) → g.seen opening.disk ≡ Some file → known ≡ min (opening.len - opening.gate) 5
    → IfTold (g.seen opening.disk) (λ told. into ≡ take (length (take known zeros)) (drop opening.gate told)) → IsFrame (drop opening.gate file) (into ++ drop known zeros)
frame_read {g = g} opening file into known told size is =
    let len : opening.len ≡ length file = opening.told file told in
    let bytes = told_at (g.seen opening.disk) (λ here. into ≡ take (length (take known zeros)) (drop opening.gate here)) file is told in
    let all : length (take known zeros) ≡ known = omega (arith, length-take known zeros) in
    framed (drop opening.gate file) into known (omega (arith, opening.within, length-drop opening.gate file)) (omega (arith, length-drop opening.gate file))
    (bytes ∙ ap (λ (n : ℕ). take n (drop opening.gate file)) all)

-- the chain goes on behind the gate that the frame shows
headed : (chain frame : List ℕ) → IsFrame chain frame → chain ≡ get_or frame 0 0 ∷ drop 1 chain
headed chain frame is = drop_more chain 0 0 is.there ∙ ap (λ (gate : ℕ). gate ∷ drop 1 chain) (sym is.gate)

-- where all of a length is there, the chain has the open gate and the length that the frame shows
pub opens : (chain frame : List ℕ) (size : ℕ) → IsFrame chain frame → 5 ≤ length chain → get_or frame 0 0 ≡ open_gate → little_bytes 4 size ≡ take 4 (drop 1 frame)
    → take 5 chain ≡ open_gate ∷ little_bytes 4 size
opens chain frame size is long opened spelled =
    let five : length frame ≡ 5 = omega (arith, ap length (is.whole long), length-take 5 chain) in
    let four : take 4 (drop 1 frame) ≡ drop 1 frame = take_all 4 (drop 1 frame) (omega (arith, length-drop 1 frame)) in
    sym (is.whole long) ∙ drop_more frame 0 0 (omega arith) ∙ ap (λ (gate : ℕ). gate ∷ drop 1 frame) opened ∙ ap (λ (bytes : List ℕ). open_gate ∷ bytes) (sym four ∙ sym spelled)

-- where a payload may not have so many bytes, or they and a gate do not fit, no entry stands behind the gate
has_no_entry : (gate : ℕ) (behind frame : List ℕ) (size : ℕ) → IsFrame (gate ∷ behind) frame → size ≡ little_number 4 (take 4 (drop 1 frame))
    → ((size ≤ longest_payload) × (5 + size < length (gate ∷ behind)) → ⊥) → HasNoEntry behind
has_no_entry gate behind frame size is number no_room = elim (cases_lt (length behind) 4) [
  | inl short ↦ inl short
  | inr long ↦
      let whole : frame ≡ gate ∷ take 4 behind = is.whole (omega arith) in
      let same : size ≡ little_number 4 behind = number ∙ ap (λ (bytes : List ℕ). little_number 4 (take 4 (drop 1 bytes))) whole
      ∙ little_from-take 0 4 4 (take 4 behind) (omega arith) ∙ little_from-take 0 4 4 behind (omega arith) in
      elim (cases_lt longest_payload size) [
        | inl great ↦ inr (inl (subst (λ (n : ℕ). longest_payload < n) same great))
        | inr small ↦ elim (cases_lt (length behind) (4 + size + 1)) [
          | inl ends ↦ inr (inr (subst (λ (n : ℕ). length behind < 4 + n + 1) same ends))
          | inr room ↦ absurd (no_room (small, omega arith))
        ]
      ]
]

-- an open gate, a length and a payload of that length are an entry
entry_there : (chain payload : List ℕ) (size : ℕ) → take 5 chain ≡ open_gate ∷ little_bytes 4 size → payload ≡ take size (drop 5 chain) → length payload ≡ size
    → chain ≡ entry payload ++ drop (5 + size) chain
entry_there chain payload size opened is long =
    let frame : take 5 chain ≡ open_gate ∷ little_bytes 4 (length payload) = opened ∙ ap (λ (n : ℕ). open_gate ∷ little_bytes 4 n) (sym long) in
    let rest : drop 5 chain ≡ payload ++ drop (5 + size) chain =
    sym (take-append-drop size (drop 5 chain)) ∙ ap (λ (bytes : List ℕ). bytes ++ drop size (drop 5 chain)) (sym is)
    ∙ ap (λ (bytes : List ℕ). payload ++ bytes) (drop-drop size 5 chain) in
    sym (take-append-drop 5 chain) ∙ ap (λ (bytes : List ℕ). bytes ++ drop 5 chain) frame ∙ ap (λ (bytes : List ℕ). open_gate ∷ (little_bytes 4 (length payload) ++ bytes)) rest

module _ {D : Type 0} {g : Ghosts D} (file : List ℕ) (payloads : List (List ℕ)) (old : Opening D g) (read : HasRead file payloads old) where
  -- the file from the gate on is the chain
  split : file ≡ front payloads ++ drop old.gate file
  split =
      let here : drop old.gate file ≡ read.chain = ap (drop old.gate) read.spelled ∙ drop_at (front payloads) read.chain old.gate (sym read.gate) in
      read.spelled ∙ ap (λ (chain : List ℕ). front payloads ++ chain) (sym here)

  -- a closed gate ends the log
  pub closed : (frame : List ℕ) → IsFrame (drop old.gate file) frame → get_or frame 0 0 ≢ open_gate → IsLog payloads file
  closed frame is shut =
      closed_log payloads file (get_or frame 0 0) (drop 1 (drop old.gate file)) (fit_all payloads read.fit) shut
      (split ∙ ap (λ (chain : List ℕ). front payloads ++ chain) (headed (drop old.gate file) frame is))

  -- an open gate with no room for what it promises breaks the chain
  pub broken : (frame : List ℕ) (size : ℕ) → IsFrame (drop old.gate file) frame → get_or frame 0 0 ≡ open_gate → size ≡ little_number 4 (take 4 (drop 1 frame))
      → ((size ≤ longest_payload) × (old.gate + 5 + size < old.len) → ⊥) → ChainFault payloads file old.gate
  broken frame size is opened number no_room =
      let behind = drop 1 (drop old.gate file) in
      let here : drop old.gate file ≡ open_gate ∷ behind = headed (drop old.gate file) frame is ∙ ap (λ (gate : ℕ). gate ∷ behind) opened in
      let at_gate : IsFrame (open_gate ∷ behind) frame = subst (λ (chain : List ℕ). IsFrame chain frame) here is in
      let none : HasNoEntry behind =
      has_no_entry open_gate behind frame size at_gate number
      (λ room. no_room (room.0, omega (arith, room.1, ap length here, length-drop old.gate file, old.told file read.told))) in (
        flat_map entry payloads ++ open_gate ∷ behind,
        split ∙ ap (λ (chain : List ℕ). front payloads ++ chain) here ∙ append_assoc magic (flat_map entry payloads) (open_gate ∷ behind),
        chain_breaks payloads behind (fit_all payloads read.fit) none,
        read.gate,
      )

  module _ (new : Opening D g) (seen : g.seen new.disk ≡ g.seen old.disk) (images : SameImages (g.may_leave old.disk) (g.may_leave new.disk)) where
    -- after a read it stands where it stood
    pub stays : new.gate ≡ old.gate → new.count ≡ old.count → Found new.progress payloads file new.gate → HasRead file payloads new
    stays gate count found = record {
      told = seen ∙ read.told;
      durable = λ image left. read.durable image (images.nothing_else image left);
      chain = read.chain;
      spelled = read.spelled;
      gate = gate ∙ read.gate;
      is_there = omega (arith, gate, read.is_there);
      fit = read.fit;
      count = count ∙ read.count;
      found = found;
    }

    -- after a read of a payload it stands behind one payload more
    pub goes_on : (payload : List ℕ) (size : ℕ) → take 5 (drop old.gate file) ≡ open_gate ∷ little_bytes 4 size
        → payload ≡ take size (drop (old.gate + 5) file) → length payload ≡ size → size ≤ longest_payload → old.gate + 5 + size < old.len
        → new.gate ≡ old.gate + 5 + size → new.count ≡ old.count + 1 → new.progress ≡ Reading
        → HasRead file (payloads ++ payload ∷ []) new
    goes_on payload size opened is long small room gate count reading =
        let there = entry_there (drop old.gate file) payload size opened (is ∙ ap (take size) (sym (drop-drop 5 old.gate file))) long in
        let rest = drop (5 + size) (drop old.gate file) in
        record {
          told = seen ∙ read.told;
          durable = λ image left. read.durable image (images.nothing_else image left);
          chain = rest;
          spelled = split ∙ ap (λ (chain : List ℕ). front payloads ++ chain) there ∙ sym (append_assoc (front payloads) (entry payload) rest)
              ∙ ap (λ (bytes : List ℕ). bytes ++ rest) (flat_map_more entry magic payloads payload);
          gate = omega (arith, gate, read.gate, long, front_more payloads payload);
          is_there = omega (arith, gate, room, old.told file read.told);
          fit = All-push (λ bytes. length bytes ≤ longest_payload) payloads payload read.fit (omega (arith, long, small));
          count = omega (arith, count, read.count, length-append payloads (payload ∷ []));
          found = subst (λ progress. Found progress (payloads ++ payload ∷ []) file new.gate) (sym reading) tt;
        }
