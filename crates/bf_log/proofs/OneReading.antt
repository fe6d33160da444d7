-- No file is read in two ways.
use Rattle.std.proofs.Common.{◌≡◌, inl, inr, ℕ, List, ◌++◌, length, sym, ◌∙◌, ap, subst}
use Rattle.std.proofs.lemmas.List.{append_cancel_left}
use Rattle.bf_log.specs.Format.{magic, IsLog, HeadFault, ChainFault, IsNoLog, front}
use Rattle.bf_log.proofs.Heads.{one_head_fault, head_holds}
use Rattle.bf_log.proofs.Entries.{Entries, IsClosed, IsBroken, EndsEntries, chain_entries, broken_entries, closed_ends, broken_ends, closed_or_broken, entries_there, one_list}

-- the magic, and behind it these payloads in entries and bytes of this kind
record Reads (End : List ℕ → Type 0) (payloads : List (List ℕ)) (file : List ℕ) : Type 0 where
  pub chain : List ℕ
  pub split : file ≡ magic ++ chain
  pub entries : Entries End payloads chain

-- a log reads to a closed gate
log_reads : (payloads : List (List ℕ)) (file : List ℕ) → IsLog payloads file → Reads IsClosed payloads file
log_reads payloads file is = record { chain = is.0; split = is.1; entries = chain_entries payloads is.0 is.2 }

-- a file whose chain breaks reads to a broken gate
fault_reads : (payloads : List (List ℕ)) (file : List ℕ) (at : ℕ) → ChainFault payloads file at → Reads IsBroken payloads file
fault_reads payloads file at is = record { chain = is.0; split = is.1; entries = broken_entries payloads is.0 is.2 }

-- two readings of a file are of the same payloads, and the same bytes end them
one_reading : {End Other : List ℕ → Type 0} → EndsEntries End → EndsEntries Other → (payloads others : List (List ℕ)) (file : List ℕ)
    → Reads End payloads file → Reads Other others file → (payloads ≡ others) × ((rest : List ℕ) × End rest × Other rest)
one_reading {Other = Other} ends too payloads others file one two =
    let same : two.chain ≡ one.chain = append_cancel_left magic two.chain one.chain (sym two.split ∙ one.split) in
    one_list ends too payloads others one.chain one.entries (subst (λ (chain : List ℕ). Entries Other others chain) same two.entries)

-- a file that reads has no fault in its head
sound_head : {End : List ℕ → Type 0} → EndsEntries End → (payloads : List (List ℕ)) (file : List ℕ) (at : ℕ) → Reads End payloads file → HeadFault file at → ⊥
sound_head ends payloads file at reads = head_holds file reads.chain at reads.split (entries_there ends payloads reads.chain reads.entries)

-- a file is a log of one list of payloads
pub one_log : (file : List ℕ) (payloads others : List (List ℕ)) → IsLog payloads file → IsLog others file → payloads ≡ others
one_log file payloads others one two =
    (one_reading closed_ends closed_ends payloads others file (log_reads payloads file one) (log_reads others file two)).0

-- one place is the first that breaks the grammar
pub one_fault : (file : List ℕ) (at other : ℕ) → IsNoLog file at → IsNoLog file other → at ≡ other
one_fault file at other (inl one) (inl two) = one_head_fault file at other one two
one_fault file at other (inl one) (inr two) = absurd (sound_head broken_ends two.0 file at (fault_reads two.0 file other two.1) one)
one_fault file at other (inr one) (inl two) = absurd (sound_head broken_ends one.0 file other (fault_reads one.0 file at one.1) two)
one_fault file at other (inr one) (inr two) =
    let same = (one_reading broken_ends broken_ends one.0 two.0 file (fault_reads one.0 file at one.1) (fault_reads two.0 file other two.1)).0 in
    one.1.3 ∙ ap (λ (payloads : List (List ℕ)). length (front payloads)) same ∙ sym two.1.3

-- a log has nothing that breaks the grammar
pub not_both : (file : List ℕ) (payloads : List (List ℕ)) (at : ℕ) → IsLog payloads file → IsNoLog file at → ⊥
not_both file payloads at is (inl fault) = sound_head closed_ends payloads file at (log_reads payloads file is) fault
not_both file payloads at is (inr fault) =
    let both = (one_reading closed_ends broken_ends payloads fault.0 file (log_reads payloads file is) (fault_reads fault.0 file at fault.1)).1 in
    closed_or_broken both.0 both.1 both.2
