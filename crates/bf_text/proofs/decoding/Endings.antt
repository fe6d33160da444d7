-- What the text of a history, of an audit and of the end tells.
use Rattle.std.proofs.Common.{◌≡◌, ℕ, Bool, true, false, ◌&&◌, IsTrue, List, [], ◌∷◌, ◌++◌, drop, take, get_or, codes, Option, Some, None, refl, sym, ap, ◌∙◌, append_assoc, append-nil, arith}
use Rattle.std.specs.List.{list_all}
use Rattle.std.specs.Fmt.{decimal}
use Rattle.std.proofs.lemmas.List.{append_cancel_left}
use Rattle.std.proofs.lemmas.List.Folds.{list_all-append}
use Rattle.std.proofs.lemmas.Bool.{and_parts, and_from}
use Rattle.bf_base.specs.Names.{is_name}
use Rattle.bf_tree.specs.declared.history.Outcome.{Outcome}
use Rattle.bf_tree.specs.declared.history.Outcome.TheVariants.{Committed, RolledBack}
use Rattle.bf_tree.specs.declared.history.Entry.{Entry}
use Rattle.bf_tree.specs.declared.history.Sweep.{Sweep}
use Rattle.bf_tree.specs.declared.history.Sweep.TheVariants.{Never, Complete, Running}
use Rattle.bf_text.specs.Replies.{newline, numbered}
use Rattle.bf_text.specs.Report.{texts_from, outcome_text, entry_text, table_line, audit_text, sweep_text, end_text}
use Rattle.bf_text.specs.Told.{tables_of}
use Rattle.bf_text.specs.Numbers.{is_u64, are_u64, numbers_in_outcome, numbers_in_entry, numbers_in_sweep}
use Rattle.bf_text.proofs.decoding.Runs.{is_inner, is_end, Begins, end_outside, run_splits, number_splits, decimal_inside}
use Rattle.bf_text.proofs.decoding.Pieces.{Piece, Words, Number, Name, piece_fits, pieces_text, pieces_split, pieces_fit}
use Rattle.bf_text.proofs.decoding.Forms.{same_bytes}
use Rattle.bf_text.proofs.decoding.Series.{marked_split, unnumbered}

-- ---- a history

outcome_splits : (x y : Outcome) (r s : List ℕ) → IsTrue (are_u64 (numbers_in_outcome x))
    → IsTrue (are_u64 (numbers_in_outcome y)) → outcome_text x ++ (newline ++ r) ≡ outcome_text y ++ (newline ++ s)
    → (x ≡ y) × (r ≡ s)
outcome_splits (Committed m) (Committed n) r s p q e =
    let both = number_splits m n (and_parts (is_u64 m) true p).0 (and_parts (is_u64 n) true q).0 (newline ++ r)
    (newline ++ s) refl refl (ap (drop 10) e) in
    (ap Committed both.0, ap (drop 1) both.1)
outcome_splits (Committed m) RolledBack r s p q e =
    let first = ap (λ (z : List ℕ). get_or z 0 0) e in
    absurd (omega arith)
outcome_splits RolledBack (Committed n) r s p q e =
    let first = ap (λ (z : List ℕ). get_or z 0 0) e in
    absurd (omega arith)
outcome_splits RolledBack RolledBack r s p q e = (refl, ap (drop 12) e)

-- an entry behind its number, up to its outcome
abbrev entry_line : Entry → List Piece
entry_line e = Words (codes " session ") ∷ Number e.session ∷ Words (codes " from ") ∷ Number e.first ∷
    Words (codes " to ") ∷ Number e.last ∷ Words (codes " ") ∷ []

regrouped : (k a b c d f g h o n r : List ℕ) → ((((((k ++ (a ++ b)) ++ (c ++ d)) ++ (f ++ g)) ++ h) ++ o) ++ n) ++ r
    ≡ k ++ ((a ++ (b ++ (c ++ (d ++ (f ++ (g ++ (h ++ []))))))) ++ (o ++ (n ++ r)))
regrouped k a b c d f g h o n r = simp (append_assoc, append-nil)

entry_is : (k : ℕ) (e : Entry) (r : List ℕ) → entry_text k e ++ r
    ≡ (codes "entry " ++ decimal k) ++ (pieces_text (entry_line e) ++ (outcome_text e.outcome ++ (newline ++ r)))
entry_is k e r =
    regrouped (codes "entry " ++ decimal k) (codes " session ") (decimal e.session) (codes " from ") (decimal e.first)
    (codes " to ") (decimal e.last) (codes " ") (outcome_text e.outcome) newline r

entry_parts : (e : Entry) → IsTrue (are_u64 (numbers_in_entry e))
    → IsTrue (are_u64 (e.session ∷ e.first ∷ e.last ∷ [])) × IsTrue (are_u64 (numbers_in_outcome e.outcome))
entry_parts e h =
    let three = e.session ∷ e.first ∷ e.last ∷ [] in
    and_parts (are_u64 three) (are_u64 (numbers_in_outcome e.outcome))
    (sym (list_all-append is_u64 three (numbers_in_outcome e.outcome)) ∙ h)

same_entry : (x y : Entry) → entry_line x ≡ entry_line y → x.outcome ≡ y.outcome → x ≡ y
same_entry x y e d =
    let a : x.session ≡ y.session = cc in
    let b : x.first ≡ y.first = cc in
    let c : x.last ≡ y.last = cc in
    λ i. record { session = a i; first = b i; last = c i; outcome = d i }

entry_splits : (k : ℕ) (x y : Entry) (r s : List ℕ) → IsTrue (are_u64 (numbers_in_entry x))
    → IsTrue (are_u64 (numbers_in_entry y)) → entry_text k x ++ r ≡ entry_text k y ++ s → (x ≡ y) × (r ≡ s)
entry_splits k x y r s p q e =
    let behind : Entry → List ℕ → List ℕ = λ z u. outcome_text z.outcome ++ (newline ++ u) in
    let inside = append_cancel_left (codes "entry " ++ decimal k) (pieces_text (entry_line x) ++ behind x r)
    (pieces_text (entry_line y) ++ behind y s) (sym (entry_is k x r) ∙ e ∙ entry_is k y s) in
    let left = entry_parts x p in
    let right = entry_parts y q in
    let line = pieces_split (entry_line x) (entry_line y) refl refl refl (pieces_fit (entry_line x) refl left.0)
    (pieces_fit (entry_line y) refl right.0) (behind x r) (behind y s) inside in
    let last = outcome_splits x.outcome y.outcome r s left.1 right.1 line.1 in
    (same_entry x y line.0 last.0, last.1)

abbrev pub begins_entry : List ℕ → Bool
begins_entry text = same_bytes (take 3 text) (codes "ent")

pub history_splits : (xs ys : List Entry) (r s : List ℕ) → IsTrue (list_all (λ e. are_u64 (numbers_in_entry e)) xs)
    → IsTrue (list_all (λ e. are_u64 (numbers_in_entry e)) ys) → begins_entry r ≡ false → begins_entry s ≡ false
    → texts_from entry_text 1 xs ++ r ≡ texts_from entry_text 1 ys ++ s → (xs ≡ ys) × (r ≡ s)
history_splits xs ys r s p q h k e = marked_split entry_text (λ e. are_u64 (numbers_in_entry e)) begins_entry
    (λ n x u. refl) entry_splits 1 xs ys r s p q h k e

-- ---- an audit

abbrev pub table_fits : List ℕ × ℕ → Bool
table_fits table = is_name table.0 && is_u64 table.1

abbrev table_pieces : List ℕ × ℕ → List Piece
table_pieces table = Words (codes "audit table ") ∷ Name table.0 ∷ Words (codes " rows ") ∷ Number table.1 ∷
    Words newline ∷ []

table_is : (table : List ℕ × ℕ) → table_line table ≡ pieces_text (table_pieces table)
table_is table = simp (append_assoc, append-nil)

table_splits : (x y : List ℕ × ℕ) (r s : List ℕ) → IsTrue (table_fits x) → IsTrue (table_fits y)
    → table_line x ++ r ≡ table_line y ++ s → (x ≡ y) × (r ≡ s)
table_splits x y r s p q e =
    let left = and_parts (is_name x.0) (is_u64 x.1) p in
    let right = and_parts (is_name y.0) (is_u64 y.1) q in
    let fit : (t : List ℕ × ℕ) → IsTrue (is_name t.0) → IsTrue (is_u64 t.1)
    → IsTrue (list_all piece_fits (table_pieces t)) =
    λ t a b. pieces_fit (table_pieces t) (and_from (is_name t.0) true a refl) (and_from (is_u64 t.1) true b refl) in
    let line = pieces_split (table_pieces x) (table_pieces y) refl refl refl (fit x left.0 left.1)
    (fit y right.0 right.1) r s
    (sym (ap (λ (z : List ℕ). z ++ r) (table_is x)) ∙ e ∙ ap (λ (z : List ℕ). z ++ s) (table_is y)) in
    let a : x.0 ≡ y.0 = cc (line.0) in
    let b : x.1 ≡ y.1 = cc (line.0) in
    (λ i. (a i, b i), line.1)

abbrev begins_audit : List ℕ → Bool
begins_audit text = same_bytes (take 3 text) (codes "aud")

audit_is : (audit : Option (List (List ℕ × ℕ))) (r : List ℕ)
    → audit_text audit ++ r ≡ texts_from (λ n. table_line) 1 (tables_of audit) ++ r
audit_is None r = refl
audit_is (Some tables) r = ap (λ (z : List ℕ). z ++ r) (unnumbered table_line 1 tables)

pub audit_splits : (audit second : Option (List (List ℕ × ℕ))) (c d : ℕ) (sweep last : Sweep)
    → IsTrue (list_all table_fits (tables_of audit)) → IsTrue (list_all table_fits (tables_of second))
    → audit_text audit ++ end_text c sweep ≡ audit_text second ++ end_text d last
    → (tables_of audit ≡ tables_of second) × (end_text c sweep ≡ end_text d last)
audit_splits audit second c d sweep last p q e =
    marked_split (λ n. table_line) table_fits begins_audit (λ n x u. refl) (λ n. table_splits) 1 (tables_of audit)
    (tables_of second) (end_text c sweep) (end_text d last) p q refl refl
    (sym (audit_is audit (end_text c sweep)) ∙ e ∙ audit_is second (end_text d last))

pub audit_behind : (audit : Option (List (List ℕ × ℕ))) (c : ℕ) (sweep : Sweep)
    → begins_entry (audit_text audit ++ end_text c sweep) ≡ false
audit_behind None c sweep = refl
audit_behind (Some []) c sweep = refl
audit_behind (Some (table ∷ tables)) c sweep = refl

-- ---- the end

-- a sweep's text with the line's end, as its first word and what stands behind
abbrev first_word : Sweep → List ℕ
first_word Never = codes "none"
first_word (Complete m moved) = decimal m
first_word (Running m moved unit position) = decimal m

abbrev behind_first : Sweep → List ℕ
behind_first Never = newline
behind_first (Complete m moved) = numbered (codes " complete ") moved ++ newline
behind_first (Running m moved unit position) = numbered (codes " moved ") moved
    ++ (numbered (codes " next unit ") unit ++ (numbered (codes " position ") position ++ newline))

sweep_is : (x : Sweep) → sweep_text x ++ newline ≡ first_word x ++ behind_first x
sweep_is Never = refl
sweep_is (Complete m moved) = simp append_assoc
sweep_is (Running m moved unit position) = simp (append_assoc, numbered)

first_inside : (x : Sweep) → IsTrue (are_u64 (numbers_in_sweep x)) → IsTrue (list_all is_inner (first_word x))
first_inside Never h = refl
first_inside (Complete m moved) h = decimal_inside m (and_parts (is_u64 m) (are_u64 (moved ∷ [])) h).0
first_inside (Running m moved unit position) h = decimal_inside m
    (and_parts (is_u64 m) (are_u64 (moved ∷ unit ∷ position ∷ [])) h).0

first_ends : (x : Sweep) → Begins is_end (behind_first x)
first_ends Never = refl
first_ends (Complete m moved) = refl
first_ends (Running m moved unit position) = refl

first_splits : (x y : Sweep) → IsTrue (are_u64 (numbers_in_sweep x)) → IsTrue (are_u64 (numbers_in_sweep y))
    → sweep_text x ++ newline ≡ sweep_text y ++ newline → behind_first x ≡ behind_first y
first_splits x y p q e =
    (run_splits is_inner is_end end_outside (first_word x) (first_word y) (first_inside x p) (first_inside y q)
    (behind_first x) (behind_first y) (first_ends x) (first_ends y) (sym (sweep_is x) ∙ e ∙ sweep_is y)).1

abbrev complete_line : ℕ → ℕ → List Piece
complete_line m moved = Number m ∷ Words (codes " complete ") ∷ Number moved ∷ Words newline ∷ []

abbrev running_line : ℕ → ℕ → ℕ → ℕ → List Piece
running_line m moved unit position =
    Number m ∷ Words (codes " moved ") ∷ Number moved ∷ Words (codes " next unit ") ∷ Number unit ∷
    Words (codes " position ") ∷ Number position ∷ Words newline ∷ []

complete_is : (m moved : ℕ) → sweep_text (Complete m moved) ++ newline ≡ pieces_text (complete_line m moved) ++ []
complete_is m moved = simp (append_assoc, append-nil)

running_is : (m moved unit position : ℕ) → sweep_text (Running m moved unit position) ++ newline
    ≡ pieces_text (running_line m moved unit position) ++ []
running_is m moved unit position = simp (append_assoc, append-nil)

sweep_splits : (x y : Sweep) → IsTrue (are_u64 (numbers_in_sweep x)) → IsTrue (are_u64 (numbers_in_sweep y))
    → sweep_text x ++ newline ≡ sweep_text y ++ newline → x ≡ y
sweep_splits Never Never p q e = refl
sweep_splits (Complete m a) (Complete n b) p q e =
    let same = pieces_split (complete_line m a) (complete_line n b) refl refl refl
    (pieces_fit (complete_line m a) refl p) (pieces_fit (complete_line n b) refl q) [] []
    (sym (complete_is m a) ∙ e ∙ complete_is n b) in
    cc (same.0)
sweep_splits (Running m a u i) (Running n b v j) p q e =
    let same = pieces_split (running_line m a u i) (running_line n b v j) refl refl refl
    (pieces_fit (running_line m a u i) refl p) (pieces_fit (running_line n b v j) refl q) [] []
    (sym (running_is m a u i) ∙ e ∙ running_is n b v j) in
    cc (same.0)
sweep_splits x y p q e =
    let second = ap (λ (z : List ℕ). get_or z 1 0) (first_splits x y p q e) in
    absurd (omega arith)

pub end_splits : (c : ℕ) (x y : Sweep) → IsTrue (are_u64 (numbers_in_sweep x)) → IsTrue (are_u64 (numbers_in_sweep y))
    → end_text c x ≡ end_text c y → x ≡ y
end_splits c x y p q e =
    let front = numbered (codes "end commits ") c ++ codes " migration " in
    sweep_splits x y p q (append_cancel_left front (sweep_text x ++ newline) (sweep_text y ++ newline)
    (sym (append_assoc front (sweep_text x) newline) ∙ e ∙ append_assoc front (sweep_text y) newline))
