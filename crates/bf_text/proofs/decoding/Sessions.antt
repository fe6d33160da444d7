-- What the text of the sessions' replies tells.
use Rattle.std.proofs.Common.{◌≡◌, ℕ, Bool, ◌&&◌, IsTrue, List, [], ◌∷◌, ◌++◌, length, map, flat_map, take, codes, refl, sym, ap, ap₂, ◌∙◌, append_assoc}
use Rattle.std.specs.List.{list_all}
use Rattle.std.proofs.lemmas.List.{append_cancel_left}
use Rattle.std.proofs.lemmas.List.Folds.{list_all-append}
use Rattle.std.proofs.lemmas.Bool.{and_parts, and_from}
use Rattle.bf_tree.specs.declared.reply.Cell.{Cell}
use Rattle.bf_tree.specs.declared.reply.Reply.{Reply}
use Rattle.bf_text.specs.Replies.{cell_text, listed, place_text, row_line, reply_text}
use Rattle.bf_text.specs.Report.{texts_from, session_text}
use Rattle.bf_text.specs.Told.{is_named}
use Rattle.bf_text.specs.Numbers.{is_u64, are_u64, numbers_in, numbers_in_cell}
use Rattle.bf_text.proofs.decoding.Items.{cell_fits, cells_split}
use Rattle.bf_text.proofs.decoding.Pieces.{piece_fits, pieces_text, numbers_of, shape, pieces_split, pieces_fit}
use Rattle.bf_text.proofs.decoding.Forms.{reply_line, rows_of, without_rows, with_rows, front_of, front_is, made, made_of, shape_of, line_parted, names_told, numbers_told, body_is, rows_put_back, count_in, rows_counted_of}
use Rattle.bf_text.proofs.decoding.Series.{AreOfOneSize, sizeless, alike_by_sizes, alike_by_length, alike_split, unnumbered}

-- ---- rows

abbrev numbers_in_row : List Cell → List ℕ
numbers_in_row row = flat_map numbers_in_cell row

abbrev row_fits : List Cell → Bool
row_fits row = list_all cell_fits row

row_fits_from : (row : List Cell) → IsTrue (are_u64 (numbers_in_row row)) → IsTrue (row_fits row)
row_fits_from [] h = refl
row_fits_from (c ∷ row) h =
    let parts = and_parts (cell_fits c) (are_u64 (numbers_in_row row))
    (sym (list_all-append is_u64 (numbers_in_cell c) (numbers_in_row row)) ∙ h) in
    and_from (cell_fits c) (row_fits row) parts.0 (row_fits_from row parts.1)

rows_fit_from : (rows : List (List Cell)) → IsTrue (are_u64 (flat_map (λ row. flat_map numbers_in_cell row) rows))
    → IsTrue (list_all row_fits rows)
rows_fit_from [] h = refl
rows_fit_from (row ∷ rows) h =
    let further = flat_map (λ row. flat_map numbers_in_cell row) rows in
    let parts = and_parts (are_u64 (numbers_in_row row)) (are_u64 further)
    (sym (list_all-append is_u64 (numbers_in_row row) further) ∙ h) in
    and_from (row_fits row) (list_all row_fits rows) (row_fits_from row parts.0) (rows_fit_from rows parts.1)

row_splits : (k n : ℕ) (x y : List Cell) (r s : List ℕ) → IsTrue (row_fits x) → IsTrue (row_fits y)
    → row_line k n x ++ r ≡ row_line k n y ++ s → (x ≡ y) × (r ≡ s)
row_splits k n x y r s p q e =
    let place = place_text k n ++ codes " | " in
    let regroup : (z : List Cell) (u : List ℕ) → row_line k n z ++ u ≡ place ++ (listed (map cell_text z) ++ 10 ∷ u) =
    λ z u. simp append_assoc in
    let inside = append_cancel_left place (listed (map cell_text x) ++ 10 ∷ r) (listed (map cell_text y) ++ 10 ∷ s)
    (sym (regroup x r) ∙ e ∙ regroup y s) in
    let both = cells_split x y p q (10 ∷ r) (10 ∷ s) refl refl inside in
    (both.0, cc (both.1))

rows_split : (k n : ℕ) (xs ys : List (List Cell)) (r s : List ℕ) → length xs ≡ length ys
    → IsTrue (list_all row_fits xs) → IsTrue (list_all row_fits ys)
    → flat_map (row_line k n) xs ++ r ≡ flat_map (row_line k n) ys ++ s → (xs ≡ ys) × (r ≡ s)
rows_split k n xs ys r s l p q e =
    alike_split (λ m. row_line k n) (AreOfOneSize sizeless row_fits) (λ m x y t u a. row_splits k n x y t u a.1 a.2) 1
    xs ys r s (alike_by_length row_fits xs ys l p q)
    (sym (ap (λ (z : List ℕ). z ++ r) (unnumbered (row_line k n) 1 xs)) ∙ e
    ∙ ap (λ (z : List ℕ). z ++ s) (unnumbered (row_line k n) 1 ys))

-- ---- a reply

-- its names are names and its numbers have at most 64 bits
abbrev pub reply_fits : Reply → Bool
reply_fits r = is_named r && are_u64 (numbers_in r)

abbrev Fits : Reply → Type 0
Fits r = IsTrue (list_all piece_fits (reply_line r)) × IsTrue (list_all row_fits (rows_of r))

fits_from : (r : Reply) → IsTrue (reply_fits r) → Fits r
fits_from r h =
    let parts = and_parts (is_named r) (are_u64 (numbers_in r)) h in
    let rows = flat_map (λ row. flat_map numbers_in_cell row) (rows_of r) in
    let numbers = and_parts (are_u64 (numbers_of (reply_line r))) (are_u64 rows)
    (sym (list_all-append is_u64 (numbers_of (reply_line r)) rows) ∙ ap are_u64 (sym (numbers_told r))
    ∙ parts.1) in
    (pieces_fit (reply_line r) (sym (names_told r) ∙ parts.0) numbers.0, rows_fit_from (rows_of r) numbers.1)

line_splits : (x y : Reply) (r s : List ℕ) → IsTrue (reply_fits x) → IsTrue (reply_fits y)
    → pieces_text (reply_line x) ++ r ≡ pieces_text (reply_line y) ++ s
    → (without_rows x ≡ without_rows y) × (length (rows_of x) ≡ length (rows_of y)) × (r ≡ s)
line_splits x y r s p q e =
    let front : front_of x ≡ front_of y = sym (front_is x r) ∙ ap (λ (z : List ℕ). take 3 z) e ∙ front_is y s in
    let shapes : map shape (reply_line x) ≡ map shape (reply_line y) = sym (shape_of x)
    ∙ ap (λ (z : List ℕ). map shape (reply_line (made z []))) front ∙ shape_of y in
    let both = pieces_split (reply_line x) (reply_line y) shapes (line_parted x) (line_parted y) (fits_from x p).0
    (fits_from y q).0 r s e in
    let same : made (front_of x) (reply_line x) ≡ made (front_of y) (reply_line y) = ap₂ made front both.0 in
    let counts : count_in (made (front_of x) []) (reply_line x) ≡ count_in (made (front_of y) []) (reply_line y) =
    ap₂ (λ z ps. count_in (made z []) ps) front both.0 in
    (sym (made_of x) ∙ same ∙ made_of y, rows_counted_of x ∙ counts ∙ sym (rows_counted_of y), both.1)

reply_splits : (k n : ℕ) (x y : Reply) (r s : List ℕ) → IsTrue (reply_fits x) → IsTrue (reply_fits y)
    → reply_text k n x ++ r ≡ reply_text k n y ++ s → (x ≡ y) × (r ≡ s)
reply_splits k n x y r s p q e =
    let rows : Reply → List ℕ = λ z. flat_map (row_line k n) (rows_of z) in
    let place = place_text k n ++ codes " " in
    let regroup : (z : Reply) (u : List ℕ) → reply_text k n z ++ u
    ≡ place ++ (pieces_text (reply_line z) ++ (rows z ++ u)) =
    λ z u. rw (body_is k n z) (simp append_assoc) in
    let inside = append_cancel_left place (pieces_text (reply_line x) ++ (rows x ++ r))
    (pieces_text (reply_line y) ++ (rows y ++ s)) (sym (regroup x r) ∙ e ∙ regroup y s) in
    let line = line_splits x y (rows x ++ r) (rows y ++ s) p q inside in
    let more = rows_split k n (rows_of x) (rows_of y) r s line.1 (fits_from x p).1 (fits_from y q).1 line.2 in
    (sym (rows_put_back x) ∙ ap₂ with_rows more.0 line.0 ∙ rows_put_back y, more.1)

-- ---- all of them

abbrev replies_fit : List Reply → Bool
replies_fit replies = list_all reply_fits replies

session_splits : (k : ℕ) (xs ys : List Reply) (r s : List ℕ) → AreOfOneSize length replies_fit xs ys
    → session_text k xs ++ r ≡ session_text k ys ++ s → (xs ≡ ys) × (r ≡ s)
session_splits k xs ys r s a e =
    alike_split (reply_text k) (AreOfOneSize sizeless reply_fits) (λ n x y t u b. reply_splits k n x y t u b.1 b.2) 1
    xs ys r s (alike_by_length reply_fits xs ys a.0 a.1 a.2) e

pub sessions_split : (xs ys : List (List Reply)) (r s : List ℕ) → map length xs ≡ map length ys
    → IsTrue (list_all replies_fit xs) → IsTrue (list_all replies_fit ys)
    → texts_from session_text 1 xs ++ r ≡ texts_from session_text 1 ys ++ s → (xs ≡ ys) × (r ≡ s)
sessions_split xs ys r s l p q e = alike_split session_text (AreOfOneSize length replies_fit) session_splits 1 xs ys r
    s (alike_by_sizes length replies_fit xs ys l p q) e
