-- Lines of words, numbers, names and keys: where the words are the same, their text tells the rest.
use Rattle.std.proofs.Common.{◌≡◌, ℕ, Bool, true, false, ◌&&◌, IsTrue, List, [], ◌∷◌, ◌++◌, map, flat_map, refl, sym, ap, ◌∙◌, append_assoc}
use Rattle.std.specs.Prelude.{⊤}
use Rattle.std.specs.List.{list_all}
use Rattle.std.specs.Fmt.{decimal}
use Rattle.std.proofs.lemmas.List.{append_cancel_left}
use Rattle.std.proofs.lemmas.List.Folds.{list_all-append}
use Rattle.std.proofs.lemmas.Bool.{and_parts, and_from}
use Rattle.bf_base.specs.Names.{is_name}
use Rattle.bf_base.specs.declared.value.Value.{Value}
use Rattle.bf_text.specs.Replies.{values_text}
use Rattle.bf_text.specs.Numbers.{is_u64, are_u64, numbers_in_value}
use Rattle.bf_text.proofs.decoding.Runs.{is_stop, is_end, Begins, Begins-weaker, stop_ends, name_splits, number_splits}
use Rattle.bf_text.proofs.decoding.Items.{value_fits, values_split}

pub data Piece : Type 0 where
  Words : List ℕ → Piece
  Number : ℕ → Piece
  Name : List ℕ → Piece
  Key : List Value → Piece

abbrev pub piece_text : Piece → List ℕ
piece_text (Words words) = words
piece_text (Number n) = decimal n
piece_text (Name name) = name
piece_text (Key key) = values_text key

abbrev pub pieces_text : List Piece → List ℕ
pieces_text ps = flat_map piece_text ps

-- a piece with its number, name or key left out
abbrev pub shape : Piece → Piece
shape (Words words) = Words words
shape (Number n) = Number 0
shape (Name name) = Name []
shape (Key key) = Key []

abbrev pub names_of : List Piece → List (List ℕ)
names_of [] = []
names_of (Name name ∷ ps) = name ∷ names_of ps
names_of (p ∷ ps) = names_of ps

abbrev pub numbers_of : List Piece → List ℕ
numbers_of [] = []
numbers_of (Number n ∷ ps) = n ∷ numbers_of ps
numbers_of (Key key ∷ ps) = flat_map numbers_in_value key ++ numbers_of ps
numbers_of (p ∷ ps) = numbers_of ps

abbrev pub piece_fits : Piece → Bool
piece_fits (Words words) = true
piece_fits (Number n) = is_u64 n
piece_fits (Name name) = is_name name
piece_fits (Key key) = list_all value_fits key

-- words with a byte first that no list goes on with
abbrev pub stops : List Piece → Bool
stops (Words (b ∷ bs) ∷ ps) = is_stop b
stops ps = false

-- behind each number, name and key there are such words
abbrev pub is_parted : List Piece → Bool
is_parted [] = true
is_parted (Words words ∷ ps) = is_parted ps
is_parted (p ∷ ps) = stops ps && is_parted ps

-- ---- one piece

-- what stands behind a piece shows its end
abbrev EndsBehind : Piece → List ℕ → Type 0
EndsBehind (Words words) r = ⊤
EndsBehind p r = Begins is_stop r

words_split : (v w r s : List ℕ) → v ≡ w → v ++ r ≡ w ++ s → r ≡ s
words_split v w r s e d = append_cancel_left v r s (d ∙ ap (λ (z : List ℕ). z ++ s) (sym e))

piece_splits : (p q : Piece) (r s : List ℕ) → shape p ≡ shape q → IsTrue (piece_fits p) → IsTrue (piece_fits q)
    → EndsBehind p r → EndsBehind q s → piece_text p ++ r ≡ piece_text q ++ s → (p ≡ q) × (r ≡ s)
piece_splits (Words v) (Words w) r s d f g h k e = (d, words_split v w r s (cc) e)
piece_splits (Number m) (Number n) r s d f g h k e =
    let both = number_splits m n f g r s (Begins-weaker is_stop is_end stop_ends r h)
    (Begins-weaker is_stop is_end stop_ends s k) e in
    (ap Number both.0, both.1)
piece_splits (Name x) (Name y) r s d f g h k e =
    let both = name_splits x y f g r s (Begins-weaker is_stop is_end stop_ends r h)
    (Begins-weaker is_stop is_end stop_ends s k) e in
    (ap Name both.0, both.1)
piece_splits (Key v) (Key w) r s d f g h k e = let both = values_split v w f g r s h k e in (ap Key both.0, both.1)
piece_splits p q r s d f g h k e = absurd cc

-- ---- a line of them

stop_behind : (ps : List Piece) (r : List ℕ) → stops ps ≡ true → Begins is_stop (pieces_text ps ++ r)
stop_behind (Words (b ∷ bs) ∷ ps) r h = h
stop_behind ps r h = absurd cc

end_behind : (p : Piece) (ps : List Piece) (r : List ℕ) → is_parted (p ∷ ps) ≡ true
    → EndsBehind p (pieces_text ps ++ r)
end_behind (Words words) ps r h = tt
end_behind (Number n) ps r h = stop_behind ps r (and_parts (stops ps) (is_parted ps) h).0
end_behind (Name name) ps r h = stop_behind ps r (and_parts (stops ps) (is_parted ps) h).0
end_behind (Key key) ps r h = stop_behind ps r (and_parts (stops ps) (is_parted ps) h).0

parted_behind : (p : Piece) (ps : List Piece) → is_parted (p ∷ ps) ≡ true → is_parted ps ≡ true
parted_behind (Words words) ps h = h
parted_behind (Number n) ps h = (and_parts (stops ps) (is_parted ps) h).1
parted_behind (Name name) ps h = (and_parts (stops ps) (is_parted ps) h).1
parted_behind (Key key) ps h = (and_parts (stops ps) (is_parted ps) h).1

pub pieces_split : (ps qs : List Piece) → map shape ps ≡ map shape qs → is_parted ps ≡ true → is_parted qs ≡ true
    → IsTrue (list_all piece_fits ps) → IsTrue (list_all piece_fits qs)
    → (r s : List ℕ) → pieces_text ps ++ r ≡ pieces_text qs ++ s → (ps ≡ qs) × (r ≡ s)
pieces_split [] [] d a b f g r s e = (refl, e)
pieces_split [] (q ∷ qs) d a b f g r s e = absurd cc
pieces_split (p ∷ ps) [] d a b f g r s e = absurd cc
pieces_split (p ∷ ps) (q ∷ qs) d a b f g r s e =
    let left = and_parts (piece_fits p) (list_all piece_fits ps) f in
    let right = and_parts (piece_fits q) (list_all piece_fits qs) g in
    let regrouped : piece_text p ++ (pieces_text ps ++ r) ≡ piece_text q ++ (pieces_text qs ++ s) =
    sym (append_assoc (piece_text p) (pieces_text ps) r) ∙ e ∙ append_assoc (piece_text q) (pieces_text qs) s in
    let first = piece_splits p q (pieces_text ps ++ r) (pieces_text qs ++ s) (cc) left.0 right.0 (end_behind p ps r a)
    (end_behind q qs s b) regrouped in
    let more = pieces_split ps qs (cc) (parted_behind p ps a) (parted_behind q qs b) left.1 right.1 r s first.1 in
    let whole : p ∷ ps ≡ q ∷ qs = cc (first.0, more.0) in
    (whole, more.1)

-- ---- what fits

values_fit : (vs : List Value) (ns : List ℕ) → IsTrue (are_u64 (flat_map numbers_in_value vs ++ ns))
    → IsTrue (list_all value_fits vs) × IsTrue (are_u64 ns)
values_fit [] ns h = (refl, h)
values_fit (v ∷ vs) ns h =
    let regrouped = append_assoc (numbers_in_value v) (flat_map numbers_in_value vs) ns in
    let parts = and_parts (value_fits v) (are_u64 (flat_map numbers_in_value vs ++ ns))
    (sym (list_all-append is_u64 (numbers_in_value v) (flat_map numbers_in_value vs ++ ns))
    ∙ ap are_u64 (sym regrouped) ∙ h) in
    let more = values_fit vs ns parts.1 in
    (and_from (value_fits v) (list_all value_fits vs) parts.0 more.0, more.1)

pub pieces_fit : (ps : List Piece) → IsTrue (list_all is_name (names_of ps)) → IsTrue (are_u64 (numbers_of ps))
    → IsTrue (list_all piece_fits ps)
pieces_fit [] h k = refl
pieces_fit (Words words ∷ ps) h k = pieces_fit ps h k
pieces_fit (Number n ∷ ps) h k = let parts = and_parts (is_u64 n) (are_u64 (numbers_of ps)) k in
    and_from (is_u64 n) (list_all piece_fits ps) parts.0 (pieces_fit ps h parts.1)
pieces_fit (Name name ∷ ps) h k = let parts = and_parts (is_name name) (list_all is_name (names_of ps)) h in
    and_from (is_name name) (list_all piece_fits ps) parts.0 (pieces_fit ps parts.1 k)
pieces_fit (Key key ∷ ps) h k = let parts = values_fit key (numbers_of ps) k in
    and_from (list_all value_fits key) (list_all piece_fits ps) parts.0 (pieces_fit ps h parts.1)
