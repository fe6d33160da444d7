-- The columns that refs and names mean.
use Rattle.std.proofs.Common.{◌≡◌, ℕ, zero, suc, ◌+◌, ◌-◌, ◌<◌, ◌≤◌, Bool, true, false, ◌&&◌, ◌||◌, List, [], ◌∷◌, ◌++◌, map, filter, length, get_or, drop, Option, Some, None, is_some, position, ltb, eqb, refl, sym, ap, subst, ◌∙◌, inl, inr, arith, add-zero, zero-add}
use borrow.Author.Tests.{tests}
use Rattle.std.specs.List.{list_any, enumerate_from, position_from}
use Rattle.std.specs.Option.{option_map}
use Rattle.std.proofs.lemmas.Bool.{cases_Bool}
use Rattle.std.proofs.lemmas.Iterator.Adapters.{position_from-zero}
use Rattle.std.proofs.lemmas.List.Quantifiers.{position-Some}
use Rattle.std.proofs.lemmas.List.{drop-map, get_or_append_left, get_or-append-add, get_or_past, length-map, map-append}
use Rattle.std.proofs.lemmas.List.Folds.{list_any-append}
use Rattle.bf_base.specs.Names.{is_name}
use Rattle.bf_base.specs.declared.table.Admit.{Admit}
use Rattle.bf_base.specs.declared.table.Admit.TheVariants as admits
use Rattle.bf_base.specs.declared.table.Column.{Column}
use Rattle.bf_base.specs.declared.table.Table.{Table}
use Rattle.bf_base.specs.Lists.{same_name, has}
use Rattle.bf_base.specs.Tables.{kind_admitted}
use Rattle.bf_base.proofs.Order.{list_any-map}
use Rattle.bf_tree.specs.declared.raw.Ref.{Ref}
use Rattle.bf_sql.specs.Objections.{column_names}
use Rattle.bf_sql.specs.Scopes.{Scope, scope_of, places_of, unqualified, qualifier_objections, ref_objections}
use Rattle.bf_tree.specs.declared.reply.Refusal.TheVariants as refusal
use Rattle.bf_bind.specs.Parts.{column_at, column_of, first_meant, means}
use Rattle.bf_bind.specs.declared.scope.ColumnPlace.{ColumnPlace}

-- whether an item passes is told by the first that does
list_any-position_from : {X : Type 0} (p : X → Bool) (k : ℕ) (xs : List X) → list_any p xs ≡ is_some (position_from p k xs)
list_any-position_from p k [] = refl
list_any-position_from p k (x ∷ xs) = elim (cases_Bool (p x)) [
  | inl passes ↦ rw passes
  | inr fails ↦ rw fails (list_any-position_from p (k + 1) xs)
]

pub list_any-position : {X : Type 0} (p : X → Bool) (xs : List X) → list_any p xs ≡ is_some (position p xs)
list_any-position p xs = list_any-position_from p 0 xs ∙ ap is_some (sym (position_from-zero p xs))

and-true : (b : Bool) → (b && true) ≡ b
and-true true = refl
and-true false = refl

any_false : {X : Type 0} (xs : List X) → list_any (λ _. false) xs ≡ false
any_false [] = refl
any_false (x ∷ xs) = any_false xs

any_constant : {X : Type 0} (b : Bool) (xs : List X) → (length xs ≡ 0 → ⊥) → list_any (λ _. b) xs ≡ b
any_constant b [] some = absurd (some refl)
any_constant true (x ∷ xs) some = refl
any_constant false (x ∷ xs) some = any_false xs

same_position_from : {X : Type 0} (p q : X → Bool) → ((x : X) → p x ≡ q x) → (k : ℕ) (xs : List X) → position_from p k xs ≡ position_from q k xs
same_position_from p q same k [] = refl
same_position_from p q same k (x ∷ xs) = rw (same x, same_position_from p q same (k + 1) xs)

same_position : {X : Type 0} (p q : X → Bool) → ((x : X) → q x ≡ p x) → (xs : List X) → position q xs ≡ position p xs
same_position p q same xs = position_from-zero q xs ∙ same_position_from q p same 0 xs ∙ sym (position_from-zero p xs)

module _ {X : Type 0} (p : X → Bool) where
  -- the places of the items that pass, counted from k
  abbrev places : ℕ → List X → List ℕ
  places k xs = map (λ c. c.0) (filter (λ c. p c.1) (enumerate_from k xs))

  places_none : (k : ℕ) (xs : List X) → list_any p xs ≡ false → places k xs ≡ []
  places_none k [] none = refl
  places_none k (x ∷ xs) none = elim (cases_Bool (p x)) [
    | inl passes ↦ let wrong : true ≡ false = rw passes at none in absurd cc
    | inr fails ↦
        let rest : list_any p xs ≡ false = rw fails at none in
        rw fails (places_none (k + 1) xs rest)
  ]

  places_some : (k : ℕ) (xs : List X) → list_any p xs ≡ true → (length (places k xs) ≡ 0 → ⊥)
  places_some k [] some = λ _. absurd cc
  places_some k (x ∷ xs) some = elim (cases_Bool (p x)) [
    | inl passes ↦ rw passes (λ e. omega (arith, e))
    | inr fails ↦
        let rest : list_any p xs ≡ true = rw fails at some in
        rw fails (places_some (k + 1) xs rest)
  ]

  -- the first of them, and those behind it
  places_first : (k : ℕ) (xs : List X) (i : ℕ) (d : X) → i < length xs → p (get_or xs i d) ≡ true → ((j : ℕ) → j < i → p (get_or xs j d) ≡ false) → places k xs ≡ (k + i) ∷ places (k + i + 1) (drop (i + 1) xs)
  places_first k [] i d in_range passes fail = absurd (omega arith)
  places_first k (x ∷ xs) zero d in_range passes fail = rw (passes, add-zero)
  places_first k (x ∷ xs) (suc i) d in_range passes fail =
      let first : p x ≡ false = fail 0 (omega arith) in
      let rest = places_first (k + 1) xs i d (omega arith) passes (λ j low. fail (suc j) (omega arith)) in
      let counted : k + 1 + i ≡ k + suc i = omega arith in
      let one_more : suc i + 1 ≡ suc (i + 1) = omega arith in
      rw (first, one_more, ← counted) rest

  -- the first place, counted from k + n and not from k
  position_from-later : (n k : ℕ) (xs : List X) → position_from p (n + k) xs ≡ option_map (λ i. n + i) (position_from p k xs)
  position_from-later n k [] = refl
  position_from-later n k (x ∷ xs) = elim (cases_Bool (p x)) [
    | inl passes ↦ rw passes
    | inr fails ↦
        let counted : n + k + 1 ≡ n + (k + 1) = omega arith in
        rw (fails, counted) (position_from-later n (k + 1) xs)
  ]

  position_from-left : (k : ℕ) (xs ys : List X) (i : ℕ) → position_from p k xs ≡ Some i → position_from p k (xs ++ ys) ≡ Some i
  position_from-left k [] ys i e = absurd cc
  position_from-left k (x ∷ xs) ys i e = elim (cases_Bool (p x)) [
    | inl passes ↦ let here : Some k ≡ Some i = rw passes at e in rw passes here
    | inr fails ↦ let rest : position_from p (k + 1) xs ≡ Some i = rw fails at e in rw fails (position_from-left (k + 1) xs ys i rest)
  ]

  position_from-right : (k : ℕ) (xs ys : List X) → position_from p k xs ≡ None → position_from p k (xs ++ ys) ≡ position_from p (length xs + k) ys
  position_from-right k [] ys e = rw zero-add
  position_from-right k (x ∷ xs) ys e = elim (cases_Bool (p x)) [
    | inl passes ↦ let wrong : Some k ≡ None = rw passes at e in absurd cc
    | inr fails ↦
        let rest : position_from p (k + 1) xs ≡ None = rw fails at e in
        let counted : length xs + (k + 1) ≡ suc (length xs) + k = omega arith in
        rw (fails, ← counted) (position_from-right (k + 1) xs ys rest)
  ]

  -- the first place in two lists, one behind the other
  position-left : (xs ys : List X) (i : ℕ) → position p xs ≡ Some i → position p (xs ++ ys) ≡ Some i
  position-left xs ys i e = position_from-zero p (xs ++ ys) ∙ position_from-left 0 xs ys i (sym (position_from-zero p xs) ∙ e)

  position-right : (xs ys : List X) → position p xs ≡ None → position p (xs ++ ys) ≡ option_map (λ i. length xs + i) (position p ys)
  position-right xs ys e =
      position_from-zero p (xs ++ ys) ∙ position_from-right 0 xs ys (sym (position_from-zero p xs) ∙ e) ∙ position_from-later (length xs) 0 ys
      ∙ ap (option_map (λ i. length xs + i)) (sym (position_from-zero p ys))

  drop-append : (n : ℕ) (xs ys : List X) → drop n (xs ++ ys) ≡ drop n xs ++ drop (n - length xs) ys
  drop-append zero xs ys = let none : 0 - length xs ≡ 0 = omega arith in rw none
  drop-append (suc n) [] ys = let all : suc n - 0 ≡ suc n = omega arith in rw all
  drop-append (suc n) (x ∷ xs) ys = let less : suc n - suc (length xs) ≡ n - length xs = omega arith in rw less (drop-append n xs ys)

  pub any_from : (n : ℕ) (xs ys : List X) → list_any p (drop n (xs ++ ys)) ≡ (list_any p (drop n xs) || list_any p (drop (n - length xs) ys))
  any_from n xs ys = ap (list_any p) (drop-append n xs ys) ∙ list_any-append p (drop n xs) (drop (n - length xs) ys)

position_from-map : {X Y : Type 0} (p : Y → Bool) (f : X → Y) (k : ℕ) (xs : List X) → position_from p k (map f xs) ≡ position_from (λ x. p (f x)) k xs
position_from-map p f k [] = refl
position_from-map p f k (x ∷ xs) = rw (position_from-map p f (k + 1) xs)

position-map : {X Y : Type 0} (p : Y → Bool) (f : X → Y) (xs : List X) → position p (map f xs) ≡ position (λ x. p (f x)) xs
position-map p f xs = position_from-zero p (map f xs) ∙ position_from-map p f 0 xs ∙ sym (position_from-zero (λ x. p (f x)) xs)

at_map : {X Y Z : Type 0} (g : Y → Z) (f : X → Y) (xs : List X) (i : ℕ) (d : X) (e : Z) → i < length xs → get_or (map g (map f xs)) i e ≡ g (f (get_or xs i d))
at_map g f [] i d e in_range = absurd (omega arith)
at_map g f (x ∷ xs) zero d e in_range = refl
at_map g f (x ∷ xs) (suc i) d e in_range = at_map g f xs i d e (omega arith)

-- what stands for a column past the end
abbrev no_column : List ℕ × Column
no_column = ([], record { name = []; admits = admits.Int })

abbrev admitted : List ℕ × Column → Admit
admitted c = c.1.admits

-- the column at a place of a table
pub column_at-table : (table : Table) (i : ℕ) (column : Column) → i < length table.columns → column ≡ get_or table.columns i column → column_at (scope_of table) i ≡ record { place = i; kind = kind_admitted column.admits }
column_at-table table i column in_range is =
    let at = at_map admitted (λ (c : Column). (table.name, c)) table.columns i column admits.Int in_range in
    rw (at, ← is)

-- the first column that a ref means in a table
pub first_meant-table : (table : Table) (ref : Ref) → first_meant (scope_of table) ref ≡ option_map (column_at (scope_of table)) (position (λ (c : Column). means ref (table.name, c)) table.columns)
first_meant-table table ref = ap (option_map (column_at (scope_of table))) (position-map (means ref) (λ (c : Column). (table.name, c)) table.columns)

-- whether a ref means a column of a table from a place on
pub any_from-table : (table : Table) (ref : Ref) (n : ℕ) → list_any (means ref) (drop n (scope_of table)) ≡ list_any (λ (c : Column). means ref (table.name, c)) (drop n table.columns)
any_from-table table ref n =
    ap (list_any (means ref)) (drop-map (λ (c : Column). (table.name, c)) n table.columns) ∙ list_any-map (means ref) (λ (c : Column). (table.name, c)) (drop n table.columns)

module _ (scope : Scope) (ref : Ref) where
  place_found-in : (o : Option ℕ) (found : ColumnPlace) → option_map (column_at scope) o ≡ Some found → (o ≡ Some found.place) × (found ≡ column_at scope found.place)
  place_found-in None found e = absurd cc
  place_found-in (Some i) found e =
      let same : column_at scope i ≡ found = cc in
      (ap (λ (f : ColumnPlace). Some f.place) same, subst (λ (f : ColumnPlace). f ≡ column_at scope f.place) same refl)

  place_found : (found : ColumnPlace) → first_meant scope ref ≡ Some found → (position (means ref) scope ≡ Some found.place) × (found ≡ column_at scope found.place)
  place_found = place_found-in (position (means ref) scope)

  none_found-in : (o : Option ℕ) → option_map (column_at scope) o ≡ None → o ≡ None
  none_found-in None e = refl
  none_found-in (Some i) e = absurd cc

  none_found : first_meant scope ref ≡ None → position (means ref) scope ≡ None
  none_found = none_found-in (position (means ref) scope)

  -- the places of the columns behind a place that the ref means too
  abbrev further : ℕ → List ℕ
  further i = places (means ref) (i + 1) (drop (i + 1) scope)

  places_of-none : first_meant scope ref ≡ None → places_of scope ref ≡ []
  places_of-none e = places_none (means ref) 0 scope (list_any-position (means ref) scope ∙ ap is_some (none_found e))

  places_of-some : (found : ColumnPlace) → first_meant scope ref ≡ Some found → places_of scope ref ≡ found.place ∷ further found.place
  places_of-some found e =
      let at = position-Some (means ref) scope found.place no_column (place_found found e).0 in
      rw zero-add at (places_first (means ref) 0 scope found.place no_column at.0 at.1 at.2)

  -- the column at the first of the places
  pub column_of-first : (found : ColumnPlace) → first_meant scope ref ≡ Some found → found ≡ column_of scope ref
  column_of-first found e = (place_found found e).1 ∙ ap (λ (places : List ℕ). column_at scope (get_or places 0 0)) (sym (places_of-some found e))

  module _ (known : qualifier_objections scope ref.table ≡ []) where
    pub not_meant : first_meant scope ref ≡ None → ref_objections scope ref ≡ refusal.NoColumn ref.column ∷ []
    not_meant e = rw (known, places_of-none e)

    module _ (found : ColumnPlace) (e : first_meant scope ref ≡ Some found) where
      pub meant_once : list_any (means ref) (drop (found.place + 1) scope) ≡ false → ref_objections scope ref ≡ []
      meant_once once = rw (known, places_of-some found e, places_none (means ref) (found.place + 1) (drop (found.place + 1) scope) once)

      pub meant_twice : list_any (means ref) (drop (found.place + 1) scope) ≡ true → ref_objections scope ref ≡ refusal.NameTwice ref.column ∷ []
      meant_twice twice =
          let more : 0 < length (further found.place) = omega (arith, places_some (means ref) (found.place + 1) (drop (found.place + 1) scope) twice) in
          let two : ltb 1 (suc (length (further found.place))) ≡ true = search (tests, arith) in
          let there : eqb (suc (length (further found.place))) 0 ≡ false = search (tests, arith) in
          rw (known, places_of-some found e, there, two)

-- a column of a scope that stands behind n columns
abbrev pub behind : ℕ → ColumnPlace → ColumnPlace
behind n found = record { place = n + found.place; kind = found.kind }

-- two scopes, one behind the other
module _ (xs ys : Scope) where
  column_at-left : (i : ℕ) → i < length xs → column_at (xs ++ ys) i ≡ column_at xs i
  column_at-left i in_range =
      let kept : i < length (map admitted xs) = rw length-map in_range in
      rw (map-append admitted xs ys, get_or_append_left (map admitted xs) (map admitted ys) admits.Int i kept)

  column_at-right : (i : ℕ) → column_at (xs ++ ys) (length xs + i) ≡ behind (length xs) (column_at ys i)
  column_at-right i =
      let at : get_or (map admitted xs ++ map admitted ys) (length xs + i) admits.Int ≡ get_or (map admitted ys) i admits.Int = rw length-map at (get_or-append-add (map admitted xs) (map admitted ys) i admits.Int) in
      rw (map-append admitted xs ys, at)

  module _ (ref : Ref) where
    pub first_meant-left : (found : ColumnPlace) → first_meant xs ref ≡ Some found → first_meant (xs ++ ys) ref ≡ Some found
    first_meant-left found e =
        let is = place_found xs ref found e in
        let at = position-Some (means ref) xs found.place no_column is.0 in
        ap (option_map (column_at (xs ++ ys))) (position-left (means ref) xs ys found.place is.0)
        ∙ ap Some (column_at-left found.place at.0 ∙ sym is.1)

    moved : (o : Option ℕ) → option_map (column_at (xs ++ ys)) (option_map (λ i. length xs + i) o) ≡ option_map (behind (length xs)) (option_map (column_at ys) o)
    moved None = refl
    moved (Some i) = ap Some (column_at-right i)

    pub first_meant-right : first_meant xs ref ≡ None → first_meant (xs ++ ys) ref ≡ option_map (behind (length xs)) (first_meant ys ref)
    first_meant-right e =
        ap (option_map (column_at (xs ++ ys))) (position-right (means ref) xs ys (none_found xs ref e)) ∙ moved (position (means ref) ys)

module _ (table : Table) (name : List ℕ) where
  abbrev pub has_name : Column → Bool
  has_name column = same_name name column.name

  pub has-position : has same_name (column_names table) name ≡ is_some (position has_name table.columns)
  has-position = list_any-map (same_name name) (λ (c : Column). c.name) table.columns ∙ list_any-position has_name table.columns

  -- the same column by the name alone
  pub column_of-named : (i : ℕ) → position has_name table.columns ≡ Some i → column_at (scope_of table) i ≡ column_of (scope_of table) (unqualified name)
  column_of-named i e =
      let same = same_position has_name (λ (c : Column). means (unqualified name) (table.name, c)) (λ c. and-true (has_name c)) table.columns in
      column_of-first (scope_of table) (unqualified name) (column_at (scope_of table) i)
      (first_meant-table table (unqualified name) ∙ ap (option_map (column_at (scope_of table))) (same ∙ e))

-- refs can be qualified by the name of a table that has columns
pub qualifiers : (table : Table) (qualifier : List ℕ) → ((length table.columns ≡ 0) → ⊥) → list_any (λ column. same_name qualifier column.0) (scope_of table) ≡ same_name qualifier table.name
qualifiers table qualifier some = list_any-map (λ (c : List ℕ × Column). same_name qualifier c.0) (λ (c : Column). (table.name, c)) table.columns ∙ any_constant (same_name qualifier table.name) table.columns some

nameless : (name : List ℕ) → is_name name ≡ true → same_name name [] ≡ false
nameless [] e = absurd cc
nameless (b ∷ bs) e = refl

-- past the columns, nothing has a name
pub past_columns : (name : List ℕ) (columns : List Column) (place : ℕ) → is_name name ≡ true → length columns ≤ place → same_name name (get_or (map (λ (c : Column). c.name) columns) place []) ≡ false
past_columns name columns place e past =
    let beyond : length (map (λ (c : Column). c.name) columns) ≤ place = rw length-map past in
    rw (get_or_past (map (λ (c : Column). c.name) columns) place [] beyond) (nameless name e)
