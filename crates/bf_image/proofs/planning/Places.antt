-- The places of refs to which there is no objection are those of columns.
use Rattle.std.proofs.Common.{◌≡◌, ℕ, ◌+◌, Bool, true, false, ◌&&◌, ◌==◌, nat_lt, List, [], ◌∷◌, ◌++◌, filter, length, refl, sym, arith}
use Rattle.std.specs.Prelude.{slice_index_or}
use Rattle.std.specs.List.{enumerate_from, list_all}
use Rattle.std.proofs.lemmas.Bool.{and_from, and_parts, false≢true}
use Rattle.std.proofs.lemmas.Bool.Decides.{nat_tests}
use Rattle.std.proofs.lemmas.List.{length-map}
use Rattle.bf_base.specs.declared.table.Column.{Column}
use Rattle.bf_base.specs.declared.table.Table.{Table}
use Rattle.bf_base.specs.Lists.{same_name, when, with_before_from}
use Rattle.bf_tree.specs.declared.raw.Ref.{Ref}
use Rattle.bf_tree.specs.declared.reply.Refusal.TheVariants as refusal
use Rattle.bf_sql.specs.Scopes.{Scope, is_qualified_by, place_of, places_of, qualifier_objections, ref_objections, scope_of}
use Rattle.bf_image.proofs.items.Lists.{all_kept, all_of_map, none_left, none_right, none_when}

below : {X : Type 0} (xs : List X) (n top : ℕ) → n + length xs ≡ top → list_all (λ p. nat_lt p.0 top) (enumerate_from n xs) ≡ true
below [] n top e = refl
below (x ∷ xs) n top e =
    let first : nat_lt n top ≡ true = grind (arith, nat_tests) in
    and_from _ _ first (below xs (n + 1) top (omega (arith, e)))

front_passes : (test : ℕ → Bool) (xs : List ℕ) → list_all test xs ≡ true → (length xs == 0) ≡ false → test (slice_index_or xs 0 0) ≡ true
front_passes test [] all some = absurd (false≢true (sym some))
front_passes test (x ∷ xs) all some = (and_parts _ _ all).0

module _ (scope : Scope) where
  pub place_within : (ref : Ref) → ref_objections scope ref ≡ [] → nat_lt (place_of scope ref) (length scope) ≡ true
  place_within ref none =
      let found : Bool = length (places_of scope ref) == 0 in
      let some : found ≡ false = none_when found (refusal.NoColumn ref.column) (none_right (qualifier_objections scope ref.table) _ (none_left (qualifier_objections scope ref.table ++ when found (refusal.NoColumn ref.column)) _ none)) in
      front_passes (λ p. nat_lt p (length scope)) (places_of scope ref)
      (all_of_map (λ p. nat_lt p (length scope)) (λ c. c.0) (filter (λ c. same_name ref.column c.1.1.name && is_qualified_by ref.table c.1.0) (enumerate_from 0 scope))
      (all_kept (λ c. nat_lt c.0 (length scope)) (λ c. same_name ref.column c.1.1.name && is_qualified_by ref.table c.1.0) (enumerate_from 0 scope) (below scope 0 (length scope) (omega arith))))
      some

pub scope_width : (table : Table) → length (scope_of table) ≡ length table.columns
scope_width table = length-map table.columns (λ (c : Column). (table.name, c))

-- what holds of each item with those before it
pub all_behind : {X : Type 0} (test : X → Bool) (seen xs : List X) → list_all (λ p. test p.1) (with_before_from seen xs) ≡ true → list_all test xs ≡ true
all_behind test seen [] all = refl
all_behind test seen (x ∷ xs) all = and_from _ _ (and_parts _ _ all).0 (all_behind test (seen ++ x ∷ []) xs (and_parts _ _ all).1)
