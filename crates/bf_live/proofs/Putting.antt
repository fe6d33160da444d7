-- Rows that are put into tables, each of which is told once.
use Rattle.std.proofs.Common.{◌≡◌, ℕ, zero, suc, true, false, List, [], ◌∷◌, ◌++◌, map, length, Some, refl, sym, ap, ap₂, subst, ◌∙◌, inl, inr, arith, append_assoc}
use Rattle.std.specs.Prelude.{slice_get, slice_set}
use Rattle.std.specs.Map.{keys_of}
use Rattle.std.proofs.lemmas.Bool.{and_parts, cases_Bool, false≢true, not-true, or_parts}
use Rattle.std.proofs.lemmas.List.{append-nil, map-append}
use Rattle.std.proofs.lemmas.List.Elements.{filter-append}
use Rattle.bf_base.specs.Lists.{has, same_name}
use Rattle.bf_base.proofs.Apart.{are_apart}
use Rattle.bf_base.proofs.Order.{same_from_some}
use Rattle.bf_heap.specs.Heaps.{Entry}
use Rattle.bf_txn.specs.declared.write.Write.{Write}
use Rattle.bf_txn.specs.Writes.{OfTable, all_writes, writes_in, writes_to}
use Rattle.bf_live.specs.Commits.{key_puts, puts}
use Rattle.bf_live.specs.Live.{NamedRows}
use Rattle.bf_live.specs.Puts.{all_puts, put_writes, puts_in}
use Rattle.bf_live.proofs.Heaps.{is_one, is_same}
use Rattle.bf_live.proofs.Written.{first_here, first_other, foreign, key_first, one_more}

abbrev pub put_to : List ℕ → Entry → Write
put_to name e = record { table = name; key = e.0; row = Some e.1 }

pub counted : (rows : List Entry) → key_puts (put_writes rows) ≡ length rows
counted [] = refl
counted (r ∷ rows) = omega (arith, key_first (r.0, Some r.1) (put_writes rows), counted rows)

-- one more table
pub one_more_put : (all : List NamedRows) (p : NamedRows) → all_puts (all ++ p ∷ []) ≡ all_puts all ++ writes_in p.0 (put_writes p.1)
one_more_put all p = ap (λ (ts : List OfTable). all_writes ts) (map-append puts_in all (p ∷ [])) ∙ one_more (map puts_in all) (puts_in p)

-- one more row for a table
more_writes : (name : List ℕ) (rows : List Entry) (e : Entry) → writes_in name (put_writes (rows ++ e ∷ [])) ≡ writes_in name (put_writes rows) ++ put_to name e ∷ []
more_writes name [] e = refl
more_writes name (r ∷ rows) e = ap (λ (ws : List Write). put_to name r ∷ ws) (more_writes name rows e)

apart_from : (n m : List ℕ) → same_name n m ≡ false → same_name m n ≡ false
apart_from n m apart = elim (cases_Bool (same_name m n)) [
  | inl same ↦ absurd (false≢true (sym apart ∙ is_same n m (sym (is_one m n same))))
  | inr other ↦ other
]

none_of : (n : List ℕ) (all : List NamedRows) → has same_name (keys_of all) n ≡ false → writes_to n (all_puts all) ≡ []
none_of n [] none = refl
none_of n (p ∷ ps) none =
    let parts = or_parts _ _ none in
    filter-append (λ (w : Write). same_name w.table n) (writes_in p.0 (put_writes p.1)) (all_puts ps)
    ∙ ap₂ (λ (a b : List Write). a ++ b) (foreign p.0 n (put_writes p.1) (apart_from n p.0 parts.0)) (none_of n ps parts.1)

-- a name that is not among those of tables is not that of the table at a place
none_at : (n : List ℕ) (all : List NamedRows) (at : ℕ) (p : NamedRows) → has same_name (keys_of all) n ≡ false → slice_get all at ≡ Some p → same_name n p.0 ≡ false
none_at n [] at p none found = absurd cc
none_at n (q ∷ qs) zero p none found = ap (λ (r : NamedRows). same_name n r.0) (sym (same_from_some q p found)) ∙ (or_parts _ _ none).0
none_at n (q ∷ qs) (suc at) p none found = none_at n qs at p (or_parts _ _ none).1 found

-- the rows that are put into a table are those that are told with its name
pub own_count : (all : List NamedRows) (at : ℕ) (p : NamedRows) → are_apart same_name (keys_of all) ≡ true → slice_get all at ≡ Some p → puts (writes_to p.0 (all_puts all)) ≡ length p.1
own_count [] at p apart found = absurd cc
own_count (q ∷ qs) zero p apart found =
    let is : q ≡ p = same_from_some q p found in
    let none : writes_to q.0 (all_puts qs) ≡ [] = none_of q.0 qs (not-true _ (and_parts _ _ apart).0) in
    let here = first_here q.0 (put_writes q.1) (all_puts qs) q.0 (is_same q.0 q.0 refl) in
    subst (λ (r : NamedRows). puts (writes_to r.0 (all_puts (q ∷ qs))) ≡ length r.1) is (omega (arith, here, counted q.1, ap puts none))
own_count (q ∷ qs) (suc at) p apart found =
    let parts = and_parts _ _ apart in
    ap puts (first_other q.0 (put_writes q.1) (all_puts qs) p.0 (none_at q.0 qs at p (not-true _ parts.0) found)) ∙ own_count qs at p parts.1 found

-- one more row for the table at a place
pub names_stay : (all : List NamedRows) (at : ℕ) (p : NamedRows) (es : List Entry) → slice_get all at ≡ Some p → keys_of (slice_set all at (p.0, es)) ≡ keys_of all
names_stay [] at p es found = absurd cc
names_stay (q ∷ qs) zero p es found = ap (λ (r : NamedRows). r.0 ∷ keys_of qs) (sym (same_from_some q p found))
names_stay (q ∷ qs) (suc at) p es found = ap (λ (names : List (List ℕ)). q.0 ∷ names) (names_stay qs at p es found)

module _ (n : List ℕ) where
  abbrev mine : List Write → List Write
  mine = writes_to n

  mine_append : (first more : List Write) → mine (first ++ more) ≡ mine first ++ mine more
  mine_append first more = filter-append (λ (w : Write). same_name w.table n) first more

  -- a row that is put into a table whose name no later one has
  before_later : (p : NamedRows) (e : Entry) (qs : List NamedRows) → has same_name (keys_of qs) p.0 ≡ false → mine (put_to p.0 e ∷ []) ++ mine (all_puts qs) ≡ mine (all_puts qs) ++ mine (put_to p.0 e ∷ [])
  before_later p e qs none = elim (cases_Bool (same_name p.0 n)) [
    | inl same ↦
        let gone : mine (all_puts qs) ≡ [] = none_of n qs (ap (has same_name (keys_of qs)) (sym (is_one p.0 n same)) ∙ none) in
        ap (λ (ws : List Write). mine (put_to p.0 e ∷ []) ++ ws) gone ∙ append-nil (mine (put_to p.0 e ∷ [])) ∙ ap (λ (ws : List Write). ws ++ mine (put_to p.0 e ∷ [])) (sym gone)
    | inr other ↦ rw other (sym (append-nil (mine (all_puts qs))))
  ]

  pub pushed : (all : List NamedRows) (at : ℕ) (p : NamedRows) (e : Entry) → are_apart same_name (keys_of all) ≡ true → slice_get all at ≡ Some p
      → mine (all_puts (slice_set all at (p.0, p.1 ++ e ∷ []))) ≡ mine (all_puts all) ++ mine (put_to p.0 e ∷ [])
  pushed [] at p e apart found = absurd cc
  pushed (q ∷ qs) zero p e apart found =
      let is : q ≡ p = same_from_some q p found in
      let none : has same_name (keys_of qs) p.0 ≡ false = ap (λ (r : NamedRows). has same_name (keys_of qs) r.0) (sym is) ∙ not-true _ (and_parts _ _ apart).0 in
      let block = writes_in p.0 (put_writes p.1) in
      let one = put_to p.0 e ∷ [] in
      mine_append (writes_in p.0 (put_writes (p.1 ++ e ∷ []))) (all_puts qs)
      ∙ ap (λ (ws : List Write). mine ws ++ mine (all_puts qs)) (more_writes p.0 p.1 e)
      ∙ ap (λ (ws : List Write). ws ++ mine (all_puts qs)) (mine_append block one)
      ∙ append_assoc (mine block) (mine one) (mine (all_puts qs))
      ∙ ap (λ (ws : List Write). mine block ++ ws) (before_later p e qs none)
      ∙ sym (append_assoc (mine block) (mine (all_puts qs)) (mine one))
      ∙ ap (λ (ws : List Write). ws ++ mine one) (sym (mine_append block (all_puts qs)))
      ∙ ap (λ (r : NamedRows). mine (all_puts (r ∷ qs)) ++ mine one) (sym is)
  pushed (q ∷ qs) (suc at) p e apart found =
      let block = writes_in q.0 (put_writes q.1) in
      let one = put_to p.0 e ∷ [] in
      mine_append block (all_puts (slice_set qs at (p.0, p.1 ++ e ∷ [])))
      ∙ ap (λ (ws : List Write). mine block ++ ws) (pushed qs at p e (and_parts _ _ apart).1 found)
      ∙ sym (append_assoc (mine block) (mine (all_puts qs)) (mine one))
      ∙ ap (λ (ws : List Write). ws ++ mine one) (sym (mine_append block (all_puts qs)))
