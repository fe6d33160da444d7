-- Tables and index rules that a schema change builds up in the order of their names.
use Rattle.std.proofs.Common.{◌≡◌, ℕ, Bool, true, false, not, List, [], ◌∷◌, ◌++◌, map, filter, find, None, is_some, refl, sym, ap, ap₂, ◌∙◌}
use Rattle.std.specs.Ordering.{eq_by_cmp}
use Rattle.std.proofs.lemmas.Bool.{and_parts, not-true}
use Rattle.std.proofs.lemmas.Grind.{fold-append}
use Rattle.std.proofs.lemmas.List.{append-nil, map-append}
use Rattle.std.proofs.lemmas.List.Elements.{filter-append}
use Rattle.bf_base.specs.declared.table.Table.{Table}
use Rattle.bf_base.specs.Lists.{has, in_order, name_cmp, placed, rises, same_name, with_placed}
use Rattle.bf_base.proofs.Apart.{apart_from_rises, apart_left, are_apart, are_apart-same_items, in_order-rises, placed-same_items, rises-filter, rises-placed_apart, with_placed-items}
use Rattle.bf_base.proofs.Items.{mapped}
use Rattle.bf_base.proofs.Names.{name_cmp_total, same_name-tie, same_name-tie_back}
use Rattle.bf_base.proofs.Order.{is_some-look_up, none_from_test}
use Rattle.bf_heap.specs.Heaps.{Rows}
use Rattle.bf_tree.specs.declared.catalog.IndexRule.{IndexRule}
use Rattle.bf_live.specs.Drafts.{AreNamedApart, drafted_at, name_of_rows, rows_over, rule_named, staying, staying_rows, staying_rules, with_more, with_rows_of}
use Rattle.bf_live.specs.Live.{NamedHeap, NamedRows, TableRows, rows_in}

-- ---- what is new among items in order
module _ {X : Type 0} (name_of : X → List ℕ) where
  -- an item that is in order with those before it and with those behind it is new among those before it
  is_new : (ys xs zs : List X) (x : X) → rises name_cmp (map name_of (with_placed name_cmp name_of ys (xs ++ x ∷ zs))) ≡ true → has (eq_by_cmp name_cmp) (map name_of (with_placed name_cmp name_of ys xs)) (name_of x) ≡ false
  is_new ys xs zs x h =
      let before : List X = with_placed name_cmp name_of ys xs in
      let now : List X = placed name_cmp name_of before x in
      let stepped : with_placed name_cmp name_of ys (xs ++ x ∷ zs) ≡ with_placed name_cmp name_of now zs = fold-append (placed name_cmp name_of) ys xs (x ∷ zs) in
      let apart : are_apart (eq_by_cmp name_cmp) (map name_of (with_placed name_cmp name_of now zs)) ≡ true = apart_from_rises name_cmp_total (map name_of (with_placed name_cmp name_of now zs)) (ap (λ all. rises name_cmp (map name_of all)) (sym stepped) ∙ h) in
      let all : are_apart (eq_by_cmp name_cmp) (map name_of (now ++ zs)) ≡ true = are_apart-same_items name_cmp_total (mapped name_of (with_placed-items name_cmp_total name_of now zs)) ∙ apart in
      let these : are_apart (eq_by_cmp name_cmp) (map name_of now) ≡ true = apart_left (eq_by_cmp name_cmp) (map name_of now) (map name_of zs) (ap (are_apart (eq_by_cmp name_cmp)) (sym (map-append name_of now zs)) ∙ all) in
      let first : are_apart (eq_by_cmp name_cmp) (map name_of (x ∷ before)) ≡ true = are_apart-same_items name_cmp_total (mapped name_of (placed-same_items name_cmp_total name_of before x)) ∙ these in
      not-true _ (and_parts _ _ first).0

pub table_is_new : (tables more rest : List TableRows) (t : TableRows) → AreNamedApart (with_more tables (more ++ t ∷ rest)) → drafted_at (with_more tables more) t.0.name ≡ None
table_is_new tables more rest t apart =
    let all : List TableRows = with_more tables more in
    none_from_test _ (ap is_some (λ i. find (λ (u : TableRows). same_name-tie u.0.name t.0.name i) all)
    ∙ (is_some-look_up name_cmp_total name_of_rows all t.0.name ∙ is_new name_of_rows tables more rest t apart))

abbrev pub name_of_rule : IndexRule → List ℕ
name_of_rule rule = rule.name

pub rule_is_new : (rules rest : List IndexRule) (rule : IndexRule) → rises name_cmp (map name_of_rule (in_order name_cmp name_of_rule (rules ++ rule ∷ rest))) ≡ true → rule_named (in_order name_cmp name_of_rule rules) rule.name ≡ None
rule_is_new rules rest rule apart =
    let all : List IndexRule = in_order name_cmp name_of_rule rules in
    none_from_test _ (ap is_some (λ i. find (λ (r : IndexRule). same_name-tie_back rule.name r.name i) all)
    ∙ (is_some-look_up name_cmp_total name_of_rule all rule.name ∙ is_new name_of_rule [] rules rest rule apart))

-- the first of the tables that are in order are in order
pub first_apart : (tables more : List TableRows) → AreNamedApart (with_more [] (tables ++ more)) → AreNamedApart (with_more [] tables)
first_apart tables more apart =
    let all : are_apart (eq_by_cmp name_cmp) (map name_of_rows (tables ++ more)) ≡ true =
    are_apart-same_items name_cmp_total (mapped name_of_rows (with_placed-items name_cmp_total name_of_rows [] (tables ++ more)))
    ∙ apart_from_rises name_cmp_total (map name_of_rows (with_more [] (tables ++ more))) apart in
    rises-placed_apart name_cmp_total name_of_rows [] tables refl
    (apart_left (eq_by_cmp name_cmp) (map name_of_rows tables) (map name_of_rows more) (ap (are_apart (eq_by_cmp name_cmp)) (sym (map-append name_of_rows tables more)) ∙ all))

pub both_more : (tables more : List TableRows) → with_more (with_more [] tables) more ≡ with_more [] (tables ++ more)
both_more tables more = sym (fold-append (placed name_cmp name_of_rows) [] tables more)

-- the index rules that stay are in order
pub rules_in_order : (gone : List (List ℕ)) (rules : List IndexRule) → rises name_cmp (map name_of_rule rules) ≡ true → in_order name_cmp name_of_rule (staying_rules gone rules) ≡ staying_rules gone rules
rules_in_order gone rules rise = in_order-rises name_cmp_total name_of_rule (staying_rules gone rules) (rises-filter name_cmp_total name_of_rule (λ rule. not (has same_name gone rule.table)) rules rise)

pub rules_rise : (gone : List (List ℕ)) (rules : List IndexRule) → rises name_cmp (map name_of_rule rules) ≡ true → rises name_cmp (map name_of_rule (in_order name_cmp name_of_rule (staying_rules gone rules))) ≡ true
rules_rise gone rules rise =
    ap (λ all. rises name_cmp (map name_of_rule all)) (rules_in_order gone rules rise) ∙ rises-filter name_cmp_total name_of_rule (λ rule. not (has same_name gone rule.table)) rules rise

-- ---- what a test leaves out, item by item
module _ {X : Type 0} (test : X → Bool) where
  pub left_in : (ys zs : List X) (x : X) → test x ≡ false → filter (λ y. not (test y)) (ys ++ x ∷ zs) ≡ filter (λ y. not (test y)) ys ++ x ∷ filter (λ y. not (test y)) zs
  left_in ys zs x stays = filter-append (λ y. not (test y)) ys (x ∷ zs) ∙ rw stays refl

  pub left_out : (ys : List X) (x : X) → test x ≡ true → filter (λ y. not (test y)) (ys ++ x ∷ []) ≡ filter (λ y. not (test y)) ys
  left_out ys x leaves = filter-append (λ y. not (test y)) ys (x ∷ []) ∙ rw leaves (append-nil (filter (λ y. not (test y)) ys))

abbrev pub without_rows : Table → TableRows
without_rows t = (t, [])

pub without_nothing : (tables : List TableRows) → with_rows_of [] tables ≡ tables
without_nothing [] = refl
without_nothing (t ∷ ts) = ap (λ ts. t ∷ ts) (without_nothing ts)

-- rows that are put in their places behind others
pub put_behind : (rows : List NamedRows) (r : NamedRows) (tables : List TableRows) → with_rows_of (r ∷ []) (with_rows_of rows tables) ≡ with_rows_of (rows ++ r ∷ []) tables
put_behind rows r [] = refl
put_behind rows r (t ∷ ts) = ap₂ (λ es (ts : List TableRows). (t.0, es) ∷ ts) (sym (fold-append (rows_over t.0.name) t.1 rows (r ∷ []))) (put_behind rows r ts)

module _ (gone : List (List ℕ)) (heaps : List NamedHeap) (name : List ℕ) (heap : Rows) where
  more_rows : rows_in (heaps ++ (name, heap) ∷ []) ≡ rows_in heaps ++ (name, heap.entries) ∷ []
  more_rows = map-append (λ (h : NamedHeap). (h.0, h.1.entries)) heaps ((name, heap) ∷ [])

  pub rows_left_in : has same_name gone name ≡ false → staying_rows gone (rows_in (heaps ++ (name, heap) ∷ [])) ≡ staying_rows gone (rows_in heaps) ++ (name, heap.entries) ∷ []
  rows_left_in stays = ap (staying_rows gone) more_rows ∙ left_in (λ (r : NamedRows). has same_name gone r.0) (rows_in heaps) [] (name, heap.entries) stays

  pub rows_left_out : has same_name gone name ≡ true → staying_rows gone (rows_in (heaps ++ (name, heap) ∷ [])) ≡ staying_rows gone (rows_in heaps)
  rows_left_out leaves = ap (staying_rows gone) more_rows ∙ left_out (λ (r : NamedRows). has same_name gone r.0) (rows_in heaps) (name, heap.entries) leaves

pub tables_left_in : (gone : List (List ℕ)) (tables rest : List Table) (t : Table) → has same_name gone t.name ≡ false → staying gone (tables ++ t ∷ rest) ≡ staying gone tables ++ (t, []) ∷ staying gone rest
tables_left_in gone tables rest t stays =
    ap (map without_rows) (left_in (λ (t : Table). has same_name gone t.name) tables rest t stays)
    ∙ map-append without_rows (filter (λ t. not (has same_name gone t.name)) tables) (t ∷ filter (λ t. not (has same_name gone t.name)) rest)
