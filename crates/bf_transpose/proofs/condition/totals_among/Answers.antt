-- One item more.
use Rattle.std.proofs.Common.{◌≡◌, ℕ, ◌+◌, ◌<◌, Bool, true, false, cond, List, [], ◌∷◌, ◌++◌, length, get_or, take, Option, Some, None, if◌then◌else◌, filter_map, refl, sym, ap, ◌∙◌, arith}
use Rattle.std.specs.Global.{Vec}
use Rattle.std.specs.List.{enumerate_from}
use Rattle.std.proofs.lemmas.List.{append-nil, take_more, take_all}
use Rattle.std.proofs.lemmas.List.Elements.{filter_map-append}
use Rattle.std.proofs.lemmas.List.FromFn.{get_or-enumerate_from, length-enumerate_from}
use Rattle.bf_tree.specs.declared.migration.Item.{Item}
use Rattle.bf_sql.specs.migrations.Targets.{is_total}
use Rattle.bf_transpose.specs.Totals.{totals_of}
use Rattle.bf_transpose.proofs.condition.totals_among.Goals.{then-is_total+in_ok-push, else-is_total}
use Rattle.bf_transpose.proofs.condition.totals_among.Goals as goal

one_more : (items : List Item) (n : ℕ) (item : Item) → n < length items → item ≡ get_or items n item
    → totals_of (take (n + 1) (enumerate_from 0 items)) ≡ totals_of (take n (enumerate_from 0 items)) ++ cond (is_total item) (n ∷ []) []
one_more items n item within is =
    let same : 0 + n ≡ n = omega arith in
    let counted = length-enumerate_from 0 items in
    ap totals_of (take_more (enumerate_from 0 items) n (n, item) (omega (arith, within, counted)))
    ∙ (ap (λ p. totals_of (take n (enumerate_from 0 items) ++ p ∷ [])) (get_or-enumerate_from 0 items n (n, item) within ∙ (ap (λ k. (k, get_or items n item)) same ∙ ap (λ (x : Item). (n, x)) (sym is)))
    ∙ (filter_map-append (λ (i : ℕ × Item). if is_total i.1 then Some i.0 else None) (take n (enumerate_from 0 items)) ((n, item) ∷ [])
    ∙ ap (λ (xs : List ℕ). totals_of (take n (enumerate_from 0 items)) ++ xs) (either (is_total item))))
  where
    either : (b : Bool) → filter_map (λ (o : Option ℕ). o) ((if b then Some n else None) ∷ []) ≡ cond b (n ∷ []) []
    either true = refl
    either false = refl

pub loop-place-preserved : goal.loop-place-preserved
loop-place-preserved c =
    let n = c.loop-place.place in
    let item = c.index-items-place.result in
    let more = one_more c.args.items.now n item c.loop-place-test.true c.index-items-place.is in
    elim c.if-is_total.branch [
      | then-is_total+in_ok-push w ↦
          let is : is_total item ≡ true = sym c.is_total.ensures ∙ w.if-is_total.true in
          ap (λ (places : Vec ℕ). places.items) w.places-is
          ∙ (w.in_ok-push.ensures.items
          ∙ (ap (λ (ps : List ℕ). ps ++ n ∷ []) c.loop-place.invariant
          ∙ (ap (λ b. totals_of (take n (enumerate_from 0 c.args.items.now)) ++ cond b (n ∷ []) []) (sym is) ∙ sym more)))
      | else-is_total w ↦
          let is : is_total item ≡ false = sym c.is_total.ensures ∙ w.if-is_total.false in
          ap (λ (places : Vec ℕ). places.items) w.places-is
          ∙ (c.loop-place.invariant
          ∙ (sym (append-nil (totals_of (take n (enumerate_from 0 c.args.items.now))))
          ∙ (ap (λ b. totals_of (take n (enumerate_from 0 c.args.items.now)) ++ cond b (n ∷ []) []) (sym is) ∙ sym more)))
    ]

pub returns : goal.returns
returns c = c.loop-place.invariant ∙ ap totals_of (take_all _ (enumerate_from 0 c.args.items.now) (omega (arith, length-enumerate_from 0 c.args.items.now)))
