use Rattle.std.proofs.Common.{◌≡◌, ◌==◌, true, false, not, vec_len, ◌+◌, ◌<◌, List, [], length, map, Option, Some, sym, ap, subst, ◌∙◌, arith}
use Rattle.std.specs.Prelude.{IfSome}
use Rattle.std.specs.Global.{Vec}
use Rattle.std.proofs.lemmas.Bool.Decides.{nat_tests}
use Rattle.bf_base.specs.declared.granule.Granule.{Granule}
use Rattle.bf_base.specs.Lists.{has}
use Rattle.bf_sql.specs.Database.{Database}
use Rattle.bf_sql.specs.migrations.Granules.{same_granule}
use Rattle.bf_live.specs.Live.{NamedRows}
use Rattle.bf_store.specs.Calls.{receipt_of}
use Rattle.bf_store.specs.Marks.{granules_in, left_of}
use Rattle.bf_store.specs.Puts.{AreImages, MayMove}
use Rattle.bf_store.specs.Stores.{IsStore, last_seen, lazy_seen, seen}
use Rattle.bf_store.specs.declared.under_way.UnderWay.{UnderWay}
use Rattle.bf_store.proofs.Storing.{one_more}
use Rattle.bf_store.proofs.moving.Left.{all_are_left}
use Rattle.bf_store.proofs.moving.Stored.{may_move, nothing_if, store_then, unmoved_state}
use Rattle.bf_store.proofs.movement.move_granules.Goals.{then-len-granules, else-len-granules}
use Rattle.bf_store.proofs.movement.move_granules.Goals as goal

-- a vector is empty where its length is 0
no_length : (v : Vec Granule) → (vec_len v == 0) ≡ true → length v.items ≡ 0
no_length v is =
    let none : vec_len v ≡ 0 = grind (arith, nat_tests) in
    omega (arith, none, v.ok.0)

some_length : (v : Vec Granule) (gs : List Granule) → (vec_len v == 0) ≡ false → gs ≡ v.items → 0 < length gs
some_length v gs is same =
    let some : 0 < vec_len v = grind (arith, nat_tests) in
    omega (arith, some, v.ok.0, ap (λ (hs : List Granule). length hs) same)

pub returns-then-is_empty-clause-ok : goal.returns-then-is_empty-clause-ok
returns-then-is_empty-clause-ok c =
    let live = c.args.live.now in
    let u = c.args.last.now in
    let records = c.args.records.now in
    let gs = c.args.granules.now in
    let empty : length c.in_ok-parted.parted.left.items ≡ 0 = no_length c.in_ok-parted.parted.left (sym c.is_empty.ensures ∙ c.if-is_empty.true) in
    let none : left_of u.done gs ≡ [] = sym c.in_ok-parted.ensures.left ∙ nothing_if c.in_ok-parted.parted.left.items empty in
    record {
      state = sym (unmoved_state live (last_seen u) records gs c.len.ensures.ordered none);
      fresh = c.new-fresh.ensures.items ∙ ap (map (receipt_of (lazy_seen live (Some u) records))) (sym none);
      already = c.in_ok-parted.ensures.moved;
    }

pub move_in-requires-clause-fresh : goal.move_in-requires-clause-fresh
move_in-requires-clause-fresh c =
    let last = last_seen c.args.last.now in
    let gs = c.args.granules.now in
    subst (MayMove last) (sym (c.deref-2.ensures.value ∙ c.in_ok-parted.ensures.left)) (may_move c.args.live.now last c.requires.store.lazy_state.last gs c.requires.granules)

pub returns-in_err-move_in-clause-store : goal.returns-in_err-move_in-clause-store
returns-in_err-move_in-clause-store c =
    let live : c.move_in.new.live ≡ c.args.live.now = c.in_err-move_in.ensures.live_stays in
    let last : c.move_in.new.last ≡ c.args.last.now = c.in_err-move_in.ensures.last_stays in
    subst (λ (p : Database × UnderWay). IsStore p.0 (Some p.1) c.args.records.now) (λ i. (sym live i, sym last i)) c.requires.store

pub returns-clause-store : goal.returns-clause-store
returns-clause-store c =
    let u = c.args.last.now in
    let v = c.move_in.new.last in
    let moving = c.deref-2.result.now in
    let fresh : moving ≡ left_of u.done c.args.granules.now = c.deref-2.ensures.value ∙ c.in_ok-parted.ensures.left in
    let n : c.in_ok-number.number ≡ c.args.records.now + 1 = one_more c.checked_add.result c.in_ok-number.number c.args.records.now c.checked_add.ensures c.in_ok-number.ensures.ok_part in
    let some : 0 < length moving = some_length c.in_ok-parted.parted.left moving (sym c.is_empty.ensures ∙ c.if-is_empty.false) c.deref-2.ensures.value in
    store_then c.args.live.now c.move_in.new.live u v c.args.records.now c.in_ok-number.number c.args.granules.now moving fresh some n c.in_ok-move_in.ensures.live c.in_ok-move_in.ensures.pass c.in_ok-move_in.ensures.done
    c.requires.store c.requires.granules c.in_ok-move_in.ensures.counted

pub returns-in_err-move_in-clause-nothing : goal.returns-in_err-move_in-clause-nothing
returns-in_err-move_in-clause-nothing c = λ none i. seen (c.in_err-move_in.ensures.live_stays i) (Some (c.in_err-move_in.ensures.last_stays i)) c.args.records.now

pub returns-clause-nothing : goal.returns-clause-nothing
returns-clause-nothing c = λ none.
    let moving = c.deref-2.result.now in
    let fresh : moving ≡ left_of c.args.last.now.done c.args.granules.now = c.deref-2.ensures.value ∙ c.in_ok-parted.ensures.left in
    let some : 0 < length moving = some_length c.in_ok-parted.parted.left moving (sym c.is_empty.ensures ∙ c.if-is_empty.false) c.deref-2.ensures.value in
    absurd (omega (arith, some, ap (λ (gs : List Granule). length gs) (fresh ∙ none)))

-- where as many granules are left as there were, the images that were made are of those
pub move_in-requires-clause-images : goal.move_in-requires-clause-images
move_in-requires-clause-images c =
    let m = c.args.migration.now in
    let gs = c.args.granules.now in
    let moving = c.deref-2.result.now in
    let done = c.args.last.now.done in
    let fresh : moving ≡ left_of done gs = c.deref-2.ensures.value ∙ c.in_ok-parted.ensures.left in
    elim c.if-len-granules.branch as (λ _. IfSome c.if-len-granules.images2 (AreImages m moving)) [
      | then-len-granules w ↦
          let many : length c.in_ok-parted.parted.left.items ≡ length gs = omega (arith, w.if-len-granules.true, c.len-2.ensures, c.in_ok-parted.parted.left.ok.0) in
          let all : left_of done gs ≡ gs = all_are_left (λ g. not (has same_granule (granules_in done) g)) gs (ap (λ (hs : List Granule). length hs) (sym c.in_ok-parted.ensures.left) ∙ many) in
          subst (λ (hs : List Granule). IfSome c.if-len-granules.images2 (AreImages m hs)) (sym (fresh ∙ all))
          (subst (λ (o : Option (List NamedRows)). IfSome o (AreImages m gs)) (sym w.images2-is) c.requires.images)
      | else-len-granules w ↦ subst (λ (o : Option (List NamedRows)). IfSome o (AreImages m moving)) (sym w.images2-is) tt
    ]
