use Rattle.std.proofs.Common.{◌≡◌, ℕ, ◌+◌, ◌-◌, ◌<◌, ◌++◌, List, length, take, Option, None, vec_len, refl, ap, ◌∙◌, arith}
use Rattle.std.specs.BTreeMap.{insert_entry}
use Rattle.std.specs.Prelude.{replicate}
use Rattle.std.specs.Ordering.{nat_cmp}
use Rattle.std.proofs.lemmas.List.{take_all}
use Rattle.bf_store.specs.RowNumbers.{from_slot}
use Rattle.bf_store.proofs.RowNumbers.{Page, more_slots, slot_put}
use Rattle.bf_store.proofs.row_numbers.put_slot.Goals.{then-len-slot+in_ok-resize, else-len-slot}
use Rattle.bf_store.proofs.row_numbers.put_slot.Goals as goal

pub returns-clause-ok : goal.returns-clause-ok
returns-clause-ok c = λ at.
    let os = c.args.page.now.items in
    let ns = c.if-len-slot.page.items in
    let i = c.args.slot in
    let same : from_slot at ns ≡ from_slot at os =
    elim c.if-len-slot.branch [
      | then-len-slot+in_ok-resize w ↦
          let all : take 64 os ≡ os = take_all 64 os c.requires.few in
          ap (λ (p : Page). from_slot at p.items) w.page-is
          ∙ ap (from_slot at) (w.in_ok-resize.ensures.items ∙ ap (λ (ps : List (Option ℕ)). ps ++ replicate (64 - vec_len c.args.page.now) None) all)
          ∙ more_slots at os (64 - vec_len c.args.page.now)
      | else-len-slot w ↦ ap (λ (p : Page). from_slot at p.items) w.page-is
    ]
    in
    let in_range : i < length ns =
    elim c.if-len-slot.branch [
      | then-len-slot+in_ok-resize w ↦
          let len : vec_len c.if-len-slot.page ≡ 64 = ap (λ (p : Page). vec_len p) w.page-is ∙ w.in_ok-resize.ensures.len in
          omega (arith, len, c.if-len-slot.page.ok.0, c.requires.slot)
      | else-len-slot w ↦
          let len : vec_len c.if-len-slot.page ≡ vec_len c.args.page.now = ap (λ (p : Page). vec_len p) w.page-is in
          omega (arith, len, c.if-len-slot.page.ok.0, c.len.ensures, w.if-len-slot.false)
    ]
    in
    slot_put (at + i) c.args.number at ns i refl in_range ∙ ap (λ es. insert_entry nat_cmp es (at + i) c.args.number) same
