-- The replies of a session as they stand, those of its open group included.
use Rattle.std.proofs.Common.{◌≡◌, ℕ, ◌-◌, ◌<◌, ◌≤◌, ◌==◌, Bool, false, List, length, Bor, Option, Some, None, refl, sym, ap, ap₂, ◌∙◌, arith, if◌then◌else◌}
use Rattle.std.specs.Prelude.{IfSome, is_some, nat_lt, slice_get, slice_index_or}
use Rattle.std.specs.Option.{option_map}
use Rattle.std.proofs.lemmas.Bool.Decides.{nat_tests}
use Rattle.std.proofs.lemmas.Option.{slice_get_past, slice_get_read}
use Rattle.bf_tree.specs.declared.reply.Reply.{Reply}
use Rattle.bf_machine.specs.interleaving.Calls.{replies_at}
use Rattle.bf_machine.proofs.keeping.Stands.{all_replies_there, is_there}
use Rattle.bf_machine.proofs.machine.Machine.reply.Goals as goal

found_at : (rs : List Reply) (i : ℕ) (found : Option (Bor Reply)) → is_some found ≡ nat_lt i (length rs) → IfSome found (λ x. x.now ≡ slice_index_or rs i x.now)
    → option_map (λ x. x.now) found ≡ slice_get rs i
found_at rs i None some is =
    let past : length rs ≤ i = grind (arith, nat_tests, some) in
    sym (slice_get_past rs i past)
found_at rs i (Some x) some is =
    let below : i < length rs = grind (arith, nat_tests, some) in
    sym (slice_get_read rs (length rs) i x.now refl below is)

pub returns : goal.returns
returns g c =
    let there = is_there c.self.invariant.0 c.self.view_is c.requires c.index-so_far.ensures in
    let n = c.args.statement in
    let rs : List Reply = replies_at c.args.self.now c.args.session in
    let all : rs ≡ c.deref.result.now = all_replies_there there ∙ sym c.deref.ensures.value in
    let look = c.get.ensures.lookup in
    let sub = c.in_ok-checked_sub.ensures in
    let some : (n == 0) ≡ false = grind (arith, nat_tests, sub.0) in
    found_at c.deref.result.now c.in_ok-checked_sub.field-0 c.get.result look.0 look.1
    ∙ (ap₂ (λ (rs : List Reply) (i : ℕ). slice_get rs i) (sym all) sub.1
    ∙ sym (ap (λ (b : Bool). if b then None else slice_get rs (n - 1)) some))
