use Rattle.std.proofs.Common.{◌≡◌, ◌+◌, ℕ, [], get_or, drop, sym, ap, ◌∙◌, arith}
use Rattle.std.proofs.lemmas.List.{drop_all}
use Rattle.bf_image.proofs.parting.Partners.{placed_partner, partner_placed, on_left, on_right, at_front}
use Rattle.bf_image.proofs.meeting.partner.Goals as goal

pub returns-then-left-place : goal.returns-then-left-place
returns-then-left-place c = λ scope pairs same.
    let on = c.args.on.now in
    let i = c.loop-left.left-index in
    let d : ℕ × ℕ = (0, 0) in
    let found : placed_partner on c.args.place ≡ (get_or on i d).1 = c.loop-left.invariant ∙ at_front on i c.args.place d (omega arith) ∙ on_left (get_or on i d) (drop (i + 1) on) c.args.place (sym c.from-left.ensures ∙ c.if-left-place.true) in
    c.from-right.ensures ∙ sym found ∙ ap (λ ps. placed_partner ps c.args.place) same ∙ partner_placed scope pairs c.args.place

pub returns-then-right-place : goal.returns-then-right-place
returns-then-right-place c = λ scope pairs same.
    let on = c.args.on.now in
    let i = c.loop-left.left-index in
    let d : ℕ × ℕ = (0, 0) in
    let found : placed_partner on c.args.place ≡ (get_or on i d).0 = c.loop-left.invariant ∙ at_front on i c.args.place d (omega arith)
    ∙ on_right (get_or on i d) (drop (i + 1) on) c.args.place (λ e. c.if-left-place.false (c.from-left.ensures ∙ e)) (sym c.from-right.ensures ∙ c.if-right-place.true) in
    c.from-left.ensures ∙ sym found ∙ ap (λ ps. placed_partner ps c.args.place) same ∙ partner_placed scope pairs c.args.place

pub returns : goal.returns
returns c = λ scope pairs same.
    let none : drop c.loop-left.left-index c.args.on.now ≡ [] = drop_all c.loop-left.left-index c.args.on.now (omega arith) in
    sym (c.loop-left.invariant ∙ ap (λ ps. placed_partner ps c.args.place) none) ∙ ap (λ ps. placed_partner ps c.args.place) same ∙ partner_placed scope pairs c.args.place
