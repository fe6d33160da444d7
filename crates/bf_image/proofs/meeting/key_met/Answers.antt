use Rattle.std.proofs.Common.{◌≡◌, ◌+◌, ◌-◌, ◌++◌, ◌∷◌, ℕ, [], map, get_or, take, sym, ap, ap₂, ◌∙◌, arith}
use Rattle.std.proofs.lemmas.List.{take_all, take_more, map-append}
use Rattle.bf_base.specs.declared.value.Value.{Value}
use Rattle.bf_base.specs.Tables.{cell}
use Rattle.bf_image.specs.Lookup.{partner}
use Rattle.bf_image.proofs.meeting.key_met.Goals as goal

pub loop-place-preserved : goal.loop-place-preserved
loop-place-preserved c = λ scope pairs same.
    let key = c.args.key.now in
    let i = c.loop-place.place-index in
    let made : ℕ → Value = λ place. cell c.args.row.now (partner scope pairs (c.args.ahead.other + place) - c.args.ahead.driver) in
    let more : take (i + 1) key ≡ take i key ++ get_or key i 0 ∷ [] = take_more key i 0 (omega arith) in
    let met : c.partner-met.result ≡ partner scope pairs (c.args.ahead.other + get_or key i 0) = c.partner-met.ensures scope pairs same ∙ ap (λ n. partner scope pairs (c.args.ahead.other + n)) c.from.ensures in
    let value : c.in_ok-column_value.field-0 ≡ made (get_or key i 0) = c.in_ok-column_value.ensures ∙ ap (cell c.args.row.now) (c.saturating_sub.ensures ∙ ap (λ n. n - c.args.ahead.driver) met) in
    c.in_ok-push.ensures.items ∙ ap₂ (λ vs v. vs ++ v ∷ []) (c.loop-place.invariant scope pairs same) value ∙ sym (ap (map made) more ∙ map-append made (take i key) (get_or key i 0 ∷ []))

pub returns : goal.returns
returns c = λ scope pairs same.
    let all : take c.loop-place.place-index c.args.key.now ≡ c.args.key.now = take_all c.loop-place.place-index c.args.key.now (omega arith) in
    c.of.ensures ∙ c.loop-place.invariant scope pairs same ∙ ap (map (λ place. cell c.args.row.now (partner scope pairs (c.args.ahead.other + place) - c.args.ahead.driver))) all
