use Rattle.std.proofs.Common.{Some, sym, ◌∙◌, nat_eq}
use Rattle.std.specs.Option.{option_eq}
use Rattle.bf_plan.specs.declared.item.BoundItem.{BoundItem}
use Rattle.bf_plan.proofs.Walked.{position-map}
use Rattle.bf_plan.proofs.inheriting.key_item.Goals as goal

pub returns-in-Some : goal.returns-in-Some
returns-in-Some c = c.in-Some.ensures.first ∙ sym (position-map (option_eq nat_eq (Some c.args.place)) (λ (i : BoundItem). i.place) c.args.items.now)

pub returns-in-None : goal.returns-in-None
returns-in-None c = c.in-None.ensures.first ∙ sym (position-map (option_eq nat_eq (Some c.args.place)) (λ (i : BoundItem). i.place) c.args.items.now)
