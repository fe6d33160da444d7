use Rattle.std.proofs.Common.{inr, refl}
use Rattle.std.proofs.Math.Logic.{∥∥₁_map}
use Rattle.storage_tests.proofs.keeper.Keeper.change.Goals as goal

pub invariant_of-self : goal.invariant_of-self
invariant_of-self g c = record {
  stands = ∥∥₁_map c.args.self.now.stands (λ stands.
      c.give_up.ensures.stands c.args.self.now.state _ c.args.self.now.log
      (c.in-Ok.ensures.answered c.args.self.now.state _ stands (c.requires.some, refl)).0);
}

pub returns-then-payload-gt9 : goal.returns-then-payload-gt9
returns-then-payload-gt9 g c = λ next change. ∥∥₁_map c.args.self.now.stands (λ stands.
    let stores = (c.in-Ok.ensures.answered c.args.self.now.state next stands change).0 in
    (inr (c.give_up.ensures.fails c.args.self.now.state next c.args.self.now.log stores), c.give_up.ensures.stands c.args.self.now.state next c.args.self.now.log stores))

pub invariant_of-self-in-Ok : goal.invariant_of-self-in-Ok
invariant_of-self-in-Ok g c = record {
  stands = ∥∥₁_map c.args.self.now.stands (λ stands.
      (c.in-Ok.ensures.answered c.args.self.now.state _ stands (c.requires.some, refl)).1);
}

pub invariant_of-self-in-Err-1 : goal.invariant_of-self-in-Err-1
invariant_of-self-in-Err-1 g c = record {
  stands = ∥∥₁_map c.args.self.now.stands (λ stands.
      (c.in-Err.ensures.answered c.args.self.now.state _ stands (c.requires.some, refl)).1);
}

pub returns-else-payload-gt9 : goal.returns-else-payload-gt9
returns-else-payload-gt9 g c = λ next change. ∥∥₁_map c.args.self.now.stands (λ stands. c.in-Ok.ensures.answered c.args.self.now.state next stands change)

pub returns-in-Err : goal.returns-in-Err
returns-in-Err g c = λ next change. ∥∥₁_map c.args.self.now.stands (λ stands. c.in-Err.ensures.answered c.args.self.now.state next stands change)
