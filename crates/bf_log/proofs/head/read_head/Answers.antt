use Rattle.std.proofs.Common.{◌≡◌, ◌∙◌, arith, inl, inr, refl, sym}
use Rattle.bf_log.proofs.Reading.{differs_at, ends_at, has_magic, read_front}
use Rattle.bf_log.proofs.head.read_head.Goals as goal

pub returns-in-Some-clause-not_a_log : goal.returns-in-Some-clause-not_a_log
returns-in-Some-clause-not_a_log g c = λ at is file told.
    let front = read_front _ c.read.new.into c.sync.ensures.seen c.len.ensures.seen c.in_ok-len.ensures.len c.min.ensures refl
    c.in_ok-read.ensures.bytes c.first_difference.ensures file told in
    inl (differs_at file at (cc (front.1, is)))

pub returns-in-None-clause-not_a_log : goal.returns-in-None-clause-not_a_log
returns-in-None-clause-not_a_log g c = λ at is file told.
    let front = read_front _ c.read.new.into c.sync.ensures.seen c.len.ensures.seen c.in_ok-len.ensures.len c.min.ensures refl
    c.in_ok-read.ensures.bytes c.first_difference.ensures file told in
    let here : c.in_ok-len.len ≡ at = cc in
    inr (ends_at file at (sym front.1 ∙ c.in-None.is) (sym here ∙ front.0) (omega arith))

pub returns-in-None-2-clause-len : goal.returns-in-None-2-clause-len
returns-in-None-2-clause-len g c = (
  c.if-len.false,
  λ file told.
      let front = read_front _ c.read.new.into c.sync.ensures.seen c.len.ensures.seen c.in_ok-len.ensures.len c.min.ensures refl
      c.in_ok-read.ensures.bytes c.first_difference.ensures file told in
      (front.0, has_magic file (sym front.1 ∙ c.in-None.is) (omega (arith, front.0))),
)
