use Rattle.std.proofs.Common.{◌∙◌, Some, ap, sym, rules}
use Rattle.bf_words.specs.declared.words.Words.{Words}
use Rattle.bf_words.specs.Words.{asked_by}
use Rattle.bf_run.proofs.Answered.{of_both, of_demonstration, of_words, of_file}
use Rattle.bf_run.proofs.top.answer.Goals as goal

pub returns-in-Ok-Create-clause-answer : goal.returns-in-Ok-Create-clause-answer
returns-in-Ok-Create-clause-answer g c =
    let asks = ap (λ (words : Words). Some (asked_by words)) (sym c.in-Ok-Create.field-0-is) ∙ sym c.in-Ok-Create.ensures.read in
    of_both c.create.result _ _ _
    (λ a causes spells. of_file _ _ _ c.in-Ok-Create.path.now a.0 a.1.items asks (search rules, search rules) causes spells)
    c.create.ensures.causes c.create.ensures.text

pub returns-in-Ok-Demo-clause-answer : goal.returns-in-Ok-Demo-clause-answer
returns-in-Ok-Demo-clause-answer g c =
    let asks = ap (λ (words : Words). Some (asked_by words)) (sym c.in-Ok-Demo.field-0-is) ∙ sym c.in-Ok-Demo.ensures.read in
    of_both c.demonstrate.result _ _ _
    (λ a causes spells. of_demonstration _ _ _ c.in-Ok-Demo.count c.in-Ok-Demo.path.now a.0 a.1.items asks (search rules, search rules) causes spells)
    c.demonstrate.ensures.causes c.demonstrate.ensures.text

pub returns-in-Err-Usage-clause-answer : goal.returns-in-Err-Usage-clause-answer
returns-in-Err-Usage-clause-answer g c =
    of_both c.usage.result _ _ _
    (λ a same spells. of_words _ _ _ a.0 a.1.items (sym c.in-Err-Usage.ensures.refused) (search rules, search rules) same spells)
    c.usage.ensures.status c.usage.ensures.text
