use Rattle.std.proofs.Common.{ℕ, List, Bool, map, ◌∙◌, ap, rules}
use Rattle.std.specs.List.{list_any}
use Rattle.std.specs.FinMap.{nat_cmp-IsAntisymmetric, slice_cmp-IsAntisymmetric}
use Rattle.std.proofs.lemmas.Fn.{always_returns_same}
use Rattle.bf_base.specs.Lists.{name_cmp}
use Rattle.bf_base.specs.Names.{folded}
use Rattle.bf_base.proofs.Names.{name_cmp_total, same_name-tie}
use Rattle.bf_base.proofs.Order.{has-none, searchable_from_rises}
use Rattle.bf_lex.proofs.Keywords.{case_at}
use Rattle.bf_lex.proofs.keyword.number_of_word.Goals as goal

pub returns-in-Ok-clause-found : goal.returns-in-Ok-clause-found
returns-in-Ok-clause-found c =
    let word = folded c.args.word.now in
    let ties = c.in-Ok.ensures.position (λ w. name_cmp w.1.now word) (always_returns_same _ _ _ (λ a r f called. (search rules, search rules))) (0, c.args.word) in
    let same = slice_cmp-IsAntisymmetric nat_cmp-IsAntisymmetric _ _ ties in
    case_at c.args.words.now c.in-Ok.place (0, c.args.word) _ word c.in-Ok.ensures.bound same

pub returns-in-Err-clause-none : goal.returns-in-Err-clause-none
returns-in-Err-clause-none c =
    let word = folded c.args.word.now in
    let words = c.args.words.now in
    let place = c.in-Err.ensures.position (λ w. name_cmp w.1.now word) (always_returns_same _ _ _ (λ a r f called. (search rules, search rules))) (searchable_from_rises name_cmp_total (λ w. w.1.now) words word c.requires) in
    ap (λ (test : List ℕ → Bool). list_any test (map (λ w. w.1.now) words)) (λ i x. same_name-tie word x i) ∙ has-none name_cmp_total (λ w. w.1.now) words c.in-Err.field-0 word place
