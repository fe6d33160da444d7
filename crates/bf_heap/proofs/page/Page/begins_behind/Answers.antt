use Rattle.std.proofs.Common.{◌≡◌, rules, Less, Greater, FitsSigned, ap, ◌∙◌, arith}
use Rattle.std.proofs.lemmas.Int.{to_z-of_z}
use Rattle.std.specs.Int.{w64}
use Rattle.std.specs.Ordering.{int_cmp}
use Rattle.bf_heap.specs.Pages.{rank_of_page}
use Rattle.bf_heap.proofs.Ranks.{not_behind_by, is_behind_by}
use Rattle.bf_heap.proofs.page.Page.begins_behind.Goals as goal

pub returns-in-Less : goal.returns-in-Less
returns-in-Less c =
    let rank_is : c.self.inside.rank ≡ rank_of_page c.args.self.now = c.self.invariant.2 ∙ ap rank_of_page c.self.view_is in
    let f : FitsSigned w64 c.self.inside.rank = search rules in
    let g : FitsSigned w64 c.rank-sought.result = search rules in
    let told : int_cmp c.self.inside.rank c.rank-sought.result ≡ Less = grind (arith, to_z-of_z) in
    not_behind_by c.args.self.now c.args.key.now _ _ rank_is c.rank-sought.ensures f g told

pub returns-in-Greater : goal.returns-in-Greater
returns-in-Greater c =
    let rank_is : c.self.inside.rank ≡ rank_of_page c.args.self.now = c.self.invariant.2 ∙ ap rank_of_page c.self.view_is in
    let f : FitsSigned w64 c.self.inside.rank = search rules in
    let g : FitsSigned w64 c.rank-sought.result = search rules in
    let told : int_cmp c.self.inside.rank c.rank-sought.result ≡ Greater = grind (arith, to_z-of_z) in
    is_behind_by c.args.self.now c.args.key.now _ _ rank_is c.rank-sought.ensures f g told
