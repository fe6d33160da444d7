use Rattle.std.proofs.Common.{◌≡◌, refl, rules}
use Rattle.std.specs.Ordering.{nat_cmp}
use Rattle.std.proofs.lemmas.Iterator.{YieldsList-from_slice, YieldsList-from_map}
use Rattle.std.proofs.lemmas.Iterator.Consumers.{YieldsList-from_copied, YieldsList-at}
use Rattle.std.proofs.lemmas.Iterator.Search.{cmp_from_yields_List}
use Rattle.bf_base.specs.Names.{lower_of}
use Rattle.bf_lex.proofs.keyword.compare.Goals as goal

pub returns : goal.returns
returns c =
    cmp_from_yields_List (λ x y. y ≡ x) _ nat_cmp _ c.cmp.ensures.ran (YieldsList-from_copied (YieldsList-from_slice c.args.word.now cc)) (λ it e.
    YieldsList-at e (YieldsList-from_map _ lower_of (YieldsList-from_slice c.args.bytes.now cc) c.map.ensures.closure (λ x r q k. search rules))) (λ x y. refl)
