use Rattle.std.proofs.Common.{◌≡◌, true, Bor, Option, option_map, sym, ap, subst, ◌∙◌}
use Rattle.bf_base.specs.declared.row.Row.{Row}
use Rattle.bf_base.specs.Tables.{cells}
use Rattle.bf_index.specs.Edits.{HasFormer, pair_of}
use Rattle.bf_index.specs.Pairs.{Pair, has_pair, with_pair, without_pair}
use Rattle.bf_index.proofs.Following.{put_back}
use Rattle.bf_index.proofs.indexed_heap.follow.Goals as goal

-- the same value
pub returns-clause-pairs : goal.returns-clause-pairs
returns-clause-pairs c =
    let index = c.args.index.now in
    let key = c.args.key.now in
    let same : cells index.columns c.in-Some-Some.former.now ≡ cells index.columns c.in-Some-Some.row.now = c.is_same_value.ensures.0 c.if-is_same_value.true in
    let pair : Pair = pair_of index.columns (key, c.in-Some-Some.former.now) in
    let there : has_pair index.pairs pair ≡ true = subst (λ (former : Option (Bor Row)). HasFormer index key (option_map (λ (row : Bor Row). row.now) former)) c.in-Some-Some.is-0 c.requires in
    rw (c.in-Some-Some.is-0, c.in-Some-Some.is-1) (sym (put_back index.pairs pair c.len.ensures.index.in_order there) ∙ ap (λ value. with_pair (without_pair index.pairs pair) (value, key)) same)
