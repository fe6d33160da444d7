use Rattle.std.proofs.Common.{◌≡◌, take}
use Rattle.bf_index.specs.Pages.{pairs_of}
use Rattle.bf_index.specs.Pairs.{keys_with}
use Rattle.bf_index.proofs.index.keys_in.Given as goal

-- the keys of the pages so far
abbrev pub invariant-loop-page : goal.invariant-loop-page
invariant-loop-page l = l.keys.items ≡ keys_with (pairs_of (take l.page-index l.page-items)) l.value
