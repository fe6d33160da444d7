use Rattle.std.proofs.Common.{◌≡◌, ◌++◌, take, map, codes}
use Rattle.std.specs.List.{flat_map}
use Rattle.bf_text.proofs.pieces.put_further.Given as goal

abbrev pub invariant-loop-piece : goal.invariant-loop-piece
invariant-loop-piece g l = l.out.items ≡ l.fn.out.items ++ flat_map (λ y. codes ", " ++ y) (map (g.T.Piece.text l.place) (take l.piece-index l.pieces))
