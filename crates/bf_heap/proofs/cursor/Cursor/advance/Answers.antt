use Rattle.std.proofs.Common.{◌≡◌, List, [], ◌∷◌, ◌++◌, length, drop, refl, ap, ◌∙◌, arith}
use Rattle.bf_heap.specs.Heaps.{Entry}
use Rattle.bf_heap.specs.Pages.{rows_of}
use Rattle.bf_heap.proofs.cursor.Cursor.advance.Goals as goal

-- behind the only row of a page is the rest
behind_one : (rows rest : List Entry) → length rows ≡ 1 → rest ≡ drop 1 (rows ++ rest)
behind_one [] rest one = absurd (omega arith)
behind_one (row ∷ []) rest one = refl
behind_one (row ∷ next ∷ rows) rest one = absurd (omega arith)

pub returns-in-len1 : goal.returns-in-len1
returns-in-len1 c =
    c.self-in-len1.view_is ∙ c.new.ensures
    ∙ behind_one c.self.inside.rows.now (rows_of c.self.inside.pages.now ++ c.self.inside.last.now) (omega (arith, c.in-len1.len_at_least, c.in-len1.len_below))
    ∙ ap (drop 1) c.self.view_is
