-- NUMBERS OF ROWS, as they are kept: in pages of 64 slots, a slot for each position.
use Rattle.std.specs.Prelude.{ℕ, suc, ◌*◌, ◌^◌, ◌≤◌, List, [], ◌∷◌, ◌++◌, length, Option, None, Some}
use Rattle.std.specs.Global.{Vec}
use Rattle.std.specs.List.{AllByRecursion}

-- the positions of slots that have a number, with these, counted from a position on
abbrev pub from_slot : ℕ → List (Option ℕ) → List (ℕ × ℕ)
from_slot at [] = []
from_slot at (None ∷ slots) = from_slot (suc at) slots
from_slot at (Some number ∷ slots) = (at, number) ∷ from_slot (suc at) slots

-- those of pages, counted from a page on
abbrev pub from_page : ℕ → List (Vec (Option ℕ)) → List (ℕ × ℕ)
from_page page [] = []
from_page page (slots ∷ pages) = from_slot (64 * page) slots.items ++ from_page (suc page) pages

-- no page has more slots, and there are no more pages than 2 ^ 32 positions take. A page may have fewer, or none
pub record ArePages (pages : List (Vec (Option ℕ))) : Type 0 where
  pub each : AllByRecursion (λ page. length page.items ≤ 64) pages
  pub few : length pages ≤ 2 ^ 26
