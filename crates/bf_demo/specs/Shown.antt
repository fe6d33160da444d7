-- WHAT THE DEMONSTRATION SHOWS of the report of its run: the lines of its last session, the seventh, and the last line.
use Rattle.std.specs.Prelude.{ℕ, ◌*◌, Bool, ◌||◌, ◌==◌, nat_eq, List, [], ◌∷◌, ◌++◌, filter, flat_map, codes, if◌then◌else◌}
use Rattle.std.specs.List.{starts_with}
use Rattle.bf_text.specs.Replies.{newline, numbered}
use Rattle.bf_demo.specs.Replies.{sum_of_owners, transactions}

-- the lines of some bytes, each with the line feed at its end, of which the first one has begun
abbrev pub lines_behind : List ℕ → List ℕ → List (List ℕ)
lines_behind line [] = []
lines_behind line (byte ∷ bytes) =
    if byte == 10 then (line ++ byte ∷ []) ∷ lines_behind [] bytes else lines_behind (line ++ byte ∷ []) bytes

abbrev pub is_shown : List ℕ → Bool
is_shown line = starts_with nat_eq line (codes "7.") || starts_with nat_eq line (codes "end ")

abbrev pub shown_behind : List ℕ → List ℕ → List ℕ
shown_behind line bytes = flat_map (λ shown. shown) (filter is_shown (lines_behind line bytes))

abbrev pub shown_of : List ℕ → List ℕ
shown_of report = shown_behind [] report

-- THE FIVE LINES: a reply of one row, of a count and a sum, to each of two statements; and the end of a report that tells how many
-- transactions have committed, and that all of one migration has moved
abbrev pub counted_lines : List ℕ → ℕ → ℕ → List ℕ
counted_lines place count amount =
    place ++ codes " rows 1" ++ newline ++ place ++ numbered (codes " | ") count ++ numbered (codes ", ") amount ++ newline

abbrev pub end_line : ℕ → ℕ → List ℕ
end_line commits moved = numbered (codes "end commits ") commits ++ numbered (codes " migration 1 complete ") moved ++ newline

abbrev pub last_lines : ℕ → List ℕ
last_lines n =
    counted_lines (codes "7.1") (16 * n) (1610 * n) ++ counted_lines (codes "7.2") (16 * n) (sum_of_owners (16 * n)) ++ end_line (transactions n) (16 * n)
