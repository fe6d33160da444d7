-- The texts of the last replies, and of the end of the report, line by line.
use Rattle.std.proofs.Common.{◌≡◌, ℕ, ◌*◌, List, [], ◌++◌, codes, refl, ap, append_assoc, append-nil, arith}
use Rattle.std.specs.Fmt.{decimal}
use Rattle.std.proofs.lemmas.Fmt.{decimal_digit}
use Rattle.bf_text.specs.Replies.{newline, reply_text}
use Rattle.bf_text.specs.Report.{end_text, session_text}
use Rattle.bf_tree.specs.declared.history.Sweep.TheVariants.{Complete}
use Rattle.bf_demo.specs.Replies.{counted, last_replies, sum_of_owners, transactions}
use Rattle.bf_demo.specs.Shown.{counted_lines, end_line, last_lines}

-- the two lines of a reply that has one row of two numbers, by the digits of these
reply_lines : (place count amount : List ℕ) →
    (place ++ codes " ") ++ (((codes "rows " ++ codes "1") ++ newline) ++ ((((place ++ codes " | ") ++ (count ++ ((codes ", " ++ amount) ++ []))) ++ newline) ++ []))
    ≡ (((((place ++ codes " rows 1") ++ newline) ++ place) ++ (codes " | " ++ count)) ++ (codes ", " ++ amount)) ++ newline
reply_lines place count amount = simp (append_assoc, append-nil)

first_reply : (count amount : ℕ) → reply_text 7 1 (counted count amount) ≡ counted_lines (codes "7.1") count amount
first_reply count amount =
    rw (decimal_digit 7 (omega arith), decimal_digit 1 (omega arith)) (reply_lines (codes "7.1") (decimal count) (decimal amount))

second_reply : (count amount : ℕ) → reply_text 7 2 (counted count amount) ≡ counted_lines (codes "7.2") count amount
second_reply count amount =
    rw (decimal_digit 7 (omega arith), decimal_digit 2 (omega arith), decimal_digit 1 (omega arith)) (reply_lines (codes "7.2") (decimal count) (decimal amount))

last_line : (commits moved : List ℕ) → (((codes "end commits " ++ commits) ++ codes " migration ") ++ (codes "1" ++ (codes " complete " ++ moved))) ++ newline
    ≡ ((codes "end commits " ++ commits) ++ (codes " migration 1 complete " ++ moved)) ++ newline
last_line commits moved =
    ap (λ (digits : List ℕ). (codes "end commits " ++ digits) ++ newline) (append_assoc commits (codes " migration ") (codes "1" ++ (codes " complete " ++ moved)))

end_told : (commits moved : ℕ) → end_text commits (Complete 1 moved) ≡ end_line commits moved
end_told commits moved = rw (decimal_digit 1 (omega arith)) (last_line (decimal commits) (decimal moved))

joined : (one two three told more last : List ℕ) → told ≡ one → more ≡ two → last ≡ three → (one ++ two) ++ three ≡ (told ++ (more ++ [])) ++ last
joined one two three told more last first second third = rw (first, second, third, append-nil two) refl

pub tell : (n : ℕ) → last_lines n ≡ session_text 7 (last_replies n) ++ end_text (transactions n) (Complete 1 (16 * n))
tell n = joined _ _ _ _ _ _ (first_reply (16 * n) (1610 * n)) (second_reply (16 * n) (sum_of_owners (16 * n))) (end_told (transactions n) (16 * n))
