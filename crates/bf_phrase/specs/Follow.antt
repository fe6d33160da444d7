-- FOLLOW: the words that can stand behind what a rule spells where it spells something longer. What other rules have behind
-- it is none of these.
use Rattle.std.specs.Prelude.{Bool, true, false, ◌||◌}
use Rattle.bf_lex.specs.declared.keyword.Keyword.TheVariants.{And, Or, Where, Check, As}
use Rattle.bf_lex.specs.declared.sign.Sign.TheVariants.{Point, Star, Plus, Bars, Comma}
use Rattle.bf_phrase.specs.Words.{Word, Keyword, Minus, Sign}

abbrev pub nothing : Word → Bool
nothing word = false

abbrev pub is_point : Word → Bool
is_point (Sign Point) = true
is_point other = false

abbrev pub is_star : Word → Bool
is_star (Sign Star) = true
is_star other = false

abbrev pub is_sum_operator : Word → Bool
is_sum_operator (Sign Plus) = true
is_sum_operator (Sign Bars) = true
is_sum_operator (Minus number_behind) = true
is_sum_operator other = false

abbrev pub is_and : Word → Bool
is_and (Keyword And) = true
is_and other = false

abbrev pub is_or : Word → Bool
is_or (Keyword Or) = true
is_or other = false

-- a product, a sum, a conjunction and a disjunction go on
abbrev pub follow_product : Word → Bool
follow_product word = is_point word || is_star word

abbrev pub follow_sum : Word → Bool
follow_sum word = follow_product word || is_sum_operator word

abbrev pub follow_conjunction : Word → Bool
follow_conjunction word = is_point word || is_and word

abbrev pub follow_disjunction : Word → Bool
follow_disjunction word = follow_conjunction word || is_or word

abbrev pub is_where : Word → Bool
is_where (Keyword Where) = true
is_where other = false

abbrev pub is_comma : Word → Bool
is_comma (Sign Comma) = true
is_comma other = false

-- a column without its CHECK goes on
abbrev pub is_check : Word → Bool
is_check (Keyword Check) = true
is_check other = false

-- a list goes on as its last part, or with one more
abbrev pub follow_list : (Word → Bool) → Word → Bool
follow_list follow_part word = follow_part word || is_comma word

-- a condition that may be missing goes on
abbrev pub follow_where : Word → Bool
follow_where word = follow_disjunction word || is_where word

abbrev pub is_as : Word → Bool
is_as (Keyword As) = true
is_as other = false

-- an item goes on
abbrev pub follow_item : Word → Bool
follow_item word = follow_sum word || is_as word
