-- FIRST and FOLLOW of statements and of the parts of a script.
use Rattle.std.specs.Prelude.{Bool, true, false, ◌||◌}
use Rattle.bf_phrase.specs.Words.{Word, Keyword}
use Rattle.bf_phrase.specs.Follow.{follow_sum, is_comma, follow_where}
use Rattle.bf_lex.specs.declared.keyword.Keyword.TheVariants as keyword

abbrev pub follow_ordinary : Word → Bool
follow_ordinary word = follow_where word || follow_sum word || is_comma word

abbrev pub first_ordinary : Word → Bool
first_ordinary (Keyword keyword.Create) = true
first_ordinary (Keyword keyword.Insert) = true
first_ordinary (Keyword keyword.Select) = true
first_ordinary (Keyword keyword.Update) = true
first_ordinary (Keyword keyword.Delete) = true
first_ordinary (Keyword keyword.Begin) = true
first_ordinary (Keyword keyword.Commit) = true
first_ordinary (Keyword keyword.Rollback) = true
first_ordinary other = false

abbrev pub first_migrate : Word → Bool
first_migrate (Keyword keyword.Migrate) = true
first_migrate other = false

abbrev pub first_session : Word → Bool
first_session (Keyword keyword.Session) = true
first_session other = false

abbrev pub first_phase : Word → Bool
first_phase (Keyword keyword.Phase) = true
first_phase other = false

abbrev pub first_statement : Word → Bool
first_statement word = first_ordinary word || first_migrate word

-- sessions and phases go on
abbrev pub follow_sessions : Word → Bool
follow_sessions word = first_statement word || first_session word

abbrev pub follow_phases : Word → Bool
follow_phases word = follow_sessions word || first_phase word
