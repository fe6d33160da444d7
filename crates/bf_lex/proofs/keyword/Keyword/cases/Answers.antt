-- The words of the keywords, by their numbers.
use Rattle.std.proofs.Common.{◌≡◌, Some, List, [], ◌∷◌, codes, refl, sym, subst}
use Rattle.bf_tables.specs.Cases.{Case, word_at}
use Rattle.bf_lex.specs.declared.keyword.Keyword.{Keyword}
use Rattle.bf_lex.specs.declared.keyword.Keyword.TheVariants.{All, And, As, Begin, Between, By, Check, Commit, Count, Create, Delete, From, Group, Index, Insert, Int, Into, Join, Keep, Key, Max, Migrate, Min, Not, On, Or, Phase, Primary, Rollback, Select, Session, Set, Sum, Table, Union, Update, Values, Varchar, Where}
use Rattle.bf_lex.specs.Words.{number_of, word_of}
use Rattle.bf_lex.proofs.keyword.Keyword.cases.Goals as goal

abbrev words : List Case
words =
    (0, codes "all") ∷ (1, codes "and") ∷ (2, codes "as") ∷ (3, codes "begin") ∷ (4, codes "between") ∷ (5, codes "by") ∷
    (6, codes "check") ∷ (7, codes "commit") ∷ (8, codes "count") ∷ (9, codes "create") ∷ (10, codes "delete") ∷ (11, codes "from") ∷
    (12, codes "group") ∷ (13, codes "index") ∷ (14, codes "insert") ∷ (15, codes "int") ∷ (16, codes "into") ∷ (17, codes "join") ∷
    (18, codes "keep") ∷ (19, codes "key") ∷ (20, codes "max") ∷ (21, codes "migrate") ∷ (22, codes "min") ∷ (23, codes "not") ∷
    (24, codes "on") ∷ (25, codes "or") ∷ (26, codes "phase") ∷ (27, codes "primary") ∷ (28, codes "rollback") ∷ (29, codes "select") ∷
    (30, codes "session") ∷ (31, codes "set") ∷ (32, codes "sum") ∷ (33, codes "table") ∷ (34, codes "union") ∷ (35, codes "update") ∷
    (36, codes "values") ∷ (37, codes "varchar") ∷ (38, codes "where") ∷ []

word_of_number : (k : Keyword) → word_at words (number_of k) ≡ Some (word_of k)
word_of_number All = refl
word_of_number And = refl
word_of_number As = refl
word_of_number Begin = refl
word_of_number Between = refl
word_of_number By = refl
word_of_number Check = refl
word_of_number Commit = refl
word_of_number Count = refl
word_of_number Create = refl
word_of_number Delete = refl
word_of_number From = refl
word_of_number Group = refl
word_of_number Index = refl
word_of_number Insert = refl
word_of_number Int = refl
word_of_number Into = refl
word_of_number Join = refl
word_of_number Keep = refl
word_of_number Key = refl
word_of_number Max = refl
word_of_number Migrate = refl
word_of_number Min = refl
word_of_number Not = refl
word_of_number On = refl
word_of_number Or = refl
word_of_number Phase = refl
word_of_number Primary = refl
word_of_number Rollback = refl
word_of_number Select = refl
word_of_number Session = refl
word_of_number Set = refl
word_of_number Sum = refl
word_of_number Table = refl
word_of_number Union = refl
word_of_number Update = refl
word_of_number Values = refl
word_of_number Varchar = refl
word_of_number Where = refl

pub returns : goal.returns
returns c = λ k.
    let made : c.of_cases.result ≡ Some words = c.of_cases.ensures in
    let same : c.unwrap.result ≡ words = cc in
    subst (λ cases. word_at cases (number_of k) ≡ Some (word_of k)) (sym same) (word_of_number k)
