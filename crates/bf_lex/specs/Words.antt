-- The words of keywords and signs, and their numbers.
use Rattle.std.specs.Prelude.{ℕ, List, [], ◌∷◌, find, Option, codes}
use Rattle.bf_base.specs.Lists.{same_name}
use Rattle.bf_lex.specs.declared.keyword.Keyword.{Keyword}
use Rattle.bf_lex.specs.declared.keyword.Keyword.TheVariants.{All, And, As, Begin, Between, By, Check, Commit, Count, Create, Delete, From, Group, Index, Insert, Int, Into, Join, Keep, Key, Max, Migrate, Min, Not, On, Or, Phase, Primary, Rollback, Select, Session, Set, Sum, Table, Union, Update, Values, Varchar, Where}
use Rattle.bf_lex.specs.declared.sign.Sign.{Sign}
use Rattle.bf_lex.specs.declared.sign.Sign.TheVariants as sign

-- the word of a keyword, in lower case
abbrev pub word_of : Keyword → List ℕ
word_of All = codes "all"
word_of And = codes "and"
word_of As = codes "as"
word_of Begin = codes "begin"
word_of Between = codes "between"
word_of By = codes "by"
word_of Check = codes "check"
word_of Commit = codes "commit"
word_of Count = codes "count"
word_of Create = codes "create"
word_of Delete = codes "delete"
word_of From = codes "from"
word_of Group = codes "group"
word_of Index = codes "index"
word_of Insert = codes "insert"
word_of Int = codes "int"
word_of Into = codes "into"
word_of Join = codes "join"
word_of Keep = codes "keep"
word_of Key = codes "key"
word_of Max = codes "max"
word_of Migrate = codes "migrate"
word_of Min = codes "min"
word_of Not = codes "not"
word_of On = codes "on"
word_of Or = codes "or"
word_of Phase = codes "phase"
word_of Primary = codes "primary"
word_of Rollback = codes "rollback"
word_of Select = codes "select"
word_of Session = codes "session"
word_of Set = codes "set"
word_of Sum = codes "sum"
word_of Table = codes "table"
word_of Union = codes "union"
word_of Update = codes "update"
word_of Values = codes "values"
word_of Varchar = codes "varchar"
word_of Where = codes "where"

-- the number of a keyword: its place in the order of the words
abbrev pub number_of : Keyword → ℕ
number_of All = 0
number_of And = 1
number_of As = 2
number_of Begin = 3
number_of Between = 4
number_of By = 5
number_of Check = 6
number_of Commit = 7
number_of Count = 8
number_of Create = 9
number_of Delete = 10
number_of From = 11
number_of Group = 12
number_of Index = 13
number_of Insert = 14
number_of Int = 15
number_of Into = 16
number_of Join = 17
number_of Keep = 18
number_of Key = 19
number_of Max = 20
number_of Migrate = 21
number_of Min = 22
number_of Not = 23
number_of On = 24
number_of Or = 25
number_of Phase = 26
number_of Primary = 27
number_of Rollback = 28
number_of Select = 29
number_of Session = 30
number_of Set = 31
number_of Sum = 32
number_of Table = 33
number_of Union = 34
number_of Update = 35
number_of Values = 36
number_of Varchar = 37
number_of Where = 38

abbrev pub keywords : List Keyword
keywords =
    All ∷ And ∷ As ∷ Begin ∷ Between ∷ By ∷ Check ∷ Commit ∷ Count ∷ Create ∷ Delete ∷ From ∷ Group ∷ Index ∷ Insert ∷
    Int ∷ Into ∷ Join ∷ Keep ∷ Key ∷ Max ∷ Migrate ∷ Min ∷ Not ∷ On ∷ Or ∷ Phase ∷ Primary ∷ Rollback ∷ Select ∷ Session ∷
    Set ∷ Sum ∷ Table ∷ Union ∷ Update ∷ Values ∷ Varchar ∷ Where ∷ []

-- the keyword that a word in lower case is, if it is one
unfoldable pub keyword_of : List ℕ → Option Keyword
keyword_of word = find (λ k. same_name (word_of k) word) keywords

-- the word of a sign
abbrev pub sign_word : Sign → List ℕ
sign_word sign.OpeningParenthesis = codes "("
sign_word sign.ClosingParenthesis = codes ")"
sign_word sign.Comma = codes ","
sign_word sign.Semicolon = codes ";"
sign_word sign.Point = codes "."
sign_word sign.Star = codes "*"
sign_word sign.Plus = codes "+"
sign_word sign.Minus = codes "-"
sign_word sign.Equal = codes "="
sign_word sign.Unequal = codes "<>"
sign_word sign.Less = codes "<"
sign_word sign.LessEqual = codes "<="
sign_word sign.Greater = codes ">"
sign_word sign.GreaterEqual = codes ">="
sign_word sign.Bars = codes "||"

-- the number of a sign
abbrev pub sign_number : Sign → ℕ
sign_number sign.OpeningParenthesis = 0
sign_number sign.ClosingParenthesis = 1
sign_number sign.Comma = 2
sign_number sign.Semicolon = 3
sign_number sign.Point = 4
sign_number sign.Star = 5
sign_number sign.Plus = 6
sign_number sign.Minus = 7
sign_number sign.Equal = 8
sign_number sign.Unequal = 9
sign_number sign.Less = 10
sign_number sign.LessEqual = 11
sign_number sign.Greater = 12
sign_number sign.GreaterEqual = 13
sign_number sign.Bars = 14

-- the spellings of a sign: its word, and for one sign a second
abbrev pub spellings : Sign → List (List ℕ)
spellings sign.OpeningParenthesis = codes "(" ∷ []
spellings sign.ClosingParenthesis = codes ")" ∷ []
spellings sign.Comma = codes "," ∷ []
spellings sign.Semicolon = codes ";" ∷ []
spellings sign.Point = codes "." ∷ []
spellings sign.Star = codes "*" ∷ []
spellings sign.Plus = codes "+" ∷ []
spellings sign.Minus = codes "-" ∷ []
spellings sign.Equal = codes "=" ∷ []
spellings sign.Unequal = codes "<>" ∷ codes "!=" ∷ []
spellings sign.Less = codes "<" ∷ []
spellings sign.LessEqual = codes "<=" ∷ []
spellings sign.Greater = codes ">" ∷ []
spellings sign.GreaterEqual = codes ">=" ∷ []
spellings sign.Bars = codes "||" ∷ []
