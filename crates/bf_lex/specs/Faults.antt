-- The words that tell of what is wrong with a text.
use Rattle.std.specs.Prelude.{ℕ, List, codes}
use Rattle.bf_lex.specs.declared.fault.ScriptKind.{ScriptKind}
use Rattle.bf_lex.specs.declared.fault.ScriptKind.TheVariants as kind

abbrev pub kind_text : ScriptKind → List ℕ
kind_text kind.BadByte = codes "bad byte"
kind_text kind.OpenString = codes "open string"
kind_text kind.NumberTooWide = codes "number too wide"
kind_text kind.Syntax = codes "syntax"
kind_text kind.TextTooLong = codes "text too long"
kind_text kind.NameTooLong = codes "name too long"
kind_text kind.TooManyColumns = codes "too many columns"
kind_text kind.TooManySessions = codes "too many sessions"
kind_text kind.TooManyMigrations = codes "too many migrations"
kind_text kind.TooManyTargets = codes "too many targets"
kind_text kind.TooDeep = codes "too deep"
kind_text kind.ScriptTooLong = codes "script too long"
