-- What a shelf of files has lent.
use Rattle.std.specs.Prelude.{ℕ, Bool, if◌then◌else◌, List, [], Option, None, Some, String, string_bytes}
use Rattle.std.specs.Global.{Global}
use Rattle.std.specs.List.{list_any}
use Rattle.std.specs.Str.{bytes_eq}
use Rattle.bf_disk.specs.Shelves.{ByPath}

-- the paths that it has lent, and its count of faults
pub record Lending : Type 0 where
  pub lent : List (String Global)
  pub faults : ℕ

-- whether a path is lent
abbrev pub is_lent : List (String Global) → List ℕ → Bool
is_lent lent path = list_any (λ one. bytes_eq path (string_bytes one)) lent

-- under each path that is lent a count of no faults: the file was opened for the loan
abbrev pub taken_of : Lending → ByPath ℕ
taken_of shelf path = if is_lent shelf.lent path then Some 0 else None
