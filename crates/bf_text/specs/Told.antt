-- Reports that tell all: each statement has its reply, and each name in it is a name.
use Rattle.std.specs.Prelude.{ℕ, Bool, true, List, [], ◌∷◌, Option, Some, None, IsTrue}
use Rattle.std.specs.List.{list_all}
use Rattle.bf_base.specs.Names.{is_name}
use Rattle.bf_tree.specs.declared.reply.Refusal.{Refusal}
use Rattle.bf_tree.specs.declared.reply.Refusal.TheVariants as refusal
use Rattle.bf_tree.specs.declared.reply.Reply.{Reply}
use Rattle.bf_tree.specs.declared.reply.Reply.TheVariants.{Refused}
use Rattle.bf_tree.specs.declared.script.Script.{Script}
use Rattle.bf_tree.specs.Answered.{IsAllAnswered}

-- the names that a refusal tells
abbrev pub names_in : Refusal → List (List ℕ)
names_in (refusal.NoTable name) = name ∷ []
names_in (refusal.NoColumn name) = name ∷ []
names_in (refusal.TableExists name) = name ∷ []
names_in (refusal.KeyColumn name) = name ∷ []
names_in (refusal.NameTwice name) = name ∷ []
names_in (refusal.MayFail target item) = target ∷ []
names_in (refusal.KeyNotInherited target) = target ∷ []
names_in (refusal.SourceUnknown name) = name ∷ []
names_in (refusal.TooManyRows table rows) = table ∷ []
names_in (refusal.IndexExists name) = name ∷ []
names_in other = []

abbrev pub is_named : Reply → Bool
is_named (Refused refusal) = list_all is_name (names_in refusal)
is_named other = true

-- the tables of an audit; one of no tables reads like none
abbrev pub tables_of : Option (List (List ℕ × ℕ)) → List (List ℕ × ℕ)
tables_of None = []
tables_of (Some tables) = tables

-- replies to all statements of a script, and the tables of an audit, by their names
pub record IsTold (script : Script) (transcripts : List (List Reply)) (audit : Option (List (List ℕ × ℕ))) : Type 0 where
  pub all_answered : IsAllAnswered script transcripts
  pub refusals_named : IsTrue (list_all (λ replies. list_all is_named replies) transcripts)
  pub tables_named : IsTrue (list_all (λ table. is_name table.0) (tables_of audit))
