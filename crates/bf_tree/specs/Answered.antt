-- That a script is answered whole.
use Rattle.std.specs.Prelude.{◌≡◌, List, length, map}
use Rattle.bf_tree.specs.declared.reply.Reply.{Reply}
use Rattle.bf_tree.specs.declared.script.Script.{Script}

-- at the end of a run every statement has its reply
abbrev pub IsAllAnswered : Script → List (List Reply) → Type 0
IsAllAnswered script transcripts = map (λ t. length t) transcripts ≡ map (λ s. length s.statements) script.sessions
