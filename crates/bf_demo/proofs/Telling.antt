-- The replies to a session of two statements, all of which are answered.
use Rattle.std.proofs.Common.{◌≡◌, ℕ, List, [], ◌∷◌, ◌++◌, length, refl, sym, ◌∙◌, arith}
use Rattle.std.specs.Prelude.{slice_index_or}
use Rattle.bf_base.specs.Lists.{part}
use Rattle.bf_tree.specs.Answered.{IsAllAnswered}
use Rattle.bf_tree.specs.declared.reply.Reply.{Reply}
use Rattle.bf_sql.specs.History.{replies_to}
use Rattle.bf_demo.specs.Replies.{last_replies}
use Rattle.bf_demo.specs.Script.{demonstration}

abbrev seventh : List (List Reply) → List Reply
seventh transcripts = slice_index_or ([] ∷ transcripts) 7 []

two_told : (n : ℕ) (transcripts : List (List Reply)) → IsAllAnswered (demonstration n) transcripts → length (seventh transcripts) ≡ 2
two_told n [] all = absurd cc
two_told n (a ∷ []) all = absurd cc
two_told n (a ∷ b ∷ []) all = absurd cc
two_told n (a ∷ b ∷ c ∷ []) all = absurd cc
two_told n (a ∷ b ∷ c ∷ d ∷ []) all = absurd cc
two_told n (a ∷ b ∷ c ∷ d ∷ e ∷ []) all = absurd cc
two_told n (a ∷ b ∷ c ∷ d ∷ e ∷ f ∷ []) all = absurd cc
two_told n (a ∷ b ∷ c ∷ d ∷ e ∷ f ∷ g ∷ rest) all = cc

both_parts : (replies : List Reply) → length replies ≡ 2 → part 1 1 replies ++ part 2 2 replies ≡ replies
both_parts [] size = absurd (omega arith)
both_parts (a ∷ []) size = absurd (omega arith)
both_parts (a ∷ b ∷ []) size = refl
both_parts (a ∷ b ∷ c ∷ rest) size = absurd (omega arith)

pub tells : (n : ℕ) (transcripts : List (List Reply)) → IsAllAnswered (demonstration n) transcripts → replies_to transcripts 7 (1, 1) ++ replies_to transcripts 7 (2, 2) ≡ last_replies n
    → seventh transcripts ≡ last_replies n
tells n transcripts all shown = sym (both_parts (seventh transcripts) (two_told n transcripts all)) ∙ shown
