use Rattle.std.proofs.Common.{◌≡◌, ◌∙◌, ℕ, ◌-◌, ◌<◌, List, [], ◌∷◌, length, map, take, drop, get_or, ap, arith}
use Rattle.std.proofs.lemmas.List.{take_all}
use Rattle.std.specs.Borrow.{Bor}
use Rattle.bf_words.specs.Words.{asked, asked_behind}
use Rattle.bf_words.proofs.words.asked.Goals as goal

-- the words are the first one and those behind it
split : (words : List (Bor (List ℕ))) (d : Bor (List ℕ)) → 0 < length words → asked_behind (get_or words 0 d).now (map (λ word. word.now) (take (length words - 1) (drop 1 words))) ≡ asked (map (λ word. word.now) words)
split [] d lt = absurd (omega arith)
split (word ∷ words) d lt =
    ap (λ (behind : List (Bor (List ℕ))). asked_behind word.now (map (λ w. w.now) behind)) (take_all (length (word ∷ words) - 1) words (omega arith))

pub returns-in-len1-up : goal.returns-in-len1-up
returns-in-len1-up c = c.asked_behind.ensures ∙ split c.args.words.now _ (omega arith)
