-- Worked examples of the format and of the limits.
use Rattle.std.proofs.Common.{◌≡◌, ℕ, List, [], ◌∷◌, ◌++◌, take, Some, None, refl, inl, inr, lit<, lit≤, rules}
use Rattle.bf_log.specs.Append.{refusal}
use Rattle.bf_log.specs.Format.{magic, empty_log, with_entry, IsLog, IsNoLog}
use Rattle.bf_log.specs.declared.error.AppendError.TheVariants.{TooLarge, LogFull, Halted, Memory}
use Rattle.bf_log.specs.declared.log.Standing.TheVariants.{Ready, Halted as Stopped, Spent}

-- the bytes 41 42
abbrev two_bytes : List ℕ
two_bytes = 0x41 ∷ 0x42 ∷ []

-- 4246524f474c473100
made : empty_log ≡ 0x42 ∷ 0x46 ∷ 0x52 ∷ 0x4f ∷ 0x47 ∷ 0x4c ∷ 0x47 ∷ 0x31 ∷ 0x00 ∷ []
made = refl

-- 4246524f474c4731a502000000414200, after an append of 41 42
abbrev one_record : List ℕ
one_record =
    0x42 ∷ 0x46 ∷ 0x52 ∷ 0x4f ∷ 0x47 ∷ 0x4c ∷ 0x47 ∷ 0x31 ∷ 0xa5 ∷ 0x02 ∷ 0x00 ∷ 0x00 ∷ 0x00 ∷ 0x41 ∷ 0x42 ∷ 0x00 ∷ []

appended : with_entry empty_log 8 two_bytes ≡ one_record
appended = refl

empty_is_log : IsLog [] empty_log
empty_is_log = (0 ∷ [], refl, (0, [], search rules, refl))

one_is_log : IsLog (two_bytes ∷ []) one_record
one_is_log = (_, refl, (0 ∷ [], lit≤ tt, refl, (0, [], search rules, refl)))

-- the gate is still closed, and bytes behind it mean nothing
not_yet_opened : IsLog [] (magic ++ 0x00 ∷ 0x02 ∷ 0x00 ∷ 0x00 ∷ 0x00 ∷ 0x41 ∷ 0x42 ∷ 0x00 ∷ [])
not_yet_opened = (_, refl, (0, _, search rules, refl))

-- a gate ff is closed
closed_by_ff : IsLog [] (magic ++ 0xff ∷ [])
closed_by_ff = (_, refl, (0xff, [], search rules, refl))

-- the same file without its last byte: the next gate doesn't fit
cut_by_a_byte : IsNoLog (take 15 one_record) 8
cut_by_a_byte = inr ([], (_, refl, (_, refl, inr (inr (lit< tt))), refl))

-- a5ffffffff: the length is above the most
too_long : IsNoLog (magic ++ 0xa5 ∷ 0xff ∷ 0xff ∷ 0xff ∷ 0xff ∷ []) 8
too_long = inr ([], (_, refl, (_, refl, inr (inl (lit< tt))), refl))

-- the magic alone: the file's length
only_magic : IsNoLog magic 8
only_magic = inl (inr (record { ends = refl; short = lit≤ tt; agrees = refl }))

-- 4246524f474c473900: the last byte of the magic is turned
turned : IsNoLog (0x42 ∷ 0x46 ∷ 0x52 ∷ 0x4f ∷ 0x47 ∷ 0x4c ∷ 0x47 ∷ 0x39 ∷ 0x00 ∷ []) 7
turned = inl (inl (record { within = (lit< tt, lit< tt); agrees = refl; differs = search rules }))

-- two bytes with the limits 2 and 20 at the end 8, and then at the end 15
fits : refusal Ready 8 2 2 20 ≡ None
fits = refl

too_large : refusal Ready 15 2 1 20 ≡ Some (TooLarge 2)
too_large = refl

full : refusal Ready 15 2 2 20 ≡ Some (LogFull 15 7)
full = refl

-- a halted log says so before anything else, and a spent one says that memory ran out
halted : refusal (Stopped 3) 15 2 1 20 ≡ Some (Halted 3)
halted = refl

spent : refusal Spent 15 2 1 20 ≡ Some Memory
spent = refl
