-- What an owner holds, it holds still after an answer of a lock table, and after another has freed its locks.
use Rattle.std.proofs.Common.{◌≡◌, ◌≢◌, ℕ, true, Some, refl, sym, ap, subst, ◌∙◌, inl, inr}
use Rattle.std.specs.Prelude.{IsSomeAnd}
use Rattle.std.specs.Option.{option_map_or}
use Rattle.bf_locks.specs.declared.answer.LockAnswer.{LockAnswer}
use Rattle.bf_locks.specs.declared.answer.LockAnswer.TheVariants.{Granted, Wait, Die}
use Rattle.bf_locks.specs.declared.mode.Mode.{Mode}
use Rattle.bf_locks.specs.declared.mode.Mode.TheVariants.{IS, IX, S, SIX, X}
use Rattle.bf_locks.specs.declared.name.LockName.{LockName}
use Rattle.bf_locks.specs.Locks.{Locks, after, held, wanted, without_owner}
use Rattle.bf_locks.specs.Modes.{covers, join_of}
use Rattle.bf_locks.proofs.Held.{held_without_other, insert_cases}
use Rattle.bf_live.specs.OpenGroups.{HoldsIn}
use Rattle.bf_live.proofs.locking.Isolation.{held_as}

-- a join covers what its first part covers
join_covers : (mine more mode : Mode) → covers mine mode ≡ true → covers (join_of mine more) mode ≡ true
join_covers IS IS IS over = refl
join_covers IS IS IX over = absurd cc
join_covers IS IS S over = absurd cc
join_covers IS IS SIX over = absurd cc
join_covers IS IS X over = absurd cc
join_covers IS IX IS over = refl
join_covers IS IX IX over = absurd cc
join_covers IS IX S over = absurd cc
join_covers IS IX SIX over = absurd cc
join_covers IS IX X over = absurd cc
join_covers IS S IS over = refl
join_covers IS S IX over = absurd cc
join_covers IS S S over = absurd cc
join_covers IS S SIX over = absurd cc
join_covers IS S X over = absurd cc
join_covers IS SIX IS over = refl
join_covers IS SIX IX over = absurd cc
join_covers IS SIX S over = absurd cc
join_covers IS SIX SIX over = absurd cc
join_covers IS SIX X over = absurd cc
join_covers IS X IS over = refl
join_covers IS X IX over = absurd cc
join_covers IS X S over = absurd cc
join_covers IS X SIX over = absurd cc
join_covers IS X X over = absurd cc
join_covers IX IS IS over = refl
join_covers IX IS IX over = refl
join_covers IX IS S over = absurd cc
join_covers IX IS SIX over = absurd cc
join_covers IX IS X over = absurd cc
join_covers IX IX IS over = refl
join_covers IX IX IX over = refl
join_covers IX IX S over = absurd cc
join_covers IX IX SIX over = absurd cc
join_covers IX IX X over = absurd cc
join_covers IX S IS over = refl
join_covers IX S IX over = refl
join_covers IX S S over = absurd cc
join_covers IX S SIX over = absurd cc
join_covers IX S X over = absurd cc
join_covers IX SIX IS over = refl
join_covers IX SIX IX over = refl
join_covers IX SIX S over = absurd cc
join_covers IX SIX SIX over = absurd cc
join_covers IX SIX X over = absurd cc
join_covers IX X IS over = refl
join_covers IX X IX over = refl
join_covers IX X S over = absurd cc
join_covers IX X SIX over = absurd cc
join_covers IX X X over = absurd cc
join_covers S IS IS over = refl
join_covers S IS IX over = absurd cc
join_covers S IS S over = refl
join_covers S IS SIX over = absurd cc
join_covers S IS X over = absurd cc
join_covers S IX IS over = refl
join_covers S IX IX over = absurd cc
join_covers S IX S over = refl
join_covers S IX SIX over = absurd cc
join_covers S IX X over = absurd cc
join_covers S S IS over = refl
join_covers S S IX over = absurd cc
join_covers S S S over = refl
join_covers S S SIX over = absurd cc
join_covers S S X over = absurd cc
join_covers S SIX IS over = refl
join_covers S SIX IX over = absurd cc
join_covers S SIX S over = refl
join_covers S SIX SIX over = absurd cc
join_covers S SIX X over = absurd cc
join_covers S X IS over = refl
join_covers S X IX over = absurd cc
join_covers S X S over = refl
join_covers S X SIX over = absurd cc
join_covers S X X over = absurd cc
join_covers SIX IS IS over = refl
join_covers SIX IS IX over = refl
join_covers SIX IS S over = refl
join_covers SIX IS SIX over = refl
join_covers SIX IS X over = absurd cc
join_covers SIX IX IS over = refl
join_covers SIX IX IX over = refl
join_covers SIX IX S over = refl
join_covers SIX IX SIX over = refl
join_covers SIX IX X over = absurd cc
join_covers SIX S IS over = refl
join_covers SIX S IX over = refl
join_covers SIX S S over = refl
join_covers SIX S SIX over = refl
join_covers SIX S X over = absurd cc
join_covers SIX SIX IS over = refl
join_covers SIX SIX IX over = refl
join_covers SIX SIX S over = refl
join_covers SIX SIX SIX over = refl
join_covers SIX SIX X over = absurd cc
join_covers SIX X IS over = refl
join_covers SIX X IX over = refl
join_covers SIX X S over = refl
join_covers SIX X SIX over = refl
join_covers SIX X X over = absurd cc
join_covers X IS IS over = refl
join_covers X IS IX over = refl
join_covers X IS S over = refl
join_covers X IS SIX over = refl
join_covers X IS X over = refl
join_covers X IX IS over = refl
join_covers X IX IX over = refl
join_covers X IX S over = refl
join_covers X IX SIX over = refl
join_covers X IX X over = refl
join_covers X S IS over = refl
join_covers X S IX over = refl
join_covers X S S over = refl
join_covers X S SIX over = refl
join_covers X S X over = refl
join_covers X SIX IS over = refl
join_covers X SIX IX over = refl
join_covers X SIX S over = refl
join_covers X SIX SIX over = refl
join_covers X SIX X over = refl
join_covers X X IS over = refl
join_covers X X IX over = refl
join_covers X X S over = refl
join_covers X X SIX over = refl
join_covers X X X over = refl

-- an owner holds what it is said to hold
holds_from : (locks : Locks) (owner : ℕ) (name : LockName) (mode mine : Mode) → held locks name owner ≡ Some mine → covers mine mode ≡ true → HoldsIn locks owner name mode
holds_from locks owner name mode mine is over = subst (λ o. IsSomeAnd o (λ mine. covers mine mode ≡ true)) (sym is) over

pub answer_keeps : (locks : Locks) (asking owner : ℕ) (name at : LockName) (asked mode : Mode) (answer : LockAnswer) → HoldsIn locks owner at mode → HoldsIn (after locks asking name asked answer) owner at mode
answer_keeps locks asking owner name at asked mode Granted holds =
    let before = held_as locks owner at mode holds in
    let new = wanted locks asking name asked in
    elim (insert_cases locks name asking new at owner) [
      | inr kept ↦ holds_from (after locks asking name asked Granted) owner at mode before.mine (kept ∙ before.is) before.over
      | inl same ↦
          let mine : held locks name asking ≡ Some before.mine =
          ap (λ (n : LockName). held locks n asking) (sym same.0) ∙ ap (held locks at) (sym same.1) ∙ before.is in
          let joined : new ≡ join_of before.mine asked = ap (λ o. option_map_or (λ before. join_of before asked) o asked) mine in
          holds_from (after locks asking name asked Granted) owner at mode new same.2 (subst (λ (m : Mode). covers m mode ≡ true) (sym joined) (join_covers before.mine asked mode before.over))
    ]
answer_keeps locks asking owner name at asked mode (Wait others) holds = holds
answer_keeps locks asking owner name at asked mode (Die oldest) holds = holds

pub freeing_keeps : (locks : Locks) (freed owner : ℕ) (at : LockName) (mode : Mode) → owner ≢ freed → HoldsIn locks owner at mode → HoldsIn (without_owner locks freed) owner at mode
freeing_keeps locks freed owner at mode apart holds =
    subst (λ o. IsSomeAnd o (λ mine. covers mine mode ≡ true)) (sym (held_without_other locks freed at owner apart)) holds
