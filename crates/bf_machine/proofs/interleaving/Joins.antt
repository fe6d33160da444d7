-- Joins of modes that conflict come of modes that conflict.
use Rattle.std.proofs.Common.{◌≡◌, ◌⊎◌, ℕ, false, List, refl, sym, ◌∙◌, inl, inr}
use Rattle.std.proofs.lemmas.Bool.{false≢true}
use Rattle.bf_locks.specs.declared.mode.Mode.{Mode}
use Rattle.bf_locks.specs.declared.mode.Mode.TheVariants.{IS, IX, S, SIX, X}
use Rattle.bf_locks.specs.declared.name.LockName.{LockName}
use Rattle.bf_locks.specs.Modes.{are_compatible, join_of}
use Rattle.bf_tree.specs.declared.history.Entry.{Entry}
use Rattle.bf_tree.specs.declared.script.Script.{Script}
use Rattle.bf_sql.specs.Database.{Database}
use Rattle.bf_machine.specs.interleaving.Machines.{Group}
use Rattle.bf_machine.specs.interleaving.Kept.{Clash, IsJoin, Wants, joined, wanted as is_wanted}

-- what goes with two modes goes with their join
first_or_second : (a b c : Mode) → are_compatible (join_of a b) c ≡ false → (are_compatible a c ≡ false) ⊎ (are_compatible b c ≡ false)
first_or_second IS IS IS h = absurd (false≢true (sym h))
first_or_second IS IS IX h = absurd (false≢true (sym h))
first_or_second IS IS S h = absurd (false≢true (sym h))
first_or_second IS IS SIX h = absurd (false≢true (sym h))
first_or_second IS IS X h = inl refl
first_or_second IS IX IS h = absurd (false≢true (sym h))
first_or_second IS IX IX h = absurd (false≢true (sym h))
first_or_second IS IX S h = inr refl
first_or_second IS IX SIX h = inr refl
first_or_second IS IX X h = inl refl
first_or_second IS S IS h = absurd (false≢true (sym h))
first_or_second IS S IX h = inr refl
first_or_second IS S S h = absurd (false≢true (sym h))
first_or_second IS S SIX h = inr refl
first_or_second IS S X h = inl refl
first_or_second IS SIX IS h = absurd (false≢true (sym h))
first_or_second IS SIX IX h = inr refl
first_or_second IS SIX S h = inr refl
first_or_second IS SIX SIX h = inr refl
first_or_second IS SIX X h = inl refl
first_or_second IS X IS h = inr refl
first_or_second IS X IX h = inr refl
first_or_second IS X S h = inr refl
first_or_second IS X SIX h = inr refl
first_or_second IS X X h = inl refl
first_or_second IX IS IS h = absurd (false≢true (sym h))
first_or_second IX IS IX h = absurd (false≢true (sym h))
first_or_second IX IS S h = inl refl
first_or_second IX IS SIX h = inl refl
first_or_second IX IS X h = inl refl
first_or_second IX IX IS h = absurd (false≢true (sym h))
first_or_second IX IX IX h = absurd (false≢true (sym h))
first_or_second IX IX S h = inl refl
first_or_second IX IX SIX h = inl refl
first_or_second IX IX X h = inl refl
first_or_second IX S IS h = absurd (false≢true (sym h))
first_or_second IX S IX h = inr refl
first_or_second IX S S h = inl refl
first_or_second IX S SIX h = inl refl
first_or_second IX S X h = inl refl
first_or_second IX SIX IS h = absurd (false≢true (sym h))
first_or_second IX SIX IX h = inr refl
first_or_second IX SIX S h = inl refl
first_or_second IX SIX SIX h = inl refl
first_or_second IX SIX X h = inl refl
first_or_second IX X IS h = inr refl
first_or_second IX X IX h = inr refl
first_or_second IX X S h = inl refl
first_or_second IX X SIX h = inl refl
first_or_second IX X X h = inl refl
first_or_second S IS IS h = absurd (false≢true (sym h))
first_or_second S IS IX h = inl refl
first_or_second S IS S h = absurd (false≢true (sym h))
first_or_second S IS SIX h = inl refl
first_or_second S IS X h = inl refl
first_or_second S IX IS h = absurd (false≢true (sym h))
first_or_second S IX IX h = inl refl
first_or_second S IX S h = inr refl
first_or_second S IX SIX h = inl refl
first_or_second S IX X h = inl refl
first_or_second S S IS h = absurd (false≢true (sym h))
first_or_second S S IX h = inl refl
first_or_second S S S h = absurd (false≢true (sym h))
first_or_second S S SIX h = inl refl
first_or_second S S X h = inl refl
first_or_second S SIX IS h = absurd (false≢true (sym h))
first_or_second S SIX IX h = inl refl
first_or_second S SIX S h = inr refl
first_or_second S SIX SIX h = inl refl
first_or_second S SIX X h = inl refl
first_or_second S X IS h = inr refl
first_or_second S X IX h = inl refl
first_or_second S X S h = inr refl
first_or_second S X SIX h = inl refl
first_or_second S X X h = inl refl
first_or_second SIX IS IS h = absurd (false≢true (sym h))
first_or_second SIX IS IX h = inl refl
first_or_second SIX IS S h = inl refl
first_or_second SIX IS SIX h = inl refl
first_or_second SIX IS X h = inl refl
first_or_second SIX IX IS h = absurd (false≢true (sym h))
first_or_second SIX IX IX h = inl refl
first_or_second SIX IX S h = inl refl
first_or_second SIX IX SIX h = inl refl
first_or_second SIX IX X h = inl refl
first_or_second SIX S IS h = absurd (false≢true (sym h))
first_or_second SIX S IX h = inl refl
first_or_second SIX S S h = inl refl
first_or_second SIX S SIX h = inl refl
first_or_second SIX S X h = inl refl
first_or_second SIX SIX IS h = absurd (false≢true (sym h))
first_or_second SIX SIX IX h = inl refl
first_or_second SIX SIX S h = inl refl
first_or_second SIX SIX SIX h = inl refl
first_or_second SIX SIX X h = inl refl
first_or_second SIX X IS h = inr refl
first_or_second SIX X IX h = inl refl
first_or_second SIX X S h = inl refl
first_or_second SIX X SIX h = inl refl
first_or_second SIX X X h = inl refl
first_or_second X IS IS h = inl refl
first_or_second X IS IX h = inl refl
first_or_second X IS S h = inl refl
first_or_second X IS SIX h = inl refl
first_or_second X IS X h = inl refl
first_or_second X IX IS h = inl refl
first_or_second X IX IX h = inl refl
first_or_second X IX S h = inl refl
first_or_second X IX SIX h = inl refl
first_or_second X IX X h = inl refl
first_or_second X S IS h = inl refl
first_or_second X S IX h = inl refl
first_or_second X S S h = inl refl
first_or_second X S SIX h = inl refl
first_or_second X S X h = inl refl
first_or_second X SIX IS h = inl refl
first_or_second X SIX IX h = inl refl
first_or_second X SIX S h = inl refl
first_or_second X SIX SIX h = inl refl
first_or_second X SIX X h = inl refl
first_or_second X X IS h = inl refl
first_or_second X X IX h = inl refl
first_or_second X X S h = inl refl
first_or_second X X SIX h = inl refl
first_or_second X X X h = inl refl

pub turned : (a b : Mode) → are_compatible a b ≡ are_compatible b a
turned IS b = elim b as (λ b. are_compatible IS b ≡ are_compatible b IS) [ IS ↦ refl | IX ↦ refl | S ↦ refl | SIX ↦ refl | X ↦ refl ]
turned IX b = elim b as (λ b. are_compatible IX b ≡ are_compatible b IX) [ IS ↦ refl | IX ↦ refl | S ↦ refl | SIX ↦ refl | X ↦ refl ]
turned S b = elim b as (λ b. are_compatible S b ≡ are_compatible b S) [ IS ↦ refl | IX ↦ refl | S ↦ refl | SIX ↦ refl | X ↦ refl ]
turned SIX b = elim b as (λ b. are_compatible SIX b ≡ are_compatible b SIX) [ IS ↦ refl | IX ↦ refl | S ↦ refl | SIX ↦ refl | X ↦ refl ]
turned X b = elim b as (λ b. are_compatible X b ≡ are_compatible b X) [ IS ↦ refl | IX ↦ refl | S ↦ refl | SIX ↦ refl | X ↦ refl ]

module _ (start : Database) (script : Script) (history : List Entry) (name : LockName) where
  -- a mode that a group wants, out of a join that does not go with another
  pub record WantsAgainst (s : ℕ) (group : Group) (other : Mode) : Type 0 where
    pub mode : Mode
    pub wants : Wants start script history s group name mode
    pub against : are_compatible mode other ≡ false

  wants_against : (s : ℕ) (group : Group) (a other : Mode) → IsJoin start script history s group name a → are_compatible a other ≡ false → WantsAgainst s group other
  wants_against s group _ other (is_wanted {mode = mode} w) against = record { mode = mode; wants = w; against = against }
  wants_against s group _ other (joined {a = a} {b = b} x y) against = elim (first_or_second a b other against) as (λ _. WantsAgainst s group other) [
    | inl first ↦ wants_against s group a other x first
    | inr second ↦ wants_against s group b other y second
  ]

  -- joins that conflict come of wishes that conflict
  pub clash_of : (s : ℕ) (one : Group) (t : ℕ) (other : Group) (a b : Mode) → IsJoin start script history s one name a → IsJoin start script history t other name b
      → are_compatible a b ≡ false → Clash start script history s one t other
  clash_of s one t other a b of_one of_other against =
      let mine = wants_against s one a b of_one against in
      let theirs = wants_against t other b mine.mode of_other (turned b mine.mode ∙ mine.against) in
      record { name = name; mine = mine.mode; theirs = theirs.mode; first = mine.wants; second = theirs.wants; against = turned mine.mode theirs.mode ∙ theirs.against }
