-- What becomes of a file that a shelf gives, in which a log is made, and that is put back.
use Rattle.std.proofs.Common.{◌≡◌, ◌⊎◌, inl, inr, ℕ, ◌+◌, ◌-◌, ◌<◌, ◌≤◌, min, Bool, true, false, if◌then◌else◌, nat_lt, List, [], length, Option, None, Some, Result, Ok, Err, OnOk, refl, sym, ap, subst, ◌∙◌, arith}
use Rattle.std.proofs.lemmas.Option.{same_Some}
use Rattle.std.proofs.lemmas.Bool.{cases_Bool}
use Rattle.std.proofs.lemmas.Bool.Decides.{nat_tests}
use Rattle.bf_io.specs.Causes.{Rose, last_count}
use Rattle.bf_io.specs.Whole.{IfTold}
use Rattle.bf_disk.specs.Images.{Only, OnlyRead}
use Rattle.bf_disk.specs.Shelves.{ByPath, PutsWhereTold, IsHeldOrEmpty, GivesHeld, with_rises}
use Rattle.bf_log.specs.Errors.{CountsFaults, is_create_fault}
use Rattle.bf_log.specs.Format.{empty_log}
use Rattle.bf_log.specs.declared.error.CreateError.{CreateError}
use Rattle.bf_log.specs.declared.error.CreateError.TheVariants.{NotEmpty}
use Rattle.bf_run.specs.Creating.{Shelving, WhereHeld, IsEmptyFile, IsNewLog, HasBytes, CountsNone, Makes, Refuses}

if_told : (told : Option (List ℕ)) (P : List ℕ → Type 0) → ((file : List ℕ) → told ≡ Some file → P file) → IfTold told P
if_told None P each = tt
if_told (Some file) P each = each file refl

told_none : (told : Option (List ℕ)) (file : List ℕ) → told ≡ None → told ≡ Some file → ⊥
told_none told file none some = cc

-- of a disk whose own count stayed, a shelf counts nothing, or its count goes to its last value
stays_or_last : (b : Bool) (count lent now : ℕ) → count ≤ last_count → now ≤ lent
    → (min (count + (if b then now - lent else last_count)) last_count ≡ count) ⊎ (min (count + (if b then now - lent else last_count)) last_count ≡ last_count)
stays_or_last true count lent now le stays = inl (omega (arith, le, stays))
stays_or_last false count lent now le stays = inr (omega arith)

pub counted_none : (before mid lent now after : ℕ) (taken : Option ℕ) → mid ≡ before → mid ≤ last_count → taken ≡ Some lent → now ≤ lent
    → after ≡ with_rises mid taken now → (after ≡ before) ⊎ (after ≡ last_count)
counted_none before mid lent now after taken same le given stays counted =
    let rises : after ≡ with_rises mid (Some lent) now = counted ∙ ap (λ (was : Option ℕ). with_rises mid was now) given in
    elim (stays_or_last (nat_lt now last_count) mid lent now le stays) [ inl e ↦ inl (rises ∙ e ∙ same) | inr e ↦ inr (rises ∙ e) ]

-- of one whose own count rose, the count rises
pub counted_one : (before mid lent now after : ℕ) (taken : Option ℕ) → mid ≡ before → taken ≡ Some lent → Rose lent now
    → after ≡ with_rises mid taken now → Rose before after
counted_one before mid lent now after taken same given rose counted =
    let rises : after ≡ with_rises mid (Some lent) now = counted ∙ ap (λ (was : Option ℕ). with_rises mid was now) given in
    elim (cases_Bool (nat_lt now last_count)) as (λ _. Rose before after) [
      | inl below ↦
          let less : now < last_count = grind (arith, nat_tests, below) in
          let is : with_rises mid (Some lent) now ≡ min (mid + (now - lent)) last_count = rw below refl in
          omega (arith, less, rose, rises, is, same)
      | inr last ↦
          let is : with_rises mid (Some lent) now ≡ min (mid + last_count) last_count = rw last refl in
          omega (arith, rises, is, same)
    ]

-- what holds of a table before and after, from what holds under a path whose disk was given, and then put back
pub where_held : {V : Type 0} (seen : V → Option (List ℕ)) (may_leave : V → List ℕ → Type 0) (path : List ℕ) (disk now : V)
    (R : Option V → Option V → Type 0) (old mid new : Option (ByPath V)) → GivesHeld seen may_leave old path disk
    → PutsWhereTold path None old mid → PutsWhereTold path (Some now) mid new
    → ((was : Option V) → IsHeldOrEmpty seen may_leave was disk → R was (Some now))
    → WhereHeld (λ before after. R (before path) (after path)) old new
where_held seen may_leave path disk now R None None None given away back each = tt
where_held seen may_leave path disk now R (Some old) (Some mid) (Some new) given away back each =
    subst (R (old path)) (sym back.there) (each (old path) given)
where_held seen may_leave path disk now R None None (Some new) given away back each = absurd back
where_held seen may_leave path disk now R None (Some mid) new given away back each = absurd away
where_held seen may_leave path disk now R (Some old) None new given away back each = absurd away
where_held seen may_leave path disk now R (Some old) (Some mid) None given away back each = absurd back

module _ {V : Type 0} (shelf : Shelving V) (path : List ℕ) (mid : Option (ByPath V)) (disk now : V)
    (given : GivesHeld shelf.seen shelf.may_leave shelf.held path disk)
    (away : PutsWhereTold path None shelf.held mid) (back : PutsWhereTold path (Some now) mid shelf.held_after)
    (counts : CountsNone shelf) where
  -- where a log was made
  module _ (made : (file : List ℕ) → shelf.seen disk ≡ Some file
      → (file ≡ []) × (shelf.seen now ≡ Some empty_log) × Only empty_log (shelf.may_leave now))
      (untold : shelf.seen disk ≡ None → shelf.seen now ≡ None) where
    was_empty : (was : Option V) → IsHeldOrEmpty shelf.seen shelf.may_leave was disk → IsEmptyFile shelf was
    was_empty None held = tt
    was_empty (Some old) held = if_told (shelf.seen old) _ (λ file told. (made file (ap shelf.seen held ∙ told)).0)

    is_log : (told : Option (List ℕ)) → shelf.seen disk ≡ told → (file : List ℕ) → shelf.seen now ≡ Some file
        → (file ≡ empty_log) × Only empty_log (shelf.may_leave now)
    is_log None none file is = absurd (told_none (shelf.seen now) file (untold none) is)
    is_log (Some was) told file is = (same_Some _ _ (sym is ∙ (made was told).1), (made was told).2)

    pub makes : Makes shelf path
    makes = (
      counts,
      where_held shelf.seen shelf.may_leave path disk now (λ old new. IsEmptyFile shelf old × IsNewLog shelf new)
          shelf.held mid shelf.held_after given away back
          (λ was held. (was_empty was held, if_told (shelf.seen now) _ (is_log (shelf.seen disk) refl))),
    )

  -- where it was refused
  module _ (n : ℕ) (some : 0 < n) (told : IfTold (shelf.seen disk) (λ file. n ≡ length file))
      (read : OnlyRead shelf.seen shelf.may_leave shelf.moment shelf.left_since disk now) where
    never : (before after : Option (List ℕ)) → after ≡ before → IfTold before (λ file. file ≡ []) → IfTold before (λ file. n ≡ length file)
        → (file : List ℕ) → after ≡ Some file → ⊥
    never None after same empty long file is = told_none after file same is
    never (Some was) after same empty long file is = omega (arith, long, ap length empty)

    sized : (before : Option (List ℕ)) → IfTold before (λ file. n ≡ length file) → IfTold before (λ file. length file ≡ n)
    sized None long = tt
    sized (Some file) long = sym long

    has_bytes : (was : Option V) → IsHeldOrEmpty shelf.seen shelf.may_leave was disk → HasBytes shelf n was (Some now)
    has_bytes None held = if_told (shelf.seen now) _ (never (shelf.seen disk) (shelf.seen now) read.same held.0 told)
    has_bytes (Some old) held = (
      subst (λ (d : V). IfTold (shelf.seen d) (λ file. length file ≡ n)) held (sized (shelf.seen disk) told),
      inr (subst (λ (d : V). OnlyRead shelf.seen shelf.may_leave shelf.moment shelf.left_since d now) held read),
    )

    pub refuses : Refuses shelf path n
    refuses = (
      some,
      counts,
      where_held shelf.seen shelf.may_leave path disk now (HasBytes shelf n) shelf.held mid shelf.held_after
          given away back has_bytes,
    )

-- what holds of an answer that is Ok
pub on_ok : {T E : Type 0} (r : Result T E) (P : Type 0) → ((value : T) → r ≡ Ok value → P) → OnOk r P
on_ok (Ok value) P each = each value refl
on_ok (Err error) P each = tt

pub if_ok : {T E : Type 0} (r : Result T E) (P : Type 0) → OnOk r P → (value : T) → r ≡ Ok value → P
if_ok r P on value is = subst (λ answer. OnOk answer P) is on

-- the disk's count stays where a log was made, and where it was refused
pub stays_at_ok : {T : Type 0} (r : Result T CreateError) (value : T) (before now : ℕ) → CountsFaults is_create_fault r before now
    → r ≡ Ok value → now ≡ before
stays_at_ok r value before now counts is = subst (λ answer. CountsFaults is_create_fault answer before now) is counts

pub stays_at_refusal : {T : Type 0} (r : Result T CreateError) (n before now : ℕ) → CountsFaults is_create_fault r before now
    → r ≡ Err (NotEmpty n) → now ≡ before
stays_at_refusal r n before now counts is = subst (λ answer. CountsFaults is_create_fault answer before now) is counts
