-- What seats hold behind a claim, and behind the end of one.
use Rattle.std.proofs.Common.{◌≡◌, ◌≢◌, ℕ, ◌==◌, ◌+◌, ◌-◌, ◌∙◌, Bool, true, false, List, [], ◌∷◌, ◌++◌, refl, sym, ap, subst, arith, inl, inr, Some, length-append}
use Rattle.std.specs.List.{slice_get}
use Rattle.std.proofs.lemmas.Bool.{cases_eq}
use Rattle.std.proofs.lemmas.List.Sums.{fold-append}
use Rattle.bf_base.specs.declared.granule.Granule.{Granule}
use Rattle.bf_bits.specs.Positions.{without}
use Rattle.bf_bits.specs.Seats.{Seat, Tracker, Claim as BitClaim}
use Rattle.bf_drive.specs.Lists.{Entry}
use Rattle.bf_drive.specs.declared.claim.Claim.{Claim}
use Rattle.bf_drive.specs.declared.claim.Claim.TheVariants.{Row, Group}
use Rattle.bf_trackers.specs.declared.seats.Ending.{Ending}
use Rattle.bf_trackers.specs.declared.units.UnitTracker.{UnitTracker}
use Rattle.bf_trackers.specs.declared.units.UnitTracker.TheVariants.{Rows}
use Rattle.bf_trackers.specs.Holding.{AreFinished, HoldClaims, IsClaimed, finished_if, finished_with, held_by, held_if}
use Rattle.bf_trackers.specs.Seats.{Seats, seat_at, held_at, finished_at, with_seat, finished_by}
use Rattle.bf_trackers.proofs.Lists.{all_front, all_last, all_snoc, other_number, same_number}
use Rattle.bf_trackers.proofs.Seating.{finished_other, finished_same, finished_was, held_other, held_same, held_was, set_own}

-- what one more claim adds
pub held_snoc : (unit : ℕ) (entries : List Entry) (entry : Entry) → held_by unit (entries ++ entry ∷ []) ≡ held_if ((entry.0).unit == unit) entry.1 (held_by unit entries)
held_snoc unit entries entry = fold-append (λ held (e : Entry). held_if ((e.0).unit == unit) e.1 held) [] entries (entry ∷ [])

held_here : (unit : ℕ) (entries : List Entry) (granule : Granule) (claim : BitClaim) → granule.unit ≡ unit → held_by unit (entries ++ (granule, Row claim) ∷ []) ≡ claim.at ∷ held_by unit entries
held_here unit entries granule claim e = held_snoc unit entries (granule, Row claim) ∙ ap (λ b. held_if b (Row claim) (held_by unit entries)) (same_number granule.unit unit e)

held_elsewhere : (unit : ℕ) (entries : List Entry) (entry : Entry) → (entry.0).unit ≢ unit → held_by unit (entries ++ entry ∷ []) ≡ held_by unit entries
held_elsewhere unit entries entry ne = held_snoc unit entries entry ∙ ap (λ b. held_if b entry.1 (held_by unit entries)) (other_number (entry.0).unit unit ne)

of_key : (b : Bool) (claim : Claim) (held : List ℕ) → ((c : BitClaim) → claim ≡ Row c → ⊥) → held_if b claim held ≡ held
of_key true (Row c) held other_claim = absurd (other_claim c refl)
of_key true (Group c) held other_claim = refl
of_key false claim held other_claim = refl

-- ---- claims of rows
module _ (units : List UnitTracker) (seats : Seats) (entries : List Entry) (h : HoldClaims units seats entries) where
  -- another seat that holds the same
  pub held_as_before : (unit : ℕ) (bits : Tracker) (seat new : Seat) → slice_get units unit ≡ Some (Rows bits) → seat_at seats unit ≡ Some seat → seat.table ≡ bits.table → new.table ≡ seat.table → new.view.held ≡ seat.view.held → HoldClaims units (with_seat seats unit new seats.count) entries
  held_as_before unit bits seat new rows there own table held = record {
    own = set_own units seats.units h.own unit bits new rows (table ∙ own);
    each = h.each;
    count = h.count;
    rows = λ other. elim (cases_eq other unit) [
      | inl same ↦ subst (λ k. held_at (with_seat seats unit new seats.count) k ≡ held_by k entries) (sym same)
          (held_same seats unit seat new seats.count there ∙ held ∙ sym (held_was seats unit seat new seats.count there) ∙ h.rows unit)
      | inr ne ↦ held_other seats unit new seats.count other ne ∙ h.rows other
    ];
  }

  -- a seat that holds one position more
  pub held_more : (granule : Granule) (bits : Tracker) (claim : BitClaim) (seat new : Seat) → slice_get units granule.unit ≡ Some (Rows bits) → seat_at seats granule.unit ≡ Some seat → seat.table ≡ bits.table → new.table ≡ seat.table → new.view.held ≡ claim.at ∷ seat.view.held → IsClaimed units (granule, Row claim) → HoldClaims units (with_seat seats granule.unit new (seats.count + 1)) (entries ++ (granule, Row claim) ∷ [])
  held_more granule bits claim seat new rows there own table held claimed =
      let unit : ℕ = granule.unit in
      record {
        own = set_own units seats.units h.own unit bits new rows (table ∙ own);
        each = all_snoc (IsClaimed units) entries (granule, Row claim) h.each claimed;
        count = ap (λ n. n + 1) h.count ∙ sym (length-append entries ((granule, Row claim) ∷ []));
        rows = λ other. elim (cases_eq other unit) [
          | inl same ↦ subst (λ k. held_at (with_seat seats unit new (seats.count + 1)) k ≡ held_by k (entries ++ (granule, Row claim) ∷ [])) (sym same)
              (held_same seats unit seat new (seats.count + 1) there ∙ held ∙ ap (λ hs. claim.at ∷ hs) (sym (held_was seats unit seat new (seats.count + 1) there) ∙ h.rows unit) ∙ sym (held_here unit entries granule claim refl))
          | inr ne ↦ held_other seats unit new (seats.count + 1) other ne ∙ h.rows other ∙ sym (held_elsewhere other entries (granule, Row claim) (λ e. ne (sym e)))
        ];
      }

  -- a key more
  pub held_key : (entry : Entry) → ((c : BitClaim) → entry.1 ≡ Row c → ⊥) → IsClaimed units entry → HoldClaims units (record seats { count = seats.count + 1 }) (entries ++ entry ∷ [])
  held_key entry other_claim claimed = record {
    own = h.own;
    each = all_snoc (IsClaimed units) entries entry h.each claimed;
    count = ap (λ n. n + 1) h.count ∙ sym (length-append entries (entry ∷ []));
    rows = λ other. h.rows other ∙ sym (held_snoc other entries entry ∙ of_key ((entry.0).unit == other) entry.1 (held_by other entries) other_claim);
  }

-- ---- the end of the last claim
module _ (units : List UnitTracker) (seats : Seats) (rest : List Entry) (granule : Granule) where
  module _ (claim : BitClaim) (h : HoldClaims units seats (rest ++ (granule, Row claim) ∷ [])) where
    pub last_claimed : IsClaimed units (granule, Row claim)
    last_claimed = all_last (IsClaimed units) rest (granule, Row claim) h.each

    pub last_held : held_at seats granule.unit ≡ claim.at ∷ held_by granule.unit rest
    last_held = h.rows granule.unit ∙ held_here granule.unit rest granule claim refl

    pub row_spent : (bits : Tracker) (seat new : Seat) → slice_get units granule.unit ≡ Some (Rows bits) → seat_at seats granule.unit ≡ Some seat → seat.table ≡ bits.table → new.table ≡ seat.table → new.view.held ≡ without claim.at seat.view.held → HoldClaims units (with_seat seats granule.unit new (seats.count - 1)) rest
    row_spent bits seat new rows there own table held =
        let unit : ℕ = granule.unit in
        let was : seat.view.held ≡ claim.at ∷ held_by unit rest = sym (held_was seats unit seat new 0 there) ∙ last_held in
        record {
          own = set_own units seats.units h.own unit bits new rows (table ∙ own);
          each = all_front (IsClaimed units) rest (granule, Row claim) h.each;
          count = (let more = h.count in omega (arith, length-append rest ((granule, Row claim) ∷ [])));
          rows = λ other. elim (cases_eq other unit) [
            | inl same ↦ subst (λ k. held_at (with_seat seats unit new (seats.count - 1)) k ≡ held_by k rest) (sym same)
                (held_same seats unit seat new (seats.count - 1) there ∙ held ∙ ap (without claim.at) was ∙ dropped)
            | inr ne ↦ held_other seats unit new (seats.count - 1) other ne ∙ h.rows other ∙ held_elsewhere other rest (granule, Row claim) (λ e. ne (sym e))
          ];
        }
      where
        dropped : without claim.at (claim.at ∷ held_by granule.unit rest) ≡ held_by granule.unit rest
        dropped = rw (same_number claim.at claim.at refl) refl

  pub key_spent : (claim : Claim) → ((c : BitClaim) → claim ≡ Row c → ⊥) → HoldClaims units seats (rest ++ (granule, claim) ∷ []) → HoldClaims units (record seats { count = seats.count - 1 }) rest
  key_spent claim other_claim h = record {
    own = h.own;
    each = all_front (IsClaimed units) rest (granule, claim) h.each;
    count = (let more = h.count in omega (arith, length-append rest ((granule, claim) ∷ [])));
    rows = λ other. h.rows other ∙ held_snoc other rest (granule, claim) ∙ of_key (granule.unit == other) claim (held_by other rest) other_claim;
  }

-- ---- what is finished
module _ (ending : Ending) (granule : Granule) (claim : BitClaim) (seats : Seats) (seat new : Seat) (count : ℕ) where
  pub finished_one : seat_at seats granule.unit ≡ Some seat → new.view.finished ≡ finished_by ending claim.at seat.view.finished → AreFinished ending ((granule, Row claim) ∷ []) seats (with_seat seats granule.unit new count)
  finished_one there finished other = elim (cases_eq other granule.unit) [
    | inl same ↦ subst (λ k. finished_at (with_seat seats granule.unit new count) k ≡ finished_with ending k ((granule, Row claim) ∷ []) (finished_at seats k)) (sym same)
        (finished_same seats granule.unit seat new count there ∙ finished ∙ ap (finished_by ending claim.at) (sym (finished_was seats granule.unit seat new count there)) ∙ sym (ap (λ b. finished_if ending b (Row claim) (finished_at seats granule.unit)) (same_number granule.unit granule.unit refl)))
    | inr ne ↦ finished_other seats granule.unit new count other ne ∙ sym (ap (λ b. finished_if ending b (Row claim) (finished_at seats other)) (other_number granule.unit other (λ e. ne (sym e))))
  ]

no_row : (ending : Ending) (b : Bool) (claim : Claim) (finished : List ℕ) → ((c : BitClaim) → claim ≡ Row c → ⊥) → finished_if ending b claim finished ≡ finished
no_row ending true (Row c) finished other_claim = absurd (other_claim c refl)
no_row ending true (Group c) finished other_claim = refl
no_row ending false claim finished other_claim = refl

pub finished_none : (ending : Ending) (granule : Granule) (claim : Claim) (seats : Seats) (count : ℕ) → ((c : BitClaim) → claim ≡ Row c → ⊥) → AreFinished ending ((granule, claim) ∷ []) seats (record seats { count = count })
finished_none ending granule claim seats count other_claim other = sym (no_row ending (granule.unit == other) claim (finished_at seats other) other_claim)

-- one claim ends, and behind it those that ended before
pub finished_more : (ending : Ending) (entry : Entry) (entries : List Entry) (old now new : Seats) → AreFinished ending entries old now → AreFinished ending (entry ∷ []) now new → AreFinished ending (entry ∷ entries) old new
finished_more ending entry entries old now new before one unit = one unit ∙ ap (finished_if ending ((entry.0).unit == unit) entry.1) (before unit)
