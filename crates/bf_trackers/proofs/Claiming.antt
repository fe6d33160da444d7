-- What a claim is answered, what it leaves, and what its end leaves.
use Rattle.std.proofs.Common.{◌≡◌, ℕ, ◌+◌, ◌-◌, ◌<◌, ◌∙◌, List, [], ◌∷◌, ◌++◌, refl, sym, ap, subst, arith, Option, Some, None, Ok, length-append}
use Rattle.std.specs.List.{slice_get}
use Rattle.bf_base.specs.declared.granule.Granule.{Granule}
use Rattle.bf_base.specs.declared.granule.Place.TheVariants.{Row as AtRow, Group as AtKey}
use Rattle.bf_base.specs.declared.value.Value.{Value}
use Rattle.bf_bench.specs.Notes.{Stands}
use Rattle.bf_bench.specs.declared.bench.Taken.{Taken}
use Rattle.bf_bench.specs.declared.bench.Taken.TheVariants as taken
use Rattle.bf_bits.specs.Answers.{answer_for}
use Rattle.bf_bits.specs.Positions.{times}
use Rattle.bf_bits.specs.Seats.{Seat, Tracker, Claim as BitClaim, Holds}
use Rattle.bf_bits.specs.Steps.{held_after}
use Rattle.bf_bits.specs.Words.{state_in}
use Rattle.bf_bits.specs.declared.answer.Look.{Look}
use Rattle.bf_bits.specs.declared.answer.Look.TheVariants as look
use Rattle.bf_drive.specs.Claims.{key_of}
use Rattle.bf_drive.specs.Lists.{Entry}
use Rattle.bf_drive.specs.declared.claim.Claim.{Claim}
use Rattle.bf_drive.specs.declared.claim.Claim.TheVariants.{Row, Group}
use Rattle.bf_hash.specs.declared.state.HashClaim.{HashClaim}
use Rattle.bf_trackers.specs.declared.seats.Ending.{Ending}
use Rattle.bf_trackers.specs.declared.units.UnitTracker.{UnitTracker}
use Rattle.bf_trackers.specs.declared.units.UnitTracker.TheVariants.{Rows, Keys}
use Rattle.bf_trackers.specs.Answers.{IsOfKey, claims_in, taken_as}
use Rattle.bf_trackers.specs.Holding.{AreFinished, HoldClaims, IsClaimed, IsClaimOf, held_by}
use Rattle.bf_trackers.specs.Seats.{Seats, seat_at, found_at, with_seat, after_claim, after_end, claimed_by, ended_by, one_if_free}
use Rattle.bf_trackers.specs.Units.{AreSeatsOf, HasPlace, IsAnswered, IsAnswerOf, IsPlaceOf, IsThere, shape_of}
use Rattle.bf_trackers.proofs.Holding.{finished_none, finished_one, held_as_before, held_key, held_more, key_spent, last_claimed, last_held, row_spent}
use Rattle.bf_trackers.proofs.Lists.{all_last, same_number}
use Rattle.bf_trackers.proofs.Seating.{held_was, row_seat}

-- an item that is there
pub there : {X : Type 0} (P : X → Type 0) (o : Option X) (x : X) → Some x ≡ o → IsThere P o → P x
there P o x e is = subst (IsThere P) (sym e) is

pub not_none : {X : Type 0} (P : X → Type 0) (o : Option X) → None ≡ o → IsThere P o → ⊥
not_none P o e is = subst (IsThere P) (sym e) is

is_first : (p : ℕ) (xs : List ℕ) → 0 < times p (p ∷ xs)
is_first p xs = rw (same_number p p refl) (omega arith)

module _ (units : List UnitTracker) (g : Granule) (bits : Tracker) (rows : Some (Rows bits) ≡ slice_get units g.unit) where
  at_rows : slice_get units g.unit ≡ Some (Rows bits)
  at_rows = sym rows

  module _ (at : ℕ) (place : g.place ≡ AtRow at) (old new : Seats) where
    claimed_row : IsClaimed units (g, Row (record { table = bits.table; at = at }))
    claimed_row = (place, subst (IsThere (IsClaimOf (Row (record { table = bits.table; at = at })))) rows refl)

    module _ (found : ℕ) (seat : Seat) (seated : seat_at old g.unit ≡ Some seat) (own : seat.table ≡ bits.table) (is : new ≡ after_claim old g.unit at found seat) where
      stands_by : (l : Look) → state_in found at ≡ l → Stands (HoldClaims units) g old new (Ok (taken_as (answer_for bits.table at l)))
      stands_by look.Free e = (
        place,
        λ held h. subst (λ s. HoldClaims units s (held ++ (g, Row (record { table = bits.table; at = at })) ∷ [])) (sym (is ∙ ap (λ l. with_seat old g.unit (claimed_by at found seat) (old.count + one_if_free l)) e))
            (held_more units old held h g bits (record { table = bits.table; at = at }) seat (claimed_by at found seat) at_rows seated own refl (ap (λ l. held_after at l seat.view.held) e) claimed_row),
      )
      stands_by look.Held e = λ held h. subst (λ s. HoldClaims units s held) (sym (is ∙ ap (λ l. with_seat old g.unit (claimed_by at found seat) (old.count + one_if_free l)) e ∙ ap (with_seat old g.unit (claimed_by at found seat)) none))
          (held_as_before units old held h g.unit bits seat (claimed_by at found seat) at_rows seated own refl (ap (λ l. held_after at l seat.view.held) e))
        where
          none : old.count + 0 ≡ old.count
          none = omega arith
      stands_by look.Done e = λ held h. subst (λ s. HoldClaims units s held) (sym (is ∙ ap (λ l. with_seat old g.unit (claimed_by at found seat) (old.count + one_if_free l)) e ∙ ap (with_seat old g.unit (claimed_by at found seat)) none))
          (held_as_before units old held h g.unit bits seat (claimed_by at found seat) at_rows seated own refl (ap (λ l. held_after at l seat.view.held) e))
        where
          none : old.count + 0 ≡ old.count
          none = omega arith

    pub row_stands : (taken : Taken) (found : ℕ) → AreSeatsOf units old.units → taken ≡ taken_as (answer_for bits.table at (state_in found at))
        → ((seat : Seat) → seat_at old g.unit ≡ Some seat → new ≡ after_claim old g.unit at found seat) → Stands (HoldClaims units) g old new (Ok taken)
    row_stands taken found own answer step =
        let seat = row_seat units old.units own g.unit bits old.count at_rows in
        subst (λ t. Stands (HoldClaims units) g old new (Ok t)) (sym answer) (stands_by found seat.0 seat.1 seat.2 (step seat.0 seat.1) (state_in found at) refl)

    pub row_answered : (taken : Taken) → taken ≡ taken_as (answer_for bits.table at (state_in (found_at new g.unit) at)) → IsAnswered units new g taken
    row_answered taken answer =
        subst (IsThere (λ unit. IsAnswerOf unit g.place (found_at new g.unit) taken)) rows (subst (λ p. IsAnswerOf (Rows bits) p (found_at new g.unit) taken) (sym place) answer)

  -- ---- the end of a claim of a row
  module _ (any : Claim) (claim : BitClaim) (is_row : any ≡ Row claim) (old : Seats) where
    as_row : (rest : List Entry) → HoldClaims units old (rest ++ (g, any) ∷ []) → HoldClaims units old (rest ++ (g, Row claim) ∷ [])
    as_row rest h = subst (λ c. HoldClaims units old (rest ++ (g, c) ∷ [])) is_row h

    module _ (rest : List Entry) (h : HoldClaims units old (rest ++ (g, any) ∷ [])) where
      pub row_of_this : claim.table ≡ bits.table
      row_of_this = there (IsClaimOf (Row claim)) (slice_get units g.unit) (Rows bits) rows (last_claimed units old rest g claim (as_row rest h)).1

      pub row_held : (seat : Seat) × (seat_at old g.unit ≡ Some seat) × (seat.table ≡ bits.table) × Holds seat claim.at
      row_held =
          let seat = row_seat units old.units h.own g.unit bits old.count at_rows in
          let held = sym (held_was old g.unit seat.0 seat.0 0 seat.1) ∙ last_held units old rest g claim (as_row rest h) in
          (seat.0, seat.1, seat.2, subst (λ hs. 0 < times claim.at hs) (sym held) (is_first claim.at (held_by g.unit rest)))

    module _ (ending : Ending) (found : ℕ) (new : Seats) (step : (seat : Seat) → seat_at old g.unit ≡ Some seat → new ≡ after_end ending old g.unit claim.at found seat) where
      pub row_ends : (rest : List Entry) → HoldClaims units old (rest ++ (g, any) ∷ []) → HoldClaims units new rest
      row_ends rest h =
          let seat = row_seat units old.units h.own g.unit bits old.count at_rows in
          subst (λ s. HoldClaims units s rest) (sym (step seat.0 seat.1))
          (row_spent units old rest g claim (as_row rest h) bits seat.0 (ended_by ending claim.at found seat.0) at_rows seat.1 seat.2 refl refl)

      pub row_finished : (rest : List Entry) → HoldClaims units old (rest ++ (g, any) ∷ []) → AreFinished ending ((g, any) ∷ []) old new
      row_finished rest h =
          let seat = row_seat units old.units h.own g.unit bits old.count at_rows in
          subst (λ s. AreFinished ending ((g, any) ∷ []) old s) (sym (step seat.0 seat.1))
          (subst (λ c. AreFinished ending ((g, c) ∷ []) old (after_end ending old g.unit claim.at found seat.0)) (sym is_row)
          (finished_one ending g claim old seat.0 (ended_by ending claim.at found seat.0) (old.count - 1) seat.1 refl))

  -- a granule that goes by a key, or a claim of a key, is not one of rows
  pub no_key_place : (key : List Value) → g.place ≡ AtKey key → HasPlace units g → ⊥
  no_key_place key place has = subst (λ p. IsPlaceOf p (shape_of (Rows bits))) place (there (λ unit. IsPlaceOf g.place (shape_of unit)) (slice_get units g.unit) (Rows bits) rows has)

-- ---- keys
module _ (units : List UnitTracker) (g : Granule) (count : ℕ) (keys : Some (Keys count) ≡ slice_get units g.unit) where
  pub key_stands : (key : List Value) → g.place ≡ AtKey key → (old new : Seats) (taken : Taken) → IsOfKey key taken → new ≡ record old { count = old.count + claims_in taken } → Stands (HoldClaims units) g old new (Ok taken)
  key_stands key place old new (taken.Claimed (Row c)) of_key is = absurd of_key
  key_stands key place old new (taken.Claimed (Group c)) of_key is =
      let of : c.key ≡ key_of g.place = of_key ∙ sym (ap key_of place) in (
        of,
        λ held h. subst (λ s. HoldClaims units s (held ++ (g, Group c) ∷ [])) (sym is)
            (held_key units old held h (g, Group c) (λ b e. absurd cc) (of, subst (IsThere (IsClaimOf (Group c))) keys tt)),
      )
  key_stands key place old new taken.Busy of_key is = λ held h. subst (λ s. HoldClaims units s held) (sym is) record { own = h.own; each = h.each; count = (let same = h.count in omega arith); rows = h.rows }
  key_stands key place old new taken.Done of_key is = λ held h. subst (λ s. HoldClaims units s held) (sym is) record { own = h.own; each = h.each; count = (let same = h.count in omega arith); rows = h.rows }

  pub key_answered : (key : List Value) → g.place ≡ AtKey key → (new : Seats) (taken : Taken) → IsOfKey key taken → IsAnswered units new g taken
  key_answered key place new taken of_key =
      subst (IsThere (λ unit. IsAnswerOf unit g.place (found_at new g.unit) taken)) keys (subst (λ p. IsAnswerOf (Keys count) p (found_at new g.unit) taken) (sym place) of_key)

  pub key_ends : (any : Claim) (ticket : HashClaim) → any ≡ Group ticket → (old new : Seats) → new ≡ record old { count = old.count - 1 } → (rest : List Entry) → HoldClaims units old (rest ++ (g, any) ∷ []) → HoldClaims units new rest
  key_ends any ticket is_key old new is rest h =
      subst (λ s. HoldClaims units s rest) (sym is) (key_spent units old rest g any (λ c e. absurd cc) h)

  pub key_finished : (ending : Ending) (any : Claim) (ticket : HashClaim) → any ≡ Group ticket → (old new : Seats) → new ≡ record old { count = old.count - 1 } → AreFinished ending ((g, any) ∷ []) old new
  key_finished ending any ticket is_key old new is =
      subst (λ s. AreFinished ending ((g, any) ∷ []) old s) (sym is) (finished_none ending g any old (old.count - 1) (λ c e. absurd cc))

  pub no_row_place : (at : ℕ) → g.place ≡ AtRow at → HasPlace units g → ⊥
  no_row_place at place has = subst (λ p. IsPlaceOf p (shape_of (Keys count))) place (there (λ unit. IsPlaceOf g.place (shape_of unit)) (slice_get units g.unit) (Keys count) keys has)

-- a claim that is held is one of its unit's tracker
module _ (units : List UnitTracker) (g : Granule) (old : Seats) (any : Claim) (rest : List Entry) (h : HoldClaims units old (rest ++ (g, any) ∷ [])) where
  pub claim_there : IsThere (IsClaimOf any) (slice_get units g.unit)
  claim_there = (all_last (IsClaimed units) rest (g, any) h.each).1

  pub some_held : 0 < old.count
  some_held = (let more = h.count in omega (arith, length-append rest ((g, any) ∷ [])))

-- a claim of keys is no other
pub not_of_keys : (any : Claim) (count : ℕ) → IsClaimOf any (Keys count) → ((key : HashClaim) → any ≡ Group key → ⊥) → ⊥
not_of_keys (Row claim) count is other_claim = is
not_of_keys (Group key) count is other_claim = other_claim key refl
