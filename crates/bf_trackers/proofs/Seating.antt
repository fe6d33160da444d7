-- Seats of which one is another.
use Rattle.std.proofs.Common.{◌≡◌, ◌≢◌, ℕ, ◌∙◌, List, [], sym, ap, subst, arith, inl, inr, Option, Some, None}
use Rattle.std.specs.List.{slice_get, slice_set}
use Rattle.std.specs.Option.{option_and_then, option_map, unwrap_or}
use Rattle.std.proofs.lemmas.List.{length-set}
use Rattle.std.proofs.lemmas.Option.{none-some, same_Some, slice_get_within}
use Rattle.std.proofs.lemmas.Bool.{cases_eq}
use Rattle.bf_bits.specs.Seats.{Seat, Tracker}
use Rattle.bf_trackers.specs.declared.units.UnitTracker.{UnitTracker}
use Rattle.bf_trackers.specs.declared.units.UnitTracker.TheVariants.{Rows}
use Rattle.bf_trackers.specs.Seats.{Seats, seat_at, held_at, finished_at, with_seat}
use Rattle.bf_trackers.specs.Units.{AreSeatsOf, IsSeatOf}
use Rattle.bf_trackers.proofs.Lists.{get-set_same, get-set_other, get_there}

-- where the seat of a unit stands
is_there : (o : Option (Option Seat)) (seat : Seat) → option_and_then (λ s. s) o ≡ Some seat → o ≡ Some (Some seat)
is_there None seat e = absurd (none-some seat e)
is_there (Some None) seat e = absurd (none-some seat e)
is_there (Some (Some other)) seat e = ap (λ s. Some (Some s)) (same_Some other seat e)

pub seat_there : (seats : Seats) (unit : ℕ) (seat : Seat) → seat_at seats unit ≡ Some seat → slice_get seats.units unit ≡ Some (Some seat)
seat_there seats unit seat e = is_there (slice_get seats.units unit) seat e

-- a unit that goes by rows has its seat
module _ (units : List UnitTracker) (seats : List (Option Seat)) (own : AreSeatsOf units seats) (unit : ℕ) where
  of_rows : (bits : Tracker) (s : Option Seat) → IsSeatOf (Rows bits) s → slice_get seats unit ≡ Some s → (seat : Seat) × (slice_get seats unit ≡ Some (Some seat)) × (seat.table ≡ bits.table)
  of_rows bits None is e = absurd is
  of_rows bits (Some seat) is e = (seat, e, is)

  pub rows_seat : (bits : Tracker) → slice_get units unit ≡ Some (Rows bits) → (seat : Seat) × (slice_get seats unit ≡ Some (Some seat)) × (seat.table ≡ bits.table)
  rows_seat bits e =
      let there = get_there seats unit (let within = slice_get_within units unit (Rows bits) e in omega (arith, own.as_many)) in
      of_rows bits there.0 (own.each unit (Rows bits) there.0 e there.1) there.1

  pub row_seat : (bits : Tracker) (count : ℕ) → slice_get units unit ≡ Some (Rows bits) → (seat : Seat) × (seat_at (record { units = seats; count = count }) unit ≡ Some seat) × (seat.table ≡ bits.table)
  row_seat bits count e = let found = rows_seat bits e in (found.0, ap (option_and_then (λ s. s)) found.1, found.2)

  pub set_own : (bits : Tracker) (seat : Seat) → slice_get units unit ≡ Some (Rows bits) → seat.table ≡ bits.table → AreSeatsOf units (slice_set seats unit (Some seat))
  set_own bits seat e table = record {
    as_many = length-set seats unit (Some seat) ∙ own.as_many;
    each = λ i tracker s a b. elim (cases_eq i unit) [
      | inl same ↦
          let at : slice_get units unit ≡ Some tracker = subst (λ k. slice_get units k ≡ Some tracker) same a in
          let there : slice_get (slice_set seats unit (Some seat)) unit ≡ Some s = subst (λ k. slice_get (slice_set seats unit (Some seat)) k ≡ Some s) same b in
          let is_rows : Rows bits ≡ tracker = same_Some _ _ (sym e ∙ at) in
          let found = rows_seat bits e in
          let is_seat : Some seat ≡ s = same_Some _ _ (sym (get-set_same seats unit (Some found.0) (Some seat) found.1) ∙ there) in
          subst (λ t. IsSeatOf t s) is_rows (subst (λ s'. IsSeatOf (Rows bits) s') is_seat table)
      | inr other ↦ own.each i tracker s a (sym (get-set_other seats unit i (Some seat) other) ∙ b)
    ];
  }

module _ (seats : Seats) (unit : ℕ) (seat new : Seat) (count : ℕ) (there : seat_at seats unit ≡ Some seat) where
  pub seat_same : seat_at (with_seat seats unit new count) unit ≡ Some new
  seat_same = ap (option_and_then (λ s. s)) (get-set_same seats.units unit (Some seat) (Some new) (seat_there seats unit seat there))

  pub held_same : held_at (with_seat seats unit new count) unit ≡ new.view.held
  held_same = ap (λ o. unwrap_or (option_map (λ (s : Seat). s.view.held) o) []) seat_same

  pub finished_same : finished_at (with_seat seats unit new count) unit ≡ new.view.finished
  finished_same = ap (λ o. unwrap_or (option_map (λ (s : Seat). s.view.finished) o) []) seat_same

  pub held_was : held_at seats unit ≡ seat.view.held
  held_was = ap (λ o. unwrap_or (option_map (λ (s : Seat). s.view.held) o) []) there

  pub finished_was : finished_at seats unit ≡ seat.view.finished
  finished_was = ap (λ o. unwrap_or (option_map (λ (s : Seat). s.view.finished) o) []) there

module _ (seats : Seats) (unit : ℕ) (new : Seat) (count other : ℕ) (ne : other ≢ unit) where
  pub seat_other : seat_at (with_seat seats unit new count) other ≡ seat_at seats other
  seat_other = ap (option_and_then (λ s. s)) (get-set_other seats.units unit other (Some new) ne)

  pub held_other : held_at (with_seat seats unit new count) other ≡ held_at seats other
  held_other = ap (λ o. unwrap_or (option_map (λ (s : Seat). s.view.held) o) []) seat_other

  pub finished_other : finished_at (with_seat seats unit new count) other ≡ finished_at seats other
  finished_other = ap (λ o. unwrap_or (option_map (λ (s : Seat). s.view.finished) o) []) seat_other
