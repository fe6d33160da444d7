-- Seats that hold nothing.
use Rattle.std.proofs.Common.{◌≡◌, ℕ, ◌+◌, ◌∙◌, ◌⊎◌, inl, inr, List, [], ◌∷◌, ◌++◌, map, length, take, refl, sym, ap, ap₂, subst, arith, Option, Some, None, length-append}
use Rattle.std.specs.List.{slice_get}
use Rattle.std.specs.Option.{option_and_then, option_map, unwrap_or}
use Rattle.std.proofs.lemmas.List.{length-map, map-append}
use Rattle.std.proofs.lemmas.Option.{none-some, same_Some, slice_get_within, slice_get-map}
use Rattle.bf_base.specs.declared.granule.Granule.{Granule}
use Rattle.bf_bits.specs.Seats.{Seat}
use Rattle.bf_trackers.specs.declared.units.Shape.{Shape}
use Rattle.bf_trackers.specs.declared.units.UnitTracker.{UnitTracker}
use Rattle.bf_trackers.specs.declared.units.UnitTracker.TheVariants.{Rows, Keys}
use Rattle.bf_trackers.specs.Holding.{HoldClaims}
use Rattle.bf_trackers.specs.Seats.{Seats, held_at}
use Rattle.bf_trackers.specs.Units.{AreMade, IsSeatOf, first_seat_of, new_seat_of, positions_in, shape_of}
use Rattle.bf_trackers.proofs.Lists.{get_there, get-front, get-length, get-snoc, take_one}

abbrev held_of : Option Seat → List ℕ
held_of o = unwrap_or (option_map (λ (s : Seat). s.view.held) o) []

module _ (units : List UnitTracker) (seats : Seats) (f : ℕ → UnitTracker → Option Seat)
    (own : (i : ℕ) (t : UnitTracker) → IsSeatOf t (f i t)) (idle : (i : ℕ) (t : UnitTracker) → held_of (f i t) ≡ [])
    (as_many : length seats.units ≡ length units) (each : (i : ℕ) (t : UnitTracker) → slice_get units i ≡ Some t → slice_get seats.units i ≡ Some (f i t)) where
  holds_none : (u : ℕ) → held_at seats u ≡ []
  holds_none u = of (slice_get units u) refl
    where
      past : (o : Option (Option Seat)) → slice_get seats.units u ≡ o → slice_get units u ≡ None → held_of (option_and_then (λ s. s) o) ≡ []
      past None e none = refl
      past (Some s) e none =
          let there = get_there units u (let less = slice_get_within seats.units u s e in omega arith) in
          absurd (none-some there.0 (sym none ∙ there.1))

      of : (o : Option UnitTracker) → slice_get units u ≡ o → held_at seats u ≡ []
      of None e = past (slice_get seats.units u) refl e
      of (Some t) e = ap (λ o. held_of (option_and_then (λ s. s) o)) (each u t e) ∙ idle u t

  pub fresh_holds : seats.count ≡ 0 → HoldClaims units seats []
  fresh_holds none = record {
    own = record {
      as_many = as_many;
      each = λ i t s a b. subst (λ s'. IsSeatOf t s') (same_Some (f i t) s (sym (each i t a) ∙ b)) (own i t);
    };
    each = tt;
    count = none;
    rows = holds_none;
  }

new_own : (i : ℕ) (t : UnitTracker) → IsSeatOf t (new_seat_of t)
new_own i (Rows bits) = refl
new_own i (Keys count) = tt

new_idle : (i : ℕ) (t : UnitTracker) → held_of (new_seat_of t) ≡ []
new_idle i (Rows bits) = refl
new_idle i (Keys count) = refl

pub new_holds : (units : List UnitTracker) (seats : Seats) → seats.units ≡ map new_seat_of units → seats.count ≡ 0 → HoldClaims units seats []
new_holds units seats e none =
    fresh_holds units seats (λ i t. new_seat_of t) new_own new_idle (ap length e ∙ length-map units new_seat_of)
    (λ i t at. ap (λ ss. slice_get ss i) e ∙ slice_get-map new_seat_of units i ∙ ap (option_map new_seat_of) at) none

module _ (done : List Granule) where
  first_own : (i : ℕ) (t : UnitTracker) → IsSeatOf t (first_seat_of (positions_in i done) t)
  first_own i (Rows bits) = refl
  first_own i (Keys count) = tt

  first_idle : (i : ℕ) (t : UnitTracker) → held_of (first_seat_of (positions_in i done) t) ≡ []
  first_idle i (Rows bits) = refl
  first_idle i (Keys count) = refl

  pub made_holds : (shapes : List Shape) (units : List UnitTracker) (seats : Seats) → AreMade shapes done units seats.units → seats.count ≡ 0 → HoldClaims units seats []
  made_holds shapes units seats made none =
      fresh_holds units seats (λ i t. first_seat_of (positions_in i done) t) first_own first_idle made.as_many made.firsts none

-- one more tracker is made, with its first seat
pub next_made : (shapes : List Shape) (done : List Granule) (n : ℕ) (shape : Shape) (units more_units : List UnitTracker) (seats more_seats : List (Option Seat)) (unit : UnitTracker) (seat : Option Seat)
    → slice_get shapes n ≡ Some shape → length units ≡ n → AreMade (take n shapes) done units seats → shape_of unit ≡ shape → seat ≡ first_seat_of (positions_in n done) unit
    → more_units ≡ units ++ unit ∷ [] → more_seats ≡ seats ++ seat ∷ [] → AreMade (take (n + 1) shapes) done more_units more_seats
next_made shapes done n shape units more_units seats more_seats unit seat at long made of_shape first us ss =
    subst (λ us'. AreMade (take (n + 1) shapes) done us' more_seats) (sym us) (subst (λ ss'. AreMade (take (n + 1) shapes) done (units ++ unit ∷ []) ss') (sym ss) behind)
  where
    here : (i : ℕ) (t : UnitTracker) → (slice_get units i ≡ Some t) ⊎ ((i ≡ length units) × (t ≡ unit)) → slice_get (seats ++ seat ∷ []) i ≡ Some (first_seat_of (positions_in i done) t)
    here i t (inl before) = get-front seats (seat ∷ []) i (first_seat_of (positions_in i done) t) (made.firsts i t before)
    here i t (inr last) =
        let at_end : i ≡ length seats = last.0 ∙ sym made.as_many in
        let own : first_seat_of (positions_in n done) unit ≡ first_seat_of (positions_in i done) t = ap₂ (λ k t'. first_seat_of (positions_in k done) t') (sym (last.0 ∙ long)) (sym last.1) in
        ap (slice_get (seats ++ seat ∷ [])) at_end ∙ get-length seats seat ∙ ap Some (first ∙ own)

    behind : AreMade (take (n + 1) shapes) done (units ++ unit ∷ []) (seats ++ seat ∷ [])
    behind = record {
      of_shapes = map-append shape_of units (unit ∷ []) ∙ ap₂ (λ ss s. ss ++ s ∷ []) made.of_shapes of_shape ∙ sym (take_one shapes n shape at);
      as_many = length-append seats (seat ∷ []) ∙ ap (λ k. k + 1) made.as_many ∙ sym (length-append units (unit ∷ []));
      firsts = λ i t e. here i t (get-snoc units unit i t e);
    }
