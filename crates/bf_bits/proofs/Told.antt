-- What a step tells of the position at which the caller made it.
use Rattle.std.proofs.Common.{◌≡◌, ℕ, ◌*◌, ◌/◌, ◌<◌, ◌≤◌, List, [], ◌∷◌, sym, ap, ◌∙◌, subst, arith}
use Rattle.std.specs.Int.{bit_not}
use mir.Syntax.{w64}
use mathlib.Core.Option.{none}
use Rattle.atomic_table.specs.Table.{Me, step}
use Rattle.atomic_table.specs.Seated.{TableId}
use Rattle.bf_bits.specs.declared.rule.View.{View}
use Rattle.bf_bits.specs.declared.answer.Look.{Look}
use Rattle.bf_bits.specs.Positions.{Has, without, IsWithin}
use Rattle.bf_bits.specs.Words.{lock_place, migrate_place, mask, state_in}
use Rattle.bf_bits.specs.Steps.{next, held_after, Tells, claimed, finished_one, given_back}
use Rattle.bf_bits.specs.Seats.{Claim, Seat, Tracker, Holds, after_step, IsSeated}
use Rattle.bf_bits.proofs.Places.{lock_at, migrate_at, keep_at}

abbrev pub Mine : Type 0
Mine = Me (Unit {0}) View

-- after a claim: its view, and what the word says
pub claimed_at : (slots q first found : ℕ) (me w : Mine) → first ≡ mask (lock_place q) → claimed (step slots (q / 32) first 0 none) me found w → (w ≡ (next me.0 found (held_after q (state_in found q) me.0.held) me.0.finished, me.1)) × Tells found q me.0
claimed_at slots q first found me w is c =
    let e : q ≡ c.0 = lock_at q c.0 c.1.0 (sym is ∙ c.1.1) in
    (c.2 ∙ ap (λ (p : ℕ). (next me.0 found (held_after p (state_in found p) me.0.held) me.0.finished, me.1)) (sym e), subst (λ (p : ℕ). Tells found p me.0) (sym e) c.3)

pub finished_at : (slots q first found : ℕ) (me w : Mine) → first ≡ mask (migrate_place q) → finished_one (step slots (q / 32) first 0 none) me found w → (w ≡ (next me.0 found (without q me.0.held) (q ∷ me.0.finished), me.1)) × (state_in found q ≡ Look.Held)
finished_at slots q first found me w is c =
    let e : q ≡ c.0 = migrate_at q c.0 c.1.0 (sym is ∙ c.1.1) in
    (c.2 ∙ ap (λ (p : ℕ). (next me.0 found (without p me.0.held) (p ∷ me.0.finished), me.1)) (sym e), ap (state_in found) e ∙ c.3)

pub given_at : (slots q first found : ℕ) (me w : Mine) → first ≡ bit_not w64 (mask (lock_place q)) → given_back (step slots (q / 32) first 0 none) me found w → (w ≡ (next me.0 found (without q me.0.held) me.0.finished, me.1)) × (state_in found q ≡ Look.Held)
given_at slots q first found me w is c =
    let e : q ≡ c.0 = keep_at q c.0 c.1.0 (sym is ∙ c.1.1) in
    (c.2 ∙ ap (λ (p : ℕ). (next me.0 found (without p me.0.held) me.0.finished, me.1)) (sym e), ap (state_in found) e ∙ c.3)

-- ---- the seat after a step that found a word and leaves these lists
abbrev pub seat_with : TableId → View → Seat
seat_with table view = record { table = table; view = view }

abbrev pub seat_of : TableId → Mine → Seat
seat_of table me = seat_with table me.0

-- the view names the word that was found
pub word_found : (me w : Mine) (found : ℕ) (held finished : List ℕ) → w ≡ (next me.0 found held finished, me.1) → w.0.found ≡ found
word_found me w found held finished e = ap (λ (x : Mine). x.0.found) e

pub seat_after : (old new : TableId) (me w : Mine) (found : ℕ) (held finished : List ℕ) → new ≡ old → w ≡ (next me.0 found held finished, me.1) → seat_of new w ≡ after_step (seat_of old me) found held finished
seat_after old new me w found held finished same e = ap (λ (t : TableId). seat_of t w) same ∙ ap (seat_of old) e

-- ---- the same, where a caller sees the seat
abbrev pub IsClaimStep : ℕ → Seat → Seat → Type 0
IsClaimStep q old new = (new ≡ after_step old new.view.found (held_after q (state_in new.view.found q) old.view.held) old.view.finished) × Tells new.view.found q old.view

pub claim_step : (slots q first found : ℕ) (old new : TableId) (me w : Mine) (seat : Seat) → seat_of old me ≡ seat → first ≡ mask (lock_place q) → new ≡ old → claimed (step slots (q / 32) first 0 none) me found w → (found ≡ w.0.found) × IsClaimStep q seat (seat_of new w)
claim_step slots q first found old new me w seat seen is same c =
    let t = claimed_at slots q first found me w is c in
    let f = sym (word_found me w found _ _ t.0) in
    let at_found : (seat_of new w ≡ after_step (seat_of old me) found (held_after q (state_in found q) me.0.held) me.0.finished) × Tells found q me.0 = (seat_after old new me w found _ _ same t.0, t.1) in (
      f,
      subst (λ (seat : Seat). IsClaimStep q seat (seat_of new w)) seen
          (subst (λ (n : ℕ). (seat_of new w ≡ after_step (seat_of old me) n (held_after q (state_in n q) me.0.held) me.0.finished) × Tells n q me.0) f at_found),
    )

abbrev pub IsFinishStep : ℕ → Seat → Seat → Type 0
IsFinishStep q old new = (new ≡ after_step old new.view.found (without q old.view.held) (q ∷ old.view.finished)) × (state_in new.view.found q ≡ Look.Held)

pub finish_step : (slots q first found : ℕ) (old new : TableId) (me w : Mine) (seat : Seat) → seat_of old me ≡ seat → first ≡ mask (migrate_place q) → new ≡ old → finished_one (step slots (q / 32) first 0 none) me found w → IsFinishStep q seat (seat_of new w)
finish_step slots q first found old new me w seat seen is same c =
    let t = finished_at slots q first found me w is c in
    let f = sym (word_found me w found _ _ t.0) in
    let at_found : (seat_of new w ≡ after_step (seat_of old me) found (without q me.0.held) (q ∷ me.0.finished)) × (state_in found q ≡ Look.Held) = (seat_after old new me w found _ _ same t.0, t.1) in
    subst (λ (seat : Seat). IsFinishStep q seat (seat_of new w)) seen
    (subst (λ (n : ℕ). (seat_of new w ≡ after_step (seat_of old me) n (without q me.0.held) (q ∷ me.0.finished)) × (state_in n q ≡ Look.Held)) f at_found)

abbrev pub IsGiveStep : ℕ → Seat → Seat → Type 0
IsGiveStep q old new = (new ≡ after_step old new.view.found (without q old.view.held) old.view.finished) × (state_in new.view.found q ≡ Look.Held)

pub give_step : (slots q first found : ℕ) (old new : TableId) (me w : Mine) (seat : Seat) → seat_of old me ≡ seat → first ≡ bit_not w64 (mask (lock_place q)) → new ≡ old → given_back (step slots (q / 32) first 0 none) me found w → IsGiveStep q seat (seat_of new w)
give_step slots q first found old new me w seat seen is same c =
    let t = given_at slots q first found me w is c in
    let f = sym (word_found me w found _ _ t.0) in
    let at_found : (seat_of new w ≡ after_step (seat_of old me) found (without q me.0.held) me.0.finished) × (state_in found q ≡ Look.Held) = (seat_after old new me w found _ _ same t.0, t.1) in
    subst (λ (seat : Seat). IsGiveStep q seat (seat_of new w)) seen
    (subst (λ (n : ℕ). (seat_of new w ≡ after_step (seat_of old me) n (without q me.0.held) me.0.finished) × (state_in n q ≡ Look.Held)) f at_found)

-- ---- a seat and a tracker that fit
abbrev pub tracker_of : TableId → ℕ → Tracker
tracker_of table granules = record { granules = granules; table = table }

pub same_table : (a b : TableId) (view : View) (granules : ℕ) (seat : Seat) (tracker : Tracker) → seat_with a view ≡ seat → tracker_of b granules ≡ tracker → seat.table ≡ tracker.table → a ≡ b
same_table a b view granules seat tracker seen known own = ap (λ (s : Seat). s.table) seen ∙ (own ∙ sym (ap (λ (t : Tracker). t.table) known))

pub word_within : (table : TableId) (granules q : ℕ) (tracker : Tracker) → tracker_of table granules ≡ tracker → granules ≤ 32 * table.words → q < tracker.granules → (q / 32 < table.words) × (q < granules)
word_within table granules q tracker known room low =
    let same : granules ≡ tracker.granules = ap (λ (t : Tracker). t.granules) known in
    (omega arith, omega arith)

pub same_at : {a b : Claim} → a ≡ b → a.at ≡ b.at
same_at e = ap (λ (claim : Claim). claim.at) e

-- what the seat holds, as its parts have it
pub held_inside : (table : TableId) (view : View) (seat : Seat) (at claim : ℕ) → seat_with table view ≡ seat → at ≡ claim → Holds seat claim → Has view.held at
held_inside table view seat at claim seen is has = subst (λ (z : Seat × ℕ). Holds z.0 z.1) (λ i. (sym seen i, sym is i)) has

-- what a seat keeps, after a step that leaves it with this held list
pub kept_seat : (old new : TableId) (me w : Mine) (view : View) → new ≡ old → w ≡ (view, me.1) → me.1 ≡ [] → IsWithin old.words view.held → IsSeated new w
kept_seat old new me w view same e none_yet h =
    record {
      no_slots = ap (λ (z : Mine). z.1) e ∙ none_yet;
      within = subst (λ (z : TableId × View). IsWithin z.0.words z.1.held) (λ i. (sym same i, (sym e i).0)) h;
    }
