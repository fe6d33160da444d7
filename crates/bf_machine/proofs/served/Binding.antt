-- A session's next statement, as it is bound in the present catalog.
use Rattle.std.proofs.Common.{◌≡◌, ◌⊎◌, ℕ, zero, suc, ◌+◌, ◌-◌, ◌<◌, ◌≤◌, Bool, false, List, [], ◌∷◌, length, Option, Some, refl, sym, ap, subst, ◌∙◌, arith, inl, inr, length-append}
use Rattle.std.specs.Prelude.{Result, Ok, Err, IfOk, slice_get}
use Rattle.std.specs.Option.{option_map_or}
use Rattle.std.proofs.lemmas.Option.{same_Some}
use Rattle.std.specs.List.{slice_index_or}
use Rattle.bf_base.specs.declared.memory.Memory.{Memory}
use Rattle.bf_tree.specs.Limits.{IsNarrowIfMigrate, KeepsLimits}
use Rattle.bf_tree.specs.declared.bound.Bound.{Bound}
use Rattle.bf_tree.specs.declared.reply.Reply.{Reply}
use Rattle.bf_tree.specs.declared.script.Script.{Script}
use Rattle.bf_tree.specs.declared.script.Session.{Session}
use Rattle.bf_tree.specs.declared.statement.Statement.{Statement}
use Rattle.bf_tree.specs.declared.statement.Statement.TheVariants as statement
use Rattle.bf_sql.specs.Bound.{catalog_of, changes_schema, unless_objected, without_rows}
use Rattle.bf_sql.specs.Database.{Database, IsDatabase}
use Rattle.bf_sql.specs.Objections.{objections}
use Rattle.bf_sql.specs.migrations.Plans.{prepared_action, prepared_of}
use Rattle.bf_tree.specs.declared.bound.Action.{Action}
use Rattle.bf_tree.specs.declared.bound.Action.TheVariants as action
use Rattle.bf_sql.specs.Footprints.{HasKeys}
use Rattle.bf_live.specs.Replies.{IsWellBound}
use Rattle.bf_live.proofs.querying.Binding.{well_bound}
use Rattle.bf_live.proofs.locking.Reading.{parts_of}
use Rattle.bf_sql.specs.Groups.{no_session, session_at}
use Rattle.bf_image.proofs.keeping.Prepared.{bare_catalog, prepared_alike}
use Rattle.bf_machine.specs.interleaving.Calls.{CanRefuse, IsPlace, StandsAs, replies_at, statements_at}
use Rattle.bf_machine.specs.interleaving.Events.{stands_inside}
use Rattle.bf_machine.specs.interleaving.Kept.{IsKept}
use Rattle.bf_machine.specs.interleaving.Machines.{Machine, Open, told_at, with_replies}
use Rattle.bf_machine.specs.interleaving.Serving.{IsBoundNext, IsPreparedNext, is_in_block}
use Rattle.bf_machine.specs.declared.stand.Stand.TheVariants as stand
use Rattle.bf_machine.proofs.interleaving.Narrow.{IsNarrowStatement}
use Rattle.bf_machine.proofs.interleaving.Places.{from_one}
use Rattle.bf_machine.proofs.interleaving.Planning.{footprint_prepared}
use Rattle.bf_machine.proofs.interleaving.Running.{from_objections}
use Rattle.bf_machine.proofs.interleaving.Texts.{are_texts}
use Rattle.bf_machine.proofs.served.Events.{left_below, replies_are}
use Rattle.bf_machine.proofs.served.Goes.{refuse_goes_on}
use Rattle.bf_machine.proofs.served.Narrow.{keeps_limits, narrow_at}
use Rattle.bf_machine.proofs.served.Nexts.{got, of_part}

-- a session of the script, read at its place
by_default : {X : Type 0} (xs : List X) (i : ℕ) (d e : X) → i < length xs → slice_index_or xs i d ≡ slice_index_or xs i e
by_default [] i d e within = absurd (omega (arith, within))
by_default (x ∷ xs) zero d e within = refl
by_default (x ∷ xs) (suc i) d e within = by_default xs i d e (omega (arith, within))

pub session_read : (script : Script) (s : ℕ) → IsPlace script s → (x : Session) → slice_index_or script.sessions (s - 1) x ≡ session_at script s
session_read script s place x =
    by_default script.sessions (s - 1) x no_session (omega (arith, place.0, place.1)) ∙ from_one no_session no_session script.sessions s place.0

module _ {start : Database} (m : Machine) (kept : IsKept start m) (s n : ℕ) (place : IsPlace m.script s) (at : StandsAs m s (stand.Statement n)) where
  -- it is one of the session's
  pub next_within : (1 ≤ n) × (n - 1 < length (session_at m.script s).statements)
  next_within = elim at as (λ _. (1 ≤ n) × (n - 1 < length (session_at m.script s).statements)) [
    | inl on ↦
        let own = kept.open_groups_replay.each s on.o on.is in
        let below = left_below m kept (are_texts m.script) s on.o on.is on.statement on.later on.left in
        let bounds = (are_texts m.script).bounds s on.o.group own.whole in
        let sizes : length (replies_at m s) ≡ length (told_at m s) + length on.o.replies =
        ap (λ (rs : List Reply). length rs) (replies_are m kept (are_texts m.script) s on.o on.is) ∙ length-append (told_at m s) on.o.replies in
        (omega (arith, on.number, bounds.0), omega (arith, on.number, below, sizes, own.next))
    | inr refused ↦
        let by = refused.0.1 in
        let goes = (refuse_goes_on m kept s refused.0.0 by).1 in
        let size : length (replies_at m s) ≡ length (told_at m s) = ap (λ (o : Option Open). length (with_replies (told_at m s) o)) by.closed in
        (omega (arith, refused.1), omega (arith, refused.1, size, goes))
  ]

  -- and the next of them
  next_at : n - 1 ≡ length (replies_at m s)
  next_at = elim at as (λ _. n - 1 ≡ length (replies_at m s)) [
    | inl on ↦
        let own = kept.open_groups_replay.each s on.o on.is in
        let sizes : length (replies_at m s) ≡ length (told_at m s) + length on.o.replies =
        ap (λ (rs : List Reply). length rs) (replies_are m kept (are_texts m.script) s on.o on.is) ∙ length-append (told_at m s) on.o.replies in
        omega (arith, on.number, sizes, own.next)
    | inr refused ↦
        let size : length (replies_at m s) ≡ length (told_at m s) = ap (λ (o : Option Open). length (with_replies (told_at m s) o)) refused.0.1.closed in
        omega (arith, refused.1, size)
  ]

  module _ (statement : Statement) (is : slice_index_or (session_at m.script s).statements (n - 1) statement ≡ statement) where
    narrow : IsNarrowStatement statement
    narrow = subst IsNarrowStatement is (narrow_at m kept s (n - 1) statement next_within.1)

    -- it keeps the limits
    pub next_limits : KeepsLimits (catalog_of m.db) statement
    next_limits = keeps_limits m kept statement narrow

    pub next_migrates : IsNarrowIfMigrate statement
    next_migrates = narrow.migrates

    pub next_prepared : (bound : Bound) → prepared_of (without_rows (catalog_of m.db)) (is_in_block m s) statement ≡ Some bound → IsPreparedNext m s bound
    next_prepared bound bound_so = record {
      statement = statement;
      is = subst (λ (i : ℕ). slice_get (statements_at m s) i ≡ Some statement) next_at (got (statements_at m s) (n - 1) statement next_within.1 is);
      prepared_so = sym (prepared_alike (without_rows (catalog_of m.db)) m.db (bare_catalog m.db) (is_in_block m s) statement) ∙ bound_so;
    }

    -- and is prepared so
    pub next_bound : (bound : Bound) → prepared_of (without_rows (catalog_of m.db)) (is_in_block m s) statement ≡ Some bound → ((o : Open) × IsBoundNext m s o bound) ⊎ CanRefuse m s
    next_bound bound bound_so = elim at as (λ _. ((o : Open) × IsBoundNext m s o bound) ⊎ CanRefuse m s) [
      | inr refused ↦ inr refused.0
      | inl on ↦
          let own = kept.open_groups_replay.each s on.o on.is in
          let bounds = (are_texts m.script).bounds s on.o.group own.whole in
          let at_number : on.o.group.0 + length on.o.replies - 1 ≡ n - 1 = omega (arith, on.number) in
          let item : slice_index_or (session_at m.script s).statements (n - 1) statement ≡ on.statement =
          ap (λ (k : ℕ). slice_index_or (session_at m.script s).statements k statement) (sym at_number)
          ∙ of_part statement on.o.group.0 on.o.group.1 (length on.o.replies) (session_at m.script s).statements on.statement on.later bounds.0 on.left in
          let same : statement ≡ on.statement = sym is ∙ item in
          let inside : is_in_block m s ≡ stands_inside on.o.replies = ap (λ (found : Option Open). option_map_or (λ (o : Open). stands_inside o.replies) found false) on.is in
          let whole : prepared_of m.db (is_in_block m s) statement ≡ Some bound =
          sym (prepared_alike (without_rows (catalog_of m.db)) m.db (bare_catalog m.db) (is_in_block m s) statement) ∙ bound_so in
          let there : prepared_of m.db (stands_inside on.o.replies) on.statement ≡ Some bound =
          subst (λ (b : Bool). prepared_of m.db b on.statement ≡ Some bound) inside (subst (λ (st : Statement). prepared_of m.db (is_in_block m s) st ≡ Some bound) same whole) in
          inl (
            on.o,
            record {
              to_lock = record {
                current = on.current;
                is = on.is;
                statement = on.statement;
                later = on.later;
                left = on.left;
                footprint = footprint_prepared m.db (stands_inside on.o.replies) on.statement bound there;
              };
              goes_on = on.goes_on;
              bound_so = there;
            },
          )
    ]

pub in_ok : {P Q : Bound → Type 0} (r : Result Bound Memory) → ((bound : Bound) → P bound → Q bound) → IfOk r P → IfOk r Q
in_ok (Ok bound) weaker so = weaker bound so
in_ok (Err memory) weaker so = so

-- what is prepared is bound well
module _ (db : Database) (database : IsDatabase db) (in_block : Bool) (bound : Bound) where
  of_action : (s : Statement) → objections db in_block s ≡ [] → prepared_action db s ≡ Some bound.action → IsWellBound bound.action
  of_action (statement.Migrate m) none acts = subst IsWellBound (same_Some _ bound.action acts) tt
  of_action s none acts = well_bound db in_block s bound.action (record { database = database; admitted = none; action = acts })

  pub prepared_well : (s : Statement) → prepared_of db in_block s ≡ Some bound → IsWellBound bound.action
  prepared_well s is =
      let parts = parts_of db.number (changes_schema in_block s) (unless_objected (objections db in_block s) (prepared_action db s)) bound is in
      elim (from_objections (objections db in_block s) (prepared_action db s) bound.action parts.1) as (λ _. IsWellBound bound.action) [
        | inl free ↦ of_action s free.0 free.1
        | inr refused ↦ subst IsWellBound (sym refused.3) tt
      ]

-- and has keys
pub has_keys : (act : Action) → IsWellBound act → HasKeys act
has_keys (action.Insert table tuples) is = is
has_keys other is = tt
