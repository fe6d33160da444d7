-- A session of which a call can come is none of which none can.
use Rattle.std.proofs.Common.{◌≡◌, ℕ, ◌+◌, ◌≤◌, true, false, not, List, [], ◌∷◌, ◌++◌, length, Option, Some, None, sym, ap, subst, ◌∙◌, arith, inl, inr, length-append}
use Rattle.std.specs.Prelude.{Contains}
use Rattle.std.specs.List.{list_any, slice_index_or}
use Rattle.std.proofs.lemmas.Bool.{and_parts, false≢true}
use Rattle.std.proofs.lemmas.Bool.Decides.{nat_tests}
use Rattle.std.proofs.lemmas.Option.{same_Some}
use Rattle.bf_sql.specs.Database.{Database}
use Rattle.bf_sql.specs.Groups.{ends_block, groups_in, has_statement, is_stray, statements_in}
use Rattle.bf_machine.specs.declared.stand.Stand.{Stand}
use Rattle.bf_machine.specs.declared.stand.Stand.TheVariants as stand
use Rattle.bf_machine.specs.interleaving.Calls.{CanBegin, CanRefuse, HasSessionEnded, IsNamed, StandsAs, replies_at}
use Rattle.bf_machine.specs.interleaving.Kept.{HasStart, IsCurrent, IsKept}
use Rattle.bf_machine.specs.interleaving.Machines.{Began, Group, Machine, Open, began_at, open_at, told_at, with_replies}
use Rattle.bf_machine.specs.interleaving.Serving.{CanGo, CannotGo, can_go}
use Rattle.bf_machine.proofs.interleaving.Entries.{any_of}
use Rattle.bf_machine.proofs.interleaving.Texts.{are_texts, one_first}
use Rattle.bf_machine.proofs.served.Goes.{refuse_goes_on}
use Rattle.bf_machine.proofs.served.Stuck.{last_of, last_there}

-- a stray statement is of no group
stray_in_none : (m : Machine) (s : ℕ) (g : Group) → Contains (groups_in m.script s) g → is_stray m.script s (length (told_at m s) + 1) ≡ true → g.0 ≤ length (told_at m s) + 1 → length (told_at m s) + 1 ≤ g.1 → ⊥
stray_in_none m s g whole stray from to =
    let n = length (told_at m s) + 1 in
    let parts = and_parts (list_any ends_block (statements_in m.script s (n, n))) (not (list_any (has_statement n) (groups_in m.script s))) stray in
    let has : has_statement n g ≡ true = grind (arith, nat_tests, from, to) in
    let there : list_any (has_statement n) (groups_in m.script s) ≡ true = any_of (has_statement n) (groups_in m.script s) g whole has in
    let both : false ≡ true = ap not (sym there) ∙ parts.1 in
    false≢true both

module _ {start : Database} (m : Machine) (kept : IsKept start m) (s : ℕ) where
  -- what stands against each
  record IsFree : Type 0 where
    pub current : IsCurrent m s
    pub goes_on : HasSessionEnded m s → ⊥
    pub unnamed : (h : ℕ) → IsNamed m s h → ⊥

  by_open : (o : Open) → open_at m s ≡ Some o → IsCurrent m s → IsFree
  by_open o is current = record {
    current = current;
    goes_on = λ ended. (let clash : None ≡ Some o = sym ended.1 ∙ is in cc);
    unnamed = λ h named. (let clash : None ≡ Some o = sym named.closed ∙ is in cc);
  }

  by_begin : CanBegin m s → IsFree
  by_begin can =
      let by = can.1 in
      let bounds = (are_texts m.script).bounds s by.group by.whole in record {
        current = by.current;
        goes_on = λ ended. omega (arith, ended.0, by.first, bounds.1, bounds.2);
        unnamed = λ h named.
            let same : named.group ≡ by.group = one_first m.script s named.group by.group named.whole by.whole (named.first ∙ sym by.first) in
            let has : HasStart m.began s by.group named.start = subst (λ (g : Group). HasStart m.began s g named.start) same named.has in
            elim by.goes as (λ _. ⊥) [
              | inl never ↦ never.0 named.start has
              | inr again ↦
                  let start : named.start ≡ again.0 = kept.locks_consistent.once s by.group named.start again.0 has again.1 in
                  let mine : began_at m.began again.0 ≡ Some (record { session = s; group = named.group; deaths = named.has.deaths }) = subst (λ (n : ℕ). began_at m.began n ≡ Some (record { session = s; group = named.group; deaths = named.has.deaths })) start named.has.is in
                  let both : Some (record { session = s; group = by.group; deaths = again.1.deaths }) ≡ Some (record { session = s; group = named.group; deaths = named.has.deaths }) = sym again.1.is ∙ mine in
                  let deaths : again.1.deaths ≡ named.before ++ h ∷ [] = ap (λ (b : Began). b.deaths) (same_Some _ _ both) ∙ named.named in
                  let size : length named.before + 1 ≡ length again.1.deaths = sym (ap (λ (ds : List ℕ). length ds) deaths ∙ length-append named.before (h ∷ [])) in
                  let at : slice_index_or again.1.deaths (length named.before) 0 ≡ h = ap (λ (ds : List ℕ). slice_index_or ds (length named.before) 0) deaths ∙ last_of named.before h in
                  let among : Contains named.has.deaths h = subst (λ (ds : List ℕ). Contains ds h) (sym named.named) (last_there named.before h) in
                  let died = (kept.causes_allowed.deaths named.start _ named.has.is).each h among in
                  named.goes_on died.other died.theirs died.named
                  (again.2 (length named.before) died.other died.theirs size (subst (λ (k : ℕ). HasStart m.began died.other died.theirs k) (sym at) died.named))
            ];
      }

  by_refuse : CanRefuse m s → IsFree
  by_refuse can =
      let by = can.1 in
      let size : length (replies_at m s) ≡ length (told_at m s) = ap (λ (o : Option Open). length (with_replies (told_at m s) o)) by.closed in
      let goes = (refuse_goes_on m kept s can.0 by).1 in record {
        current = by.current;
        goes_on = λ ended. omega (arith, ended.0, size, goes);
        unnamed = λ h named.
            let bounds = (are_texts m.script).bounds s named.group named.whole in
            stray_in_none m s named.group named.whole by.stray (omega (arith, named.first)) (omega (arith, named.first, bounds.1));
      }

  free : (at : Stand) → StandsAs m s at → can_go at ≡ true → IsFree
  free stand.Ended at goes = absurd cc
  free stand.Later at goes = absurd cc
  free (stand.Named h) at goes = absurd cc
  free stand.Begin can goes = by_begin can
  free (stand.Statement n) at goes = elim at as (λ _. IsFree) [
    | inl on ↦ by_open on.o on.is on.current
    | inr refused ↦ by_refuse refused.0
  ]
  free stand.Commit can goes = by_open can.o can.is can.current
  free stand.Abort can goes = by_open can.1.o can.1.is can.1.current

  not_free : (at : Stand) → StandsAs m s at → can_go at ≡ false → IsFree → ⊥
  not_free stand.Ended ended none is = is.goes_on ended
  not_free stand.Later later none is = later.1 is.current
  not_free (stand.Named h) named none is = is.unnamed h named
  not_free stand.Begin at none is = cc
  not_free (stand.Statement n) at none is = cc
  not_free stand.Commit at none is = cc
  not_free stand.Abort at none is = cc

  pub one_or_other : CanGo m s → CannotGo m s → ⊥
  one_or_other goes stuck = not_free stuck.0 stuck.1 stuck.2 (free goes.0 goes.1 goes.2)

  pub goes_has_not_ended : CanGo m s → HasSessionEnded m s → ⊥
  goes_has_not_ended goes ended = (free goes.0 goes.1 goes.2).goes_on ended

  -- an open group can go on
  pub open_can : (o : Open) → open_at m s ≡ Some o → CannotGo m s → ⊥
  open_can o is stuck = not_free stuck.0 stuck.1 stuck.2 (by_open o is (kept.locks_consistent.in_turn s o.group o.start (kept.locks_consistent.starts s o is)))
