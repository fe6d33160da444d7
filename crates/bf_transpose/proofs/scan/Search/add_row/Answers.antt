-- A row that doesn't satisfy what each one does from which a row that is sought comes gives nothing.
use Rattle.std.proofs.Common.{◌≡◌, Bool, false, List, [], ◌∷◌, ◌++◌, cond, sym, ap, ◌∙◌, inl, inr}
use Rattle.std.proofs.lemmas.Bool.{cases_Bool, false≢true}
use Rattle.std.proofs.lemmas.List.{append-nil}
use Rattle.bf_base.specs.declared.granule.Granule.{Granule}
use Rattle.bf_base.specs.declared.granule.Place.TheVariants.{Row}
use Rattle.bf_sql.specs.migrations.Granules.{granule}
use Rattle.bf_transpose.specs.Scans.{gives}
use Rattle.bf_transpose.proofs.scan.Search.add_row.Goals as goal

pub returns-then-not-branch : goal.returns-then-not-branch
returns-then-not-branch c =
    let s = c.args.self.now in
    let test : Granule → Bool = gives s.migration.now s.target s.cond.now in
    let here = granule c.args.unit (Row c.args.position) in
    let before = c.args.granules.now.items in
    let none : test here ≡ false =
    elim (cases_Bool (test here)) [
      | inl given ↦ absurd (false≢true (sym c.if-not-branch.true ∙ c.in_ok-may_give.ensures given))
      | inr none ↦ none
    ] in
    sym (append-nil before) ∙ ap (λ (gs : List Granule). before ++ gs) (sym (ap (λ b. cond b (here ∷ []) []) none))
