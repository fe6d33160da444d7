use Rattle.std.proofs.Common.{◌≡◌, ℕ, Option, Some, true, List, ap, subst, sym}
use Rattle.std.specs.Prelude.{String, string_bytes, string_cmp}
use Rattle.std.specs.Global.{Global}
use Rattle.std.specs.BTreeSet.{UpdatesBy}
use Rattle.std.specs.Ordering.{nat_cmp}
use Rattle.std.specs.Cmp.Lexicographic.{slice_cmp}
use Rattle.bf_disk.specs.Shelves.{Puts}
use Rattle.bullfrog.specs.Lending.{Lending, taken_of}
use Rattle.bullfrog.proofs.Lending.{puts}
use Rattle.bullfrog.proofs.shelving.FileShelfShelf.take.Goals as goal

pub returns-in_ok-insert-in-Ok-clause-away : goal.returns-in_ok-insert-in-Ok-clause-away
returns-in_ok-insert-in-Ok-clause-away g c =
    let path = c.args.path.now in
    let old = c.self.inside.lent in
    let new = c.insert.new.self in
    let updates = subst
    (λ (bytes : List ℕ). UpdatesBy string_cmp (λ (one : String Global). slice_cmp nat_cmp bytes (string_bytes one)) old new true)
    c.in_ok-name.ensures.ok c.in_ok-insert-in-Ok.ensures.updates in
    let after : Lending = record { lent = new.keys; faults = c.self.inside.faults } in
    let both = puts path old new true updates c.self.inside.faults c.self.inside.faults in
    let given : Some 0 ≡ Some c.new.result = ap Some (sym c.new.ensures) in (
      tt,
      subst (λ (before : List ℕ → Option ℕ). Puts path (Some c.new.result) before (taken_of after)) (ap taken_of c.self.view_is)
          (subst (λ (count : Option ℕ). Puts path count (taken_of (record { lent = old.keys; faults = c.self.inside.faults })) (taken_of after)) given both),
    )
