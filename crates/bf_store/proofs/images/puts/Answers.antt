use Rattle.std.proofs.Common.{◌≡◌, ℕ, List, [], ◌∷◌, ◌++◌, flat_map, map, sym, ap, subst, ◌∙◌, append-nil, append_assoc, arith}
use Rattle.std.specs.List.{AllByRecursion}
use Rattle.std.specs.Vec.Iter.{into_iter_items}
use Rattle.std.proofs.lemmas.List.{map-append, nil_from_length}
use Rattle.bf_base.specs.declared.granule.Granule.{Granule}
use Rattle.bf_base.specs.declared.value.Value.{Value}
use Rattle.bf_tree.specs.declared.migration.Migrate.{Migrate}
use Rattle.bf_sql.specs.Database.{Database}
use Rattle.bf_sql.specs.migrations.Granules.{part_of}
use Rattle.bf_image.specs.Migrations.{old_of, target_at}
use Rattle.bf_image.proofs.owning.Armed.{HasArmedTarget, part_armed}
use Rattle.bf_image.proofs.planning.Numbered.{each_append}
use Rattle.bf_store.specs.Puts.{ArePuts, Put}
use Rattle.bf_store.proofs.images.puts.Goals as goal

abbrev Numbered : Type 0
Numbered = ℕ × List Value

-- what is true of all items is true of one of them
behind : (P : Put → Type 0) (f : Numbered → Put) (xs : List Numbered) (x : Numbered) (ys : List Numbered) → AllByRecursion P (map f (xs ++ x ∷ ys)) → P (f x)
behind P f [] x ys all = all.0
behind P f (z ∷ xs) x ys all = behind P f xs x ys all.1

-- the rows of granules are of armed targets
parts_armed : (old : Database) (m : Migrate) (granules : List Granule) → AllByRecursion (HasArmedTarget old m) (flat_map (part_of old m) granules)
parts_armed old m [] = tt
parts_armed old m (g ∷ granules) =
    each_append (HasArmedTarget old m) (part_of old m g) (flat_map (part_of old m) granules) (part_armed old m g) (parts_armed old m granules)

pub loop-target-preserved : goal.loop-target-preserved
loop-target-preserved c =
    let m = c.args.migration.now in
    let old = old_of m in
    let named : Numbered → Put = λ p. (target_at m p.0, p.1) in
    let x : Numbered = (c.in-Some.target, c.in-Some.row) in
    let yielded : List Numbered = c.loop-target.yielded in
    let rest : List Numbered = into_iter_items c.next.new.self in
    let left : yielded ++ x ∷ rest ≡ into_iter_items c.into_iter-target-iterator.result = ap (λ (rows : List Numbered). yielded ++ rows) (sym c.in-Some.ensures.steps.0) ∙ c.loop-target.invariant.left in
    let all : into_iter_items c.into_iter-target-iterator.result ≡ c.in_ok-rows.rows.items = c.into_iter-target-iterator.ensures.into_iter_gives.0 in
    let armed = behind (HasArmedTarget old m.plan.migrate) named yielded x rest
    (subst (λ (ps : List Put). AllByRecursion (HasArmedTarget old m.plan.migrate) ps) (sym (ap (map named) (left ∙ all) ∙ c.in_ok-rows.ensures)) (parts_armed old m.plan.migrate c.args.granules.now)) in
    record {
      left = append_assoc yielded (x ∷ []) rest ∙ left;
      put =
          subst (λ (rows : List Put). ArePuts m rows c.put_row.new.puts.items) (sym (map-append named yielded (x ∷ [])))
          (c.in_ok-put_row.ensures (map named yielded) c.loop-target.invariant.put armed);
    }

-- all of them are put
pub returns : goal.returns
returns c =
    let m = c.args.migration.now in
    let named : Numbered → Put = λ p. (target_at m p.0, p.1) in
    let yielded : List Numbered = c.loop-target.yielded in
    let left : List Numbered = into_iter_items c.loop-target.target-iterator in
    let none : left ≡ [] = nil_from_length left (omega (arith, c.in-None.ensures.steps.0, c.loop-target.target-iterator.rest.ok)) in
    let all : yielded ≡ c.in_ok-rows.rows.items =
    sym (append-nil yielded) ∙ ap (λ (rows : List Numbered). yielded ++ rows) (sym none) ∙ c.loop-target.invariant.left ∙ c.into_iter-target-iterator.ensures.into_iter_gives.0 in
    subst (λ (rows : List Put). ArePuts m rows c.loop-target.puts.items) (ap (map named) all ∙ c.in_ok-rows.ensures) c.loop-target.invariant.put
