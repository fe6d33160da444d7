-- One table more is counted behind those before.
use Rattle.std.proofs.Common.{◌≡◌, ℕ, List, [], ◌∷◌, ◌++◌, map, sym, ap, ◌∙◌, append_assoc}
use Rattle.std.specs.Map.Iter.{deref}
use Rattle.std.proofs.lemmas.List.{map-append}
use Rattle.bf_base.specs.declared.table.Table.{Table}
use Rattle.bf_sql.specs.Bound.{catalog_of}
use Rattle.bf_run.proofs.Settling.{counted}
use Rattle.bf_run.proofs.auditing.count_rows.Goals as goal

pub loop-table-preserved : goal.loop-table-preserved
loop-table-preserved c =
    let db = c.args.live.now in
    let so_far = map deref c.loop-table.yielded in
    let t = c.in-Some.table.now in
    let rest = c.next.new.self in
    let whole : so_far ++ t ∷ rest ≡ (catalog_of db).tables = ap (λ (ts : List Table). so_far ++ ts) (sym c.in-Some.ensures.steps) ∙ c.loop-table.invariant.left in
    let more : map deref (c.loop-table.yielded ++ c.in-Some.table ∷ []) ≡ so_far ++ t ∷ [] = map-append deref c.loop-table.yielded (c.in-Some.table ∷ []) in
    let one : ◌≡◌ {A = List ℕ × ℕ} (c.in_ok-name.name, c.row_count-rows.result) (counted db t) = λ i. (c.in_ok-name.ensures i, c.row_count-rows.ensures i) in
    record {
      can = tt;
      ends = tt;
      left = ap (λ (ts : List Table). ts ++ rest) more ∙ (append_assoc so_far (t ∷ []) rest ∙ whole);
      built =
          c.in_ok-push.ensures.items ∙ ap (λ (xs : List (List ℕ × ℕ)). xs ++ (c.in_ok-name.name, c.row_count-rows.result) ∷ []) c.loop-table.invariant.built
          ∙ ap (λ (x : List ℕ × ℕ). map (counted db) so_far ++ x ∷ []) one
          ∙ sym (ap (map (counted db)) more ∙ map-append (counted db) so_far (t ∷ []));
    }
