use Rattle.std.proofs.Common.{◌++◌, ◌∷◌, [], map, Bor, Some, None, sym, ap, ◌∙◌, append_assoc}
use Rattle.std.proofs.lemmas.List.{append-nil, map-append}
use Rattle.bf_base.specs.declared.row.Key.{Key}
use Rattle.bf_base.specs.declared.row.Row.{Row}
use Rattle.bf_heap.specs.Heaps.{Entry}
use Rattle.bf_access.proofs.Listing.{entries_at-last}
use Rattle.bf_access.proofs.by_index.rows_at.Goals as goal

-- one more row, under the next key
pub loop-key-preserved-in-Continue-branch-2 : goal.loop-key-preserved-in-Continue-branch-2
loop-key-preserved-in-Continue-branch-2 c = record {
  can = tt;
  ends = tt;
  left = rw append_assoc (ap (λ r. c.loop-key.yielded ++ r) (sym c.in-Some.ensures.steps.0) ∙ c.loop-key.invariant.left);
  found =
      let seen = λ (entry : Key × Bor Row). let e : Entry = (entry.0, entry.1.now) in e in
      ap (map seen) c.in_ok-push.ensures.items
      ∙ map-append seen c.loop-key.rows.items ((c.in-Some.key, c.in-Some-get.row) ∷ [])
      ∙ ap (λ es. es ++ (c.in-Some.key, c.in-Some-get.row.now) ∷ []) c.loop-key.invariant.found
      ∙ sym (entries_at-last c.args.heap.now.entries c.loop-key.yielded c.in-Some.key (Some c.in-Some-get.row.now) (sym c.in-Some-get.ensures));
}

-- or none
pub loop-key-preserved : goal.loop-key-preserved
loop-key-preserved c = record {
  can = tt;
  ends = tt;
  left = rw append_assoc (ap (λ r. c.loop-key.yielded ++ r) (sym c.in-Some.ensures.steps.0) ∙ c.loop-key.invariant.left);
  found = c.loop-key.invariant.found ∙ sym (entries_at-last c.args.heap.now.entries c.loop-key.yielded c.in-Some.key None (sym c.in_default.ensures) ∙ append-nil _);
}
