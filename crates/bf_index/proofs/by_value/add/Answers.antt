use Rattle.std.proofs.Common.{◌≡◌, ◌++◌, ◌∷◌, [], List, ℕ, cond, Option, Some, unwrap_or, refl, ap, subst, ◌∙◌}
use Rattle.std.specs.BTreeMap as tree
use Rattle.std.specs.Option.{IsSome}
use Rattle.bf_base.specs.Lists.{same_key}
use Rattle.bf_base.specs.Values.{key_cmp}
use Rattle.bf_index.proofs.Indexed.{insert_last}
use Rattle.bf_index.proofs.by_value.add.Goals as goal

-- the value has rows
pub returns-in-Some-clause-added : goal.returns-in-Some-clause-added
returns-in-Some-clause-added c =
    let old = c.args.index.now in
    let value = c.args.value in
    let there = subst (λ (o : Option (List ℕ)). IsSome o) c.in-Some.ensures.value refl in
    let followed = (c.get_mut.follows.holds c.insert.new.self).3 there in
    let one_more : c.insert.new.self ≡ unwrap_or (tree.get key_cmp old value) [] ++ c.args.position ∷ [] =
    c.in_ok-insert.ensures.ok ∙ insert_last c.in-Some.positions.now c.len.result c.args.position c.len.ensures
    ∙ ap (λ (o : Option (List ℕ)). unwrap_or o [] ++ c.args.position ∷ []) c.in-Some.ensures.value in
    λ other. followed.0 other ∙ ap (λ (positions : List ℕ). cond (same_key value other) (Some positions) (tree.get key_cmp old other)) one_more

-- the value gets its first row
pub returns-clause-added : goal.returns-clause-added
returns-clause-added c =
    let old = c.args.index.now in
    let value = c.args.value in
    let first : c.of.result ≡ unwrap_or (tree.get key_cmp old value) [] ++ c.args.position ∷ [] =
    c.of.ensures ∙ c.in_ok-push.ensures.items
    ∙ ap (λ (before : List ℕ). before ++ c.args.position ∷ []) c.new-positions.ensures.items
    ∙ ap (λ (o : Option (List ℕ)). unwrap_or o [] ++ c.args.position ∷ []) c.in_default.ensures.value in
    λ other. c.in_ok-insert-2.ensures.updates.0 other
    ∙ ap (λ m. cond (same_key value other) (Some c.of.result) (tree.get key_cmp m other)) c.get_mut.follows.holds-at-none
    ∙ ap (λ (positions : List ℕ). cond (same_key value other) (Some positions) (tree.get key_cmp old other)) first
