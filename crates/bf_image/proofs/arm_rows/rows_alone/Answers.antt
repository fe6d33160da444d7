use Rattle.std.proofs.Common.{◌≡◌, List, [], ◌∷◌, map, IfOk, ap, sym, subst, ◌∙◌, inl, inr}
use Rattle.std.specs.List.{AllByRecursion}
use Rattle.std.proofs.lemmas.List.Elements.{All-from_recursion}
use Rattle.bf_base.specs.declared.value.Value.{Value}
use Rattle.bf_image.specs.ArmRows.{IsUnobjected, made_of}
use Rattle.bf_image.proofs.arm_rows.Made.{found_group, found_singles, each_made, each_unobjected}
use Rattle.bf_image.proofs.arm_rows.rows_alone.Goals as goal

pub row_of_group-requires : goal.row_of_group-requires
row_of_group-requires c =
    let arm = c.args.arm.now in
    let found = c.as_slice.result.now in
    let groups = found_group arm (λ row. row.now) c.args.from.now found (ap (map (λ row. row.now)) c.as_slice.ensures.value ∙ c.in_ok-found.ensures) c.in-ByGroup.is c.requires.one in
    All-from_recursion (IsUnobjected arm) _ (subst (λ (all : List (List (List Value))). AllByRecursion (IsUnobjected arm) all) groups c.requires.can)

pub returns-in-ByGroup : goal.returns-in-ByGroup
returns-in-ByGroup c =
    let arm = c.args.arm.now in
    let found = c.as_slice.result.now in
    let groups = found_group arm (λ row. row.now) c.args.from.now found (ap (map (λ row. row.now)) c.as_slice.ensures.value ∙ c.in_ok-found.ensures) c.in-ByGroup.is c.requires.one in
    subst (λ (all : List (List Value)). IfOk c.row_of_group.result (λ made. made.items ≡ all)) (ap (map (made_of arm)) (sym groups)) c.row_of_group.ensures

pub rows_of_each-requires : goal.rows_of_each-requires
rows_of_each-requires c =
    let arm = c.args.arm.now in
    let found = c.as_slice-in-ByFrom.result.now in
    let singles = found_singles arm (λ row. row.now) c.args.from.now found (ap (map (λ row. row.now)) c.as_slice-in-ByFrom.ensures.value ∙ c.in_ok-found.ensures) (λ e. elim c.in-ByFrom.is [ inl from ↦ cc | inr other ↦ elim other [ inl join ↦ cc | inr pair ↦ cc ] ]) in
    All-from_recursion (λ row. IsUnobjected arm (row.now ∷ [])) found (each_unobjected arm (λ row. row.now) found (subst (λ (all : List (List (List Value))). AllByRecursion (IsUnobjected arm) all) singles c.requires.can))

pub returns : goal.returns
returns c =
    let arm = c.args.arm.now in
    let found = c.as_slice-in-ByFrom.result.now in
    let singles = found_singles arm (λ row. row.now) c.args.from.now found (ap (map (λ row. row.now)) c.as_slice-in-ByFrom.ensures.value ∙ c.in_ok-found.ensures) (λ e. elim c.in-ByFrom.is [ inl from ↦ cc | inr other ↦ elim other [ inl join ↦ cc | inr pair ↦ cc ] ]) in
    subst (λ (all : List (List Value)). IfOk c.rows_of_each.result (λ made. made.items ≡ all)) (sym (ap (map (made_of arm)) singles ∙ each_made arm (λ row. row.now) found)) c.rows_of_each.ensures
