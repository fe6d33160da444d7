-- What a statement needs stands among the candidates that are told.
use Rattle.std.proofs.Common.{◌≡◌, List, map, Some, sym, ap, ◌∙◌, inl, inr}
use Rattle.std.specs.Option.{option_map}
use Rattle.std.proofs.lemmas.Result.{IfOk-weaker}
use Rattle.bf_base.specs.declared.value.Value.{Value}
use Rattle.bf_base.specs.Tables.{key_of}
use Rattle.bf_tree.specs.declared.bound.Action.{Action}
use Rattle.bf_transpose.specs.Candidates.{candidates_for, keyed, keys_of}
use Rattle.bf_transpose.proofs.Needed.{all_told}
use Rattle.bf_transpose.proofs.by_key.candidates_of.Goals as goal

pub returns-in_ok-found-in-Insert-clause-all : goal.returns-in_ok-found-in-Insert-clause-all
returns-in_ok-found-in-Insert-clause-all c =
    let m = c.args.migration.now in
    let act = c.args.bound.now.action in
    all_told m c.requires.lawful act c.requires.bound (Some c.in_ok-found-in-Insert.found)
    (ap Some (c.in_ok-found-in-Insert.ensures ∙ ap (λ (rows : List (List Value)). candidates_for m (c.in-Insert.table, map (key_of c.in-Insert.table) rows)) c.as_slice.ensures)
    ∙ ap (λ (a : Action). option_map (candidates_for m) (keys_of a)) (sym c.in-Insert.is))

pub returns-in-Select-clause-all : goal.returns-in-Select-clause-all
returns-in-Select-clause-all c =
    let m = c.args.migration.now in
    let act = c.args.bound.now.action in
    let fixed : keyed c.in-Select.table c.in-Select.fixed ≡ keys_of act = elim c.in-Select.is as (λ _. keyed c.in-Select.table c.in-Select.fixed ≡ keys_of act) [
      | inl select ↦ ap keys_of (sym select.2)
      | inr other ↦ elim other as (λ _. keyed c.in-Select.table c.in-Select.fixed ≡ keys_of act) [
        | inl update ↦ ap keys_of (sym update.2)
        | inr delete ↦ ap keys_of (sym delete.1)
      ]
    ] in
    IfOk-weaker c.candidates_of_fixed.result _ _ (λ found told. all_told m c.requires.lawful act c.requires.bound found (told ∙ ap (option_map (candidates_for m)) fixed)) c.candidates_of_fixed.ensures
