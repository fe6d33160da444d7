-- Tuples, whose values are of their columns' kinds.
use Rattle.std.proofs.Common.{◌≡◌, true, false, List, [], ◌∷◌, length, eqb, eq-eqb, Some, refl, inl, inr}
use Rattle.std.specs.List.{flat_map, list_all, zip}
use Rattle.std.proofs.lemmas.Bool.{cases_Bool}
use Rattle.bf_base.specs.declared.table.Column.{Column}
use Rattle.bf_base.specs.declared.value.Value.{Value}
use Rattle.bf_base.specs.declared.table.Table.{Table}
use Rattle.bf_sql.specs.Objections.{literal_objections, tuple_objections}
use Rattle.bf_bind.specs.Parts.{is_of_kind}
use Rattle.bf_tree.specs.Settling.{first_of}
use Rattle.bf_tree.specs.declared.reply.Refusal.{Refusal}
use Rattle.bf_tree.specs.declared.reply.Refusal.TheVariants.{TypeMismatch}

abbrev pub kinds_objections : List (Column × Value) → List Refusal
kinds_objections ps = flat_map (λ p. literal_objections p.0 p.1) ps

pub none_misfits : (ps : List (Column × Value)) → list_all is_of_kind ps ≡ true → kinds_objections ps ≡ []
none_misfits [] all = refl
none_misfits (p ∷ ps) all = elim (cases_Bool (is_of_kind p)) [
  | inl fit ↦
      let rest : list_all is_of_kind ps ≡ true = rw fit at all in
      rw fit (none_misfits ps rest)
  | inr misfit ↦ let wrong : false ≡ true = rw misfit at all in absurd cc
]

pub first_misfit : (ps : List (Column × Value)) → list_all is_of_kind ps ≡ false → first_of (kinds_objections ps) ≡ Some TypeMismatch
first_misfit [] some = absurd cc
first_misfit (p ∷ ps) some = elim (cases_Bool (is_of_kind p)) [
  | inl fit ↦
      let rest : list_all is_of_kind ps ≡ false = rw fit at some in
      rw fit (first_misfit ps rest)
  | inr misfit ↦ rw misfit
]

module _ (table : Table) (tuple : List Value) (counted : length tuple ≡ length table.columns) where
  long_enough : eqb (length tuple) (length table.columns) ≡ true
  long_enough = eq-eqb (length tuple) (length table.columns) counted

  pub tuple_fits : list_all is_of_kind (zip table.columns tuple) ≡ true → tuple_objections table tuple ≡ []
  tuple_fits all = rw (long_enough, none_misfits (zip table.columns tuple) all)

  pub tuple_misfits : list_all is_of_kind (zip table.columns tuple) ≡ false → first_of (tuple_objections table tuple) ≡ Some TypeMismatch
  tuple_misfits some = rw long_enough (first_misfit (zip table.columns tuple) some)
