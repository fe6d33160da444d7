use Rattle.std.proofs.Common.{◌≡◌, Some, None, is_some, sym, ap, subst, ◌∙◌}
use Rattle.std.specs.Prelude.{IfSome}
use Rattle.bf_tree.specs.Places.{table_named}
use Rattle.bf_sql.specs.Bound.{catalog_of}
use Rattle.bf_recover.specs.Commits.{is_fit_change, write_by}
use Rattle.bf_recover.proofs.Legality.{Stands, key_within, legal_if, made_known, none_if_unknown, not_if_gone, not_if_taken, not_if_unfit, not_if_unknown, stands_if_known, table_stands}
use Rattle.bf_recover.proofs.commits.legal_write.Goals as goal

-- no table has the name
pub returns-in_default-clause-legal : goal.returns-in_default-clause-legal
returns-in_default-clause-legal c =
    let lazy = c.args.store.now.lazy in
    let name = c.args.write.table in
    let unknown : None ≡ table_named (catalog_of lazy.live) name = c.in_default.ensures ∙ ap (λ k. table_named k name) (c.catalog.ensures.catalog ∙ ap catalog_of c.live.ensures.live) in
    sym (not_if_unknown lazy name c.args.write.change (none_if_unknown lazy.live name unknown))

pub keyed-requires : goal.keyed-requires
keyed-requires c =
    let lazy = c.args.store.now.lazy in
    let name = c.args.write.table in
    let known : Some c.in-Some.table.now ≡ table_named (catalog_of lazy.live) name = c.in-Some.ensures ∙ ap (λ k. table_named k name) (c.catalog.ensures.catalog ∙ ap catalog_of c.live.ensures.live) in
    key_within lazy.live name c.in-Some.table.now c.live.ensures.lazy_state.live (stands_if_known lazy.live name c.in-Some.table.now known)

-- the table does not admit the row
pub returns-in_default-2-clause-legal : goal.returns-in_default-2-clause-legal
returns-in_default-2-clause-legal c =
    let lazy = c.args.store.now.lazy in
    let name = c.args.write.table in
    let change = c.args.write.change in
    let known : Some c.in-Some.table.now ≡ table_named (catalog_of lazy.live) name = c.in-Some.ensures ∙ ap (λ k. table_named k name) (c.catalog.ensures.catalog ∙ ap catalog_of c.live.ensures.live) in
    let stands : Stands lazy.live name c.in-Some.table.now = stands_if_known lazy.live name c.in-Some.table.now known in
    sym (not_if_unfit lazy name change (ap (λ t. is_fit_change t change) stands.under_name ∙ sym c.in_ok-write.ensures.fit ∙ ap is_some c.in_default-2.is))

pub is_free-requires-clause-stands : goal.is_free-requires-clause-stands
is_free-requires-clause-stands c =
    let lazy = c.args.store.now.lazy in
    let name = c.args.write.table in
    let change = c.args.write.change in
    let known : Some c.in-Some.table.now ≡ table_named (catalog_of lazy.live) name = c.in-Some.ensures ∙ ap (λ k. table_named k name) (c.catalog.ensures.catalog ∙ ap catalog_of c.live.ensures.live) in
    let made : c.in-Some-2.write ≡ write_by c.in-Some.table.now name change = subst (λ o. IfSome o (λ w. w ≡ write_by c.in-Some.table.now name change)) c.in-Some-2.is c.in_ok-write.ensures.keyed in
    table_stands lazy name change c.live.ensures.lazy_state c.in-Some.table.now (stands_if_known lazy.live name c.in-Some.table.now known) c.in-Some-2.write made

-- an owner of its key is still to move
pub returns-then-not-free-clause-legal : goal.returns-then-not-free-clause-legal
returns-then-not-free-clause-legal c =
    let lazy = c.args.store.now.lazy in
    let name = c.args.write.table in
    let change = c.args.write.change in
    let known : Some c.in-Some.table.now ≡ table_named (catalog_of lazy.live) name = c.in-Some.ensures ∙ ap (λ k. table_named k name) (c.catalog.ensures.catalog ∙ ap catalog_of c.live.ensures.live) in
    let made : c.in-Some-2.write ≡ write_by c.in-Some.table.now name change = subst (λ o. IfSome o (λ w. w ≡ write_by c.in-Some.table.now name change)) c.in-Some-2.is c.in_ok-write.ensures.keyed in
    sym (not_if_taken lazy name change c.live.ensures.lazy_state c.in-Some.table.now (stands_if_known lazy.live name c.in-Some.table.now known) c.in-Some-2.write made (sym c.in_ok-free.ensures.free ∙ c.if-not-free.true))

-- the row that it removes is not there
pub returns-then-not-is_kept_if_removed-clause-legal : goal.returns-then-not-is_kept_if_removed-clause-legal
returns-then-not-is_kept_if_removed-clause-legal c =
    let lazy = c.args.store.now.lazy in
    let name = c.args.write.table in
    let change = c.args.write.change in
    let known : Some c.in-Some.table.now ≡ table_named (catalog_of lazy.live) name = c.in-Some.ensures ∙ ap (λ k. table_named k name) (c.catalog.ensures.catalog ∙ ap catalog_of c.live.ensures.live) in
    let made : c.in-Some-2.write ≡ write_by c.in-Some.table.now name change = subst (λ o. IfSome o (λ w. w ≡ write_by c.in-Some.table.now name change)) c.in-Some-2.is c.in_ok-write.ensures.keyed in
    sym (not_if_gone lazy name change c.live.ensures.lazy_state c.in-Some.table.now (stands_if_known lazy.live name c.in-Some.table.now known) c.in-Some-2.write made
    (sym c.in_ok-free.ensures.free ∙ c.if-not-free.false) (sym c.is_kept_if_removed.ensures ∙ c.if-not-is_kept_if_removed.true))

pub returns-clause-legal : goal.returns-clause-legal
returns-clause-legal c =
    let lazy = c.args.store.now.lazy in
    let name = c.args.write.table in
    let change = c.args.write.change in
    let known : Some c.in-Some.table.now ≡ table_named (catalog_of lazy.live) name = c.in-Some.ensures ∙ ap (λ k. table_named k name) (c.catalog.ensures.catalog ∙ ap catalog_of c.live.ensures.live) in
    let made : c.in-Some-2.write ≡ write_by c.in-Some.table.now name change = subst (λ o. IfSome o (λ w. w ≡ write_by c.in-Some.table.now name change)) c.in-Some-2.is c.in_ok-write.ensures.keyed in
    sym (legal_if lazy name change c.live.ensures.lazy_state c.in-Some.table.now (stands_if_known lazy.live name c.in-Some.table.now known) c.in-Some-2.write made
    (sym c.in_ok-free.ensures.free ∙ c.if-not-free.false) (sym c.in_ok-write.ensures.fit ∙ ap is_some c.in-Some-2.is) (sym c.is_kept_if_removed.ensures ∙ c.if-not-is_kept_if_removed.false))

pub returns-clause-write : goal.returns-clause-write
returns-clause-write c =
    let lazy = c.args.store.now.lazy in
    let name = c.args.write.table in
    let change = c.args.write.change in
    let known : Some c.in-Some.table.now ≡ table_named (catalog_of lazy.live) name = c.in-Some.ensures ∙ ap (λ k. table_named k name) (c.catalog.ensures.catalog ∙ ap catalog_of c.live.ensures.live) in
    let made : c.in-Some-2.write ≡ write_by c.in-Some.table.now name change = subst (λ o. IfSome o (λ w. w ≡ write_by c.in-Some.table.now name change)) c.in-Some-2.is c.in_ok-write.ensures.keyed in
    made_known lazy name change c.live.ensures.lazy_state c.in-Some.table.now (stands_if_known lazy.live name c.in-Some.table.now known) c.in-Some-2.write made
