use Rattle.std.proofs.Common.{◌≡◌, true, List, is_some, sym, ap, subst, ◌∙◌}
use Rattle.std.specs.Prelude.{IfSome}
use Rattle.std.specs.List.{list_all}
use Rattle.bf_base.specs.Maps.{is_map}
use Rattle.bf_txn.specs.declared.write.Write.{Write}
use Rattle.bf_txn.specs.Writes.{table_key_cmp, table_key_of}
use Rattle.bf_store.specs.Calls.{with_commit}
use Rattle.bf_store.specs.States.{IsOpenLazily}
use Rattle.bf_recover.specs.Commits.{is_legal_write, writes_of}
use Rattle.bf_recover.proofs.Committing.{legal_if_each, not_if_fallen, not_if_none, not_if_one_not}
use Rattle.bf_recover.proofs.Opening.{opens}
use Rattle.bf_recover.proofs.commits.commit.Goals as goal

pub returns-then-is_empty-clause-legal : goal.returns-then-is_empty-clause-legal
returns-then-is_empty-clause-legal c = not_if_none c.args.store.now.lazy c.args.writes (sym c.is_empty.ensures ∙ c.if-is_empty.true)

pub returns-in_default-clause-legal : goal.returns-in_default-clause-legal
returns-in_default-clause-legal c = not_if_one_not c.args.store.now.lazy c.args.writes (ap is_some (sym c.in_default.is) ∙ c.in_ok-legal.ensures.legal)

pub returns-then-not-rise-clause-legal : goal.returns-then-not-rise-clause-legal
returns-then-not-rise-clause-legal c =
    let keyed : List Write = writes_of c.args.store.now.lazy.live c.args.writes in
    let items : c.in-Some.legal.items ≡ keyed = subst (λ o. IfSome o (λ ws. ws.items ≡ keyed)) c.in-Some.is c.in_ok-legal.ensures.writes in
    not_if_fallen c.args.store.now.lazy c.args.writes (sym c.if-not-rise.true ∙ c.rise.ensures ∙ ap (is_map table_key_cmp table_key_of) (c.deref.ensures.value ∙ items))

pub workspace_of-requires : goal.workspace_of-requires
workspace_of-requires c = ap (is_map table_key_cmp table_key_of) (sym c.deref.ensures.value) ∙ sym c.rise.ensures ∙ c.if-not-rise.false

pub commit-requires : goal.commit-requires
commit-requires c =
    let lazy = c.args.store.now.lazy in
    let keyed : List Write = writes_of lazy.live c.args.writes in
    let items : c.in-Some.legal.items ≡ keyed = subst (λ o. IfSome o (λ ws. ws.items ≡ keyed)) c.in-Some.is c.in_ok-legal.ensures.writes in
    let each : list_all (is_legal_write lazy) keyed ≡ true = sym c.in_ok-legal.ensures.legal ∙ ap is_some c.in-Some.is in
    let rising : is_map table_key_cmp table_key_of keyed ≡ true = ap (is_map table_key_cmp table_key_of) (sym (c.deref.ensures.value ∙ items)) ∙ sym c.rise.ensures ∙ c.if-not-rise.false in
    record { «open» = subst (λ (ws : List Write). IsOpenLazily lazy ws) (sym (c.in_ok-workspace.ensures ∙ items)) (opens lazy c.live.ensures.lazy_state c.args.writes each rising) }

pub returns-clause-legal : goal.returns-clause-legal
returns-clause-legal c =
    let lazy = c.args.store.now.lazy in
    let keyed : List Write = writes_of lazy.live c.args.writes in
    let items : c.in-Some.legal.items ≡ keyed = subst (λ o. IfSome o (λ ws. ws.items ≡ keyed)) c.in-Some.is c.in_ok-legal.ensures.writes in
    let each : list_all (is_legal_write lazy) keyed ≡ true = sym c.in_ok-legal.ensures.legal ∙ ap is_some c.in-Some.is in
    let rising : is_map table_key_cmp table_key_of keyed ≡ true = ap (is_map table_key_cmp table_key_of) (sym (c.deref.ensures.value ∙ items)) ∙ sym c.rise.ensures ∙ c.if-not-rise.false in
    legal_if_each lazy c.args.writes (sym c.is_empty.ensures ∙ c.if-is_empty.false) (sym rising) (sym each)

pub returns-clause-applied : goal.returns-clause-applied
returns-clause-applied c =
    let lazy = c.args.store.now.lazy in
    let keyed : List Write = writes_of lazy.live c.args.writes in
    let items : c.in-Some.legal.items ≡ keyed = subst (λ o. IfSome o (λ ws. ws.items ≡ keyed)) c.in-Some.is c.in_ok-legal.ensures.writes in
    λ _. c.in_ok-commit.ensures.ok.state ∙ ap (with_commit lazy) (c.in_ok-workspace.ensures ∙ items)
