-- At the next statement of the open group, or at its end.
use Rattle.std.proofs.Common.{◌≡◌, ℕ, ◌+◌, ◌<◌, ◌≤◌, List, length, refl, sym, ap, subst, ◌∙◌, arith, inl}
use Rattle.bf_tree.specs.declared.script.Script.{Script}
use Rattle.bf_tree.specs.declared.statement.Statement.{Statement}
use Rattle.bf_sql.specs.Groups.{session_at}
use Rattle.bf_machine.specs.interleaving.Calls.{GoesOn}
use Rattle.bf_machine.proofs.keeping.Standing.{ends_none}
use Rattle.bf_machine.proofs.keeping.Stands.{abort_at_end, abort_here, bounds, commit_at_end, commit_here, goes_on_here, is_there, own_there, statement_there}
use Rattle.bf_machine.proofs.machine.Machine.stand_in_group.Goals as goal

pub bounds-statements-answered : goal.bounds-statements-answered
bounds-statements-answered g c =
    let there = is_there c.self.invariant.0 c.self.view_is c.requires.place c.index-so_far.ensures in
    let own = own_there there (c.as_slice.ensures ∙ ap (λ (script : Script). script.sessions) c.deref.ensures) c.index-as_slice-place.is c.as_slice-statements.ensures in
    let count : c.len-answered.result ≡ length c.index-so_far.result.now.replies.items =
    omega (arith, c.len-answered.ensures, c.index-so_far.result.now.replies.ok.0) in
    let limits = bounds there c.in-Some.group c.in-Some.is in
    let size : length c.as_slice-statements.result.now ≡ length (session_at c.args.self.now.script c.args.session).statements =
    ap (λ (ss : List Statement). length ss) own in
    omega (arith, c.if-answered-group.true, count, size, limits.2)

pub returns-in-Commit : goal.returns-in-Commit
returns-in-Commit g c =
    let there = is_there c.self.invariant.0 c.self.view_is c.requires.place c.index-so_far.ensures in
    let own = own_there there (c.as_slice.ensures ∙ ap (λ (script : Script). script.sessions) c.deref.ensures) c.index-as_slice-place.is c.as_slice-statements.ensures in
    let count : c.len-answered.result ≡ length c.index-so_far.result.now.replies.items =
    omega (arith, c.len-answered.ensures, c.index-so_far.result.now.replies.ok.0) in
    let less : length c.index-so_far.result.now.replies.items < c.in-Some.group.last = omega (arith, c.if-answered-group.true, count) in
    let here = statement_there own count c.index-statements-answered.is in
    commit_here there c.requires.current c.in-Some.group c.in-Some.is less here c.in-Commit.is

pub returns-in-Rollback : goal.returns-in-Rollback
returns-in-Rollback g c =
    let there = is_there c.self.invariant.0 c.self.view_is c.requires.place c.index-so_far.ensures in
    let own = own_there there (c.as_slice.ensures ∙ ap (λ (script : Script). script.sessions) c.deref.ensures) c.index-as_slice-place.is c.as_slice-statements.ensures in
    let count : c.len-answered.result ≡ length c.index-so_far.result.now.replies.items =
    omega (arith, c.len-answered.ensures, c.index-so_far.result.now.replies.ok.0) in
    let less : length c.index-so_far.result.now.replies.items < c.in-Some.group.last = omega (arith, c.if-answered-group.true, count) in
    let here = statement_there own count c.index-statements-answered.is in
    abort_here there c.requires.current c.in-Some.group c.in-Some.is less here c.in-Rollback.is

pub returns-in_default-statements : goal.returns-in_default-statements
returns-in_default-statements g c =
    let there = is_there c.self.invariant.0 c.self.view_is c.requires.place c.index-so_far.ensures in
    let own = own_there there (c.as_slice.ensures ∙ ap (λ (script : Script). script.sessions) c.deref.ensures) c.index-as_slice-place.is c.as_slice-statements.ensures in
    let count : c.len-answered.result ≡ length c.index-so_far.result.now.replies.items =
    omega (arith, c.len-answered.ensures, c.index-so_far.result.now.replies.ok.0) in
    let less : length c.index-so_far.result.now.replies.items < c.in-Some.group.last = omega (arith, c.if-answered-group.true, count) in
    let here = statement_there own count c.index-statements-answered.is in
    let goes_on = ends_none c.index-statements-answered.result c.in_default-statements.not-Commit c.in_default-statements.not-Rollback in
    inl (subst (λ (n : ℕ). GoesOn c.args.self.now c.args.session (n + 1)) (sym count) (goes_on_here there c.requires.current c.in-Some.group c.in-Some.is less here goes_on))

pub overflow_sub-group : goal.overflow_sub-group
overflow_sub-group g c =
    let there = is_there c.self.invariant.0 c.self.view_is c.requires.place c.index-so_far.ensures in
    (bounds there c.in-Some.group c.in-Some.is).0

pub bounds-statements-group : goal.bounds-statements-group
bounds-statements-group g c =
    let there = is_there c.self.invariant.0 c.self.view_is c.requires.place c.index-so_far.ensures in
    let own = own_there there (c.as_slice.ensures ∙ ap (λ (script : Script). script.sessions) c.deref.ensures) c.index-as_slice-place.is c.as_slice-statements.ensures in
    let limits = bounds there c.in-Some.group c.in-Some.is in
    let size : length c.as_slice-statements.result.now ≡ length (session_at c.args.self.now.script c.args.session).statements =
    ap (λ (ss : List Statement). length ss) own in
    omega (arith, size, limits.0, limits.1, limits.2)

pub returns-in-Begin : goal.returns-in-Begin
returns-in-Begin g c =
    let there = is_there c.self.invariant.0 c.self.view_is c.requires.place c.index-so_far.ensures in
    let own = own_there there (c.as_slice.ensures ∙ ap (λ (script : Script). script.sessions) c.deref.ensures) c.index-as_slice-place.is c.as_slice-statements.ensures in
    let count : c.len-answered.result ≡ length c.index-so_far.result.now.replies.items =
    omega (arith, c.len-answered.ensures, c.index-so_far.result.now.replies.ok.0) in
    let full : c.in-Some.group.last ≤ length c.index-so_far.result.now.replies.items = omega (arith, c.if-answered-group.false, count) in
    let here = statement_there own refl c.index-statements-group.is in
    abort_at_end there c.requires.current c.in-Some.group c.in-Some.is full here c.in-Begin.is

pub returns-in_default-statements-2 : goal.returns-in_default-statements-2
returns-in_default-statements-2 g c =
    let there = is_there c.self.invariant.0 c.self.view_is c.requires.place c.index-so_far.ensures in
    let own = own_there there (c.as_slice.ensures ∙ ap (λ (script : Script). script.sessions) c.deref.ensures) c.index-as_slice-place.is c.as_slice-statements.ensures in
    let count : c.len-answered.result ≡ length c.index-so_far.result.now.replies.items =
    omega (arith, c.len-answered.ensures, c.index-so_far.result.now.replies.ok.0) in
    let full : c.in-Some.group.last ≤ length c.index-so_far.result.now.replies.items = omega (arith, c.if-answered-group.false, count) in
    let here = statement_there own refl c.index-statements-group.is in
    commit_at_end there c.requires.current c.in-Some.group c.in-Some.is full here c.in_default-statements-2.not-Begin
