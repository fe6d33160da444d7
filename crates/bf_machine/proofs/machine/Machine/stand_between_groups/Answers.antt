-- At a COMMIT or ROLLBACK in no group, or before the next group.
use Rattle.std.proofs.Common.{◌≡◌, ℕ, ◌+◌, ◌<◌, length, ap, ◌∙◌, arith, inr}
use Rattle.bf_tree.specs.declared.script.Script.{Script}
use Rattle.bf_sql.specs.Groups.{session_at}
use Rattle.bf_machine.proofs.keeping.Standing.{ends_none, ends_one}
use Rattle.bf_machine.proofs.keeping.Stands.{group_here, is_there, numbers, own_there, refuse_here, statement_there, told_count}
use Rattle.bf_machine.proofs.machine.Machine.stand_between_groups.Goals as goal

pub stand_before_group-requires : goal.stand_before_group-requires
stand_before_group-requires g c =
    let there = is_there c.self.invariant.0 c.self.view_is c.requires.place c.index.ensures in
    let own = own_there there (c.as_slice.ensures ∙ ap (λ (script : Script). script.sessions) c.deref.ensures) c.index-as_slice-place.is c.as_slice-statements.ensures in
    let count : c.len-answered.result ≡ length c.index.result.now.replies.items =
    omega (arith, c.len-answered.ensures, c.index.result.now.replies.ok.0) in
    let told = told_count there c.requires.current c.requires.closed in
    let below : length c.index.result.now.replies.items < length (session_at c.args.self.now.script c.args.session).statements =
    omega (arith, c.requires.left, told) in
    let here = statement_there own count c.index-statements-answered.is in
    let goes_on = ends_none c.index-statements-answered.result c.in_default.not-Commit c.in_default.not-Rollback in
    record {
      place = c.requires.place;
      current = c.requires.current;
      closed = c.requires.closed;
      next = group_here there c.requires.current c.requires.closed below here goes_on;
    }

pub overflow_cast-result : goal.overflow_cast-result
overflow_cast-result g c =
    let there = is_there c.self.invariant.0 c.self.view_is c.requires.place c.index.ensures in
    let count : c.len-answered.result ≡ length c.index.result.now.replies.items =
    omega (arith, c.len-answered.ensures, c.index.result.now.replies.ok.0) in
    let told = told_count there c.requires.current c.requires.closed in
    let below : length c.index.result.now.replies.items < length (session_at c.args.self.now.script c.args.session).statements =
    omega (arith, c.requires.left, told) in
    omega (arith, count, below, numbers there)

pub overflow_add-result : goal.overflow_add-result
overflow_add-result g c =
    let there = is_there c.self.invariant.0 c.self.view_is c.requires.place c.index.ensures in
    let count : c.len-answered.result ≡ length c.index.result.now.replies.items =
    omega (arith, c.len-answered.ensures, c.index.result.now.replies.ok.0) in
    let told = told_count there c.requires.current c.requires.closed in
    let below : length c.index.result.now.replies.items < length (session_at c.args.self.now.script c.args.session).statements =
    omega (arith, c.requires.left, told) in
    omega (arith, count, below, numbers there)

pub returns-in-Commit : goal.returns-in-Commit
returns-in-Commit g c =
    let there = is_there c.self.invariant.0 c.self.view_is c.requires.place c.index.ensures in
    let own = own_there there (c.as_slice.ensures ∙ ap (λ (script : Script). script.sessions) c.deref.ensures) c.index-as_slice-place.is c.as_slice-statements.ensures in
    let count : c.len-answered.result ≡ length c.index.result.now.replies.items =
    omega (arith, c.len-answered.ensures, c.index.result.now.replies.ok.0) in
    let told = told_count there c.requires.current c.requires.closed in
    let below : length c.index.result.now.replies.items < length (session_at c.args.self.now.script c.args.session).statements =
    omega (arith, c.requires.left, told) in
    let here = statement_there own count c.index-statements-answered.is in
    let ends = ends_one c.index-statements-answered.result c.in-Commit.is in
    inr (refuse_here there c.requires.current c.requires.closed below here ends, ap (λ (n : ℕ). n + 1) (count ∙ told))
