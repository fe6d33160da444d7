-- The group begins, or begins again, or waits for the one that its last death named.
use Rattle.std.proofs.Common.{◌≡◌, ℕ, ◌+◌, ◌-◌, ◌<◌, List, length, sym, ap, ◌∙◌, arith}
use Rattle.std.specs.Prelude.{slice_get}
use Rattle.bf_machine.proofs.keeping.Stands.{begin_behind, begin_first, begin_other, begin_unnamed, is_there, latest_within, named_session, named_start, named_within_sessions, told, wait_for, well_opened}
use Rattle.bf_machine.proofs.machine.Machine.stand_before_group.Goals as goal

pub returns-then-so_far-eq0 : goal.returns-then-so_far-eq0
returns-then-so_far-eq0 g c =
    let there = is_there c.self.invariant.0 c.self.view_is c.requires.place c.index-so_far.ensures in
    begin_first there c.requires.current c.requires.closed c.requires.next c.if-so_far-eq0.true

pub index-began-requires : goal.index-began-requires
index-began-requires g c =
    let there = is_there c.self.invariant.0 c.self.view_is c.requires.place c.index-so_far.ensures in
    let some : 0 < c.index-so_far.result.now.latest = omega (arith, c.if-so_far-eq0.false) in
    omega (arith, some, latest_within there c.requires.current c.requires.closed c.requires.next some, c.self.inside.began.ok.0)

pub returns-then-began-len : goal.returns-then-began-len
returns-then-began-len g c =
    let there = is_there c.self.invariant.0 c.self.view_is c.requires.place c.index-so_far.ensures in
    let some : 0 < c.index-so_far.result.now.latest = omega (arith, c.if-so_far-eq0.false) in
    let count : c.len.result ≡ length c.index-so_far.result.now.replies.items =
    omega (arith, c.len.ensures, c.index-so_far.result.now.replies.ok.0) in
    begin_other there c.requires.current c.requires.closed c.requires.next some c.index-began.ensures (λ same. omega (arith, same, count, c.if-began-len.true))

pub returns-in_default : goal.returns-in_default
returns-in_default g c =
    let there = is_there c.self.invariant.0 c.self.view_is c.requires.place c.index-so_far.ensures in
    let some : 0 < c.index-so_far.result.now.latest = omega (arith, c.if-so_far-eq0.false) in
    let count : c.len.result ≡ length c.index-so_far.result.now.replies.items =
    omega (arith, c.len.ensures, c.index-so_far.result.now.replies.ok.0) in
    let again : c.index-began.result.now.first ≡ length c.index-so_far.result.now.replies.items + 1 = omega (arith, c.if-began-len.false, count) in
    let deaths = ap (λ (hs : List ℕ). slice_get hs (length hs - 1)) c.deref.ensures.value in
    begin_unnamed there c.requires.current c.requires.closed c.requires.next some c.index-began.ensures again (sym (c.in_default.ensures.value ∙ deaths))

pub overflow_sub-older : goal.overflow_sub-older
overflow_sub-older g c =
    let there = is_there c.self.invariant.0 c.self.view_is c.requires.place c.index-so_far.ensures in
    let some : 0 < c.index-so_far.result.now.latest = omega (arith, c.if-so_far-eq0.false) in
    let count : c.len.result ≡ length c.index-so_far.result.now.replies.items =
    omega (arith, c.len.ensures, c.index-so_far.result.now.replies.ok.0) in
    let again : c.index-began.result.now.first ≡ length c.index-so_far.result.now.replies.items + 1 = omega (arith, c.if-began-len.false, count) in
    let deaths = ap (λ (hs : List ℕ). slice_get hs (length hs - 1)) c.deref.ensures.value in
    let last = sym (c.in-Some.ensures.value ∙ deaths) in
    (named_start there c.requires.current c.requires.closed c.requires.next some c.index-began.ensures again last).0

pub index-named-requires : goal.index-named-requires
index-named-requires g c =
    let there = is_there c.self.invariant.0 c.self.view_is c.requires.place c.index-so_far.ensures in
    let some : 0 < c.index-so_far.result.now.latest = omega (arith, c.if-so_far-eq0.false) in
    let count : c.len.result ≡ length c.index-so_far.result.now.replies.items =
    omega (arith, c.len.ensures, c.index-so_far.result.now.replies.ok.0) in
    let again : c.index-began.result.now.first ≡ length c.index-so_far.result.now.replies.items + 1 = omega (arith, c.if-began-len.false, count) in
    let deaths = ap (λ (hs : List ℕ). slice_get hs (length hs - 1)) c.deref.ensures.value in
    let last = sym (c.in-Some.ensures.value ∙ deaths) in
    let within = named_start there c.requires.current c.requires.closed c.requires.next some c.index-began.ensures again last in
    omega (arith, within.0, within.1, c.self.inside.began.ok.0)

pub overflow_sub-named : goal.overflow_sub-named
overflow_sub-named g c =
    let there = is_there c.self.invariant.0 c.self.view_is c.requires.place c.index-so_far.ensures in
    let some : 0 < c.index-so_far.result.now.latest = omega (arith, c.if-so_far-eq0.false) in
    let count : c.len.result ≡ length c.index-so_far.result.now.replies.items =
    omega (arith, c.len.ensures, c.index-so_far.result.now.replies.ok.0) in
    let again : c.index-began.result.now.first ≡ length c.index-so_far.result.now.replies.items + 1 = omega (arith, c.if-began-len.false, count) in
    let deaths = ap (λ (hs : List ℕ). slice_get hs (length hs - 1)) c.deref.ensures.value in
    let last = sym (c.in-Some.ensures.value ∙ deaths) in
    (named_session there c.requires.current c.requires.closed c.requires.next some c.index-began.ensures again last c.index-named.ensures).0

pub index-requires : goal.index-requires
index-requires g c =
    let there = is_there c.self.invariant.0 c.self.view_is c.requires.place c.index-so_far.ensures in
    let some : 0 < c.index-so_far.result.now.latest = omega (arith, c.if-so_far-eq0.false) in
    let count : c.len.result ≡ length c.index-so_far.result.now.replies.items =
    omega (arith, c.len.ensures, c.index-so_far.result.now.replies.ok.0) in
    let again : c.index-began.result.now.first ≡ length c.index-so_far.result.now.replies.items + 1 = omega (arith, c.if-began-len.false, count) in
    let deaths = ap (λ (hs : List ℕ). slice_get hs (length hs - 1)) c.deref.ensures.value in
    let last = sym (c.in-Some.ensures.value ∙ deaths) in
    let place = named_session there c.requires.current c.requires.closed c.requires.next some c.index-began.ensures again last c.index-named.ensures in
    let within = named_within_sessions there c.requires.current c.requires.closed c.requires.next some c.index-began.ensures again last c.index-named.ensures in
    omega (arith, place.0, within, c.self.inside.sessions.ok.0)

pub count_told-requires : goal.count_told-requires
count_told-requires g c =
    let there = is_there c.self.invariant.0 c.self.view_is c.requires.place c.index-so_far.ensures in
    let some : 0 < c.index-so_far.result.now.latest = omega (arith, c.if-so_far-eq0.false) in
    let count : c.len.result ≡ length c.index-so_far.result.now.replies.items =
    omega (arith, c.len.ensures, c.index-so_far.result.now.replies.ok.0) in
    let again : c.index-began.result.now.first ≡ length c.index-so_far.result.now.replies.items + 1 = omega (arith, c.if-began-len.false, count) in
    let deaths = ap (λ (hs : List ℕ). slice_get hs (length hs - 1)) c.deref.ensures.value in
    let last = sym (c.in-Some.ensures.value ∙ deaths) in
    let place = named_session there c.requires.current c.requires.closed c.requires.next some c.index-began.ensures again last c.index-named.ensures in
    let named = is_there c.self.invariant.0 c.self.view_is place c.index.ensures in
    well_opened named

pub returns-then-count_told-named : goal.returns-then-count_told-named
returns-then-count_told-named g c =
    let there = is_there c.self.invariant.0 c.self.view_is c.requires.place c.index-so_far.ensures in
    let some : 0 < c.index-so_far.result.now.latest = omega (arith, c.if-so_far-eq0.false) in
    let count : c.len.result ≡ length c.index-so_far.result.now.replies.items =
    omega (arith, c.len.ensures, c.index-so_far.result.now.replies.ok.0) in
    let again : c.index-began.result.now.first ≡ length c.index-so_far.result.now.replies.items + 1 = omega (arith, c.if-began-len.false, count) in
    let deaths = ap (λ (hs : List ℕ). slice_get hs (length hs - 1)) c.deref.ensures.value in
    let last = sym (c.in-Some.ensures.value ∙ deaths) in
    let place = named_session there c.requires.current c.requires.closed c.requires.next some c.index-began.ensures again last c.index-named.ensures in
    let named = is_there c.self.invariant.0 c.self.view_is place c.index.ensures in
    wait_for there c.requires.current c.requires.closed c.requires.next some c.index-began.ensures again last c.index-named.ensures
    c.index.result.now (told named) (omega (arith, c.if-count_told-named.true, c.count_told.ensures))

pub returns : goal.returns
returns g c =
    let there = is_there c.self.invariant.0 c.self.view_is c.requires.place c.index-so_far.ensures in
    let some : 0 < c.index-so_far.result.now.latest = omega (arith, c.if-so_far-eq0.false) in
    let count : c.len.result ≡ length c.index-so_far.result.now.replies.items =
    omega (arith, c.len.ensures, c.index-so_far.result.now.replies.ok.0) in
    let again : c.index-began.result.now.first ≡ length c.index-so_far.result.now.replies.items + 1 = omega (arith, c.if-began-len.false, count) in
    let deaths = ap (λ (hs : List ℕ). slice_get hs (length hs - 1)) c.deref.ensures.value in
    let last = sym (c.in-Some.ensures.value ∙ deaths) in
    let place = named_session there c.requires.current c.requires.closed c.requires.next some c.index-began.ensures again last c.index-named.ensures in
    let named = is_there c.self.invariant.0 c.self.view_is place c.index.ensures in
    begin_behind there c.requires.current c.requires.closed c.requires.next some c.index-began.ensures again last c.index-named.ensures
    c.index.result.now (told named) (omega (arith, c.if-count_told-named.false, c.count_told.ensures))
