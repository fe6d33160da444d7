use Rattle.std.proofs.Common.{◌≡◌, refl, sym, ap, subst, ◌∙◌, inl, inr}
use Rattle.std.proofs.lemmas.Bool.{cases_eq}
use Rattle.std.proofs.lemmas.Result.{err_from_is_err_and}
use Rattle.std.specs.FinMap as map
use Rattle.std.specs.Option.{is_some}
use Rattle.bf_locks.specs.declared.answer.LockAnswer.TheVariants.{Granted}
use Rattle.bf_locks.specs.Owners.{mode_of}
use Rattle.bf_locks.specs.Locks.{held, wanted, after, IsConsistent, IsJudged}
use Rattle.bf_locks.specs.Table.{locks_of, names_of}
use Rattle.bf_locks.proofs.Asked.{same_there, freed_there}
use Rattle.bf_locks.proofs.Freed.{given_up}
use Rattle.bf_locks.proofs.Sound.{sound_kept, sound_granted}
use Rattle.bf_locks.proofs.Told.{IsTold, told_judged, told_put, told_after, told_consistent, told_sound, new_granted, new_first}
use Rattle.bf_locks.proofs.table.LockTable.ask.Goals.{After-from_residual, Joined-answer, Joined-answer-2}
use Rattle.bf_locks.proofs.table.LockTable.ask.Goals as goal

-- want of memory leaves what is held
kept : (c : After-from_residual) → locks_of c.ask_for.new.holders ≡ locks_of c.self.inside.holders
kept c = same_there c.self.inside.holders c.ask_for.new.holders c.args.name.now c.self.invariant.ordered c.ask_for.ensures.ordered c.ask_for.ensures.others
    (λ by. ap (λ those. mode_of those by) c.in_err-answer.ensures.memory)

pub invariant_of-self : goal.invariant_of-self
invariant_of-self c =
    sound_kept c.self.inside.holders c.ask_for.new.holders c.self.inside.owned c.self.inside.owned c.self.invariant c.ask_for.ensures.ordered
    (λ by. refl) (λ at by. ap (λ m. is_some (held m at by)) (kept c)) (subst IsConsistent (sym (kept c)) c.self.invariant.consistent)

pub returns-in_err-answer-clause-memory : goal.returns-in_err-answer-clause-memory
returns-in_err-answer-clause-memory c =
    let p = err_from_is_err_and c.from_residual.result c.from_residual.ensures.1 in
    rw p.1 (kept c ∙ c.self.view_is)

pub returns-in_err-answer-clause-consistent : goal.returns-in_err-answer-clause-consistent
returns-in_err-answer-clause-consistent c = subst IsConsistent (sym (kept c)) c.self.invariant.consistent

-- what is told and not new
pub invariant_of-self-then-not-is_new : goal.invariant_of-self-then-not-is_new
invariant_of-self-then-not-is_new c =
    let told : IsTold c.self.inside.holders c.ask_for.new.holders c.args.owner c.args.name.now c.args.mode c.in_ok-answer.answer c.in_ok-answer.is_new = record {
      ordered = c.ask_for.ensures.ordered;
      answered = c.in_ok-answer.ensures.answer;
      rising = c.in_ok-answer.ensures.rising;
      granted = c.in_ok-answer.ensures.granted;
      refused = c.in_ok-answer.ensures.refused;
      new_where = c.in_ok-answer.ensures.new;
      not_new = c.in_ok-answer.ensures.not_new;
      others = c.ask_for.ensures.others;
    } in
    told_sound c.self.inside.holders c.ask_for.new.holders c.self.inside.owned c.self.invariant c.args.owner c.args.name.now c.args.mode c.in_ok-answer.answer c.in_ok-answer.is_new told c.if-not-is_new.true

pub returns-then-not-is_new : goal.returns-then-not-is_new
returns-then-not-is_new c =
    let told : IsTold c.self.inside.holders c.ask_for.new.holders c.args.owner c.args.name.now c.args.mode c.in_ok-answer.answer c.in_ok-answer.is_new = record {
      ordered = c.ask_for.ensures.ordered;
      answered = c.in_ok-answer.ensures.answer;
      rising = c.in_ok-answer.ensures.rising;
      granted = c.in_ok-answer.ensures.granted;
      refused = c.in_ok-answer.ensures.refused;
      new_where = c.in_ok-answer.ensures.new;
      not_new = c.in_ok-answer.ensures.not_new;
      others = c.ask_for.ensures.others;
    } in
    record {
      judged = subst (λ m. IsJudged m c.args.owner c.args.name.now c.args.mode c.in_ok-answer.answer) c.self.view_is (told_judged c.self.inside.holders c.ask_for.new.holders c.self.inside.owned c.self.invariant c.args.owner c.args.name.now c.args.mode c.in_ok-answer.answer c.in_ok-answer.is_new told);
      after = told_after c.self.inside.holders c.ask_for.new.holders c.self.inside.owned c.self.invariant c.args.owner c.args.name.now c.args.mode c.in_ok-answer.answer c.in_ok-answer.is_new told
          ∙ ap (λ m. after m c.args.owner c.args.name.now c.args.mode c.in_ok-answer.answer) c.self.view_is;
      memory = tt;
      consistent = told_consistent c.self.inside.holders c.ask_for.new.holders c.self.inside.owned c.self.invariant c.args.owner c.args.name.now c.args.mode c.in_ok-answer.answer c.in_ok-answer.is_new told;
    }

-- what is told and new: a grant, and the name comes on the owner's list
told_new : (c : Joined-answer) → IsTold c.self.inside.holders c.ask_for.new.holders c.args.owner c.args.name.now c.args.mode c.in_ok-answer.answer c.in_ok-answer.is_new
told_new c = record {
  ordered = c.ask_for.ensures.ordered;
  answered = c.in_ok-answer.ensures.answer;
  rising = c.in_ok-answer.ensures.rising;
  granted = c.in_ok-answer.ensures.granted;
  refused = c.in_ok-answer.ensures.refused;
  new_where = c.in_ok-answer.ensures.new;
  not_new = c.in_ok-answer.ensures.not_new;
  others = c.ask_for.ensures.others;
}

pub invariant_of-self-in_default : goal.invariant_of-self-in_default
invariant_of-self-in_default c =
    let put = told_put c.self.inside.holders c.ask_for.new.holders c.self.inside.owned c.self.invariant c.args.owner c.args.name.now c.args.mode c.in_ok-answer.answer c.in_ok-answer.is_new (told_new c)
    (new_granted c.self.inside.holders c.ask_for.new.holders c.self.inside.owned c.self.invariant c.args.owner c.args.name.now c.args.mode c.in_ok-answer.answer c.in_ok-answer.is_new (told_new c) c.if-not-is_new.false) in
    sound_granted c.self.inside.holders c.ask_for.new.holders c.self.inside.owned c.list.new.owned c.self.invariant c.ask_for.ensures.ordered c.args.owner c.args.name.now
    (wanted (locks_of c.self.inside.holders) c.args.owner c.args.name.now c.args.mode) put c.in_default.ensures.listed c.in_default.ensures.others
    (new_first c.self.inside.holders c.ask_for.new.holders c.self.inside.owned c.self.invariant c.args.owner c.args.name.now c.args.mode c.in_ok-answer.answer c.in_ok-answer.is_new (told_new c) c.if-not-is_new.false)
    (subst IsConsistent put (told_consistent c.self.inside.holders c.ask_for.new.holders c.self.inside.owned c.self.invariant c.args.owner c.args.name.now c.args.mode c.in_ok-answer.answer c.in_ok-answer.is_new (told_new c)))

pub returns-in_default-clause-judged : goal.returns-in_default-clause-judged
returns-in_default-clause-judged c =
    subst (λ m. IsJudged m c.args.owner c.args.name.now c.args.mode Granted) c.self.view_is
    (subst (IsJudged (locks_of c.self.inside.holders) c.args.owner c.args.name.now c.args.mode) (new_granted c.self.inside.holders c.ask_for.new.holders c.self.inside.owned c.self.invariant c.args.owner c.args.name.now c.args.mode c.in_ok-answer.answer c.in_ok-answer.is_new (told_new c) c.if-not-is_new.false)
    (told_judged c.self.inside.holders c.ask_for.new.holders c.self.inside.owned c.self.invariant c.args.owner c.args.name.now c.args.mode c.in_ok-answer.answer c.in_ok-answer.is_new (told_new c)))

pub returns-in_default-clause-after : goal.returns-in_default-clause-after
returns-in_default-clause-after c =
    told_put c.self.inside.holders c.ask_for.new.holders c.self.inside.owned c.self.invariant c.args.owner c.args.name.now c.args.mode c.in_ok-answer.answer c.in_ok-answer.is_new (told_new c)
    (new_granted c.self.inside.holders c.ask_for.new.holders c.self.inside.owned c.self.invariant c.args.owner c.args.name.now c.args.mode c.in_ok-answer.answer c.in_ok-answer.is_new (told_new c) c.if-not-is_new.false)
    ∙ ap (λ m. after m c.args.owner c.args.name.now c.args.mode Granted) c.self.view_is

pub returns-in_default-clause-consistent : goal.returns-in_default-clause-consistent
returns-in_default-clause-consistent c = told_consistent c.self.inside.holders c.ask_for.new.holders c.self.inside.owned c.self.invariant c.args.owner c.args.name.now c.args.mode c.in_ok-answer.answer c.in_ok-answer.is_new (told_new c)

-- a grant that is taken back leaves what was held
told_back : (c : Joined-answer-2) → IsTold c.self.inside.holders c.ask_for.new.holders c.args.owner c.args.name.now c.args.mode c.in_ok-answer.answer c.in_ok-answer.is_new
told_back c = record {
  ordered = c.ask_for.ensures.ordered;
  answered = c.in_ok-answer.ensures.answer;
  rising = c.in_ok-answer.ensures.rising;
  granted = c.in_ok-answer.ensures.granted;
  refused = c.in_ok-answer.ensures.refused;
  new_where = c.in_ok-answer.ensures.new;
  not_new = c.in_ok-answer.ensures.not_new;
  others = c.ask_for.ensures.others;
}

unchanged : (c : Joined-answer-2) → locks_of c.free.new.holders ≡ locks_of c.self.inside.holders
unchanged c =
    freed_there c.ask_for.new.holders c.free.new.holders c.args.name.now c.ask_for.ensures.ordered c.free.ensures.ordered c.free.ensures.others c.args.owner c.free.ensures.freed
    ∙ ap (λ m. map.remove m (c.args.name.now, c.args.owner)) (told_put c.self.inside.holders c.ask_for.new.holders c.self.inside.owned c.self.invariant c.args.owner c.args.name.now c.args.mode c.in_ok-answer.answer c.in_ok-answer.is_new (told_back c)
    (new_granted c.self.inside.holders c.ask_for.new.holders c.self.inside.owned c.self.invariant c.args.owner c.args.name.now c.args.mode c.in_ok-answer.answer c.in_ok-answer.is_new (told_back c) c.if-not-is_new.false))
    ∙ given_up (locks_of c.self.inside.holders) c.args.name.now c.args.owner (wanted (locks_of c.self.inside.holders) c.args.owner c.args.name.now c.args.mode)
    (new_first c.self.inside.holders c.ask_for.new.holders c.self.inside.owned c.self.invariant c.args.owner c.args.name.now c.args.mode c.in_ok-answer.answer c.in_ok-answer.is_new (told_back c) c.if-not-is_new.false)

pub invariant_of-self-2 : goal.invariant_of-self-2
invariant_of-self-2 c =
    sound_kept c.self.inside.holders c.free.new.holders c.self.inside.owned c.list.new.owned c.self.invariant c.free.ensures.ordered
    (λ by. elim (cases_eq by c.args.owner) [
      | inl same ↦ ap (names_of c.list.new.owned) same ∙ c.in-Err.ensures.memory ∙ ap (names_of c.self.inside.owned) (sym same)
      | inr apart ↦ c.list.ensures.others by apart
    ])
    (λ at by. ap (λ m. is_some (held m at by)) (unchanged c))
    (subst IsConsistent (sym (unchanged c)) c.self.invariant.consistent)

pub returns-clause-memory : goal.returns-clause-memory
returns-clause-memory c = unchanged c ∙ c.self.view_is

pub returns-clause-consistent : goal.returns-clause-consistent
returns-clause-consistent c = subst IsConsistent (sym (unchanged c)) c.self.invariant.consistent
