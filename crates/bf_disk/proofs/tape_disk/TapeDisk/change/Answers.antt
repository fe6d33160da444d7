use Rattle.std.proofs.Common.{◌≡◌, ℕ, Option, List, Some, None, Vec, Global, sym, ◌∙◌, ap, rules}
use Rattle.bf_disk.specs.Tape.{file_of}
use Rattle.bf_disk.specs.TapeInside.{tape_of}
use Rattle.bf_disk.proofs.TapeSteps.{replayed_then}
use Rattle.bf_disk.proofs.tape_disk.TapeDisk.change.Goals as goal
use Rattle.bf_disk.proofs.tape_disk.TapeDisk.change.Goals.{After-keep_call-kept, in-Some, in-None+in_ok-file-in-None}

-- the file that the call is done to is the one that was read before
was : (c : After-keep_call-kept) → file_of (tape_of c.self.inside) ≡ c.match-take.file.items
was c =
    let reads : Option (Vec ℕ Global) → List ℕ = λ changed. elim changed [ Some bytes ↦ bytes.items | None ↦ c.self.inside.start.items ] in
    elim c.match-take.branch [
      | in-Some w ↦ c.self.invariant ∙ sym (ap reads w.in-Some.ensures.value) ∙ ap (λ (file : Vec ℕ Global). file.items) (sym w.file-is)
      | in-None+in_ok-file-in-None w ↦
          let copied : c.self.inside.start.items ≡ w.in_ok-file-in-None.file.items = search rules in
          c.self.invariant ∙ sym (ap reads w.in-None.ensures.value) ∙ copied ∙ ap (λ (file : Vec ℕ Global). file.items) (sym w.file-is)
    ]

pub invariant_of-self-then-failed : goal.invariant_of-self-then-failed
invariant_of-self-then-failed c =
    replayed_then c.self.inside.start.items c.match-take.file.items c.keep_call-kept.new.file.items c.self.inside.calls.items c.keep_call-kept.new.calls.items _
    (was (goal.at.invariant_of-self-then-failed c).After-keep_call-kept) c.in_ok-kept.ensures.calls c.in_ok-kept.ensures.file

pub invariant_of-self-2 : goal.invariant_of-self-2
invariant_of-self-2 c =
    replayed_then c.self.inside.start.items c.match-take.file.items c.keep_call-kept.new.file.items c.self.inside.calls.items c.keep_call-kept.new.calls.items _
    (was (goal.at.invariant_of-self-2 c).After-keep_call-kept) c.in_ok-kept.ensures.calls c.in_ok-kept.ensures.file
