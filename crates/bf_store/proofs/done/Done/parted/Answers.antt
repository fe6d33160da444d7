use Rattle.std.proofs.Common.{◌≡◌, ℕ, true, false, List, [], ◌∷◌, ◌++◌, take, Option, None, Some, option_map, is_some, sym, ap, ap₂, ◌∙◌, append-nil}
use Rattle.std.specs.Global.{Vec}
use Rattle.std.specs.Option.{option_to_list}
use Rattle.bf_base.specs.declared.granule.Granule.{Granule}
use Rattle.bf_store.specs.Marks.{left_of, number_in, numbered_of}
use Rattle.bf_store.proofs.Marking.{left_more, numbered_more}
use Rattle.bf_store.proofs.done.Done.parted.Goals.{in-Some+in_ok-push-in-Some, in-None+in_ok-push-in-None}
use Rattle.bf_store.proofs.done.Done.parted.Goals as goal

pub loop-granule-preserved : goal.loop-granule-preserved
loop-granule-preserved c =
    let done = c.args.self.now in
    let gs = c.args.granules.now in
    let i = c.loop-granule.granule-index in
    let g = c.granule-item.result in
    let numbered = numbered_more done gs i g c.loop-granule-test.true c.granule-item.is in
    let waiting = left_more done gs i g c.loop-granule-test.true c.granule-item.is in
    elim c.match-number.branch [
      | in-Some+in_ok-push-in-Some w ↦
          let n = w.in-Some.number in
          let there : Some n ≡ number_in done g = sym w.in-Some.is ∙ c.number.ensures in
          record {
            moved =
                ap (λ (v : Vec (Granule × ℕ)). v.items) w.moved-is ∙ w.in_ok-push-in-Some.ensures.items
                ∙ ap₂ (λ (xs : List (Granule × ℕ)) (h : Granule). xs ++ (h, n) ∷ []) c.loop-granule.invariant.moved c.in_ok-same.ensures
                ∙ ap (λ (o : Option ℕ). numbered_of done (take i gs) ++ option_to_list (option_map (λ n. (g, n)) o)) there ∙ sym numbered;
            left =
                ap (λ (v : Vec Granule). v.items) w.left-is ∙ c.loop-granule.invariant.left
                ∙ sym (append-nil (left_of done (take i gs))) ∙ sym (waiting true (ap is_some (sym there)));
          }
      | in-None+in_ok-push-in-None w ↦
          let none : None ≡ number_in done g = sym w.in-None.is ∙ c.number.ensures in
          record {
            moved =
                ap (λ (v : Vec (Granule × ℕ)). v.items) w.moved-is ∙ c.loop-granule.invariant.moved
                ∙ sym (append-nil (numbered_of done (take i gs)))
                ∙ ap (λ (o : Option ℕ). numbered_of done (take i gs) ++ option_to_list (option_map (λ n. (g, n)) o)) none ∙ sym numbered;
            left =
                ap (λ (v : Vec Granule). v.items) w.left-is ∙ w.in_ok-push-in-None.ensures.items
                ∙ ap₂ (λ (xs : List Granule) (h : Granule). xs ++ h ∷ []) c.loop-granule.invariant.left c.in_ok-same.ensures
                ∙ sym (waiting false (ap is_some (sym none)));
          }
    ]
