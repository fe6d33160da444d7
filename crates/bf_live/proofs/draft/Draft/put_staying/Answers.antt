use Rattle.std.proofs.Common.{◌≡◌, List, [], ◌∷◌, ◌++◌, sym, ap, ap₂, ◌∙◌}
use Rattle.std.proofs.lemmas.List.{append_assoc}
use Rattle.bf_live.specs.Drafts.{Drafted, staying_rows, with_rows_of}
use Rattle.bf_live.specs.Live.{NamedHeap, NamedRows, rows_in}
use Rattle.bf_live.proofs.Drafts.{put_behind, rows_left_in, rows_left_out, without_nothing}
use Rattle.bf_live.proofs.draft.Draft.put_staying.Goals.{then-not-is_among, else-not-is_among}
use Rattle.bf_live.proofs.draft.Draft.put_staying.Goals as goal

pub loop-name-init : goal.loop-name-init
loop-name-init c = record {
  left = c.into_iter-name-iterator.ensures.into_iter_gives.0;
  put = ap (λ ts. record c.args.self.now { tables = ts }) (sym (without_nothing c.args.self.now.tables));
}

pub loop-name-preserved : goal.loop-name-preserved
loop-name-preserved c =
    let item : NamedHeap = (c.in-Some.name, c.in-Some.heap) in
    record {
      left = append_assoc c.loop-name.yielded (item ∷ []) c.next.new.self ∙ ap (λ (hs : List NamedHeap). c.loop-name.yielded ++ hs) (sym c.in-Some.ensures.steps) ∙ c.loop-name.invariant.left;
      put = elim c.if-not-is_among.branch [
        | then-not-is_among w ↦
            let rows = staying_rows c.args.gone.now (rows_in c.loop-name.yielded) in
            let row : NamedRows = (c.in-Some.name, c.in-Some.heap.entries) in
            let now : with_rows_of (row ∷ []) c.loop-name.self.tables ≡ with_rows_of (rows ++ row ∷ []) c.args.self.now.tables =
            ap (λ (d : Drafted). with_rows_of (row ∷ []) d.tables) c.loop-name.invariant.put ∙ put_behind rows row c.args.self.now.tables in
            let all = rows_left_in c.args.gone.now c.loop-name.yielded c.in-Some.name c.in-Some.heap (sym w.if-not-is_among.ensures) in
            w.self-is ∙ w.put.ensures
            ∙ ap₂ (λ ts is. record { tables = ts; indexes = is })
            (now ∙ ap (λ rs. with_rows_of rs c.args.self.now.tables) (sym all)) (ap (λ (d : Drafted). d.indexes) c.loop-name.invariant.put)
        | else-not-is_among w ↦
            let all = rows_left_out c.args.gone.now c.loop-name.yielded c.in-Some.name c.in-Some.heap (sym w.if-not-is_among.ensures) in
            w.self-is ∙ c.loop-name.invariant.put ∙ ap (λ rs. record c.args.self.now { tables = with_rows_of rs c.args.self.now.tables }) (sym all)
      ];
    }
