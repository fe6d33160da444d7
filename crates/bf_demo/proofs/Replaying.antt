-- Histories replayed part by part.
use Rattle.std.proofs.Common.{◌≡◌, ℕ, ◌+◌, false, List, [], ◌∷◌, ◌++◌, length, refl, sym, ap, ◌∙◌, arith, append_assoc, length-append}
use Rattle.bf_tree.specs.declared.history.Entry.{Entry}
use Rattle.bf_tree.specs.declared.history.Outcome.TheVariants.{Committed}
use Rattle.bf_tree.specs.declared.reply.Reply.{Reply}
use Rattle.bf_tree.specs.declared.script.Script.{Script}
use Rattle.bf_sql.specs.Database.{Database}
use Rattle.bf_sql.specs.Groups.{statements_of}
use Rattle.bf_sql.specs.History.{replayed_behind, run_group}

module _ (script : Script) where
  -- REACHES: behind these entries the replay goes on with the other database
  pub record Goes (c : ℕ) (db : Database) (es ys : List Entry) (next : Database) : Type 0 where
    pub count : ℕ
    pub front : List (List Reply)
    pub as_long : length front ≡ length es
    pub goes : (replayed_behind c script db (es ++ ys)).0 ≡ front ++ (replayed_behind count script next ys).0

  abbrev pub Reaches : Database → List Entry → Database → Type 0
  Reaches db es next = (c : ℕ) (ys : List Entry) → Goes c db es ys next

  pub stays : (db : Database) → Reaches db [] db
  stays db c ys = record { count = c; front = []; as_long = refl; goes = refl }

  pub steps : (db next : Database) (e : Entry) (k : ℕ) → e.outcome ≡ Committed k → ((c : ℕ) → (run_group c false db (statements_of script e)).1 ≡ next) → Reaches db (e ∷ []) next
  steps db next e k committed runs c ys = record {
    count = c + 1;
    front = (run_group (c + 1) false db (statements_of script e)).0 ∷ [];
    as_long = refl;
    goes = rw committed (ap (λ (d : Database). (run_group (c + 1) false db (statements_of script e)).0 ∷ (replayed_behind (c + 1) script d ys).0) (runs (c + 1)));
  }

  pub joins : (db mid next : Database) (xs es : List Entry) → Reaches db xs mid → Reaches mid es next → Reaches db (xs ++ es) next
  joins db mid next xs es first second c ys =
      let one = first c (es ++ ys) in
      let two = second one.count ys in
      record {
        count = two.count;
        front = one.front ++ two.front;
        as_long = length-append one.front two.front ∙ (ap (λ k. k + length two.front) one.as_long ∙ (ap (λ k. length xs + k) two.as_long ∙ sym (length-append xs es)));
        goes =
            ap (λ (zs : List Entry). (replayed_behind c script db zs).0) (append_assoc xs es ys)
            ∙ (one.goes ∙ (ap (λ (rs : List (List Reply)). one.front ++ rs) two.goes ∙ sym (append_assoc one.front two.front (replayed_behind two.count script next ys).0)));
      }

-- lists that are equal behind fronts of one length
pub tails : {X : Type 0} (xs ys cs ds : List X) → length xs ≡ length ys → xs ++ cs ≡ ys ++ ds → cs ≡ ds
tails [] [] cs ds l e = e
tails [] (y ∷ ys) cs ds l e = absurd (omega arith)
tails (x ∷ xs) [] cs ds l e = absurd (omega arith)
tails (x ∷ xs) (y ∷ ys) cs ds l e =
    let same : length xs ≡ length ys = omega arith in
    let rest : xs ++ cs ≡ ys ++ ds = cc in
    tails xs ys cs ds same rest
