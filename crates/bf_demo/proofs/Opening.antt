-- An INSERT of accounts with numbers above those that are there.
use Rattle.std.proofs.Common.{◌≡◌, ℕ, suc, zero, ◌+◌, ◌-◌, ◌*◌, ◌%◌, ◌<◌, ◌≤◌, ◌^◌, Bool, false, List, [], ◌∷◌, ◌++◌, map, flat_map, length, refl, sym, ap, subst, ◌∙◌, arith, append_assoc, append-nil}
use Rattle.std.proofs.lemmas.List.{map-append}
use Rattle.std.proofs.lemmas.List.FromFn.{length-map-range_with_len}
use Rattle.std.specs.List.{range_with_len}
use Rattle.bf_base.specs.declared.value.Value.{Value}
use Rattle.bf_base.specs.Lists.{with_before_from, when}
use Rattle.bf_base.specs.Tables.{key_of}
use Rattle.bf_tree.specs.declared.reply.Refusal.TheVariants as refusal
use Rattle.bf_tree.specs.declared.reply.Reply.TheVariants as reply
use Rattle.bf_tree.specs.declared.statement.Statement.TheVariants.{Insert}
use Rattle.bf_sql.specs.Meaning.{executed}
use Rattle.bf_sql.specs.Objections.{tuple_objections}
use Rattle.bf_sql.specs.RowObjections.{taken_key_objections, unfit_row_objections}
use Rattle.bf_demo.specs.Script.{account, acct, opening}
use Rattle.bf_demo.proofs.Keys.{AllBelow, none_below, below_more, below_push, below_range, none_has_it, placed_range, range_joined}
use Rattle.bf_demo.proofs.States.{accounts, answers, executed_by, fits, opened, three}

tuples_pass : (k a : ℕ) → flat_map (tuple_objections three) (map account (range_with_len a k)) ≡ []
tuples_pass zero a = refl
tuples_pass (suc k) a = tuples_pass k (a + 1)

row_fits : (a : ℕ) → a < 2 ^ 62 → unfit_row_objections three (account a) ≡ []
row_fits a h = rw (fits a (omega arith), fits (a % 7) (omega arith)) refl

not_taken : (a : ℕ) (before : List (List Value)) → AllBelow (key_of three) a before → taken_key_objections three before (account a) ≡ []
not_taken a before below = ap (λ (b : Bool). when b (refusal.DuplicateKey (key_of three (account a)))) (none_has_it a below)

rows_pass : (k a : ℕ) (rows seen : List (List Value)) → a + k < 2 ^ 62 → AllBelow (key_of three) a (rows ++ seen)
    → flat_map (λ p. unfit_row_objections three p.1 ++ taken_key_objections three (rows ++ p.0) p.1) (with_before_from seen (map account (range_with_len a k))) ≡ []
rows_pass zero a rows seen h below = refl
rows_pass (suc k) a rows seen h below =
    let fit = row_fits a (omega arith) in
    let free = not_taken a (rows ++ seen) below in
    let more = rows_pass k (a + 1) rows (seen ++ account a ∷ []) (omega arith)
    (subst (AllBelow (key_of three) (a + 1)) (append_assoc rows seen (account a ∷ [])) (below_push a (account a) refl below)) in
    rw (fit, free, more) refl

inserted : (c k a : ℕ) (rows : List (List Value)) → a + k < 2 ^ 62 → AllBelow (key_of three) a rows
    → executed c (opened rows) false (Insert acct (map account (range_with_len a k))) ≡ answers (reply.Inserted k) (opened (rows ++ map account (range_with_len a k)))
inserted c k a rows h below =
    let tuples : List (List Value) = map account (range_with_len a k) in
    executed_by c (opened rows) false (Insert acct tuples) (tuples_pass k a) (rows_pass k a rows [] h (subst (AllBelow (key_of three) a) (sym (append-nil rows)) below))
    ∙ (ap (λ (r : List (List Value)). answers (reply.Inserted (length tuples)) (opened r)) (placed_range account (λ i. refl) k a rows below)
    ∙ ap (λ (n : ℕ). answers (reply.Inserted n) (opened (rows ++ tuples))) (length-map-range_with_len account a k))

-- the accounts up to m stand below m + 1
accounts_below : (m : ℕ) → AllBelow (key_of three) (m + 1) (accounts m)
accounts_below m = below_more (1 + m) (m + 1) (omega arith) (below_range account (λ i. refl) m 1 [] none_below)

accounts_more : (m k : ℕ) → accounts m ++ map account (range_with_len (m + 1) k) ≡ accounts (m + k)
accounts_more m k =
    let e : m + 1 ≡ 1 + m = omega arith in
    ap (λ s. accounts m ++ map account (range_with_len s k)) e
    ∙ (sym (map-append account (range_with_len 1 m) (range_with_len (1 + m) k)) ∙ ap (map account) (range_joined 1 m k))

pub opens_more : (c b : ℕ) → b ≤ 65535 → executed c (opened (accounts (16 * b))) false (opening (b + 1)) ≡ answers (reply.Inserted 16) (opened (accounts (16 * (b + 1))))
opens_more c b h =
    let from : 16 * ((b + 1) - 1) + 1 ≡ 16 * b + 1 = omega arith in
    let to : 16 * b + 16 ≡ 16 * (b + 1) = omega arith in
    ap (λ s. executed c (opened (accounts (16 * b))) false (Insert acct (map account (range_with_len s 16)))) from
    ∙ (inserted c 16 (16 * b + 1) (accounts (16 * b)) (omega arith) (accounts_below (16 * b))
    ∙ (ap (λ r. answers (reply.Inserted 16) (opened r)) (accounts_more (16 * b) 16) ∙ ap (λ m. answers (reply.Inserted 16) (opened (accounts m))) to))
