-- What the last session is told.
use Rattle.std.proofs.Common.{◌≡◌, ℕ, suc, zero, ◌+◌, ◌*◌, ◌%◌, ◌<◌, ◌≤◌, ◌^◌, ◌==◌, Bool, false, true, List, [], ◌∷◌, ◌++◌, map, length, refl, sym, ap, subst, ◌∙◌, arith, append_assoc, append-nil}
use Rattle.std.proofs.lemmas.Bool.{eqb-true, and_parts}
use Rattle.std.proofs.lemmas.List.Elements.{filter-append}
use Rattle.std.proofs.lemmas.List.{map-append, length-map}
use Rattle.std.proofs.lemmas.List.Folds.{list_all-append}
use Rattle.std.proofs.lemmas.List.FromFn.{length-map-range_with_len}
use Rattle.std.specs.List.{list_all, range_with_len}
use Rattle.bf_base.specs.declared.value.Value.{Value}
use Rattle.bf_tree.specs.declared.history.Entry.{Entry}
use Rattle.bf_tree.specs.declared.reply.Reply.{Reply}
use Rattle.bf_tree.specs.declared.script.Script.{Script}
use Rattle.bf_tree.specs.declared.statement.Statement.{Statement}
use Rattle.bf_sql.specs.Database.{Database, empty_database}
use Rattle.bf_sql.specs.Groups.{groups_in, statements_in, statements_of}
use Rattle.bf_sql.specs.History.{is_whole_group, replayed, replayed_behind, replies_to, run_group, told}
use Rattle.bf_sql.specs.Meaning.{executed}
use Rattle.bf_demo.specs.Replies.{IsReplayed, counted, last_replies, sum_of_owners}
use Rattle.bf_demo.specs.Script.{acct, bal, demonstration, new_table, opening, owner, split, sum_up, who}
use Rattle.bf_demo.proofs.Committing.{AreCommitted, IsCommitted, all_committed, back_committed, credits_of, front_committed}
use Rattle.bf_demo.proofs.Crediting.{as_many, credited, credits_to, total, total_grows}
use Rattle.bf_demo.proofs.Grouping.{an_opening, groups_of_credits, groups_of_openings, lone, triples}
use Rattle.bf_demo.proofs.Opening.{opens_more}
use Rattle.bf_demo.proofs.Phasing.{Cut, Rises, all_later, all_of_phase, cut, group_of, none_later, none_of_phase, of_session, only_first, only_last, only_second, phase, phase_of, rises_from_one, weight, weights}
use Rattle.bf_demo.proofs.Replaying.{Reaches, joins, stays, steps, tails}
use Rattle.bf_demo.proofs.Splitting.{hundreds, remainders, splits}
use Rattle.bf_demo.proofs.States.{accounts, answers, created, opened, parted, rows_of}
use Rattle.bf_demo.proofs.Summing.{balances_told, owners_told, remainders_sum, sum_of_hundreds}

abbrev start_of : ℕ → Database
start_of n = opened (accounts (16 * n))

pair_parts : (p q : ℕ × ℕ) (ps qs : List (ℕ × ℕ)) → p ∷ ps ≡ q ∷ qs → (p.0 ≡ q.0) × (p.1 ≡ q.1) × (ps ≡ qs)
pair_parts p q ps qs e =
    let first : p ≡ q = cc in
    (ap (λ (x : ℕ × ℕ). x.0) first, ap (λ (x : ℕ × ℕ). x.1) first, cc)

-- the statements of an entry whose session and group are known
statements_at : (n k first last : ℕ) (e : Entry) → e.session ≡ k → e.first ≡ first → e.last ≡ last → statements_of (demonstration n) e ≡ statements_in (demonstration n) k (first, last)
statements_at n k first last e s f l =
    ap (λ i. statements_in (demonstration n) i (e.first, e.last)) s
    ∙ (ap (λ i. statements_in (demonstration n) k (i, e.last)) f ∙ ap (λ i. statements_in (demonstration n) k (first, i)) l)

-- A PHASE AFTER THE OTHER
opens_reach : (n m b : ℕ) → b + m ≡ n → n ≤ 65535 → (es : List Entry) → list_all (λ e. phase n e == 1) es ≡ true → AreCommitted es → map group_of es ≡ lone (b + 2) m
    → Reaches (demonstration n) (start_of b) es (start_of n)
opens_reach n zero b sum few [] here done pairs =
    let e : b ≡ n = omega arith in
    subst (λ (k : ℕ). Reaches (demonstration n) (start_of b) [] (start_of k)) e (stays (demonstration n) (start_of b))
opens_reach n zero b sum few (e ∷ es) here done pairs = absurd cc
opens_reach n (suc m) b sum few [] here done pairs = absurd cc
opens_reach n (suc m) b sum few (e ∷ es) here done pairs =
    let both = and_parts (phase n e == 1) (list_all (λ x. phase n x == 1) es) here in
    let session : e.session ≡ 1 = eqb-true e.session 1 (only_first n e.session both.0) in
    let group = pair_parts (group_of e) (b + 2, b + 2) (map group_of es) (lone (b + 2 + 1) m) pairs in
    let is : statements_of (demonstration n) e ≡ opening (b + 1) ∷ [] = statements_at n 1 (b + 2) (b + 2) e session group.0 group.1 ∙ an_opening n b (omega arith) in
    let next : b + 2 + 1 ≡ (b + 1) + 2 = omega arith in
    let step = steps (demonstration n) (start_of b) (start_of (b + 1)) e done.0.number done.0.is
    (λ c. ap (λ (ss : List Statement). (run_group c false (start_of b) ss).1) is ∙ ap (λ (a : Reply × Database). a.1) (opens_more c b (omega arith))) in
    joins (demonstration n) (start_of b) (start_of (b + 1)) (start_of n) (e ∷ []) es step
    (opens_reach n m (b + 1) (omega arith) few es both.1 done.1 (group.2 ∙ ap (λ k. lone k m) next))

first_reach : (n : ℕ) → n ≤ 65535 → (es : List Entry) → list_all (λ e. phase n e == 1) es ≡ true → AreCommitted es → map group_of es ≡ lone 1 (suc n)
    → Reaches (demonstration n) empty_database es (start_of n)
first_reach n few [] here done pairs = absurd cc
first_reach n few (e ∷ es) here done pairs =
    let both = and_parts (phase n e == 1) (list_all (λ x. phase n x == 1) es) here in
    let session : e.session ≡ 1 = eqb-true e.session 1 (only_first n e.session both.0) in
    let group = pair_parts (group_of e) (1, 1) (map group_of es) (lone 2 n) pairs in
    let is : statements_of (demonstration n) e ≡ new_table ∷ [] = statements_at n 1 1 1 e session group.0 group.1 in
    let none : 0 + n ≡ n = omega arith in
    let step = steps (demonstration n) empty_database (opened []) e done.0.number done.0.is
    (λ c. ap (λ (ss : List Statement). (run_group c false empty_database ss).1) is ∙ ap (λ (a : Reply × Database). a.1) (created c)) in
    joins (demonstration n) empty_database (start_of 0) (start_of n) (e ∷ []) es step (opens_reach n n 0 none few es both.1 done.1 group.2)

abbrev split_of : ℕ → Database
split_of n = parted (rows_of 1 (hundreds (16 * n))) (rows_of 1 (remainders (16 * n)))

split_reach : (n : ℕ) → n ≤ 65535 → (es : List Entry) → list_all (λ e. phase n e == 2) es ≡ true → AreCommitted es → map group_of es ≡ lone 1 1
    → Reaches (demonstration n) (start_of n) es (split_of n)
split_reach n few [] here done pairs = absurd cc
split_reach n few (e ∷ d ∷ es) here done pairs = let rest = (pair_parts (group_of e) (1, 1) (group_of d ∷ map group_of es) [] pairs).2 in absurd cc
split_reach n few (e ∷ []) here done pairs =
    let both = and_parts (phase n e == 2) true here in
    let session : e.session ≡ 2 = eqb-true e.session 2 (only_second n e.session both.0) in
    let group = pair_parts (group_of e) (1, 1) [] [] pairs in
    let is : statements_of (demonstration n) e ≡ split ∷ [] = statements_at n 2 1 1 e session group.0 group.1 in
    steps (demonstration n) (start_of n) (split_of n) e done.0.number done.0.is
    (λ c. ap (λ (ss : List Statement). (run_group c false (start_of n) ss).1) is ∙ ap (λ (a : Reply × Database). a.1) (splits c (16 * n) (omega arith)))

-- in whatever order they come, credits add up
record Credited (n : ℕ) (others : List (List Value)) (xs : List ℕ) (es : List Entry) : Type 0 where
  ys : List ℕ
  same : length ys ≡ length xs
  sum : total ys ≡ total xs + total (map weight es)
  reaches : Reaches (demonstration n) (parted (rows_of 1 xs) others) es (parted (rows_of 1 ys) others)

credits_reach : (n : ℕ) (others : List (List Value)) (es : List Entry) (xs : List ℕ) → list_all (is_whole_group (demonstration n)) es ≡ true → list_all (λ e. phase n e == 3) es ≡ true → AreCommitted es
    → length xs ≡ 16 * n → total xs + total (map weight es) < 2 ^ 62 → Credited n others xs es
credits_reach n others [] xs whole here done size small =
    record { ys = xs; same = refl; sum = omega arith; reaches = stays (demonstration n) (parted (rows_of 1 xs) others) }
credits_reach n others (e ∷ es) xs whole here done size small =
    let both = and_parts (phase n e == 3) (list_all (λ x. phase n x == 3) es) here in
    let wholes = and_parts (is_whole_group (demonstration n) e) (list_all (is_whole_group (demonstration n)) es) whole in
    let found = credits_of n e.session e.first e.last wholes.0 both.0 in
    let at : ℕ = found.0 in
    let more : List ℕ = credited (weight e) at 1 xs in
    let low = found.1 in
    let high = found.2 in
    let within : at < 1 + length xs = omega arith in
    let grown : total more ≡ total xs + weight e = total_grows (weight e) at 1 xs low within in
    let many : length more ≡ length xs = as_many (weight e) at 1 xs in
    let step = steps (demonstration n) (parted (rows_of 1 xs) others) (parted (rows_of 1 more) others) e done.0.number done.0.is
    (λ c. ap (λ (ss : List Statement). (run_group c false (parted (rows_of 1 xs) others) ss).1) found.3 ∙ credits_to c (weight e) at xs others (omega arith)) in
    let rest = credits_reach n others es more wholes.1 both.1 done.1 (many ∙ size) (omega arith) in
    let later = rest.sum in
    record {
      ys = rest.ys;
      same = rest.same ∙ many;
      sum = omega arith;
      reaches = joins (demonstration n) (parted (rows_of 1 xs) others) (parted (rows_of 1 more) others) (parted (rows_of 1 rest.ys) others) (e ∷ []) es step rest.reaches;
    }

-- two statements that change nothing
two_replies : (script : Script) (k : ℕ) (db : Database) (d e : Entry) (s t : Statement) (q r : Reply) → IsCommitted d → IsCommitted e → statements_of script d ≡ s ∷ [] → statements_of script e ≡ t ∷ []
    → ((c : ℕ) → executed c db false s ≡ answers q db) → ((c : ℕ) → executed c db false t ≡ answers r db) → (replayed_behind k script db (d ∷ e ∷ [])).0 ≡ (q ∷ []) ∷ (r ∷ []) ∷ []
two_replies script k db d e s t q r did done first second one other =
    rw (did.is, done.is, first, second, one (k + 1), other (k + 1 + 1)) refl

some_balances : (ys : List ℕ) (others : List (List Value)) → 0 < length ys → total ys < 2 ^ 63 → (c : ℕ)
    → executed c (parted (rows_of 1 ys) others) false (sum_up acct bal) ≡ answers (counted (length ys) (total ys)) (parted (rows_of 1 ys) others)
some_balances [] others some small c = absurd (omega arith)
some_balances (y ∷ ys) others some small c = balances_told y ys small others c

some_owners : (ys : List ℕ) (others : List (List Value)) → 0 < length ys → total ys < 2 ^ 63 → (c : ℕ)
    → executed c (parted others (rows_of 1 ys)) false (sum_up who owner) ≡ answers (counted (length ys) (total ys)) (parted others (rows_of 1 ys))
some_owners [] others some small c = absurd (omega arith)
some_owners (y ∷ ys) others some small c = owners_told y ys small others c

small_remainders : (k a : ℕ) → total (map (λ i. i % 7) (range_with_len a k)) ≤ 6 * k
small_remainders zero a = omega arith
small_remainders (suc k) a = let more = small_remainders k (a + 1) in omega arith

-- the two last entries, and what they are told
last_told : (n : ℕ) → 1 ≤ n → n ≤ 65535 → (transcripts : List (List Reply)) (k : ℕ) (ys : List ℕ) (es : List Entry) → Rises n 4 es → AreCommitted es → map group_of es ≡ lone 1 2
    → length ys ≡ 16 * n → total ys ≡ 1610 * n → map (told transcripts) es ≡ (replayed_behind k (demonstration n) (parted (rows_of 1 ys) (rows_of 1 (remainders (16 * n)))) es).0
    → replies_to transcripts 7 (1, 1) ++ replies_to transcripts 7 (2, 2) ≡ last_replies n
last_told n some few transcripts k ys [] r done pairs size sum replies = absurd cc
last_told n some few transcripts k ys (d ∷ []) r done pairs size sum replies = let rest = (pair_parts (group_of d) (1, 1) [] (lone 2 1) pairs).2 in absurd cc
last_told n some few transcripts k ys (d ∷ e ∷ f ∷ es) r done pairs size sum replies =
    let rest = (pair_parts (group_of d) (1, 1) (group_of e ∷ group_of f ∷ map group_of es) (lone 2 1) pairs).2 in
    let none = (pair_parts (group_of e) (2, 2) (group_of f ∷ map group_of es) [] rest).2 in
    absurd cc
last_told n some few transcripts k ys (d ∷ e ∷ []) r done pairs size sum replies =
    let one = pair_parts (group_of d) (1, 1) (group_of e ∷ []) (lone 2 1) pairs in
    let other = pair_parts (group_of e) (2, 2) [] [] one.2 in
    let first : d.session ≡ 7 = eqb-true d.session 7 (only_last n d.session r.0) in
    let second : e.session ≡ 7 = eqb-true e.session 7 (only_last n e.session (omega (arith, r.0, r.1.0))) in
    let db : Database = parted (rows_of 1 ys) (rows_of 1 (remainders (16 * n))) in
    let many : length (remainders (16 * n)) ≡ 16 * n = length-map-range_with_len (λ i. i % 7) 1 (16 * n) in
    let owners : total (remainders (16 * n)) ≡ sum_of_owners (16 * n) = remainders_sum (16 * n) in
    let small : total (remainders (16 * n)) ≤ 6 * (16 * n) = small_remainders (16 * n) 1 in
    let q : Reply = counted (length ys) (total ys) in
    let s : Reply = counted (length (remainders (16 * n))) (total (remainders (16 * n))) in
    let got : (replayed_behind k (demonstration n) db (d ∷ e ∷ [])).0 ≡ (q ∷ []) ∷ (s ∷ []) ∷ [] =
    two_replies (demonstration n) k db d e (sum_up acct bal) (sum_up who owner) q s done.0 done.1.0
    (statements_at n 7 1 1 d first one.0 one.1) (statements_at n 7 2 2 e second other.0 other.1)
    (λ c. some_balances ys (rows_of 1 (remainders (16 * n))) (omega arith) (omega arith) c)
    (λ c. some_owners (remainders (16 * n)) (rows_of 1 ys) (omega arith) (omega arith) c) in
    let all : told transcripts d ∷ told transcripts e ∷ [] ≡ (q ∷ []) ∷ (s ∷ []) ∷ [] = replies ∙ got in
    let told_first : told transcripts d ≡ q ∷ [] = cc in
    let told_second : told transcripts e ≡ s ∷ [] = cc in
    let at_first : told transcripts d ≡ replies_to transcripts 7 (1, 1) =
    ap (λ i. replies_to transcripts i (d.first, d.last)) first ∙ (ap (λ i. replies_to transcripts 7 (i, d.last)) one.0 ∙ ap (λ i. replies_to transcripts 7 (1, i)) one.1) in
    let at_second : told transcripts e ≡ replies_to transcripts 7 (2, 2) =
    ap (λ i. replies_to transcripts i (e.first, e.last)) second ∙ (ap (λ i. replies_to transcripts 7 (i, e.last)) other.0 ∙ ap (λ i. replies_to transcripts 7 (2, i)) other.1) in
    ap (λ (rs : List Reply). rs ++ replies_to transcripts 7 (2, 2)) (sym at_first ∙ told_first)
    ∙ (ap (λ (rs : List Reply). (q ∷ []) ++ rs) (sym at_second ∙ told_second)
    ∙ (ap (λ (a : ℕ). counted a (total ys) ∷ s ∷ []) size
    ∙ (ap (λ (a : ℕ). counted (16 * n) a ∷ s ∷ []) sum
    ∙ (ap (λ (a : ℕ). counted (16 * n) (1610 * n) ∷ counted a (total (remainders (16 * n))) ∷ []) many
    ∙ ap (λ (a : ℕ). counted (16 * n) (1610 * n) ∷ counted (16 * n) a ∷ []) owners))))

-- ALL OF IT
length_of_triples : (m k : ℕ) → length (triples k m) ≡ m
length_of_triples zero k = refl
length_of_triples (suc m) k = ap suc (length_of_triples m (k + 1 + 1 + 1))

front_of : (p : Entry → Bool) (xs ys : List Entry) → list_all p (xs ++ ys) ≡ true → (list_all p xs ≡ true) × (list_all p ys ≡ true)
front_of p xs ys h = and_parts (list_all p xs) (list_all p ys) (sym (list_all-append p xs ys) ∙ h)

module _ (n : ℕ) (some : 1 ≤ n) (few : n ≤ 65535) (transcripts : List (List Reply)) (history : List Entry) (did : IsReplayed (demonstration n) empty_database transcripts history)
    (each : (s : ℕ) → map group_of (of_session s history) ≡ groups_in (demonstration n) s) where
  abbrev script : Script
  script = demonstration n

  one : Cut n 1 history
  one = cut n 1 history (rises_from_one n history did.whole_groups did.in_order)

  two : Cut n 2 one.back
  two = cut n 2 one.back one.later

  three : Cut n 3 two.back
  three = cut n 3 two.back two.later

  abbrev a : List Entry
  a = one.front

  abbrev b : List Entry
  b = two.front

  abbrev c : List Entry
  c = three.front

  abbrev z : List Entry
  z = three.back

  cut_up : history ≡ a ++ (b ++ (c ++ z))
  cut_up = one.whole ∙ ap (λ (es : List Entry). a ++ es) (two.whole ∙ ap (λ (es : List Entry). b ++ es) three.whole)

  parts : (s : ℕ) → of_session s history ≡ of_session s a ++ (of_session s b ++ (of_session s c ++ of_session s z))
  parts s =
      let p : Entry → Bool = λ e. e.session == s in
      ap (of_session s) cut_up
      ∙ (filter-append p a (b ++ (c ++ z))
      ∙ ap (λ (es : List Entry). of_session s a ++ es) (filter-append p b (c ++ z) ∙ ap (λ (es : List Entry). of_session s b ++ es) (filter-append p c z)))

  groups_of_session : (s : ℕ) → map group_of (of_session s history) ≡ groups_in script s
  groups_of_session s = each s

  first_groups : map group_of a ≡ lone 1 (suc n)
  first_groups =
      let e : of_session 1 history ≡ a =
      parts 1 ∙ rw (all_of_phase n 1 1 (only_first n) a one.here, none_of_phase n 2 1 b two.here refl, none_of_phase n 3 1 c three.here refl, none_later n 4 1 z three.later (omega arith)) (append-nil a) in
      sym (ap (map group_of) e) ∙ (groups_of_session 1 ∙ ap (λ (gs : List (ℕ × ℕ)). (1, 1) ∷ gs) (groups_of_openings n 2 1))

  second_groups : map group_of b ≡ lone 1 1
  second_groups =
      let e : of_session 2 history ≡ b =
      parts 2 ∙ rw (none_of_phase n 1 2 a one.here refl, all_of_phase n 2 2 (only_second n) b two.here, none_of_phase n 3 2 c three.here refl, none_later n 4 2 z three.later (omega arith)) (append-nil b) in
      sym (ap (map group_of) e) ∙ groups_of_session 2

  last_groups : map group_of z ≡ lone 1 2
  last_groups =
      let e : of_session 7 history ≡ z =
      parts 7 ∙ rw (none_of_phase n 1 7 a one.here refl, none_of_phase n 2 7 b two.here refl, none_of_phase n 3 7 c three.here refl, all_later n 4 7 (only_last n) 4 (omega arith) z three.later) refl in
      sym (ap (map group_of) e) ∙ groups_of_session 7

  many_of : (s : ℕ) → phase_of n s ≡ 3 → (phase_of n s == 1) ≡ false → (phase_of n s == 2) ≡ false → groups_in script s ≡ triples 1 n → length (of_session s c) ≡ n
  many_of s third first second groups =
      let e : of_session s history ≡ of_session s c =
      parts s ∙ rw (none_of_phase n 1 s a one.here first, none_of_phase n 2 s b two.here second, none_later n 4 s z three.later (omega arith)) (append-nil (of_session s c)) in
      sym (length-map (of_session s c) group_of) ∙ (ap length (sym (ap (map group_of) e) ∙ (groups_of_session s ∙ groups)) ∙ length_of_triples n 1)

  credits_weigh : total (map weight c) ≡ 10 * n
  credits_weigh =
      let all = weights n c three.here in
      let first = many_of 3 refl refl refl (groups_of_credits 1 (4 * n * 0) n 1 1) in
      let second = many_of 4 refl refl refl (groups_of_credits 2 (4 * n * 1) n 1 1) in
      let third = many_of 5 refl refl refl (groups_of_credits 3 (4 * n * 2) n 1 1) in
      let fourth = many_of 6 refl refl refl (groups_of_credits 4 (4 * n * 3) n 1 1) in
      omega arith

  all_did : AreCommitted (a ++ (b ++ (c ++ z)))
  all_did = subst AreCommitted cut_up (all_committed n 1 history did.whole_groups did.outcomes)

  behind_first : AreCommitted (b ++ (c ++ z))
  behind_first = back_committed a (b ++ (c ++ z)) all_did

  behind_second : AreCommitted (c ++ z)
  behind_second = back_committed b (c ++ z) behind_first

  all_whole : list_all (is_whole_group script) (a ++ (b ++ (c ++ z))) ≡ true
  all_whole = subst (λ (es : List Entry). list_all (is_whole_group script) es ≡ true) cut_up did.whole_groups

  credits_whole : list_all (is_whole_group script) c ≡ true
  credits_whole = (front_of (is_whole_group script) c z (front_of (is_whole_group script) b (c ++ z) (front_of (is_whole_group script) a (b ++ (c ++ z)) all_whole).1).1).0

  begun : total (hundreds (16 * n)) ≡ 100 * (16 * n)
  begun = sum_of_hundreds (16 * n) 1

  sized : length (hundreds (16 * n)) ≡ 16 * n
  sized = length-map-range_with_len (λ i. 100) 1 (16 * n)

  credit_all : Credited n (rows_of 1 (remainders (16 * n))) (hundreds (16 * n)) c
  credit_all =
      let so_far = begun in
      let weighs = credits_weigh in
      credits_reach n (rows_of 1 (remainders (16 * n))) c (hundreds (16 * n)) credits_whole three.here (front_committed c z behind_second) sized (omega arith)

  abbrev shown : Database
  shown = parted (rows_of 1 credit_all.ys) (rows_of 1 (remainders (16 * n)))

  reached : Reaches script empty_database (a ++ (b ++ c)) shown
  reached =
      joins script empty_database (start_of n) shown a (b ++ c) (first_reach n few a one.here (front_committed a (b ++ (c ++ z)) all_did) first_groups)
      (joins script (start_of n) (split_of n) shown b c (split_reach n few b two.here (front_committed b (c ++ z) behind_first) second_groups) credit_all.reaches)

  regrouped : history ≡ (a ++ (b ++ c)) ++ z
  regrouped = cut_up ∙ sym (append_assoc a (b ++ c) z ∙ ap (λ (es : List Entry). a ++ es) (append_assoc b c z))

  pub shows : replies_to transcripts 7 (1, 1) ++ replies_to transcripts 7 (2, 2) ≡ last_replies n
  shows =
      let goes = reached 0 z in
      let before : List Entry = a ++ (b ++ c) in
      let replies : map (told transcripts) (before ++ z) ≡ (replayed script empty_database (before ++ z)).0 =
      subst (λ (es : List Entry). map (told transcripts) es ≡ (replayed script empty_database es).0) regrouped did.replies in
      let both : map (told transcripts) before ++ map (told transcripts) z ≡ goes.front ++ (replayed_behind goes.count script shown z).0 =
      sym (map-append (told transcripts) before z) ∙ (replies ∙ goes.goes) in
      let long : length (map (told transcripts) before) ≡ length goes.front = length-map before (told transcripts) ∙ sym goes.as_long in
      let size : length credit_all.ys ≡ 16 * n = credit_all.same ∙ sized in
      let sum = credit_all.sum in
      let so_far = begun in
      let weighs = credits_weigh in
      let all : total credit_all.ys ≡ 1610 * n = omega arith in
      last_told n some few transcripts goes.count credit_all.ys z three.later (back_committed c z behind_second) last_groups size all
      (tails (map (told transcripts) before) goes.front (map (told transcripts) z) (replayed_behind goes.count script shown z).0 long both)
