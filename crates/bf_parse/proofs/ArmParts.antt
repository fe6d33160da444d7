-- The arms of a MIGRATE.
use Rattle.std.proofs.Common.{◌≡◌, ℕ, suc, ◌<◌, ◌≤◌, Bool, true, false, List, [], ◌∷◌, ◌++◌, length, Option, Some, None, Result, Ok, Err, refl, sym, ap, subst, ◌∙◌, inl, inr, arith, append_assoc, length-append}
use Rattle.std.specs.Prelude.{if◌then◌else◌, IfOk}
use Rattle.std.specs.Result.{IsErr}
use Rattle.bf_tree.specs.Trees.{Cond}
use Rattle.bf_tree.specs.declared.raw.Ref.{Ref}
use Rattle.bf_lex.specs.declared.fault.ScriptKind.TheVariants.{TooManyColumns}
use Rattle.bf_lex.specs.declared.keyword.Keyword.TheVariants as keyword
use Rattle.bf_lex.specs.declared.sign.Sign.TheVariants as sign
use Rattle.bf_tree.specs.declared.migration.Arm.{Arm}
use Rattle.bf_tree.specs.declared.migration.Item.{Item}
use Rattle.bf_tree.specs.declared.migration.Join.{Join}
use Rattle.bf_phrase.specs.declared.cursor.Cursor.{Cursor}
use Rattle.bf_phrase.specs.declared.error.ReadStop.{ReadStop}
use Rattle.bf_phrase.specs.declared.error.ReadStop.TheVariants as stop
use Rattle.bf_phrase.specs.Words.{Word, Keyword, Name, Sign}
use Rattle.bf_phrase.specs.Steps.{Step, Say, Limit, Part, said}
use Rattle.bf_phrase.specs.Rules.{Return, After, Marked, Then, Either, Listed}
use Rattle.bf_phrase.specs.Reading.{CanGoOn, Ends, Reading, Read, Fits}
use Rattle.bf_phrase.specs.Outcome.{IsBehind, IsExpected, IsNamed, stopped}
use Rattle.bf_phrase.specs.Cursors.{IsPlace, left, words}
use Rattle.bf_phrase.specs.First.{begins, is_name}
use Rattle.bf_phrase.specs.Follow.{is_point, follow_list, follow_where}
use Rattle.bf_phrase.specs.Parts.{IsPart, IsSayable}
use Rattle.bf_phrase.specs.Expressions.{RefRule, ref_to}
use Rattle.bf_phrase.specs.Phrases.{WhereRule}
use Rattle.bf_parse.specs.Migrations.{EqualityRule, Equalities, no_other, other, join_of, JoinRule, GroupRule, ArmRule, Arms, no_arm, arm}
use Rattle.bf_phrase.specs.Items.{ItemRule}
use Rattle.bf_parse.specs.MigrationFollow.{ArmsRule, ClausesRule, EqualitiesRule, follow_arm, follow_arms, follow_equalities, follow_group, follow_join}
use Rattle.bf_phrase.proofs.Fitting.{fits_by}
use Rattle.bf_phrase.proofs.Factors.{begins-append}
use Rattle.bf_phrase.proofs.Chains.{or_left}
use Rattle.bf_phrase.proofs.Clears.{Clear, clear_after, clear_either, clear_passed, clear_return, clear_then, or_right, then_assoc}
use Rattle.bf_phrase.proofs.Maps.{Maps, map_go, map_stop, wider}
use Rattle.bf_phrase.proofs.Listings.{ref_part}
use Rattle.bf_phrase.proofs.Shapes.{ref_can, item_can}
use Rattle.bf_parse.proofs.MigrateShapes.{equality_can, equalities_can, join_can, group_can, arm_can, arms_can}
use Rattle.bf_phrase.proofs.Phrases.{where_can}
use Rattle.bf_phrase.proofs.Parts.{part_full, part_low}
use Rattle.bf_phrase.proofs.Moves.{Can, Passed, after_can, after_go, after_stop, after_not_here, behind_go, left_here, right_here, marked_can, marked_go, named_go, named_stop, others_can, return_can, return_fits, return_not_here, return_passed, then_can, then_go, then_stop}

-- ---- equalities

equality_opens : (s : List Step) (e : Ref × Ref) → EqualityRule s e → begins is_name (said s) ≡ true
equality_opens s e h = ap (λ (z : List Step). begins is_name (said z)) h.3 ∙ begins-append is_name h.0 h.1 (ref_part.opens h.0 h.2 h.4)

equality_starts : (w : Word) → IsSayable w → is_name w ≡ true → (next : List Step) × (said next ≡ w ∷ []) × CanGoOn EqualityRule next
equality_starts w real e =
    let h = ref_part.starts w real e in
    let last : List Step = Say (Name []) ∷ [] in
    let rest : List Step = Say (Sign sign.Equal) ∷ Say (Name []) ∷ [] in
    (h.0, h.1, (h.2.0 ++ rest, (h.2.1, ref_to None []), (h.0 ++ h.2.0, rest, h.2.1, sym (append_assoc h.0 h.2.0 rest), h.2.2, (last, refl, (last, [], ref_to None [], refl, ([], [], refl, inl (refl, refl)), (refl, refl))))))

pub equality_part : IsPart is_point is_name EqualityRule
equality_part = record { opens = equality_opens; starts = equality_starts; some = equality_can.it; comma = refl; closing = refl }

abbrev BehindAnd : ℕ → List (Ref × Ref) → List Step → List (Ref × Ref) → Type 0
BehindAnd n acc = Then (Marked (Part n) EqualityRule) (λ e. Equalities (suc n) (acc ++ e ∷ []))

equalities_as : {n : ℕ} {acc : List (Ref × Ref)} {ws : List Word} {r : Reading (List (Ref × Ref))} → Fits follow_equalities (Either (After (Keyword keyword.And) (BehindAnd n acc)) (Return acc)) ws r → Fits follow_equalities (Equalities n acc) ws r
equalities_as {n = n} {acc = acc} {ws = ws} {r = r} f = record { it = fits_by follow_equalities (Either (After (Keyword keyword.And) (BehindAnd n acc)) (Return acc)) (Equalities n acc) ws r f.it to (λ s b back g ends same. from s b g) }
  where
    to : (s : List Step) (b : List (Ref × Ref)) → Either (After (Keyword keyword.And) (BehindAnd n acc)) (Return acc) s b → Equalities n acc s b
    to s b (inr h) = no_other h.0 h.1
    to s b (inl h) =
        let m = h.2.4 in
        other m.0 h.2.1 h.2.2 m.2 h.2.5 (h.1 ∙ ap (λ (z : List Step). Say (Keyword keyword.And) ∷ z) (h.2.3 ∙ ap (λ (z : List Step). z ++ h.2.1) m.1))

    from : (s : List Step) (b : List (Ref × Ref)) → Equalities n acc s b → Either (After (Keyword keyword.And) (BehindAnd n acc)) (Return acc) s b
    from s b (no_other p q) = inr (p, q)
    from s b (other front rest c f m p) = inl (Limit (Part n) ∷ (front ++ rest), p, (Limit (Part n) ∷ front, rest, c, refl, (front, refl, f), m))

equalities_clear : (n : ℕ) (acc : List (Ref × Ref)) → Clear is_point (Equalities n acc)
equalities_clear n acc = record { it = by }
  where
    by : (s : List Step) (b : List (Ref × Ref)) → Equalities n acc s b → Ends is_point (said s)
    by s b (no_other p q) = subst (λ (z : List Step). Ends is_point (said z)) (sym p) tt
    by s b (other front rest c f m p) = subst (λ (z : List Step). Ends is_point (said z)) (sym p) refl

equalities_passed : (n : ℕ) (acc : List (Ref × Ref)) → Passed is_point follow_equalities (λ e. Equalities n (acc ++ e ∷ []))
equalities_passed n acc = clear_passed (λ e. equalities_clear n (acc ++ e ∷ [])) (λ t e. or_left _ _ e)

pub equalities_stop : {ws : List Word} (e : ReadStop) → Fits is_point EqualityRule ws (stopped e) → Fits follow_equalities EqualitiesRule ws (stopped e)
equalities_stop e f = then_stop e (equalities_passed 2 []) (λ a. equalities_can) (marked_go refl f)

pub equalities_first : {items : List (Ref × Ref)} {ws mid : List Word} {a : Ref × Ref} {r : Reading (List (Ref × Ref))} → Fits is_point EqualityRule ws (Read a mid) → items ≡ a ∷ [] → Fits follow_equalities (Equalities (suc (length items)) items) mid r → Fits follow_equalities EqualitiesRule ws r
equalities_first {mid = mid} {r = r} f e h =
    then_go (equalities_passed 2 []) (marked_go refl f) (subst (λ (z : List (Ref × Ref)). Fits follow_equalities (Equalities (suc (length z)) z) mid r) e h)

pub equalities_full : {n : ℕ} {acc : List (Ref × Ref)} {ws : List Word} (behind : Cursor) (e : ReadStop) (flag : Bool) → IsPlace behind → IsBehind (Keyword keyword.And) ws (Some (words behind)) → flag ≡ begins is_name (words behind) → 16 ≤ n
    → e ≡ (if flag then stop.Limit TooManyColumns (left behind) else stop.Syntax (left behind)) → Fits follow_equalities (Equalities (suc n) acc) ws (stopped e)
equalities_full {n = n} {acc = acc} behind e flag place h is high fault =
    equalities_as (left_here (return_not_here h refl) (behind_go h (then_stop e (equalities_passed (suc (suc n)) acc) (λ a. equalities_can) (part_full behind e flag equality_part place is high fault))))

pub equalities_next_stop : {n : ℕ} {acc : List (Ref × Ref)} {ws rest : List Word} (e : ReadStop) → n < 16 → IsBehind (Keyword keyword.And) ws (Some rest) → Fits is_point EqualityRule rest (stopped e) → Fits follow_equalities (Equalities (suc n) acc) ws (stopped e)
equalities_next_stop {n = n} {acc = acc} e low h f =
    equalities_as (left_here (return_not_here h refl) (behind_go h (then_stop e (equalities_passed (suc (suc n)) acc) (λ a. equalities_can) (marked_go (part_low n low) f))))

pub equalities_next : (acc : List (Ref × Ref)) {items : List (Ref × Ref)} {ws rest mid : List Word} {a : Ref × Ref} {r : Reading (List (Ref × Ref))} → length acc < 16 → IsBehind (Keyword keyword.And) ws (Some rest) → Fits is_point EqualityRule rest (Read a mid) → items ≡ acc ++ a ∷ []
    → Fits follow_equalities (Equalities (suc (length items)) items) mid r → Fits follow_equalities (Equalities (suc (length acc)) acc) ws r
equalities_next acc {mid = mid} {a = a} {r = r} low h f e g =
    let count : length (acc ++ a ∷ []) ≡ suc (length acc) = omega (arith, length-append acc (a ∷ [])) in
    let k = subst (λ (z : List (Ref × Ref)). Fits follow_equalities (Equalities (suc (length z)) z) mid r) e g in
    let more = subst (λ (n : ℕ). Fits follow_equalities (Equalities (suc n) (acc ++ a ∷ [])) mid r) count k in
    equalities_as (left_here (return_not_here h refl) (behind_go h (then_go (equalities_passed (suc (suc (length acc))) acc) (marked_go (part_low (length acc) low) f) more)))

pub equalities_end : {n : ℕ} {acc : List (Ref × Ref)} {ws : List Word} → IsBehind (Keyword keyword.And) ws None → Fits follow_equalities (Equalities n acc) ws (Read acc ws)
equalities_end h = equalities_as (right_here (after_not_here h) return_fits)

-- ---- what may follow the parts of an arm

where_clear : Clear follow_join WhereRule
where_clear = clear_either clear_return (clear_after refl)

group_clear : {v : Word → Bool} → v (Keyword keyword.Group) ≡ false → Clear v GroupRule
group_clear e = clear_either clear_return (clear_after e)

pub join_passed : {A B : Type 0} {K : A → Option (Cond Ref) → List Ref → B} → Passed follow_join follow_arm (λ (j : A). Then WhereRule (λ cond. Then GroupRule (λ group. Return (K j cond group))))
join_passed = clear_passed (λ j. clear_then where_clear (λ cond. clear_then (group_clear refl) (λ group. clear_return))) (λ t e. or_left _ _ e)

pub where_passed : {B : Type 0} {K : Option (Cond Ref) → List Ref → B} → Passed follow_where follow_arm (λ (cond : Option (Cond Ref)). Then GroupRule (λ group. Return (K cond group)))
where_passed = clear_passed (λ cond. clear_then (group_clear refl) (λ group. clear_return)) (λ t e. or_left _ _ (or_right _ _ e))

pub group_weaker : (t : Word) → follow_arm t ≡ false → follow_group t ≡ false
group_weaker t e = or_right _ _ (or_right _ _ e)

-- ---- arms

abbrev BehindUnion : List Arm → List Step → List Arm → Type 0
BehindUnion acc = After (Keyword keyword.All) (Then ArmRule (λ a. Arms (acc ++ a ∷ [])))

arms_as : {acc : List Arm} {ws : List Word} {r : Reading (List Arm)} → Fits follow_arms (Either (After (Keyword keyword.Union) (BehindUnion acc)) (Return acc)) ws r → Fits follow_arms (Arms acc) ws r
arms_as {acc = acc} {ws = ws} {r = r} f = record { it = fits_by follow_arms (Either (After (Keyword keyword.Union) (BehindUnion acc)) (Return acc)) (Arms acc) ws r f.it to (λ s b back g ends same. from s b g) }
  where
    to : (s : List Step) (b : List Arm) → Either (After (Keyword keyword.Union) (BehindUnion acc)) (Return acc) s b → Arms acc s b
    to s b (inr h) = no_arm h.0 h.1
    to s b (inl h) =
        let t = h.2.2 in
        arm t.0 t.1 t.2 t.4 t.5 (h.1 ∙ ap (λ (z : List Step). Say (Keyword keyword.Union) ∷ z) (h.2.1 ∙ ap (λ (z : List Step). Say (Keyword keyword.All) ∷ z) t.3))

    from : (s : List Step) (b : List Arm) → Arms acc s b → Either (After (Keyword keyword.Union) (BehindUnion acc)) (Return acc) s b
    from s b (no_arm p q) = inr (p, q)
    from s b (arm front rest c f m p) = inl (Say (Keyword keyword.All) ∷ (front ++ rest), p, (front ++ rest, refl, (front, rest, c, refl, f, m)))

arms_clear : (acc : List Arm) → Clear follow_arm (Arms acc)
arms_clear acc = record { it = by }
  where
    by : (s : List Step) (b : List Arm) → Arms acc s b → Ends follow_arm (said s)
    by s b (no_arm p q) = subst (λ (z : List Step). Ends follow_arm (said z)) (sym p) tt
    by s b (arm front rest c f m p) = subst (λ (z : List Step). Ends follow_arm (said z)) (sym p) refl

arms_passed : (acc : List Arm) → Passed follow_arm follow_arms (λ a. Arms (acc ++ a ∷ []))
arms_passed acc = clear_passed (λ a. arms_clear (acc ++ a ∷ [])) (λ t e. or_left _ _ e)

pub arms_stop : {ws : List Word} (e : ReadStop) → Fits follow_arm ArmRule ws (stopped e) → Fits follow_arms ArmsRule ws (stopped e)
arms_stop e f = then_stop e (arms_passed []) (λ a. arms_can) f

pub arms_first : {items : List Arm} {ws mid : List Word} {a : Arm} {r : Reading (List Arm)} → Fits follow_arm ArmRule ws (Read a mid) → items ≡ a ∷ [] → Fits follow_arms (Arms items) mid r → Fits follow_arms ArmsRule ws r
arms_first {mid = mid} {r = r} f e h = then_go (arms_passed []) f (subst (λ (z : List Arm). Fits follow_arms (Arms z) mid r) e h)

pub arms_open : {acc : List Arm} {ws rest : List Word} {e : ReadStop} → IsBehind (Keyword keyword.Union) ws (Some rest) → IsExpected (Keyword keyword.All) rest (Err e) → Fits follow_arms (Arms acc) ws (stopped e)
arms_open {acc = acc} h k = arms_as (left_here (return_not_here h refl) (behind_go h (after_stop k (then_can arm_can (λ a. arms_can {before = acc ++ a ∷ []})))))

pub arms_next_stop : {acc : List Arm} {ws rest mid : List Word} (e : ReadStop) → IsBehind (Keyword keyword.Union) ws (Some rest) → IsExpected (Keyword keyword.All) rest (Ok mid) → Fits follow_arm ArmRule mid (stopped e) → Fits follow_arms (Arms acc) ws (stopped e)
arms_next_stop {acc = acc} e h k f = arms_as (left_here (return_not_here h refl) (behind_go h (after_go k (then_stop e (arms_passed acc) (λ a. arms_can) f))))

pub arms_next : (acc : List Arm) {items : List Arm} {ws rest mid last : List Word} {a : Arm} {r : Reading (List Arm)} → IsBehind (Keyword keyword.Union) ws (Some rest) → IsExpected (Keyword keyword.All) rest (Ok mid) → Fits follow_arm ArmRule mid (Read a last) → items ≡ acc ++ a ∷ []
    → Fits follow_arms (Arms items) last r → Fits follow_arms (Arms acc) ws r
arms_next acc {last = last} {r = r} h k f e g =
    arms_as (left_here (return_not_here h refl) (behind_go h (after_go k (then_go (arms_passed acc) f (subst (λ (z : List Arm). Fits follow_arms (Arms z) last r) e g)))))

pub arms_end : {acc : List Arm} {ws : List Word} → IsBehind (Keyword keyword.Union) ws None → Fits follow_arms (Arms acc) ws (Read acc ws)
arms_end h = arms_as (right_here (after_not_here h) return_fits)

-- ---- a JOIN

abbrev Joined : List ℕ → List (Ref × Ref) → List Step → Option Join → Type 0
Joined table on = Return (Some (join_of table on))

abbrev JoinEnd : List ℕ → List Step → Option Join → Type 0
JoinEnd table = Then (Marked (Part 1) EqualityRule) (λ e. Then (Equalities 2 (e ∷ [])) (λ on. Joined table on))

join_end_can : (table : List ℕ) → Can (JoinEnd table)
join_end_can table = then_can (marked_can equality_can) (λ e. then_can equalities_can (λ on. return_can))

pub no_join : {ws : List Word} → IsBehind (Keyword keyword.Join) ws None → Fits follow_join JoinRule ws (Read None ws)
no_join h = left_here (after_not_here h) return_fits

pub join_unnamed : {ws rest : List Word} {e : ReadStop} → IsBehind (Keyword keyword.Join) ws (Some rest) → IsNamed rest (Err e) → Fits follow_join JoinRule ws (stopped e)
join_unnamed h k = right_here (return_not_here h refl) (behind_go h (named_stop k (λ table. after_can (join_end_can table))))

pub join_open : {ws rest mid : List Word} {table : List ℕ} {e : ReadStop} → IsBehind (Keyword keyword.Join) ws (Some rest) → IsNamed rest (Ok (table, mid)) → IsExpected (Keyword keyword.On) mid (Err e) → Fits follow_join JoinRule ws (stopped e)
join_open {table = table} h k o = right_here (return_not_here h refl) (behind_go h (named_go k (after_stop o (join_end_can table))))

pub join_stop : {ws rest mid last : List Word} {table : List ℕ} (e : ReadStop) → IsBehind (Keyword keyword.Join) ws (Some rest) → IsNamed rest (Ok (table, mid)) → IsExpected (Keyword keyword.On) mid (Ok last) → Fits follow_equalities EqualitiesRule last (stopped e) → Fits follow_join JoinRule ws (stopped e)
join_stop e h k o f = right_here (return_not_here h refl) (behind_go h (named_go k (after_go o (then_assoc (then_stop e (return_passed (λ t p. or_left _ _ p)) (λ on. return_can) f)))))

pub join_read : {ws rest mid last end : List Word} {table : List ℕ} {on : List (Ref × Ref)} → IsBehind (Keyword keyword.Join) ws (Some rest) → IsNamed rest (Ok (table, mid)) → IsExpected (Keyword keyword.On) mid (Ok last) → Fits follow_equalities EqualitiesRule last (Read on end)
    → Fits follow_join JoinRule ws (Read (Some (join_of table on)) end)
join_read h k o f = right_here (return_not_here h refl) (behind_go h (named_go k (after_go o (then_assoc (then_go (return_passed (λ t p. or_left _ _ p)) f return_fits)))))

-- ---- a GROUP BY

pub no_group : {ws : List Word} {items : List Ref} → IsBehind (Keyword keyword.Group) ws None → items ≡ [] → Fits follow_group GroupRule ws (Read items ws)
no_group {ws = ws} h e = subst (λ (z : List Ref). Fits follow_group GroupRule ws (Read z ws)) (sym e) (left_here (after_not_here h) return_fits)

pub group_open : {ws rest : List Word} {e : ReadStop} → IsBehind (Keyword keyword.Group) ws (Some rest) → IsExpected (Keyword keyword.By) rest (Err e) → Fits follow_group GroupRule ws (stopped e)
group_open h k = right_here (return_not_here h refl) (behind_go h (after_stop k (then_can (marked_can ref_can) (λ a. others_can))))

pub group_read : {ws rest mid : List Word} {r : Reading (List Ref)} → IsBehind (Keyword keyword.Group) ws (Some rest) → IsExpected (Keyword keyword.By) rest (Ok mid) → Fits (follow_list is_point) (Listed RefRule) mid r → Fits follow_group GroupRule ws r
group_read h k f = right_here (return_not_here h refl) (behind_go h (after_go k (wider (λ t p. or_left _ _ p) f)))

-- ---- an arm

pub items_can : Can (Listed ItemRule)
items_can = then_can (marked_can item_can) (λ a. others_can)

pub clauses_can : {A : Type 0} {K : Option Join → Option (Cond Ref) → List Ref → A} → Can (Then JoinRule (λ join. Then WhereRule (λ cond. Then GroupRule (λ group. Return (K join cond group)))))
clauses_can = then_can join_can (λ join. then_can where_can (λ cond. then_can group_can (λ group. return_can)))

abbrev Found : Type 0
Found = Option Join × Option (Cond Ref) × List Ref

abbrev pub arm_of : List Item → List ℕ → Found → Arm
arm_of items from x = record { items = items; from = from; join = x.0; cond = x.1; group = x.2 }

abbrev pub ArmEnd : List Item → List ℕ → List Step → Arm → Type 0
ArmEnd items from = Then JoinRule (λ join. Then WhereRule (λ cond. Then GroupRule (λ group. Return (arm_of items from (join, cond, group)))))

clauses_map : (items : List Item) (from : List ℕ) → Maps (λ x. arm_of items from x) ClausesRule (ArmEnd items from)
clauses_map items from = record { to = to; from = back }
  where
    to : (s : List Step) (x : Found) → ClausesRule s x → ArmEnd items from s (arm_of items from x)
    to s x h =
        let t = h.5 in
        let u = t.5 in
        (h.0, h.1, h.2, h.3, h.4, (t.0, t.1, t.2, t.3, t.4, (u.0, u.1, u.2, u.3, u.4, (u.5.0, ap (λ (z : Found). arm_of items from z) u.5.1))))

    back : (s : List Step) (b : Arm) → ArmEnd items from s b → (x : Found) × ClausesRule s x × (b ≡ arm_of items from x)
    back s b h =
        let t = h.5 in
        let u = t.5 in
        ((h.2, t.2, u.2), (h.0, h.1, h.2, h.3, h.4, (t.0, t.1, t.2, t.3, t.4, (u.0, u.1, u.2, u.3, u.4, (u.5.0, refl)))), u.5.1)

pub end_stop : (items : List Item) (from : List ℕ) {ws : List Word} (e : ReadStop) → Fits follow_arm ClausesRule ws (stopped e) → Fits follow_arm (ArmEnd items from) ws (stopped e)
end_stop items from e f = map_stop e (clauses_map items from) f

pub end_read : (items : List Item) (from : List ℕ) {ws rest : List Word} {x : Found} → Fits follow_arm ClausesRule ws (Read x rest) → Fits follow_arm (ArmEnd items from) ws (Read (arm_of items from x) rest)
end_read items from f = map_go (clauses_map items from) f

-- what a `?` gives back is no place
pub not_read : {X : Type 0} (P : X → Type 0) (res : Result X ReadStop) → IsErr res → IfOk res P
not_read P (Ok x) e = absurd cc
not_read P (Err x) e = tt
