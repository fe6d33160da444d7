-- A tree of marks, read as a finite map, and how its keys and the taken tickets belong together after each change.
use Rattle.std.proofs.Common.{◌≡◌, ◌≢◌, ◌⊎◌, inl, inr, ⊎_elim, ℕ, Bool, true, false, cond, List, [], ◌∷◌, ◌++◌, map, Option, Some, None, refl, sym, ap, ◌∙◌, subst, arith, eqb}
use Rattle.std.specs.Ordering.{eq_by_cmp}
use Rattle.std.specs.Cmp.{eq_by_cmp_equiv}
use Rattle.std.specs.FinMap as finite
use Rattle.std.specs.FinMap.{find, same_map, get-from_entries, get-insert, get-remove}
use Rattle.std.specs.BTreeMap as tree
use Rattle.std.specs.BTreeMap.{BTreeMap, is_at}
use Rattle.std.specs.Map.{lookup}
use Rattle.std.proofs.lemmas.Bool.{cases_Bool, cond-true, cond-false}
use Rattle.std.proofs.lemmas.Bool.Decides.{nat_tests}
use Rattle.std.proofs.lemmas.Map.Views.{tells_apart}
use mathlib.Core.Logic.{dite}
use native.Mathlib.Decide.{ℕ_discrete}
use Rattle.bf_base.specs.Values.{key_cmp, key_cmp_total, key_cmp-IsAntisymmetric}
use Rattle.bf_hash.specs.declared.state.Mark.{Mark}
use Rattle.bf_hash.specs.declared.state.Mark.TheVariants.{Held, Done}
use Rattle.bf_hash.specs.declared.state.HashState.{HashState}
use Rattle.bf_hash.specs.declared.state.HashState.TheVariants.{Free}
use Rattle.bf_hash.specs.declared.state.HashClaim.{HashClaim}
use Rattle.bf_hash.specs.States.{state_by, is_held_under}
use Rattle.bf_hash.specs.Tickets.{Pool, IsTaken, IsLeastFree, TakesOne, GivesOne}
use Rattle.bf_hash.specs.Stripes.{Cells, Marks, mark_of, state_of, all_done, after_finish, after_give_back, IsConsistent, IsLeastTicket}
use Rattle.bf_hash.specs.Keeping.{marks_in, AreTheirs}

-- ---- the tree as a finite map
find_looks : (key : Cells) (es : List (Cells × Mark)) → find key_cmp key es ≡ lookup (is_at (key_cmp key)) es
find_looks key [] = refl
find_looks key (e ∷ es) = ap (cond (eq_by_cmp key_cmp key e.0) (Some e.1)) (find_looks key es)

pub mark_in : (states : BTreeMap Cells Mark) (key : Cells) → mark_of (marks_in states) key ≡ tree.get key_cmp states key
mark_in states key = get-from_entries key_cmp_total states.entries key ∙ find_looks key states.entries

-- how a change at one key reads
abbrev pub ChangesAt : BTreeMap Cells Mark → BTreeMap Cells Mark → Cells → Option Mark → Type 0
ChangesAt old new key mark = (q : Cells) → tree.get key_cmp new q ≡ cond (is_at (key_cmp key) q) mark (tree.get key_cmp old q)

pub inserted : (old new : BTreeMap Cells Mark) (key : Cells) (mark : Mark) → ChangesAt old new key (Some mark) → marks_in new ≡ finite.insert (marks_in old) key mark
inserted old new key mark is = same_map key_cmp_total key_cmp-IsAntisymmetric _ _ (λ q.
    mark_in new q ∙ (is q ∙ (ap (λ b. cond b (Some mark) (tree.get key_cmp old q)) ((eq_by_cmp_equiv key_cmp_total).symm key q)
    ∙ (ap (cond (eq_by_cmp key_cmp q key) (Some mark)) (sym (mark_in old q)) ∙ sym (get-insert key_cmp_total (marks_in old) key mark q)))))

pub removed : (old new : BTreeMap Cells Mark) (key : Cells) → ChangesAt old new key None → marks_in new ≡ finite.remove (marks_in old) key
removed old new key is = same_map key_cmp_total key_cmp-IsAntisymmetric _ _ (λ q.
    mark_in new q ∙ (is q ∙ (ap (λ b. cond b None (tree.get key_cmp old q)) ((eq_by_cmp_equiv key_cmp_total).symm key q)
    ∙ (ap (cond (eq_by_cmp key_cmp q key) None) (sym (mark_in old q)) ∙ sym (get-remove key_cmp_total (marks_in old) key q)))))

-- the state of a key, as the tree and as the map have it
pub state_here : (states : BTreeMap Cells Mark) (stripe : Marks) (key : Cells) → marks_in states ≡ stripe → state_by (tree.get key_cmp states key) ≡ state_of stripe key
state_here states stripe key seen = ap state_by (sym (mark_in states key)) ∙ ap (λ (s : Marks). state_of s key) seen

free_mark : (mark : Option Mark) → state_by mark ≡ Free → mark ≡ None
free_mark None e = refl
free_mark (Some (Held other)) e = absurd cc
free_mark (Some Done) e = absurd cc

-- a key that is free has no mark, nor has its copy
pub free_here : (states : BTreeMap Cells Mark) (stripe : Marks) (key copy : Cells) → marks_in states ≡ stripe → copy ≡ key → state_of stripe key ≡ Free → tree.get key_cmp states copy ≡ None
free_here states stripe key copy seen same free = ap (tree.get key_cmp states) same ∙ free_mark (tree.get key_cmp states key) (state_here states stripe key seen ∙ free)

same_number : (a b : ℕ) → eqb a b ≡ true → a ≡ b
same_number a b e = grind (arith, nat_tests)

-- the mark of a key that is found held
pub held_mark : (ticket : ℕ) (mark : Option Mark) → is_held_under ticket (state_by mark) ≡ true → mark ≡ Some (Held ticket)
held_mark ticket None e = absurd cc
held_mark ticket (Some (Held other)) e = ap (λ (n : ℕ). Some (Held n)) (same_number other ticket e)
held_mark ticket (Some Done) e = absurd cc

same_ticket : (t u : ℕ) → ◌≡◌ {A = Option Mark} (Some (Held t)) (Some (Held u)) → t ≡ u
same_ticket t u e = cc

-- ---- keys and tickets after a change at one key
module _ (old new : BTreeMap Cells Mark) (key : Cells) (mark : Option Mark) (is : ChangesAt old new key mark) where
  was : Cells → Option Mark
  was = tree.get key_cmp old

  now : Cells → Option Mark
  now = tree.get key_cmp new

  cases : (q : Cells) → ((q ≡ key) × (tree.get key_cmp new q ≡ mark)) ⊎ (tree.get key_cmp new q ≡ tree.get key_cmp old q)
  cases q = elim (cases_Bool (is_at (key_cmp key) q)) [
    | inl tied ↦ inl (sym (tells_apart key_cmp-IsAntisymmetric key q tied), is q ∙ cond-true _ _ _ tied)
    | inr apart ↦ inr (is q ∙ cond-false _ _ _ apart)
  ]

  here : tree.get key_cmp new key ≡ mark
  here = is key ∙ cond-true _ _ _ ((eq_by_cmp_equiv key_cmp_total).refl key)

  there : (q : Cells) → q ≢ key → tree.get key_cmp new q ≡ tree.get key_cmp old q
  there q ne = ⊎_elim (λ both. absurd (ne both.0)) (λ same. same) (cases q)

  -- a free key is held under a ticket that was free
  pub granted : (pool after : Pool) (ticket : ℕ) → mark ≡ Some (Held ticket) → tree.get key_cmp old key ≡ None → ¬ IsTaken pool ticket → TakesOne pool after ticket → AreTheirs (tree.get key_cmp old) pool → AreTheirs (tree.get key_cmp new) after
  granted pool after ticket held free unused takes theirs = record {
    held = λ q u e. ⊎_elim
        (λ both. subst (IsTaken after) (same_ticket ticket u (sym held ∙ (sym both.1 ∙ e))) takes.this)
        (λ same. takes.kept u (theirs.held q u (sym same ∙ e)))
        (cases q);
    taken = λ u taken. dite (ℕ_discrete u ticket)
        (λ e. (key, here ∙ (held ∙ ap (λ (n : ℕ). Some (Held n)) (sym e))))
        (λ ne.
        let found = theirs.taken u (takes.no_other u ne taken) in
        (found.0, there found.0 (λ same. none_held u (sym free ∙ (ap (tree.get key_cmp old) (sym same) ∙ found.1))) ∙ found.1));
    differ = λ q r u e f. ⊎_elim
        (λ first. ⊎_elim
        (λ second. first.0 ∙ sym second.0)
        (λ same. absurd (unused (subst (IsTaken pool) (sym (same_ticket ticket u (sym held ∙ (sym first.1 ∙ e)))) (theirs.held r u (sym same ∙ f)))))
        (cases r))
        (λ kept. ⊎_elim
        (λ second. absurd (unused (subst (IsTaken pool) (sym (same_ticket ticket u (sym held ∙ (sym second.1 ∙ f)))) (theirs.held q u (sym kept ∙ e)))))
        (λ same. theirs.differ q r u (sym kept ∙ e) (sym same ∙ f))
        (cases r))
        (cases q);
  }
    where
      none_held : (u : ℕ) → ◌≡◌ {A = Option Mark} None (Some (Held u)) → ⊥
      none_held u e = cc

  -- a held key is held no longer, and its ticket is free
  pub settled : (pool after : Pool) (ticket : ℕ) → ((u : ℕ) → mark ≢ Some (Held u)) → tree.get key_cmp old key ≡ Some (Held ticket) → GivesOne pool after ticket → AreTheirs (tree.get key_cmp old) pool → AreTheirs (tree.get key_cmp new) after
  settled pool after ticket unheld held gives theirs = record {
    held = λ q u e. ⊎_elim
        (λ both. absurd (unheld u (sym both.1 ∙ e)))
        (λ same. gives.no_other u
        (λ is_it.
        let it : q ≡ key = theirs.differ q key ticket (sym same ∙ (e ∙ ap (λ (n : ℕ). Some (Held n)) is_it)) held in
        unheld u (sym here ∙ (ap (tree.get key_cmp new) (sym it) ∙ e)))
        (theirs.held q u (sym same ∙ e)))
        (cases q);
    taken = λ u taken.
        let found = theirs.taken u (gives.kept u taken) in
        (found.0, there found.0 (λ same. gives.this (subst (IsTaken after) (same_ticket u ticket (sym found.1 ∙ (ap (tree.get key_cmp old) same ∙ held))) taken)) ∙ found.1);
    differ = λ q r u e f. ⊎_elim
        (λ first. absurd (unheld u (sym first.1 ∙ e)))
        (λ kept. ⊎_elim
        (λ second. absurd (unheld u (sym second.1 ∙ f)))
        (λ same. theirs.differ q r u (sym kept ∙ e) (sym same ∙ f))
        (cases r))
        (cases q);
  }

pub not_held : (u : ℕ) → ◌≢◌ {A = Option Mark} None (Some (Held u))
not_held u e = cc

pub done_not_held : (u : ℕ) → ◌≢◌ {A = Option Mark} (Some Done) (Some (Held u))
done_not_held u e = cc

-- the same keys, and the same tickets taken
pub theirs_still : (look : Cells → Option Mark) (pool after : Pool) → ((u : ℕ) → IsTaken pool u → IsTaken after u) → ((u : ℕ) → IsTaken after u → IsTaken pool u) → AreTheirs look pool → AreTheirs look after
theirs_still look pool after to from theirs = record {
  held = λ q u e. to u (theirs.held q u e);
  taken = λ u taken. theirs.taken u (from u taken);
  differ = theirs.differ;
}

-- a ticket that was taken and given back
pub taken_and_given : (look : Cells → Option Mark) (pool middle after : Pool) (ticket : ℕ) → ¬ IsTaken pool ticket → TakesOne pool middle ticket → GivesOne middle after ticket → AreTheirs look pool → AreTheirs look after
taken_and_given look pool middle after ticket unused takes gives = theirs_still look pool after
    (λ u taken. gives.no_other u (λ e. unused (subst (IsTaken pool) e taken)) (takes.kept u taken))
    (λ u taken. takes.no_other u (λ e. gives.this (subst (IsTaken after) e taken)) (gives.kept u taken))

-- ---- what callers see
pub consistent : (states : BTreeMap Cells Mark) (pool : Pool) → AreTheirs (tree.get key_cmp states) pool → IsConsistent (marks_in states)
consistent states pool theirs = record {
  differ = λ q r u e f. theirs.differ q r u (sym (mark_in states q) ∙ e) (sym (mark_in states r) ∙ f);
  from_one = λ q u e. (theirs.held q u (sym (mark_in states q) ∙ e)).from_one;
}

pub least_ticket : (states : BTreeMap Cells Mark) (pool : Pool) (ticket : ℕ) → AreTheirs (tree.get key_cmp states) pool → IsLeastFree pool ticket → IsLeastTicket (marks_in states) ticket
least_ticket states pool ticket theirs free = record {
  from_one = free.from_one;
  unused = λ q e. free.free (theirs.held q ticket (sym (mark_in states q) ∙ e));
  least = λ u up lt. let found = theirs.taken u (free.least u up lt) in (found.0, mark_in states found.0 ∙ found.1);
}

-- ---- after a finish and after a give back
module _ (old : BTreeMap Cells Mark) (stripe : Marks) (claim : HashClaim) (found : HashState) (held : Bool)
    (seen : marks_in old ≡ stripe) (found_is : found ≡ state_by (tree.get key_cmp old claim.key)) (held_is : held ≡ is_held_under claim.ticket found) where
  pub found_here : found ≡ state_of stripe claim.key
  found_here = found_is ∙ state_here old stripe claim.key seen

  tested : (b : Bool) → held ≡ b → is_held_under claim.ticket (state_of stripe claim.key) ≡ b
  tested b is = ap (is_held_under claim.ticket) (sym found_here) ∙ (sym held_is ∙ is)

  pub held_here : held ≡ true → tree.get key_cmp old claim.key ≡ Some (Held claim.ticket)
  held_here is = held_mark claim.ticket (tree.get key_cmp old claim.key) (ap (is_held_under claim.ticket) (sym found_is) ∙ (sym held_is ∙ is))

  pub finish_changes : (new : BTreeMap Cells Mark) → ChangesAt old new claim.key (Some Done) → held ≡ true → marks_in new ≡ after_finish stripe claim
  finish_changes new is so = inserted old new claim.key Done is ∙ (ap (λ (s : Marks). finite.insert s claim.key Done) seen ∙ sym (cond-true _ _ _ (tested true so)))

  pub finish_keeps : held ≡ false → stripe ≡ after_finish stripe claim
  finish_keeps not_so = sym (cond-false _ _ _ (tested false not_so))

  pub give_back_changes : (new : BTreeMap Cells Mark) → ChangesAt old new claim.key None → held ≡ true → marks_in new ≡ after_give_back stripe claim
  give_back_changes new is so = removed old new claim.key is ∙ (ap (λ (s : Marks). finite.remove s claim.key) seen ∙ sym (cond-true _ _ _ (tested true so)))

  pub give_back_keeps : held ≡ false → stripe ≡ after_give_back stripe claim
  give_back_keeps not_so = sym (cond-false _ _ _ (tested false not_so))

-- the same entries
pub theirs_by_entries : (old new : BTreeMap Cells Mark) (pool : Pool) → new.entries ≡ old.entries → AreTheirs (tree.get key_cmp old) pool → AreTheirs (tree.get key_cmp new) pool
theirs_by_entries old new pool same theirs = subst (λ (es : List (Cells × Mark)). AreTheirs (λ q. lookup (is_at (key_cmp q)) es) pool) (sym same) theirs

-- ---- keys that are done at the making
abbrev pub done_entries : List Cells → List (Cells × Mark)
done_entries keys = map (λ key. (key, Done)) keys

pub done_more : (q key : Cells) (keys : List Cells) → find key_cmp q (done_entries (keys ++ key ∷ [])) ≡ cond (eq_by_cmp key_cmp q key) (Some Done) (find key_cmp q (done_entries keys))
done_more q key [] = refl
done_more q key (k ∷ keys) =
    ap (cond (eq_by_cmp key_cmp q k) (Some Done)) (done_more q key keys)
    ∙ either (eq_by_cmp key_cmp q k) (eq_by_cmp key_cmp q key) (find key_cmp q (done_entries keys))
  where
    either : (a b : Bool) (o : Option Mark) → cond a (Some Done) (cond b (Some Done) o) ≡ cond b (Some Done) (cond a (Some Done) o)
    either true true o = refl
    either true false o = refl
    either false b o = refl

done_is_not_held : (q : Cells) (keys : List Cells) (u : ℕ) → find key_cmp q (done_entries keys) ≢ Some (Held u)
done_is_not_held q [] u e = not_held u e
done_is_not_held q (k ∷ keys) u e = elim (cases_Bool (eq_by_cmp key_cmp q k)) [
  | inl is ↦ done_not_held u (sym (cond-true _ _ _ is) ∙ e)
  | inr is_not ↦ done_is_not_held q keys u (sym (cond-false _ _ _ is_not) ∙ e)
]

abbrev pub HasDone : BTreeMap Cells Mark → List Cells → Type 0
HasDone states keys = (q : Cells) → tree.get key_cmp states q ≡ find key_cmp q (done_entries keys)

pub has_done_more : (old new : BTreeMap Cells Mark) (copy key : Cells) (keys more : List Cells) → copy ≡ key → more ≡ keys ++ key ∷ [] → ChangesAt old new copy (Some Done) → HasDone old keys → HasDone new more
has_done_more old new copy key keys more same are is has q =
    is q ∙ (ap (λ (k : Cells). cond (is_at (key_cmp k) q) (Some Done) (tree.get key_cmp old q)) same
    ∙ (ap (λ b. cond b (Some Done) (tree.get key_cmp old q)) ((eq_by_cmp_equiv key_cmp_total).symm key q)
    ∙ (ap (cond (eq_by_cmp key_cmp q key) (Some Done)) (has q)
    ∙ (sym (done_more q key keys) ∙ ap (λ (ks : List Cells). find key_cmp q (done_entries ks)) (sym are)))))

pub all_are_done : (states : BTreeMap Cells Mark) (keys : List Cells) → HasDone states keys → marks_in states ≡ all_done keys
all_are_done states keys has = same_map key_cmp_total key_cmp-IsAntisymmetric _ _ (λ q. mark_in states q ∙ (has q ∙ sym (get-from_entries key_cmp_total (done_entries keys) q)))

pub done_theirs : (states : BTreeMap Cells Mark) (keys : List Cells) (pool : Pool) → HasDone states keys → ((u : ℕ) → ¬ IsTaken pool u) → AreTheirs (tree.get key_cmp states) pool
done_theirs states keys pool has none = record {
  held = λ q u e. absurd (done_is_not_held q keys u (sym (has q) ∙ e));
  taken = λ u taken. absurd (none u taken);
  differ = λ q r u e f. absurd (done_is_not_held q keys u (sym (has q) ∙ e));
}
