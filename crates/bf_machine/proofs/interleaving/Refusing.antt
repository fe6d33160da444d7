-- A COMMIT or ROLLBACK in no group keeps all.
use Rattle.std.proofs.Common.{◌≡◌, ◌≢◌, ◌⊎◌, ℕ, ◌+◌, ◌-◌, ◌<◌, ◌≤◌, Bool, true, false, not, ◌&&◌, ◌||◌, cond, List, [], ◌∷◌, ◌++◌, length, filter, Some, None, refl, sym, ap, subst, ◌∙◌, arith, inl, inr}
use Rattle.std.specs.Prelude.{Contains, nat_le}
use Rattle.std.specs.List.{AllByRecursion, list_any, slice_set}
use Rattle.std.proofs.lemmas.Bool.{and_parts, cases_Bool, cases_eq, false≢true}
use Rattle.std.proofs.lemmas.Bool.Decides.{nat_tests}
use Rattle.std.proofs.lemmas.List.{length-set}
use Rattle.bf_tree.specs.declared.history.Entry.{Entry}
use Rattle.bf_tree.specs.declared.reply.Cause.{Cause}
use Rattle.bf_tree.specs.declared.reply.Refusal.TheVariants.{NoTransaction}
use Rattle.bf_tree.specs.declared.reply.Reply.{Reply}
use Rattle.bf_tree.specs.declared.reply.Reply.TheVariants.{Refused}
use Rattle.bf_sql.specs.Database.{Database}
use Rattle.bf_sql.specs.Groups.{ends_block, groups_in, statements_in, has_statement, is_stray}
use Rattle.bf_sql.specs.History.{IsApart, stands_in}
use Rattle.bf_machine.proofs.interleaving.Texts.{AreTexts}
use Rattle.bf_machine.specs.interleaving.Machines.{Group, Open, Machine, open_at, told_at}
use Rattle.bf_machine.specs.interleaving.Kept.{IsKept, HasBegun, HasEnded, IsAllowed, IsCurrent}
use Rattle.bf_machine.specs.InOrder.{none_open}
use Rattle.bf_machine.specs.interleaving.Events.{Refuses}
use Rattle.bf_machine.proofs.interleaving.Answers.{Told, told_from, told_in}
use Rattle.bf_machine.proofs.interleaving.Entries.{any_of}
use Rattle.bf_machine.proofs.interleaving.Telling.{apart_still, entries_alike, grows, others_told, placed_still, size_here, told_there}
use Rattle.bf_machine.proofs.interleaving.Opens.{stays}

module _ (start : Database) (m : Machine) (kept : IsKept start m) (texts : AreTexts m.script) (s : ℕ) (closed : open_at m s ≡ None) (low : 1 ≤ s) (high : s ≤ length m.told)
    (stray : is_stray m.script s (length (told_at m s) + 1) ≡ true) where
  abbrev more : List Reply
  more = Refused NoTransaction ∷ []

  abbrev after : Machine
  after = record m { told = slice_set m.told (s - 1) (told_at m s ++ more) }

  abbrev kept_by : Told → Bool
  kept_by a = not (list_any (stands_in a.0 a.1) m.history || list_any (λ g. none_open a.0 g && has_statement a.1 g) (groups_in m.script a.0))

  one_if : (p : Told → Bool) (P : Told → Type 0) (x : Told) → P x → AllByRecursion P (filter p (x ∷ []))
  one_if p P x here = elim (p x) as (λ b. AllByRecursion P (cond b (x ∷ []) [])) [ true ↦ (here, tt) | false ↦ tt ]

  abbrev Allowed : ℕ → Group → Cause → Type 0
  Allowed = IsAllowed start m.script m.began m.history m.may_end m.retries

  others_still : AllByRecursion (IsApart m.script Allowed after.told) (filter kept_by (told_from 1 after.told))
  others_still =
      let P = IsApart m.script Allowed m.told in
      let Q = IsApart m.script Allowed after.told in
      let next : 1 + length (told_at m s) ≡ length (told_at m s) + 1 = omega arith in
      let new : AllByRecursion Q (filter kept_by (told_in s (1 + length (told_at m s)) more)) =
      rw next (one_if kept_by Q (s, length (told_at m s) + 1, Refused NoTransaction) (inl (stray, refl))) in
      others_told m s more low high P Q kept_by kept_by (apart_still m s more low high texts Allowed Allowed (λ t g cause within allowed. allowed)) (λ a h. h) new kept.history_legal.legal.others

  current_still : (t : ℕ) → IsCurrent m t → IsCurrent after t
  current_still t current = λ u before. let was = current u before in (omega (arith, was.0, grows m s more low high u), was.1)

  turns_still : (history : List Entry) → AllByRecursion (λ d. IsCurrent m d.session) history → AllByRecursion (λ d. IsCurrent after d.session) history
  turns_still [] turns = tt
  turns_still (d ∷ history) turns = (current_still d.session turns.0, turns_still history turns.1)

  not_open : (t : ℕ) (p : Open) → open_at m t ≡ Some p → t ≢ s
  not_open t p is_open same =
      let clash : None ≡ Some p = sym closed ∙ (ap (open_at m) (sym same) ∙ is_open) in
      cc

  -- the stray statement is of no group
  not_of : (g : Group) → Contains (groups_in m.script s) g → g.0 ≤ length (told_at m s) + 1 → length (told_at m s) + 1 ≤ g.1 → ⊥
  not_of g whole from to =
      let n = length (told_at m s) + 1 in
      let parts = and_parts (list_any ends_block (statements_in m.script s (n, n))) (not (list_any (has_statement n) (groups_in m.script s))) stray in
      let has : has_statement n g ≡ true = grind (arith, nat_tests, from, to) in
      let there : list_any (has_statement n) (groups_in m.script s) ≡ true = any_of (has_statement n) (groups_in m.script s) g whole has in
      let both : false ≡ true = ap not (sym there) ∙ parts.1 in
      false≢true both

  -- so what has ended then had ended
  had_ended : (t : ℕ) (g : Group) → Contains (groups_in m.script t) g → HasEnded after t g → HasEnded m t g
  had_ended t g whole has_ended = elim (cases_eq t s) as (λ _. HasEnded m t g) [
    | inr apart ↦
        let same : length (told_at after t) ≡ length (told_at m t) = ap (λ (rs : List Reply). length rs) (told_there m s more low high t apart) in
        omega (arith, same, has_ended)
    | inl same ↦
        let here : Contains (groups_in m.script s) g = subst (λ (t : ℕ). Contains (groups_in m.script t) g) same whole in
        let bounds = texts.bounds s g here in
        let within : g.1 ≤ length (told_at after s) = subst (λ (t : ℕ). g.1 ≤ length (told_at after t)) same has_ended in
        let sizes = size_here m s more low high in
        elim (cases_Bool (nat_le g.1 (length (told_at m s)))) as (λ _. HasEnded m t g) [
          | inl is_low ↦
              let before : g.1 ≤ length (told_at m s) = grind (arith, nat_tests, is_low) in
              subst (λ (t : ℕ). g.1 ≤ length (told_at m t)) (sym same) before
          | inr is_high ↦
              let above : length (told_at m s) < g.1 = grind (arith, nat_tests, is_high) in
              absurd (not_of g here (omega (arith, bounds.1, within, sizes)) (omega (arith, above)))
        ]
  ]

  not_next : (g : Group) → Contains (groups_in m.script s) g → g.0 ≡ length (told_at m s) + 1 → ⊥
  not_next g whole next = let bounds = texts.bounds s g whole in not_of g whole (omega (arith, next)) (omega (arith, next, bounds.1))

  begun_still : (t : ℕ) (g : Group) → HasBegun start m t g → HasBegun start after t g
  begun_still t g was = record {
    whole = was.whole;
    goes = elim was.goes as (λ _. HasEnded after t g ⊎ (g.0 ≡ length (told_at after t) + 1)) [
      | inl has_ended ↦ inl (omega (arith, has_ended, grows m s more low high t))
      | inr next ↦ elim (cases_eq t s) as (λ _. HasEnded after t g ⊎ (g.0 ≡ length (told_at after t) + 1)) [
        | inl same ↦
            absurd (not_next g (subst (λ (t : ℕ). Contains (groups_in m.script t) g) same was.whole) (next ∙ ap (λ (t : ℕ). length (told_at m t) + 1) same))
        | inr apart ↦ inr (next ∙ ap (λ (rs : List Reply). length rs + 1) (sym (told_there m s more low high t apart)))
      ]
    ];
  }

  pub stray_keeps_all : IsKept start after
  stray_keeps_all = record {
    within = kept.within;
    store_valid = record {
      seen_as = kept.store_valid.seen_as;
      narrow = kept.store_valid.narrow;
      by_pass = kept.store_valid.by_pass;
      puts = kept.store_valid.puts;
    };
    shaped = record { opens = kept.shaped.opens; told = length-set m.told (s - 1) (told_at m s ++ more) ∙ kept.shaped.told };
    history_legal = record {
      legal = record {
        whole_groups = kept.history_legal.legal.whole_groups;
        in_order = kept.history_legal.legal.in_order;
        outcomes = kept.history_legal.legal.outcomes;
        replies = entries_alike m s more low high m.history kept.history_legal.placed ∙ kept.history_legal.legal.replies;
        others = others_still;
      };
      replay = kept.history_legal.replay;
      database = kept.history_legal.database;
      placed = placed_still m s more low high m.history kept.history_legal.placed;
      in_turn = turns_still m.history kept.history_legal.in_turn;
    };
    open_groups_replay = record {
      each = λ t p is_open.
          let group = kept.open_groups_replay.each t p is_open in
          stays start m m.db m.locks m.began m.opens (slice_set m.told (s - 1) (told_at m s ++ more)) m.history t p (told_there m s more low high t (not_open t p is_open)) group.run group;
    };
    locks_consistent = record {
      apart = kept.locks_consistent.apart;
      owners = kept.locks_consistent.owners;
      starts = kept.locks_consistent.starts;
      once = kept.locks_consistent.once;
      in_turn = λ t g n has. current_still t (kept.locks_consistent.in_turn t g n has);
      begun = λ t g n has. begun_still t g (kept.locks_consistent.begun t g n has);
      numbered = λ t g whole has_ended. kept.locks_consistent.numbered t g whole (had_ended t g whole has_ended);
      by_session = λ t one other i j x y before. omega (arith, kept.locks_consistent.by_session t one other i j x y before, grows m s more low high t);
      by_phase = kept.locks_consistent.by_phase;
    };
    causes_allowed = record {
      deaths = λ n b is.
          let was = kept.causes_allowed.deaths n b is in record {
            each = was.each;
            sessions_differ = was.sessions_differ;
            ended = λ i t g below has. omega (arith, was.ended i t g below has, grows m s more low high t);
            last_ended = λ i t g p is_open at below has. omega (arith, was.last_ended i t g p is_open at below has, grows m s more low high t);
            later = was.later;
            most = was.most;
            retried = elim was.retried as (λ _. (length b.deaths ≤ m.retries) ⊎ HasEnded after b.session b.group) [
              | inl few ↦ inl few
              | inr has_ended ↦ inr (omega (arith, has_ended, grows m s more low high b.session))
            ];
          };
    };
  }

-- REFUSED KEEPS ALL
pub refuse_keeps_all : (start : Database) (m : Machine) (kept : IsKept start m) (texts : AreTexts m.script) (s : ℕ) (next : Machine) → Refuses m s next → IsKept start next
refuse_keeps_all start m kept texts s next by =
    let high : s ≤ length m.told = omega (arith, by.place.1, kept.shaped.told) in
    subst (IsKept start) (sym by.goes) (stray_keeps_all start m kept texts s by.closed by.place.0 high by.stray)
