-- A new machine has all that is kept.
use Rattle.std.proofs.Common.{◌≡◌, ℕ, zero, suc, ◌+◌, List, [], ◌∷◌, length, map, Some, None, refl, sym, ap, ◌∙◌, arith}
use Rattle.std.specs.FinMap.{get-empty}
use Rattle.std.specs.List.{slice_index_or}
use Rattle.std.proofs.lemmas.List.{length-map}
use Rattle.bf_locks.specs.Locks.{holding_cmp}
use Rattle.bf_locks.proofs.Held.{consistent_empty}
use Rattle.bf_tree.specs.declared.reply.Reply.{Reply}
use Rattle.bf_tree.specs.declared.script.Script.{Script}
use Rattle.bf_tree.specs.declared.script.Session.{Session}
use Rattle.bf_sql.specs.migrations.Lazy.{view_of}
use Rattle.bf_store.specs.Stores.{Store}
use Rattle.bf_store.proofs.seeing.Viewing.{view_is_database}
use Rattle.bf_machine.specs.interleaving.Machines.{Began, MayEnd, began_at, told_at}
use Rattle.bf_machine.specs.interleaving.Kept.{IsKept, IsOpening, IsWithinLimits, fresh_with, no_group, no_replies}
use Rattle.bf_machine.proofs.interleaving.Answers.{told_from}
use Rattle.bf_machine.proofs.interleaving.Texts.{are_texts}

none_told : (k : ℕ) (sessions : List Session) → told_from k (map no_replies sessions) ≡ []
none_told k [] = refl
none_told k (s ∷ sessions) = none_told (k + 1) sessions

none_open : (sessions : List Session) (k : ℕ) → slice_index_or (map no_group sessions) k None ≡ None
none_open [] k = refl
none_open (s ∷ sessions) zero = refl
none_open (s ∷ sessions) (suc k) = none_open sessions k

none_at : (sessions : List Session) (k : ℕ) → slice_index_or (None ∷ map no_group sessions) k None ≡ None
none_at sessions zero = refl
none_at sessions (suc k) = none_open sessions k

nothing_told : (sessions : List Session) (k : ℕ) → slice_index_or (map no_replies sessions) k [] ≡ []
nothing_told [] k = refl
nothing_told (s ∷ sessions) zero = refl
nothing_told (s ∷ sessions) (suc k) = nothing_told sessions k

nothing_at : (sessions : List Session) (k : ℕ) → slice_index_or ([] ∷ map no_replies sessions) k [] ≡ []
nothing_at sessions zero = refl
nothing_at sessions (suc k) = nothing_told sessions k

none_began : (n : ℕ) (b : Began) → began_at [] n ≡ Some b → ⊥
none_began zero b is = cc
none_began (suc n) b is = cc

pub new_is_kept : (may_end : MayEnd) (store : Store) (script : Script) (retries : ℕ) → IsOpening store → IsWithinLimits script → IsKept (view_of store.lazy) (fresh_with may_end store script retries)
new_is_kept may_end store script retries is within = record {
  within = within;
  store_valid = record {
    seen_as = record { lazy_state = is.lazy_state; view = refl };
    narrow = is.narrow;
    by_pass = is.by_pass;
    puts = λ s o there. let none = sym (none_at script.sessions s) ∙ there in absurd cc;
  };
  shaped = record { opens = length-map script.sessions no_group; told = length-map script.sessions no_replies };
  history_legal = record {
    legal = record {
      whole_groups = refl;
      in_order = refl;
      outcomes = refl;
      replies = refl;
      others = let none = none_told 1 script.sessions in rw none tt;
    };
    replay = refl;
    database = view_is_database store.lazy is.lazy_state;
    placed = tt;
    in_turn = tt;
  };
  open_groups_replay = record { each = λ s o there. let none = sym (none_at script.sessions s) ∙ there in absurd cc };
  locks_consistent = record {
    apart = consistent_empty;
    owners = λ name owner mode held. let none = sym (get-empty holding_cmp (name, owner)) ∙ held in absurd cc;
    starts = λ s o there. let none = sym (none_at script.sessions s) ∙ there in absurd cc;
    once = λ s g i j x y. absurd (none_began i _ x.is);
    in_turn = λ s g n x. absurd (none_began n _ x.is);
    begun = λ s g n x. absurd (none_began n _ x.is);
    numbered = λ s g whole has_ended.
        let bounds = (are_texts script).bounds s g whole in
        let none : length (told_at (fresh_with may_end store script retries) s) ≡ 0 = ap (λ (rs : List Reply). length rs) (nothing_at script.sessions s) in
        absurd (omega (arith, has_ended, none, bounds.0, bounds.1));
    by_session = λ s one other i j x y before. absurd (none_began i _ x.is);
    by_phase = λ s t one other i j x y before. absurd (none_began i _ x.is);
  };
  causes_allowed = record { deaths = λ n b there. absurd (none_began n b there) };
}
