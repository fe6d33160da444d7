-- What a shelf of files has lent, after a loan and after a return.
use Rattle.std.proofs.Common.{◌≡◌, ℕ, ◌≢◌, Bool, true, false, cond, List, Option, Some, None, refl, sym, ap, ◌∙◌}
use Rattle.std.specs.Prelude.{String, string_bytes, string_cmp}
use Rattle.std.specs.Global.{Global}
use Rattle.std.specs.BTreeSet.{BTreeSet, UpdatesBy, contains_text}
use Rattle.std.specs.List.{list_any}
use Rattle.std.specs.Ordering.{nat_cmp}
use Rattle.std.specs.Cmp.Lexicographic.{slice_cmp}
use Rattle.std.specs.Str.{bytes_eq}
use Rattle.std.proofs.lemmas.Bool.{false_from_ne_true}
use Rattle.std.proofs.lemmas.Map.Text.{is_eq-slice_cmp, btree_set_updates_text}
use Rattle.std.proofs.lemmas.Slice.Eq.{bytes_eq-Decides}
use Rattle.bf_disk.specs.Shelves.{Puts}
use Rattle.bullfrog.specs.Lending.{Lending, is_lent, taken_of}

-- a set is searched by the bytes of its keys
by_bytes : (names : BTreeSet (String Global)) (path : List ℕ) → contains_text names path ≡ is_lent names.keys path
by_bytes names path i = list_any (λ (one : String Global). is_eq-slice_cmp path (string_bytes one) i) names.keys

module _ (path : List ℕ) (old new : BTreeSet (String Global)) (b : Bool)
    (updates : UpdatesBy string_cmp (λ (one : String Global). slice_cmp nat_cmp path (string_bytes one)) old new b) where
  changed : (other : List ℕ) → is_lent new.keys other ≡ cond (bytes_eq path other) b (is_lent old.keys other)
  changed other =
      sym (by_bytes new other) ∙ btree_set_updates_text path old new b updates other
      ∙ ap (cond (bytes_eq path other) b) (by_bytes old other)

  here : is_lent new.keys path ≡ b
  here = changed path ∙ ap (λ (same : Bool). cond same b (is_lent old.keys path)) ((bytes_eq-Decides path path).1 refl)

  elsewhere : (other : List ℕ) → other ≢ path → is_lent new.keys other ≡ is_lent old.keys other
  elsewhere other differs =
      let apart : bytes_eq path other ≡ false = false_from_ne_true _ (λ same. differs (sym ((bytes_eq-Decides path other).0 same))) in
      changed other ∙ ap (λ (same : Bool). cond same b (is_lent old.keys other)) apart

  pub puts : (was now : ℕ) → Puts path (cond b (Some 0) None) (taken_of (record { lent = old.keys; faults = was })) (taken_of (record { lent = new.keys; faults = now }))
  puts was now = record {
    there = ap (λ (lent : Bool). cond lent (Some 0) None) here;
    others = λ other differs. ap (λ (lent : Bool). cond lent (Some 0) None) (elsewhere other differs);
  }
