-- What the tests of the writes of a record come to: whether the commit is legal.
use Rattle.std.proofs.Common.{◌≡◌, ℕ, true, false, ◌==◌, List, length, nat_le, sym, ap, ◌∙◌, arith}
use Rattle.std.specs.List.{list_all}
use Rattle.std.proofs.lemmas.Bool.{and_from}
use Rattle.std.proofs.lemmas.Bool.Decides.{nat_tests}
use Rattle.std.proofs.lemmas.List.{length-map}
use Rattle.bf_base.specs.Maps.{is_map}
use Rattle.bf_record.specs.declared.writes.TableWrite.{TableWrite}
use Rattle.bf_txn.specs.declared.write.Write.{Write}
use Rattle.bf_txn.specs.Writes.{table_key_cmp, table_key_of}
use Rattle.bf_sql.specs.migrations.Lazy.{LazyState}
use Rattle.bf_recover.specs.Commits.{is_legal_commit, is_legal_write, write_of, writes_of}
use Rattle.bf_recover.proofs.Legality.{first_fails, second_fails, third_fails}

module _ (lazy : LazyState) (writes : List TableWrite) where
  abbrev keyed : List Write
  keyed = writes_of lazy.live writes

  count : length keyed ≡ length writes
  count = length-map writes (write_of lazy.live)

  none : (n : ℕ) → (n == 0) ≡ true → nat_le 1 n ≡ false
  none n e = grind (arith, nat_tests)

  some : (n : ℕ) → (n == 0) ≡ false → nat_le 1 n ≡ true
  some n e = grind (arith, nat_tests)

  pub not_if_none : (length writes == 0) ≡ true → false ≡ is_legal_commit lazy keyed
  not_if_none e = sym (first_fails _ _ _ (ap (nat_le 1) count ∙ none (length writes) e))

  pub not_if_fallen : false ≡ is_map table_key_cmp table_key_of keyed → false ≡ is_legal_commit lazy keyed
  not_if_fallen e = sym (second_fails _ _ _ (sym e))

  pub not_if_one_not : false ≡ list_all (is_legal_write lazy) keyed → false ≡ is_legal_commit lazy keyed
  not_if_one_not e = sym (third_fails (nat_le 1 (length keyed)) (is_map table_key_cmp table_key_of keyed) (list_all (is_legal_write lazy) keyed) (sym e))

  pub legal_if_each : (length writes == 0) ≡ false → true ≡ is_map table_key_cmp table_key_of keyed → true ≡ list_all (is_legal_write lazy) keyed → true ≡ is_legal_commit lazy keyed
  legal_if_each more rising each = sym (and_from _ _ (and_from _ _ (ap (nat_le 1) count ∙ some (length writes) more) (sym rising)) (sym each))
