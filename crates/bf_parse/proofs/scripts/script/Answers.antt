use Rattle.std.proofs.Common.{List, [], Ok, Err, length, inl, inr, sym, ap, subst, arith}
use Rattle.bf_lex.specs.declared.token.Token.{Token}
use Rattle.bf_lex.specs.Lexing.{IsLexed}
use Rattle.bf_phrase.specs.Reading.{Read, Stuck, Over}
use Rattle.bf_phrase.proofs.Lexed.{few_tokens}
use Rattle.bf_parse.proofs.ScriptTexts.{answers_of, is_fault, is_long, is_over, is_script, is_stuck, no_script}
use Rattle.bf_parse.proofs.scripts.script.Goals as goal

pub whole-requires-clause-place : goal.whole-requires-clause-place
whole-requires-clause-place c = c.new.ensures.place

pub whole-requires-clause-few : goal.whole-requires-clause-few
whole-requires-clause-few c = omega (arith, few_tokens c.args.text.now c.in_ok-found.found.items c.in_ok-found.ensures.ok, c.if-text.false, ap length c.as_slice-tokens.ensures.value, ap length c.new.ensures.tokens)

pub returns-in_err-found : goal.returns-in_err-found
returns-in_err-found c = record {
  read = no_script _ c.from_residual.result c.from_residual.ensures.0;
  fault = λ fault e.
      inr (omega (arith, c.if-text.false), inl (c.in_err-found.ensures.fault fault (ap (λ x. Err x) (is_fault c.from_residual.result c.in_err-found.field-0.0 fault c.from_residual.ensures.1 e))));
}

pub returns-then-text : goal.returns-then-text
returns-then-text c = record { read = tt; fault = λ fault e. is_long c.args.text.now fault (omega (arith, c.if-text.true)) e }

pub returns-in-Ok : goal.returns-in-Ok
returns-in-Ok c =
    let lexed : IsLexed c.args.text.now (Ok c.as_slice-tokens.result.now) = subst (λ (ts : List Token). IsLexed c.args.text.now (Ok ts)) (sym c.as_slice-tokens.ensures.value) c.in_ok-found.ensures.ok in record {
      read = is_script c.args.text.now c.as_slice-tokens.result.now c.in-Ok.script (omega (arith, c.if-text.false)) lexed (answers_of (Read c.in-Ok.script []) c.new.result _ _ c.new.ensures.text c.new.ensures.tokens c.in-Ok.ensures);
      fault = λ fault e. absurd cc;
    }

pub returns-in-Err-Syntax : goal.returns-in-Err-Syntax
returns-in-Err-Syntax c =
    let lexed : IsLexed c.args.text.now (Ok c.as_slice-tokens.result.now) = subst (λ (ts : List Token). IsLexed c.args.text.now (Ok ts)) (sym c.as_slice-tokens.ensures.value) c.in_ok-found.ensures.ok in record {
      read = tt;
      fault = λ fault e.
          is_stuck c.args.text.now c.as_slice-tokens.result.now c.in-Err-Syntax.left c.place.result fault (omega (arith, c.if-text.false)) lexed c.place.ensures (answers_of (Stuck c.in-Err-Syntax.left) c.new.result _ _ c.new.ensures.text c.new.ensures.tokens (rw c.in-Err-Syntax.field-0-is at c.in-Err-Syntax.ensures)) e;
    }

pub returns-in-Err-Limit : goal.returns-in-Err-Limit
returns-in-Err-Limit c =
    let lexed : IsLexed c.args.text.now (Ok c.as_slice-tokens.result.now) = subst (λ (ts : List Token). IsLexed c.args.text.now (Ok ts)) (sym c.as_slice-tokens.ensures.value) c.in_ok-found.ensures.ok in record {
      read = tt;
      fault = λ fault e.
          is_over c.args.text.now c.as_slice-tokens.result.now c.in-Err-Limit.kind c.in-Err-Limit.left c.place-in-Err-Limit.result fault (omega (arith, c.if-text.false)) lexed c.place-in-Err-Limit.ensures (answers_of (Over c.in-Err-Limit.kind c.in-Err-Limit.left) c.new.result _ _ c.new.ensures.text c.new.ensures.tokens (rw c.in-Err-Limit.field-0-is at c.in-Err-Limit.ensures)) e;
    }
