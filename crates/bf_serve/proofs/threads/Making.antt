-- A statement that is made ready at a position.
use Rattle.std.proofs.Common.{◌≡◌, ◌-◌, ◌<◌, List, length, Some, sym, ap, subst, ◌∙◌, arith}
use Rattle.std.specs.Prelude.{Result, Ok, Err, IfOk}
use Rattle.std.specs.List.{slice_index_or}
use Rattle.bf_base.specs.declared.memory.Memory.{Memory}
use Rattle.bf_tree.specs.Catalogs.{Catalog}
use Rattle.bf_tree.specs.declared.bound.Bound.{Bound}
use Rattle.bf_tree.specs.declared.script.Script.{Script}
use Rattle.bf_tree.specs.declared.script.Session.{Session}
use Rattle.bf_tree.specs.declared.statement.Statement.{Statement}
use Rattle.bf_sql.specs.Bound.{without_rows}
use Rattle.bf_sql.specs.Groups.{session_at}
use Rattle.bf_sql.specs.migrations.Plans.{prepared_of}
use Rattle.bf_image.specs.Registries.{Registry}
use Rattle.bf_plan.specs.Limits.{KeepsPlanLimits}
use Rattle.bf_machine.proofs.served.Binding.{session_read}
use Rattle.bf_machine.proofs.served.Nexts.{got}
use Rattle.bf_serve.specs.Requests.{IsPosition, IsPreparedAt, Position, statement_at}

module _ (registry : Registry) (script : Script) (p : Position) (is : IsPosition registry script p) (sessions : List Session) (all : sessions ≡ script.sessions) where
  pub session_within : p.session - 1 < length sessions
  session_within = let sizes : length sessions ≡ length script.sessions = ap length all in omega (arith, is.session.0, is.session.1, sizes)

  module _ (session : Session) (own : session ≡ slice_index_or sessions (p.session - 1) session) (statements : List Statement) (texts : statements ≡ session.statements) where
    pub texts_are : statements ≡ (session_at script p.session).statements
    texts_are =
        texts ∙ ap (λ (x : Session). x.statements)
        (own ∙ (ap (λ (xs : List Session). slice_index_or xs (p.session - 1) session) all ∙ session_read script p.session is.session session))

    pub statement_within : p.place - 1 < length statements
    statement_within = subst (λ (ss : List Statement). p.place - 1 < length ss) (sym texts_are) is.within

    module _ (st : Statement) (here : st ≡ slice_index_or statements (p.place - 1) st) where
      pub is_statement : statement_at script p.session p.place ≡ Some st
      is_statement =
          got (session_at script p.session).statements (p.place - 1) st is.within
          (sym (here ∙ ap (λ (ss : List Statement). slice_index_or ss (p.place - 1) st) texts_are))

      pub limits_at : KeepsPlanLimits p.catalog.value st
      limits_at = is.limits st is_statement

      -- what is prepared there, is so at the position
      pub prepared_at : (catalog : Catalog) → catalog ≡ p.catalog.value → (r : Result Bound Memory) → IfOk r (λ bound. prepared_of (without_rows catalog) p.in_block st ≡ Some bound) → IfOk r (IsPreparedAt script p)
      prepared_at catalog same (Ok bound) so = record {
        statement = st;
        is = is_statement;
        prepared_so = subst (λ (c : Catalog). prepared_of (without_rows c) p.in_block st ≡ Some bound) same so;
      }
      prepared_at catalog same (Err memory) so = so

-- what follows of each result
pub if_ok : (P Q : Bound → Type 0) (r : Result Bound Memory) → ((bound : Bound) → P bound → Q bound) → IfOk r P → IfOk r Q
if_ok P Q (Ok bound) weaker so = weaker bound so
if_ok P Q (Err memory) weaker so = so
