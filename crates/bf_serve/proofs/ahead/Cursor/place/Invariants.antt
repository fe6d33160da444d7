use Rattle.bf_serve.proofs.ahead.Cursor.place.Given as goal

abbrev pub invariant-loop-unit : goal.invariant-loop-unit
invariant-loop-unit l = Unit {0}
