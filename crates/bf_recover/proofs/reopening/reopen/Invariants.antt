use Rattle.bf_recover.proofs.reopening.reopen.Given as goal

-- the registry that is given
abbrev pub ghosts-reopen_in : goal.ghosts-reopen_in
ghosts-reopen_in g a = record { registry = a.registry.now }
