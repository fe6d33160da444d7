-- LIMITS of scripts and of what they are made of.
use Rattle.std.specs.Prelude.{ℕ}

-- the most parts of a list
abbrev pub most_parts : ℕ
most_parts = 16

-- the most counted words of an expression or a condition
abbrev pub most_counted : ℕ
most_counted = 256

-- the most MIGRATEs of a script
abbrev pub most_migrations : ℕ
most_migrations = 64

-- the most sessions of a script
abbrev pub most_sessions : ℕ
most_sessions = 64

-- the most sessions of a phase
abbrev pub most_of_phase : ℕ
most_of_phase = 16
