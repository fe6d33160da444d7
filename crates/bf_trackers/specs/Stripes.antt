-- How many stripes the keys of a unit go to.
use Rattle.std.specs.Prelude.{ℕ}

abbrev pub stripe_count : ℕ
stripe_count = 16
