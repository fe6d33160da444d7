-- What the analysis tells of an extent.
use Rattle.std.specs.Prelude.{ℕ, ℤ, Option, Some, None}
use Rattle.bf_base.specs.declared.table.Admit.{Admit}
use Rattle.bf_base.specs.declared.table.Admit.TheVariants as admits
use Rattle.bf_sql.specs.migrations.Extents.{Extent, numbers, texts, beyond}
use Rattle.bf_range.specs.declared.extents.Extent as told
use Rattle.bf_range.specs.declared.extents.Extent.TheVariants.{Numbers, Texts}

-- the extent that is told; none is told of what is beyond the values
abbrev pub seen : Option told.Extent → Extent
seen (Some (Numbers low high)) = numbers low high
seen (Some (Texts most)) = texts most
seen None = beyond

-- the least and the greatest number of an extent of numbers
abbrev pub ends_of : Extent → Option (ℤ × ℤ)
ends_of (numbers low high) = Some (low, high)
ends_of (texts most) = None
ends_of beyond = None

-- the most bytes of an extent of texts
abbrev pub most_bytes_of : Extent → Option ℕ
most_bytes_of (numbers low high) = None
most_bytes_of (texts most) = Some most
most_bytes_of beyond = None
