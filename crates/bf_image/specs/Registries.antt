-- What is seen of a registry.
use Rattle.boxcar.specs.Table.{Shelves}

-- the shelves on which its catalogs and its migrations lie, each in a slot of its own: what a pass is a pass of
pub record Registry : Type 0 where
  pub catalogs : Shelves
  pub migrations : Shelves
